use Rattle.std.proofs.Common.{sym, arith}
use Rattle.words.proofs.Digits.{read_more, digits_more, digits_stop}
use Rattle.words.proofs.number.scan.Goals as goal

pub returns-then-not-is_ascii_digit : goal.returns-then-not-is_ascii_digit
returns-then-not-is_ascii_digit c =
    let no = digits_stop c.args.digits.now c.loop-d.d-index c.loop-d-test.true (sym c.if-not-is_ascii_digit.ensures.value) in
    rw no

pub loop-d-preserved : goal.loop-d-preserved
loop-d-preserved c =
    let more = read_more c.args.digits.now c.loop-d.d-index c.loop-d-test.true in (
      digits_more c.args.digits.now c.loop-d.d-index c.loop-d-test.true c.loop-d.invariant.0 (sym c.if-not-is_ascii_digit.ensures.value),
      omega (arith, c.min-n.ensures, c.loop-d.invariant.1),
    )
