use Rattle.std.proofs.Common.{ap, arith}
use Rattle.std.specs.Option.{option_map}
use Rattle.words.proofs.Cuts.{cut_length}
use Rattle.reader.proofs.cursor.Cursor.next_line.Goals as goal

pub invariant_of-self : goal.invariant_of-self
invariant_of-self c =
    let self = c.args.self.now in
    let is = ap (option_map (λ x. x.now)) c.in_ok-self.ensures.ok_part in
    let long = cut_length 10 self.rest.now c.cut.result.0.now (option_map (λ x. x.now) c.cut.result.1) c.in_ok-self.field-0.now c.cut.ensures.front c.cut.ensures.back is in
    record { small = omega (arith, long, self.small); lines = omega (arith, self.lines) }
