use Rattle.std.proofs.Common.{[], ◌∷◌, ◌++◌, ap, ◌∙◌, append_assoc, length-append, arith}
use Rattle.std.proofs.lemmas.Result.{err_from_is_err_and}
use Rattle.reader.specs.Cursors.{cursor_of}
use Rattle.reader.proofs.Loops.{middles_fault, middles_step}
use Rattle.reader.proofs.cursor.Cursor.middles.Goals as goal

pub returns-in_err-middle : goal.returns-in_err-middle
returns-in_err-middle c =
    let p = err_from_is_err_and c.from_residual.result c.from_residual.ensures.1 in
    let so = c.loop.invariant in
    rw (p.1, p.2) (so.3 ∙ middles_fault c.args.blocks c.args.count c.loop.counter (cursor_of c.loop.self) so.0 c.loop-test.true _ c.in_err-middle.ensures)

pub loop-preserved : goal.loop-preserved
loop-preserved c =
    let so = c.loop.invariant in
    let m = c.in_ok-middle.field-0 in (
      so.0 ++ m ∷ [],
      c.push.ensures ∙ ap (λ l. l ++ m ∷ []) so.1 ∙ append_assoc c.args.row.now so.0 (m ∷ []),
      omega (arith, length-append so.0 (m ∷ []), so.2),
      so.3 ∙ middles_step c.args.blocks c.args.count c.loop.counter (cursor_of c.loop.self) so.0 c.loop-test.true m _ c.in_ok-middle.ensures,
    )
