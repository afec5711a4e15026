use Rattle.std.proofs.Common.{◌+◌, ◌-◌, [], ◌∷◌, length, Err, sym, ap, ◌∙◌, arith, length-append}
use Rattle.std.proofs.lemmas.Result.{err_from_is_err_and}
use Rattle.reader.specs.Cursors.{cursor_of}
use Rattle.reader.specs.Totals.{total}
use Rattle.reader.specs.Read.{contents}
use Rattle.reader.proofs.Loops.{joins, contents_fault, contents_full, contents_step, total_push}
use Rattle.reader.proofs.cursor.Cursor.contents.Goals as goal

pub returns-in_err-count-clause-reads : goal.returns-in_err-count-clause-reads
returns-in_err-count-clause-reads c =
    let p = err_from_is_err_and c.from_residual.result c.from_residual.ensures.1 in
    rw (p.1, p.2) (c.loop-i.invariant.0 ∙ contents_fault c.args.n c.loop-i.i c.loop-i.total (cursor_of c.loop-i.self) c.loop-i.each c.loop-i-test.true _ c.in_err-count.ensures)

pub returns-then-total-gt-MOST_MIDDLES-clause-reads : goal.returns-then-total-gt-MOST_MIDDLES-clause-reads
returns-then-total-gt-MOST_MIDDLES-clause-reads c =
    c.loop-i.invariant.0 ∙ contents_full c.args.n c.loop-i.i c.loop-i.total (cursor_of c.loop-i.self) c.loop-i.each c.loop-i-test.true _ _ c.in_ok-count.ensures c.if-total-gt-MOST_MIDDLES.true
    ∙ ap Err (sym c.fault.ensures)

pub loop-i-preserved : goal.loop-i-preserved
loop-i-preserved c =
    let so = c.loop-i.invariant in
    let i = c.loop-i.i in
    let k = c.in_ok-count.field-0 in
    let more = c.push.ensures in (
      so.0 ∙ contents_step c.args.n i c.loop-i.total (cursor_of c.loop-i.self) c.loop-i.each c.loop-i-test.true k _ c.in_ok-count.ensures c.if-total-gt-MOST_MIDDLES.false
          ∙ sym (ap (λ xs. joins xs (contents (c.args.n - (i + 1)) (i + 1) (c.loop-i.total + k) (cursor_of c.count.new.self))) more),
      omega (arith, ap length more, length-append c.loop-i.each (k ∷ []), so.1),
      sym (ap total more ∙ total_push c.loop-i.each k ∙ sym (ap (λ t. t + k) so.2)),
      c.if-total-gt-MOST_MIDDLES.false,
    )
