use Rattle.std.proofs.Common.{ℕ, ◌<◌, List, length, get_or, subst, sym, ap, ◌∙◌, arith}
use Rattle.script.specs.declared.block.BlockEnd.{BlockEnd}
use Rattle.reader.specs.Cursors.{cursor_of}
use Rattle.reader.specs.Read.{body}
use Rattle.reader.proofs.Builds.{built_more, total_room}
use Rattle.reader.proofs.cursor.Cursor.bodies.Goals as goal

pub body-requires-clause-room : goal.body-requires-clause-room
body-requires-clause-room c =
    let same = c.as_slice-count-items.ensures.value in
    let within = subst (λ (l : List ℕ). c.loop-count.count-index < length l) same c.loop-count-test.true in
    omega (arith, total_room c.args.counts.now.each c.loop-count.count-index within, ap (λ l. get_or l c.loop-count.count-index 0) same, c.loop-count.invariant.size, c.args.counts.now.small)

pub loop-count-preserved : goal.loop-count-preserved
loop-count-preserved c =
    let same = c.as_slice-count-items.ensures.value in
    let i = c.loop-count.count-index in
    let within = subst (λ (l : List ℕ). i < length l) same c.loop-count-test.true in
    let count = ap (λ l. get_or l i 0) same in
    let said = c.in_ok-last.ensures in
    let b : BlockEnd = record { end = c.len.result; last = c.in_ok-last.last } in
    built_more _ _ _ _ _ _ _ c.loop-count.invariant within said.0 _ b _ _ said.1 c.push.ensures c.len.ensures (said.2 ∙ count) said.4 (sym (ap (λ k. body c.args.counts.now.blocks k (cursor_of c.loop-count.self)) count) ∙ said.3)
