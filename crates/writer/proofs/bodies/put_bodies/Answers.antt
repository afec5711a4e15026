use Rattle.std.proofs.Common.{[], ◌∷◌, ◌++◌}
use Rattle.writer.specs.Text.{middles_text, last_text, bodies_text}
use Rattle.writer.proofs.Puts.{left_more, left_full}
use Rattle.writer.proofs.Texts.{blocks_left, bodies_first}
use Rattle.writer.proofs.bodies.put_bodies.Goals as goal

pub loop-block-preserved : goal.loop-block-preserved
loop-block-preserved c =
    let b = c.in-Some.block in
    left_more c.loop-block.invariant (middles_text b.middles.now [] ++ (last_text b.last ++ 10 ∷ [])) _ _
    (bodies_first (blocks_left c.loop-block.block-iterator) (b.middles.now, b.last) (blocks_left c.next.new.self) c.in-Some.ensures.steps) c.in_ok-put_block.ensures

pub returns-in_err-put_block : goal.returns-in_err-put_block
returns-in_err-put_block c =
    let b = c.in-Some.block in
    left_full c.loop-block.invariant c.from_residual.result (middles_text b.middles.now [] ++ (last_text b.last ++ 10 ∷ [])) (bodies_text (blocks_left c.next.new.self) []) _ c.from_residual.ensures.0
    (bodies_first (blocks_left c.loop-block.block-iterator) (b.middles.now, b.last) (blocks_left c.next.new.self) c.in-Some.ensures.steps) c.in_err-put_block.ensures
