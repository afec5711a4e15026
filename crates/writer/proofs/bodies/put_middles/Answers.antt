use Rattle.std.proofs.Common.{◌+◌, [], ◌∷◌, ◌++◌, drop}
use Rattle.writer.specs.Text.{middle_text, middles_text}
use Rattle.writer.proofs.Puts.{left_full}
use Rattle.writer.proofs.Texts.{middles_step}
use Rattle.writer.proofs.bodies.put_middles.Goals as goal

pub returns-in_err-put_middle : goal.returns-in_err-put_middle
returns-in_err-put_middle c =
    let m = c.node-item.result in
    left_full c.loop-node.invariant c.from_residual.result (middle_text m ++ 10 ∷ []) (middles_text (drop (c.loop-node.node-index + 1) c.args.nodes.now) []) _ c.from_residual.ensures.0
    (middles_step c.args.nodes.now c.loop-node.node-index m c.loop-node-test.true c.node-item.is) c.in_err-put_middle.ensures
