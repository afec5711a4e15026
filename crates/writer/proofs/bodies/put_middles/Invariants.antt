use Rattle.std.proofs.Common.{[], drop}
use Rattle.writer.specs.Text.{middles_text}
use Rattle.writer.proofs.Puts.{Left}
use Rattle.writer.proofs.bodies.put_middles.Given as goal

abbrev pub invariant-loop-node : goal.invariant-loop-node
invariant-loop-node l = Left l.fn.page.items (middles_text l.nodes []) l.page.items (middles_text (drop l.node-index l.nodes) [])
