use Rattle.std.proofs.Common.{[]}
use Rattle.script.specs.Model.{program_of}
use Rattle.writer.specs.Text.{bodies_text}
use Rattle.writer.proofs.Puts.{Left}
use Rattle.writer.proofs.Texts.{blocks_left}
use Rattle.writer.proofs.bodies.put_bodies.Given as goal

abbrev pub invariant-loop-block : goal.invariant-loop-block
invariant-loop-block l = Left l.fn.page.items (bodies_text (program_of l.script) []) l.page.items (bodies_text (blocks_left l.block-iterator) [])
