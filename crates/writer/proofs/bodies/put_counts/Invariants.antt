use Rattle.std.proofs.Common.{◌≡◌, ◌+◌, ◌≤◌, [], length}
use Rattle.std.specs.Iterator.Adapters.{enumerate_source, enumerate_count}
use Rattle.script.specs.Model.{program_of, middle_count}
use Rattle.writer.specs.Text.{counts_text, counts}
use Rattle.writer.proofs.Puts.{Left}
use Rattle.writer.proofs.Texts.{blocks_left}
use Rattle.writer.proofs.bodies.put_counts.Given as goal

abbrev pub invariant-loop-i : goal.invariant-loop-i
invariant-loop-i l =
    let p = program_of l.script in
    let i = enumerate_count l.i-iterator in
    let rest = blocks_left (enumerate_source l.i-iterator) in
    Left l.fn.page.items (counts_text 0 (counts p) []) l.page.items (counts_text i (counts rest) []) × (i + length rest ≡ length p) × (middle_count rest ≤ middle_count p)
