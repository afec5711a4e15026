-- What was written so far, then the lines of the blocks still to come, is the whole output.
use Rattle.std.proofs.Common.{◌≡◌, ℕ, List, ◌++◌}
use Rattle.std.specs.Fmt.{HasWritten, IsPlainFormatter}
use Rattle.std.specs.Iterator.Adapters.{enumerate_source, enumerate_count}
use Rattle.script.specs.Model.{program_of}
use Rattle.shorten.specs.Reports.{counts_from}
use Rattle.shorten.proofs.Counts.{blocks_left}
use Rattle.shorten.proofs.report.CountsDisplay.fmt.Given as goal

abbrev pub invariant-loop-i : goal.invariant-loop-i
invariant-loop-i g l = IsPlainFormatter l.initial.f → (done : List ℕ) × HasWritten g.W.Write.write_str_gives l.initial.f done l.f
    × (done ++ counts_from (enumerate_count l.i-iterator) (blocks_left (enumerate_source l.i-iterator)) ≡ counts_from 0 (program_of l.self.0.now))
