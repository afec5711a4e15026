use Rattle.std.proofs.Common.{refl}
use Rattle.std.proofs.Output.{has_written_append}
use Rattle.shorten.proofs.report.ReportDisplay.fmt.Goals as goal

pub returns-clause-writes : goal.returns-clause-writes
returns-clause-writes g c = λ plain ok.
    let name = c.in_ok-writeln.ensures.writes plain refl in
    let read = c.in_ok-writeln-2.ensures.writes name.plain refl in
    let blocks = (rw c.block_count.ensures at c.in_ok-writeln-3.ensures.writes) read.plain refl in
    let middles = (rw c.middle_count.ensures at c.in_ok-writeln-4.ensures.writes) blocks.plain refl in
    let each = c.in_ok-write.ensures.writes middles.plain refl in
    let last = (rw c.as_read-same.ensures at c.write-2.ensures.writes) each.plain ok in
    has_written_append _ _ _ _ _ _ name
    (has_written_append _ _ _ _ _ _ read
    (has_written_append _ _ _ _ _ _ blocks
    (has_written_append _ _ _ _ _ _ middles
    (has_written_append _ _ _ _ _ _ each last))))
