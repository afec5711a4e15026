use Rattle.std.proofs.Common.{◌≡◌, ◌-◌, ◌≤◌, length}
use Rattle.reader.specs.Cursors.{cursor_of}
use Rattle.script.specs.Limits.{most_middles}
use Rattle.reader.specs.Totals.{total}
use Rattle.reader.specs.Read.{contents}
use Rattle.reader.proofs.Loops.{joins}
use Rattle.reader.proofs.cursor.Cursor.contents.Given as goal

abbrev pub invariant-loop-i : goal.invariant-loop-i
invariant-loop-i l =
    (contents l.n 0 0 (cursor_of l.initial.self) ≡ joins l.each (contents (l.n - l.i) l.i l.total (cursor_of l.self)))
    × (length l.each ≡ l.i)
    × (l.total ≡ total l.each)
    × (l.total ≤ most_middles)
