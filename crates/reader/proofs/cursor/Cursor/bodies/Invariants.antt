use Rattle.reader.specs.Cursors.{cursor_of}
use Rattle.reader.specs.Read.{bodies}
use Rattle.reader.proofs.Builds.{Built}
use Rattle.reader.proofs.cursor.Cursor.bodies.Given as goal

abbrev pub invariant-loop-count : goal.invariant-loop-count
invariant-loop-count l =
    Built l.counts.blocks l.counts.each (bodies l.counts.blocks l.counts.each (cursor_of l.initial.self)) l.count-index (cursor_of l.self) l.middles l.ends
