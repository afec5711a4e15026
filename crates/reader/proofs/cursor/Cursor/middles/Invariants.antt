use Rattle.std.proofs.Common.{◌≡◌, ◌-◌, List, ◌++◌, length}
use Rattle.script.specs.declared.node.Middle.{Middle}
use Rattle.reader.specs.Cursors.{cursor_of}
use Rattle.reader.specs.Read.{middles}
use Rattle.reader.proofs.Loops.{joins}
use Rattle.reader.proofs.cursor.Cursor.middles.Given as goal

abbrev pub invariant-loop : goal.invariant-loop
invariant-loop l =
    (xs : List Middle)
    × (l.row ≡ l.initial.row ++ xs)
    × (length xs ≡ l.counter)
    × (middles l.blocks l.count (cursor_of l.initial.self) ≡ joins xs (middles l.blocks (l.count - l.counter) (cursor_of l.self)))
