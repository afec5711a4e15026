-- What the pass knows, and what it answers.
--
--   knows f i           whether register i is known not to hold 0
--   Valid f             f is a fact: it has a mark for every register
--   Cautious g f        whatever g knows, f knows
--   Admits f e          in the file e no known register holds 0
--   how_many f          how many registers are known
--   nothing             no register is known
--   marked f d b        f once register d is known (b is true) or unknown
--   kept old new i      whether both know register i
--   lost old new i      whether old knows it and new does not
--   meet old new        what both know, and whether that is less than old knows
--   after m f           the fact after the middle node m
--   along n k f         the fact along the edge k of the last node n
--   in_place m f        the piece for m: there is none
--   in_place_last n f   the piece for n: `go L` for an `if a L M` whose a is known
use Rattle.std.specs.Prelude.{◌≡◌, ℕ, ◌<◌, Bool, true, false, cond, not, ◌&&◌, List, [], length, replicate, pos, Some, None, count_by, Option, ◌≢◌, slice_index_or, slice_set}
use Rattle.script.specs.declared.node.Middle.{Middle}
use Rattle.script.specs.declared.node.Middle.TheVariants.{Set, Mov, Compute, Get, Put}
use Rattle.script.specs.declared.node.Last.{Last}
use Rattle.script.specs.declared.node.Last.TheVariants.{Go, If, End}
use Rattle.script.specs.Arithmetic.{same}
use Rattle.script.specs.Limits.{registers}
use Rattle.script.specs.Run.{File}
use Rattle.pass.specs.declared.edge.Edge.{Edge}
use Rattle.pass.specs.declared.edge.Edge.TheVariants.{First, Second}
use Rattle.pass.specs.Rows.{row, some}
use Rattle.nonzero.specs.declared.Marks.{Marks}

abbrev pub knows : Marks → ℕ → Bool
knows f i = slice_index_or f.known i false

abbrev pub Valid : Marks → Type 0
Valid f = length f.known ≡ registers

abbrev pub Cautious : Marks → Marks → Type 0
Cautious g f = (i : ℕ) → i < registers → knows g i ≡ true → knows f i ≡ true

abbrev pub Admits : Marks → File → Type 0
Admits f e = (i : ℕ) → i < registers → knows f i ≡ true → e i ≢ pos 0

abbrev pub how_many : Marks → ℕ
how_many f = count_by (λ b. b) f.known

abbrev pub nothing : Marks
nothing = record { known = replicate registers false }

abbrev pub marked : Marks → ℕ → Bool → Marks
marked f d b = record { known = slice_set f.known d b }

abbrev pub kept : Marks → Marks → ℕ → Bool
kept old new i = knows old i && knows new i

abbrev pub lost : Marks → Marks → ℕ → Bool
lost old new i = knows old i && not (knows new i)

abbrev pub meet : Marks → Marks → Marks × Bool
meet old new = (record { known = row (kept old new) }, some (lost old new) registers)

abbrev pub after : Middle → Marks → Marks
after (Set to value) f = marked f to.index (not (same value (pos 0)))
after (Mov to from) f = marked f to.index (knows f from.index)
after (Compute o to left right) f = marked f to.index false
after (Get to slot) f = marked f to.index false
after (Put from) f = f

abbrev pub along : Last → Edge → Marks → Marks
along (Go target) k f = f
along (If test then other) First f = marked f test.index true
along (If test then other) Second f = f
along (End from) k f = f

abbrev pub in_place : Middle → Marks → Option (List Middle)
in_place m f = None

abbrev pub in_place_last : Last → Marks → Option (List Middle × Last)
in_place_last (Go target) f = None
in_place_last (If test then other) f = cond (knows f test.index) (Some ([], Go then)) None
in_place_last (End from) f = None
