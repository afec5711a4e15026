-- What the pass of constants knows, and what it answers.
--
--   known_as f i          the number of register i, if it is known
--   FitsIf o              the number o, if it is known, has 32 bits
--   Valid f               f is a fact: a row for all registers, of numbers of 32 bits. The type says this of every record
--   Cautious g f          whatever g knows, f knows equally
--   Admits f e            the file e has the known numbers
--   how_many f            how many registers are known
--   all_zero              every register is known to be 0
--   meet old new          what both know equally, and whether that is less than old knows
--   becomes f d k         f once register d holds k, a number that is known or not
--   combined o a b        what the operation o makes of a and b, where both are known
--   after m f             the fact after the middle node m
--   along n k f           the fact along the edge k of the last node n
--   in_place m f          the piece for m: `set d k` for mov and arithmetic with d known afterwards as k
--   in_place_last n f     the piece for n: `go` for an `if` whose test is known, or whose two blocks are one
use Rattle.std.specs.Prelude.{◌≡◌, ℕ, ◌<◌, Bool, cond, List, [], ◌∷◌, length, replicate, ℤ, pos, is_some, Some, None, count_by, Option, FitsSigned, ◌==◌, slice_set}
use Rattle.std.specs.Int.{w32}
use Rattle.script.specs.declared.register.Register.{Register}
use Rattle.script.specs.declared.node.Operation.{Operation}
use Rattle.script.specs.declared.node.Middle.{Middle}
use Rattle.script.specs.declared.node.Middle.TheVariants.{Set, Mov, Compute, Get, Put}
use Rattle.script.specs.declared.node.Last.{Last}
use Rattle.script.specs.declared.node.Last.TheVariants.{Go, If, End}
use Rattle.script.specs.Arithmetic.{computed, same}
use Rattle.script.specs.Limits.{registers}
use Rattle.script.specs.Run.{File}
use Rattle.pass.specs.declared.edge.Edge.{Edge}
use Rattle.pass.specs.declared.edge.Edge.TheVariants.{First, Second}
use Rattle.passes.specs.declared.constants.Numbers.{Numbers}
use Rattle.passes.specs.Shared.{at, common, differ}

abbrev pub known_as : Numbers → ℕ → Option ℤ
known_as f i = at f.row i

abbrev pub FitsIf : Option ℤ → Type 0
FitsIf None = Unit {0}
FitsIf (Some k) = FitsSigned w32 k

pub record Valid (f : Numbers) : Type 0 where
  pub all : length f.row ≡ registers
  pub fits : (i : ℕ) → i < registers → FitsIf (known_as f i)

abbrev pub Cautious : Numbers → Numbers → Type 0
Cautious g f = (i : ℕ) → i < registers → (k : ℤ) → known_as g i ≡ Some k → known_as f i ≡ Some k

abbrev pub Admits : Numbers → File → Type 0
Admits f e = (i : ℕ) → i < registers → (k : ℤ) → known_as f i ≡ Some k → e i ≡ k

abbrev pub how_many : Numbers → ℕ
how_many f = count_by is_some f.row

abbrev pub all_zero : Numbers
all_zero = record { row = replicate registers (Some (pos 0)) }

abbrev pub meet : Numbers → Numbers → Numbers × Bool
meet old new = (record { row = common same old.row new.row }, differ same old.row new.row)

abbrev pub becomes : Numbers → ℕ → Option ℤ → Numbers
becomes f d k = record { row = slice_set f.row d k }

abbrev pub combined : Operation → Option ℤ → Option ℤ → Option ℤ
combined o None b = None
combined o (Some a) None = None
combined o (Some a) (Some b) = Some (computed o a b)

abbrev pub after : Middle → Numbers → Numbers
after (Set to value) f = becomes f to.index (Some value)
after (Mov to from) f = becomes f to.index (known_as f from.index)
after (Compute o to left right) f = becomes f to.index (combined o (known_as f left.index) (known_as f right.index))
after (Get to slot) f = becomes f to.index None
after (Put from) f = f

abbrev pub along : Last → Edge → Numbers → Numbers
along (Go target) k f = f
along (If test then other) First f = f
along (If test then other) Second f = becomes f test.index (Some (pos 0))
along (End from) k f = f

-- `set d k`, where k is known
abbrev pub sets : Register → Option ℤ → Option (List Middle)
sets d None = None
sets d (Some k) = Some (Set d k ∷ [])

abbrev pub in_place : Middle → Numbers → Option (List Middle)
in_place (Set to value) f = None
in_place (Mov to from) f = sets to (known_as f from.index)
in_place (Compute o to left right) f = sets to (combined o (known_as f left.index) (known_as f right.index))
in_place (Get to slot) f = None
in_place (Put from) f = None

-- `go` to the block that a known number leads to; where both blocks are one, no number is needed
abbrev pub goes : ℕ → ℕ → Option ℤ → Option (List Middle × Last)
goes then other None = cond (then == other) (Some ([], Go then)) None
goes then other (Some k) = Some ([], Go (cond (same k (pos 0)) other then))

abbrev pub in_place_last : Last → Numbers → Option (List Middle × Last)
in_place_last (Go target) f = None
in_place_last (If test then other) f = goes then other (known_as f test.index)
in_place_last (End from) f = None
