-- Rows of sources: for each register another one that holds the same number, or none.
--
--   source r i        the source of register i in the row r
--   fine i o          o is none, or a register other than i
--   well r            no register is its own source, and every source is a register
--   without d o       the source o, unless it is d
--   killed r d        r after register d is written: d has no source, and is the source of none
--   moved r d a       r after `mov d a`
--   row_after m r     r after the middle node m
--   source_of r a     the source of the register a, as a register
use Rattle.std.specs.Prelude.{◌≡◌, ℕ, Bool, true, false, cond, not, ◌&&◌, List, map, Some, None, Option, ◌==◌, nat_lt, slice_set, refl}
use Rattle.std.proofs.Common.{ltb-true}
use Rattle.script.specs.declared.register.Register.{Register}
use Rattle.script.specs.declared.node.Middle.{Middle}
use Rattle.script.specs.declared.node.Middle.TheVariants.{Set, Mov, Compute, Get, Put}
use Rattle.script.specs.Limits.{registers}
use Rattle.pass.specs.Rows.{every}
use Rattle.passes.specs.Shared.{at}

abbrev pub Row : Type 0
Row = List (Option ℕ)

abbrev pub source : Row → ℕ → Option ℕ
source r i = at r i

abbrev pub fine : ℕ → Option ℕ → Bool
fine i None = true
fine i (Some s) = nat_lt s registers && not (s == i)

abbrev pub well : Row → Bool
well r = every (λ i. fine i (source r i)) registers

abbrev pub without : ℕ → Option ℕ → Option ℕ
without d None = None
without d (Some s) = cond (s == d) None (Some s)

abbrev pub killed : Row → ℕ → Row
killed r d = slice_set (map (without d) r) d None

abbrev pub moved : Row → ℕ → ℕ → Row
moved r d a = cond (d == a) r (slice_set (killed r d) d (Some a))

abbrev pub row_after : Middle → Row → Row
row_after (Set to value) r = killed r to.index
row_after (Mov to from) r = moved r to.index from.index
row_after (Compute o to left right) r = killed r to.index
row_after (Get to slot) r = killed r to.index
row_after (Put from) r = r

-- the register with the index n, if there is one
abbrev pub register_if : (n : ℕ) (b : Bool) → nat_lt n registers ≡ b → Option Register
register_if n true e = Some (record { index = n; ok = ltb-true n registers e })
register_if n false e = None

abbrev pub register_of : Option ℕ → Option Register
register_of None = None
register_of (Some n) = register_if n (nat_lt n registers) refl

abbrev pub source_of : Row → Register → Option Register
source_of r a = register_of (source r a.index)
