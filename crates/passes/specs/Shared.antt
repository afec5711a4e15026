-- What two facts have in common, where each has something or nothing: at one register, and in rows with one element for
-- each register. `same` is the test of what they have.
--
--   both same a b       what a and b have, where it is the same
--   drops same a b      a has something that b has not equally
--   at r i              what the row r has at register i
--   shared same r q i   what both rows have at register i
--   lost same r q i     r has something there that q has not equally
--   common same r q     what both rows have
--   differ same r q     whether this is less than r has
use Rattle.std.specs.Prelude.{ℕ, Bool, cond, not, ◌&&◌, List, is_some, Some, None, Option, slice_index_or}
use Rattle.script.specs.Limits.{registers}
use Rattle.pass.specs.Rows.{row, some}

abbrev pub at : {X : Type 0} → List (Option X) → ℕ → Option X
at r i = slice_index_or r i None

module _ {X : Type 0} (same : X → X → Bool) where
  abbrev pub both : Option X → Option X → Option X
  both None b = None
  both (Some x) None = None
  both (Some x) (Some y) = cond (same x y) (Some x) None

  abbrev pub drops : Option X → Option X → Bool
  drops a b = is_some a && not (is_some (both a b))

  abbrev pub shared : List (Option X) → List (Option X) → ℕ → Option X
  shared r q i = both (at r i) (at q i)

  abbrev pub lost : List (Option X) → List (Option X) → ℕ → Bool
  lost r q i = drops (at r i) (at q i)

  abbrev pub common : List (Option X) → List (Option X) → List (Option X)
  common r q = row (shared r q)

  abbrev pub differ : List (Option X) → List (Option X) → Bool
  differ r q = some (lost r q) registers
