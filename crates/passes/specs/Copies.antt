-- What the pass of copies knows, and what it answers.
--
--   Valid f               f is a fact: a row for all registers, none its own source
--   Cautious g f          every source of g is one of f
--   Admits f e            in the file e each register equals its source
--   how_many f            how many registers have a source
--   none                  no register has one
--   meet old new          the sources that both have, and whether these are fewer than the old ones
--   after m f             the fact after the middle node m
--   along n k f           the fact along the edge k of the last node n
--   from_sources m r      m with each read of a register that has a source replaced by it, if there is such a read
--   last_from_sources n r the same of a last node
--   in_place m f          the piece for m
--   in_place_last n f     the piece for n
use Rattle.std.specs.Prelude.{◌≡◌, ℕ, ◌<◌, Bool, true, cond, ◌&&◌, List, [], ◌∷◌, length, replicate, is_some, Some, None, count_by, Option, nat_eq}
use Rattle.script.specs.declared.register.Register.{Register}
use Rattle.script.specs.declared.node.Operation.{Operation}
use Rattle.script.specs.declared.node.Middle.{Middle}
use Rattle.script.specs.declared.node.Middle.TheVariants.{Set, Mov, Compute, Get, Put}
use Rattle.script.specs.declared.node.Last.{Last}
use Rattle.script.specs.declared.node.Last.TheVariants.{Go, If, End}
use Rattle.script.specs.Limits.{registers}
use Rattle.script.specs.Run.{File}
use Rattle.pass.specs.declared.edge.Edge.{Edge}
use Rattle.passes.specs.declared.copies.PlainSources.{PlainSources}
use Rattle.passes.specs.Shared.{common, differ}
use Rattle.passes.specs.Sources.{Row, source, well, row_after, source_of}

pub record Valid (f : PlainSources) : Type 0 where
  pub all : length f.row ≡ registers
  pub good : well f.row ≡ true

abbrev pub Cautious : PlainSources → PlainSources → Type 0
Cautious g f = (i : ℕ) → i < registers → (s : ℕ) → source g.row i ≡ Some s → source f.row i ≡ Some s

abbrev pub Admits : PlainSources → File → Type 0
Admits f e = (i : ℕ) → i < registers → (s : ℕ) → source f.row i ≡ Some s → e i ≡ e s

abbrev pub how_many : PlainSources → ℕ
how_many f = count_by is_some f.row

abbrev pub none : PlainSources
none = record { row = replicate registers None }

-- Of a row that is no fact nothing is asked; the answers there are those of a pass that knows nothing.

abbrev pub meet : PlainSources → PlainSources → PlainSources × Bool
meet old new =
    cond (well old.row && well new.row)
    (record { row = common nat_eq old.row new.row }, differ nat_eq old.row new.row)
    (none, true)

abbrev pub after : Middle → PlainSources → PlainSources
after m f = cond (well f.row) (record { row = row_after m f.row }) none

abbrev pub along : Last → Edge → PlainSources → PlainSources
along n k f = f

-- ---- reads replaced by sources, o being the source of a register that is read

abbrev pub mov_from : Register → Option Register → Option (List Middle)
mov_from to None = None
mov_from to (Some a) = Some (Mov to a ∷ [])

abbrev pub compute_from : Operation → Register → Register → Register → Option Register → Option Register → Option (List Middle)
compute_from o to left right None None = None
compute_from o to left right None (Some b) = Some (Compute o to left b ∷ [])
compute_from o to left right (Some a) None = Some (Compute o to a right ∷ [])
compute_from o to left right (Some a) (Some b) = Some (Compute o to a b ∷ [])

abbrev pub put_from : Option Register → Option (List Middle)
put_from None = None
put_from (Some a) = Some (Put a ∷ [])

abbrev pub if_from : Option Register → ℕ → ℕ → Option (List Middle × Last)
if_from None then other = None
if_from (Some a) then other = Some ([], If a then other)

abbrev pub end_from : Option Register → Option (List Middle × Last)
end_from None = None
end_from (Some a) = Some ([], End a)

abbrev pub from_sources : Middle → Row → Option (List Middle)
from_sources (Set to value) r = None
from_sources (Mov to from) r = mov_from to (source_of r from)
from_sources (Compute o to left right) r = compute_from o to left right (source_of r left) (source_of r right)
from_sources (Get to slot) r = None
from_sources (Put from) r = put_from (source_of r from)

abbrev pub last_from_sources : Last → Row → Option (List Middle × Last)
last_from_sources (Go target) r = None
last_from_sources (If test then other) r = if_from (source_of r test) then other
last_from_sources (End from) r = end_from (source_of r from)

abbrev pub in_place : Middle → PlainSources → Option (List Middle)
in_place m f = cond (well f.row) (from_sources m f.row) None

abbrev pub in_place_last : Last → PlainSources → Option (List Middle × Last)
in_place_last n f = cond (well f.row) (last_from_sources n f.row) None
