-- Rows of sources: a row with none is well, and so is what a well row has in common with another. They are proofs, and
-- stand here for the laws of the lattice of copies.
use Rattle.std.specs.Prelude.{◌≡◌, ℕ, ◌<◌, true, replicate, None, nat_eq, refl}
use Rattle.script.specs.Limits.{registers}
use Rattle.pass.specs.Rows.{every}
use Rattle.passes.specs.Shared.{common}
use Rattle.passes.specs.SharedLaws.{common_keeps}
use Rattle.passes.specs.Sources.{Row, source, fine, well}
use Rattle.pass.proofs.Rows.{every_true, every_from}

pub well_at : (r : Row) → well r ≡ true → (i : ℕ) → i < registers → fine i (source r i) ≡ true
well_at r w i h = every_true (λ k. fine k (source r k)) registers w i h

pub well_from : (r : Row) → ((i : ℕ) → i < registers → fine i (source r i) ≡ true) → well r ≡ true
well_from r h = every_from (λ k. fine k (source r k)) registers h

pub well_none : well (replicate registers None) ≡ true
unfolding every
well_none = refl

pub common_well : (r q : Row) → well r ≡ true → well (common nat_eq r q) ≡ true
common_well r q w = well_from (common nat_eq r q) (λ i h. common_keeps nat_eq r q (λ o. fine i o ≡ true) refl i h (well_at r w i h))
