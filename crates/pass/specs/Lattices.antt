-- What a lattice of facts must show.
--
--   valid f        the record f is a fact
--   cautious g f   g is at least as cautious as f
--   rank f         a whole number that falls whenever a join differs
--   start          the fact to begin with
--   join old new   the joined fact, and whether it differs from the old one
use Rattle.std.specs.Prelude.{◌≡◌, ℕ, ◌<◌, Bool, true, false}

-- All of it is asked of facts only; of any other record nothing is asked.
pub record LatticeLaws {F : Type 0} (valid : F → Type 0) (cautious : F → F → Type 0) (rank : F → ℕ) (start : F) (join : F → F → F × Bool) : Type 0 where
  pub start_valid : valid start
  pub join_valid : (old new : F) → valid old → valid new → valid (join old new).0
  pub reflexive : (f : F) → valid f → cautious f f
  pub transitive : (f g h : F) → valid f → valid g → valid h → cautious f g → cautious g h → cautious f h
  pub over_old : (old new : F) → valid old → valid new → cautious (join old new).0 old
  pub over_new : (old new : F) → valid old → valid new → cautious (join old new).0 new
  pub same : (old new : F) → valid old → valid new → (join old new).1 ≡ false → (join old new).0 ≡ old
  pub falls : (old new : F) → valid old → valid new → (join old new).1 ≡ true → rank (join old new).0 < rank old
