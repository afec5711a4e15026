-- The laws of the lattice of copies. They are proofs, and stand here because the impl in src/ gives them as its
-- `lawful`.
use Rattle.std.specs.Prelude.{◌≡◌, ◌<◌, Bool, true, false, ◌&&◌, nat_eq, refl}
use Rattle.std.proofs.Common.{sym, subst}
use Rattle.std.proofs.lemmas.Bool.{eqb-true, and_from, cond-true}
use Rattle.pass.specs.Lattices.{LatticeLaws}
use Rattle.pass.proofs.Rows.{length_row}
use Rattle.passes.specs.declared.copies.PlainSources.{PlainSources}
use Rattle.passes.specs.Shared.{shared, common, differ}
use Rattle.passes.specs.SharedLaws.{common_left, common_right, unchanged, falls}
use Rattle.passes.specs.Sources.{well}
use Rattle.passes.specs.SourcesLaws.{well_none, common_well}
use Rattle.passes.specs.Copies.{Valid, Cautious, how_many, none, meet}

joined_is : (old new : PlainSources) → Valid old → Valid new → meet old new ≡ (record { row = common nat_eq old.row new.row }, differ nat_eq old.row new.row)
joined_is old new v w = cond-true (well old.row && well new.row) _ _ (and_from (well old.row) (well new.row) v.good w.good)

-- what is shown of the join of two facts
at_join : (P : PlainSources × Bool → Type 0) (old new : PlainSources) → Valid old → Valid new → P (record { row = common nat_eq old.row new.row }, differ nat_eq old.row new.row) → P (meet old new)
at_join P old new v w h = subst P (sym (joined_is old new v w)) h

pub lattice : LatticeLaws Valid Cautious how_many none meet
lattice =
    record {
      start_valid = record { all = refl; good = well_none };
      join_valid = λ old new v w. at_join (λ t. Valid t.0) old new v w (record { all = length_row (shared nat_eq old.row new.row); good = common_well old.row new.row v.good });
      reflexive = λ f v i h s e. e;
      transitive = λ f g h u v w p q i b s e. q i b s (p i b s e);
      over_old = λ old new v w. at_join (λ t. Cautious t.0 old) old new v w (common_left nat_eq old.row new.row);
      over_new = λ old new v w. at_join (λ t. Cautious t.0 new) old new v w (common_right nat_eq old.row new.row eqb-true);
      same = λ old new v w. at_join (λ t. t.1 ≡ false → t.0 ≡ old) old new v w (λ e i. record { row = unchanged nat_eq old.row new.row v.all e i });
      falls = λ old new v w. at_join (λ t. t.1 ≡ true → how_many t.0 < how_many old) old new v w (falls nat_eq old.row new.row v.all);
    }
