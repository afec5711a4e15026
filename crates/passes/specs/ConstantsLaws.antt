-- The laws of the lattice of constants. They are proofs, and stand here because the impl in src/ gives them as its
-- `lawful`.
use Rattle.std.specs.Prelude.{◌≡◌, ℕ, ◌<◌, true, false, ℤ, pos, negsuc, Some, None, FitsSigned, refl}
use Rattle.std.proofs.Common.{sym, ap, subst, lit<}
use Rattle.std.specs.Int.{w32}
use Rattle.std.proofs.lemmas.List.{get_or-replicate}
use Rattle.std.proofs.lemmas.Bool.{both_ways, eqb-true}
use Rattle.script.specs.Arithmetic.{same}
use Rattle.script.specs.Limits.{registers}
use Rattle.pass.specs.Lattices.{LatticeLaws}
use Rattle.pass.proofs.Rows.{length_row}
use Rattle.passes.specs.declared.constants.Numbers.{Numbers}
use Rattle.passes.specs.Shared.{shared}
use Rattle.passes.specs.SharedLaws.{common_keeps, common_left, common_right, unchanged, falls}
use Rattle.passes.specs.Constants.{FitsIf, Valid, Cautious, how_many, all_zero, meet, known_as}

same_true : (a b : ℤ) → same a b ≡ true → a ≡ b
same_true (pos a) (pos b) e = ap pos (eqb-true a b e)
same_true (pos a) (negsuc b) e = absurd (both_ways false refl e)
same_true (negsuc a) (pos b) e = absurd (both_ways false refl e)
same_true (negsuc a) (negsuc b) e = ap negsuc (eqb-true a b e)

pub zero_fits : FitsSigned w32 (pos 0)
zero_fits = record { sfits = lit< tt }

pub zero_known : (i : ℕ) → i < registers → known_as all_zero i ≡ Some (pos 0)
zero_known i h = get_or-replicate registers i (Some (pos 0)) None h

joined_valid : (old new : Numbers) → Valid old → Valid (meet old new).0
joined_valid old new v =
    record { all = length_row (shared same old.row new.row); fits = λ i h. common_keeps same old.row new.row FitsIf tt i h (v.fits i h) }

pub lattice : LatticeLaws Valid Cautious how_many all_zero meet
lattice =
    record {
      start_valid = record { all = refl; fits = λ i h. subst FitsIf (sym (zero_known i h)) zero_fits };
      join_valid = λ old new v w. joined_valid old new v;
      reflexive = λ f v i h k e. e;
      transitive = λ f g h u v w p q i b k e. q i b k (p i b k e);
      over_old = λ old new v w. common_left same old.row new.row;
      over_new = λ old new v w. common_right same old.row new.row same_true;
      same = λ old new v w e i. record { row = unchanged same old.row new.row v.all e i };
      falls = λ old new v w. falls same old.row new.row v.all;
    }
