-- The laws of the lattice of marks. They are proofs, and stand here because the impl in src/ gives them as its
-- `lawful`.
use Rattle.std.specs.Prelude.{◌≡◌, ℕ, ◌<◌, Bool, true, false, not, ◌&&◌, refl}
use Rattle.std.proofs.Common.{sym, ◌∙◌}
use Rattle.std.proofs.lemmas.Bool.{both_ways, and_parts, and_right, not-true}
use Rattle.script.specs.Limits.{registers}
use Rattle.pass.specs.Lattices.{LatticeLaws}
use Rattle.pass.proofs.Rows.{length_row, get_or_row, row_all, some_false, row_fewer}
use Rattle.nonzero.specs.declared.Marks.{Marks}
use Rattle.nonzero.specs.Marks.{knows, Valid, Cautious, how_many, nothing, kept, lost, meet}

-- a mark that is not lost is kept
stays : (a b : Bool) → (a && not b) ≡ false → a ≡ (a && b)
stays true true e = refl
stays true false e = absurd (both_ways true e refl)
stays false b e = refl

module _ (old new : Marks) where
  in_both : (i : ℕ) → i < registers → knows (meet old new).0 i ≡ true → (knows old i ≡ true) × (knows new i ≡ true)
  in_both i h e = and_parts (knows old i) (knows new i) (sym (get_or_row (kept old new) i false h) ∙ e)

  unchanged : Valid old → (meet old new).1 ≡ false → (meet old new).0 ≡ old
  unchanged v e =
      let none_lost = some_false (lost old new) registers e in
      let all_kept = row_all (kept old new) old.known false v (λ k h. stays (knows old k) (knows new k) (none_lost k h)) in
      λ i. record { known = sym all_kept i }

  gone : (i : ℕ) → lost old new i ≡ true → (knows old i ≡ true) × (kept old new i ≡ false)
  gone i e =
      let u = and_parts (knows old i) (not (knows new i)) e in
      (u.0, and_right (knows old i) (knows new i) (not-true (knows new i) u.1))

  falls : Valid old → (meet old new).1 ≡ true → how_many (meet old new).0 < how_many old
  falls v e = row_fewer (λ b. b) false old.known (kept old new) (lost old new) v (λ k h q. (and_parts (knows old k) (knows new k) q).0) (λ k h. gone k) e

pub lattice : LatticeLaws Valid Cautious how_many nothing meet
lattice =
    record {
      start_valid = refl;
      join_valid = λ old new v w. length_row (kept old new);
      reflexive = λ f v i h e. e;
      transitive = λ f g h u v w a b i l e. b i l (a i l e);
      over_old = λ old new v w i h e. (in_both old new i h e).0;
      over_new = λ old new v w i h e. (in_both old new i h e).1;
      same = λ old new v w. unchanged old new v;
      falls = λ old new v w. falls old new v;
    }
