-- What a join says of the fact that it answers, by the laws of its lattice.
use Rattle.std.proofs.Common.{◌≡◌, ℕ, Bool, true, false, not, ⊎_elim, ap, subst, arith}
use Rattle.std.specs.Bool.{Decides}
use Rattle.std.proofs.lemmas.Bool.{cases_Bool}
use Rattle.std.proofs.lemmas.Bool.Decides.{Decides-at, Decides-not, same_from_decides}
use Rattle.pass.specs.Lattices.{LatticeLaws}

module _ {F : Type 0} {valid : F → Type 0} {cautious : F → F → Type 0} {rank : F → ℕ} {start : F} {join : F → F → F × Bool} (laws : LatticeLaws valid cautious rank start join) (old new : F) (v : valid old) (w : valid new) where
  another : (join old new).1 ≡ true → (join old new).0 ≡ old → ⊥
  another t e = let z = ap rank e in absurd (omega (arith, laws.falls old new v w t, z))

  -- It differs exactly where its fact is another than the old one: so code may join the facts, and test whether it got the
  -- old one.
  pub join_by_test : (fact : F) (same differs : Bool) → fact ≡ (join old new).0 → Decides same (fact ≡ old) → differs ≡ not same → ◌≡◌ {A = F × Bool} (fact, differs) (join old new)
  join_by_test fact same differs is tells turned =
      let told : Decides same ((join old new).0 ≡ old) = subst (λ f. Decides same (f ≡ old)) is tells in
      let says : differs ≡ (join old new).1 =
      same_from_decides differs (join old new).1 (Decides-at differs (not same) turned (Decides-not same told))
      (another, λ other. ⊎_elim (λ (q : (join old new).1 ≡ true). q) (λ (q : (join old new).1 ≡ false). absurd (other (laws.same old new v w q))) (cases_Bool (join old new).1)) in
      λ j. (is j, says j)
