-- What two facts have in common, each of them has; where nothing is lost it is all that the first has, and otherwise it is
-- less. They are proofs, and stand here for the laws of the two lattices.
use Rattle.std.specs.Prelude.{◌≡◌, ℕ, ◌<◌, Bool, true, false, cond, not, List, length, is_some, Some, None, Option, count_by, refl}
use Rattle.std.proofs.Common.{sym, ap, subst, ◌∙◌}
use Rattle.std.proofs.lemmas.Bool.{both_ways, and_parts, not-true, cond_both}
use Rattle.std.proofs.lemmas.Option.{cond_some}
use Rattle.script.specs.Limits.{registers}
use Rattle.pass.proofs.Proposals.{no_piece}
use Rattle.pass.proofs.Rows.{get_or_row, row_all, some_false, row_fewer}
use Rattle.passes.specs.Shared.{at, both, drops, shared, lost, common, differ}

module _ {X : Type 0} (same : X → X → Bool) where
  -- what holds of none and of the first holds of both
  pub both_keeps : (P : Option X → Type 0) → P None → (a b : Option X) → P a → P (both same a b)
  both_keeps P n None b p = p
  both_keeps P n (Some a) None p = n
  both_keeps P n (Some a) (Some b) p = cond_both (same a b) (Some a) None P (λ q. p) (λ q. n)

  pub both_left : (a b : Option X) (x : X) → both same a b ≡ Some x → a ≡ Some x
  both_left a b = both_keeps (λ o. (x : X) → o ≡ Some x → a ≡ Some x) (λ x q. no_piece x q) a b (λ x q. q)

  pub both_right : ((x y : X) → same x y ≡ true → x ≡ y) → (a b : Option X) (x : X) → both same a b ≡ Some x → b ≡ Some x
  both_right h None b x q = no_piece x q
  both_right h (Some a) None x q = no_piece x q
  both_right h (Some a) (Some b) x q = let t = cond_some (same a b) a x q in ap Some (sym (h a b t.0) ∙ t.1)

  pub undropped : (a b : Option X) → drops same a b ≡ false → a ≡ both same a b
  undropped None b q = refl
  undropped (Some a) None q = absurd (both_ways true q refl)
  undropped (Some a) (Some b) q = by_test (same a b) q
    where
      by_test : (t : Bool) → not (is_some (cond t (Some a) None)) ≡ false → Some a ≡ cond t (Some a) None
      by_test true q = refl
      by_test false q = absurd (both_ways true q refl)

  pub some_left : (a b : Option X) → is_some (both same a b) ≡ true → is_some a ≡ true
  some_left None b q = q
  some_left (Some a) b q = refl

  dropped : (a b : Option X) → drops same a b ≡ true → (is_some a ≡ true) × (is_some (both same a b) ≡ false)
  dropped a b e = let u = and_parts (is_some a) (not (is_some (both same a b))) e in (u.0, not-true (is_some (both same a b)) u.1)

  -- ---- rows

  module _ (r q : List (Option X)) where
    pub common_at : (i : ℕ) → i < registers → at (common same r q) i ≡ shared same r q i
    common_at i h = get_or_row (shared same r q) i None h

    pub common_keeps : (P : Option X → Type 0) → P None → (i : ℕ) → i < registers → P (at r i) → P (at (common same r q) i)
    common_keeps P n i h p = subst P (sym (common_at i h)) (both_keeps P n (at r i) (at q i) p)

    pub common_left : (i : ℕ) → i < registers → (x : X) → at (common same r q) i ≡ Some x → at r i ≡ Some x
    common_left i h x e = both_left (at r i) (at q i) x (sym (common_at i h) ∙ e)

    pub common_right : ((x y : X) → same x y ≡ true → x ≡ y) → (i : ℕ) → i < registers → (x : X) → at (common same r q) i ≡ Some x → at q i ≡ Some x
    common_right s i h x e = both_right s (at r i) (at q i) x (sym (common_at i h) ∙ e)

    pub unchanged : length r ≡ registers → differ same r q ≡ false → common same r q ≡ r
    unchanged l e = sym (row_all (shared same r q) r None l (λ k h. undropped (at r k) (at q k) (some_false (lost same r q) registers e k h)))

    pub falls : length r ≡ registers → differ same r q ≡ true → count_by is_some (common same r q) < count_by is_some r
    falls l e = row_fewer is_some None r (shared same r q) (lost same r q) l (λ k h. some_left (at r k) (at q k)) (λ k h. dropped (at r k) (at q k)) e
