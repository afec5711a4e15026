-- When a joined row differs from the old one.
use Rattle.std.proofs.Common.{◌≡◌, ℕ, Bool, true, false, cond, not, List, [], ◌∷◌, length, is_some, Some, None, Option, count_by, sym, refl, ap, ◌∙◌, ⊎_elim, arith}
use Rattle.std.specs.Option.{option_eq}
use Rattle.std.specs.Cmp.{IsEquivalence}
use Rattle.std.specs.Cmp.Lexicographic.{pointwise, lists_equiv, options_equiv}
use Rattle.std.proofs.lemmas.List.Sums.{sum_by-cons}
use Rattle.std.proofs.lemmas.Bool.{cases_Bool, and_parts, both_ways}
use Rattle.script.specs.Limits.{registers}
use Rattle.passes.specs.Shared.{common, differ}
use Rattle.passes.specs.SharedLaws.{unchanged, falls}

module _ {X : Type 0} (same : X → X → Bool) where
  one_count : (a b : Option X) → option_eq same a b ≡ true → is_some a ≡ is_some b
  one_count None None e = refl
  one_count None (Some b) e = absurd (both_ways false refl e)
  one_count (Some a) None e = absurd (both_ways false refl e)
  one_count (Some a) (Some b) e = refl

  -- rows that are equal have equally many elements
  counts : (r q : List (Option X)) → pointwise (option_eq same) r q ≡ true → count_by is_some r ≡ count_by is_some q
  counts [] [] e = refl
  counts [] (b ∷ q) e = absurd (both_ways false refl e)
  counts (a ∷ r) [] e = absurd (both_ways false refl e)
  counts (a ∷ r) (b ∷ q) e =
      let p = and_parts (option_eq same a b) (pointwise (option_eq same) r q) e in
      let c = counts r q p.1 in
      let o : ◌≡◌ {A = ℕ} (cond (is_some a) 1 0) (cond (is_some b) 1 0) = ap (λ z. cond z 1 0) (one_count a b p.0) in
      omega (arith, sum_by-cons (λ z. cond (is_some z) 1 0) a r, sum_by-cons (λ z. cond (is_some z) 1 0) b q)

  pub differs : IsEquivalence same → (r q : List (Option X)) → length r ≡ registers → not (pointwise (option_eq same) (common same r q) r) ≡ differ same r q
  differs s r q l = ⊎_elim
      (λ (t : differ same r q ≡ true).
      ⊎_elim
      (λ (e : pointwise (option_eq same) (common same r q) r ≡ true).
      let less = falls same r q l t in
      let even = counts (common same r q) r e in
      absurd (omega arith))
      (λ (e : pointwise (option_eq same) (common same r q) r ≡ false). ap not e ∙ sym t)
      (cases_Bool (pointwise (option_eq same) (common same r q) r)))
      (λ (t : differ same r q ≡ false). ap (λ z. not (pointwise (option_eq same) z r)) (unchanged same r q l t) ∙ ap not ((lists_equiv (options_equiv s)).refl r) ∙ sym t)
      (cases_Bool (differ same r q))
