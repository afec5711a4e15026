-- Quotients and remainders of whole numbers, wrapped to 32 bits.
use Rattle.std.proofs.Common.{◌≡◌, ℕ, zero, suc, ◌+◌, ◌/◌, ◌%◌, ◌^◌, ◌<◌, ◌≤◌, cond, ℤ, pos, negsuc, ◌-ℤ◌, ◌*ℤ◌, neg_ℤ, sym, refl, ap, ◌∙◌, mod-eq_of_lt, div-le_self, arith, w32, SFits, to_z, of_z, ne_eqb}
use native.Mathlib.Nat.{div-add-mod}
use lib.IntN.{*ℤ-negsuc, *ℤ-zero}
use lib.Signed.{mag, quot_z, rem_z, mag_rem}
use Rattle.std.specs.Int.{int_wrap}
use Rattle.std.proofs.lemmas.Int.{ints, int_wrap_fits, int_wrap-mul_right, int_wrap-sub_right, to_z-of_z}
use Rattle.script.specs.Arithmetic.{quotient}

-- a number that wraps at most once
pub wrapped_once : (z : ℤ) → mag z < 2 ^ 32 → to_z w32 (of_z w32 z) ≡ int_wrap w32 z
unfolding int_wrap
wrapped_once (pos n) h = ap (to_z w32) (sym (mod-eq_of_lt h))
wrapped_once (negsuc n) h = ap (to_z w32) (let e : n % 2 ^ 32 ≡ n = mod-eq_of_lt h in omega arith)

neg_small : (n : ℕ) → mag (neg_ℤ (pos n)) ≤ n
neg_small zero = omega arith
neg_small (suc n) = omega arith

pub quotient_small : (a b : ℤ) → mag (quot_z a b) ≤ mag a + 1
quotient_small (pos a) (pos b) = omega (arith, div-le_self a b)
quotient_small (pos a) (negsuc b) = omega (arith, div-le_self a (suc b), neg_small (a / suc b))
quotient_small (negsuc a) (pos b) = omega (arith, div-le_self (suc a) b, neg_small (suc a / b))
quotient_small (negsuc a) (negsuc b) = omega (arith, div-le_self (suc a) (suc b))

times_minus : (m : ℤ) (q : ℕ) → m *ℤ neg_ℤ (pos q) ≡ neg_ℤ (m *ℤ pos q)
times_minus m zero = *ℤ-zero m ∙ sym (ap neg_ℤ (*ℤ-zero m))
times_minus m (suc q) = *ℤ-negsuc m q

-- the remainder is what the quotient leaves
pub left_over : (a b : ℤ) → a -ℤ b *ℤ quot_z a b ≡ rem_z a b
left_over (pos a) (pos b) = let e = div-add-mod a b in omega (arith, ints)
left_over (pos a) (negsuc b) =
    let e = div-add-mod a (suc b) in
    let m = times_minus (negsuc b) (a / suc b) in
    omega (arith, ints)
left_over (negsuc a) (pos b) =
    let e = div-add-mod (suc a) b in
    let m = times_minus (pos b) (suc a / b) in
    omega (arith, ints)
left_over (negsuc a) (negsuc b) = let e = div-add-mod (suc a) (suc b) in omega (arith, ints)

pub remainder_wrapped : (a b : ℤ) → SFits w32 a → rem_z a b ≡ int_wrap w32 (a -ℤ b *ℤ int_wrap w32 (quot_z a b))
remainder_wrapped a b f =
    let fits : SFits w32 (rem_z a b) = record { sfits = omega (arith, f.sfits, mag_rem a b) } in
    sym (int_wrap_fits w32 (rem_z a b) fits) ∙ ap (int_wrap w32) (sym (left_over a b))
    ∙ sym (int_wrap-sub_right w32 a (b *ℤ quot_z a b))
    ∙ ap (λ z. int_wrap w32 (a -ℤ z)) (sym (int_wrap-mul_right w32 b (quot_z a b)))
    ∙ int_wrap-sub_right w32 a (b *ℤ int_wrap w32 (quot_z a b))

quotient_else : (a b : ℤ) → (of_z w32 b ≡ 0 → ⊥) → quotient a b ≡ quot_z a b
quotient_else a (pos n) h = ap (λ t. cond t (pos 0) (quot_z a (pos n))) (ne_eqb n 0 h)
quotient_else a (negsuc n) h = refl

module _ (a b r : ℤ) (fa : SFits w32 a) (fb : SFits w32 b) where
  pub quotient_some : (of_z w32 b ≡ 0 → ⊥) → r ≡ to_z w32 (of_z w32 (quot_z (to_z w32 (of_z w32 a)) (to_z w32 (of_z w32 b)))) → r ≡ int_wrap w32 (quotient a b)
  quotient_some h e =
      e ∙ wrapped_once _ (omega (arith, quotient_small (to_z w32 (of_z w32 a)) (to_z w32 (of_z w32 b)), ap mag (to_z-of_z w32 a fa), fa.sfits))
      ∙ ap (int_wrap w32) ((λ i. quot_z (to_z-of_z w32 a fa i) (to_z-of_z w32 b fb i)) ∙ sym (quotient_else a b h))

  pub remainder_some : (of_z w32 b ≡ 0 → ⊥) → r ≡ rem_z (to_z w32 (of_z w32 a)) (to_z w32 (of_z w32 b)) → r ≡ int_wrap w32 (a -ℤ b *ℤ int_wrap w32 (quotient a b))
  remainder_some h e =
      e ∙ (λ i. rem_z (to_z-of_z w32 a fa i) (to_z-of_z w32 b fb i)) ∙ remainder_wrapped a b fa
      ∙ ap (λ q. int_wrap w32 (a -ℤ b *ℤ int_wrap w32 q)) (sym (quotient_else a b h))
