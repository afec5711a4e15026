-- Rows of sources: what keeps them well.
use Rattle.std.specs.Prelude.{◌≡◌, ℕ, ◌<◌, Bool, true, false, cond, not, ltb, map, length, Some, None, Option, ◌==◌, ◌≢◌, nat_lt, slice_index_or, slice_set, refl}
use Rattle.std.proofs.Common.{sym, ap, ◌∙◌, arith, length-set}
use Rattle.std.proofs.Math.ListN.{get_or-map}
use Rattle.std.proofs.lemmas.List.{length-map}
use Rattle.std.proofs.lemmas.Bool.{eqb-true, eqb-false, ne_eqb, ltb-true, ltb-false, lt-ltb, and_parts, and_from, not_from_false, cond_both}
use Rattle.script.specs.declared.register.Register.{Register}
use Rattle.script.proofs.Same.{same_register}
use Rattle.script.specs.Limits.{registers}
use Rattle.passes.specs.Sources.{Row, source, fine, well, without, killed, moved, register_if, register_of}
use Rattle.pass.proofs.Rows.{get_or_set_at}
use Rattle.passes.specs.SourcesLaws.{well_at, well_from}

pub fine_below : (i n : ℕ) → fine i (Some n) ≡ true → n < registers
fine_below i n e = ltb-true n registers (and_parts (nat_lt n registers) (not (n == i)) e).0

fine_from : (i n : ℕ) → n < registers → (n ≢ i) → fine i (Some n) ≡ true
fine_from i n h k = and_from (nat_lt n registers) (not (n == i)) (lt-ltb n registers h) (not_from_false (n == i) (ne_eqb n i k))

pub well_source : (r : Row) (i n : ℕ) → well r ≡ true → i < registers → source r i ≡ Some n → n < registers
well_source r i n w h q = fine_below i n (ap (fine i) (sym q) ∙ well_at r w i h)

without_fine : (i d : ℕ) (o : Option ℕ) → fine i o ≡ true → fine i (without d o) ≡ true
without_fine i d None h = refl
without_fine i d (Some s) h = cond_both (s == d) None (Some s) (λ o. fine i o ≡ true) (λ q. refl) (λ q. h)

get_or_without : (d : ℕ) (r : Row) (i : ℕ) → slice_index_or (map (without d) r) i None ≡ without d (slice_index_or r i None)
get_or_without d r i = get_or-map (without d) r i None

pub length_killed : (r : Row) (d : ℕ) → length (killed r d) ≡ length r
length_killed r d = length-set (map (without d) r) d None ∙ length-map r (without d)

pub killed_at : (r : Row) (d i : ℕ) → d < length r → source (killed r d) i ≡ cond (i == d) None (without d (source r i))
killed_at r d i h =
    get_or_set_at (map (without d) r) d i None None (omega (arith, length-map r (without d))) ∙ ap (cond (i == d) None) (get_or_without d r i)

pub killed_well : (r : Row) (d : ℕ) → d < length r → well r ≡ true → well (killed r d) ≡ true
killed_well r d l w =
    well_from (killed r d) (λ i h. ap (fine i) (killed_at r d i l)
    ∙ cond_both (i == d) None (without d (source r i)) (λ o. fine i o ≡ true) (λ q. refl) (λ q. without_fine i d (source r i) (well_at r w i h)))

-- a source is given to d, which is another
pub given_well : (r : Row) (d a : ℕ) → length r ≡ registers → well r ≡ true → d < registers → a < registers → (d ≢ a) → well (slice_set r d (Some a)) ≡ true
given_well r d a l w h k n =
    well_from (slice_set r d (Some a)) (λ i b. ap (fine i) (get_or_set_at r d i (Some a) None (omega arith))
    ∙ cond_both (i == d) (Some a) (source r i) (λ o. fine i o ≡ true) (λ q. fine_from i a k (λ z. n (sym (eqb-true i d q) ∙ sym z))) (λ q. well_at r w i b))

pub moved_well : (r : Row) (d a : ℕ) → length r ≡ registers → well r ≡ true → d < registers → a < registers → well (moved r d a) ≡ true
moved_well r d a l w h k =
    cond_both (d == a) r (slice_set (killed r d) d (Some a)) (λ z. well z ≡ true) (λ q. w)
    (λ q. given_well (killed r d) d a (length_killed r d ∙ l) (killed_well r d (omega arith) w) h k (eqb-false d a q))

-- ---- a source as a register

register_if_is : (n : ℕ) (h : n < registers) (b : Bool) (e : ltb n registers ≡ b) → Some (record { index = n; ok = h }) ≡ register_if n b e
register_if_is n h true e = ap Some (same_register _ _ refl)
register_if_is n h false e = absurd (omega (arith, ltb-false n registers e))

pub register_of_is : (n : ℕ) (h : n < registers) → Some (record { index = n; ok = h }) ≡ register_of (Some n)
register_of_is n h = register_if_is n h (nat_lt n registers) refl

register_if_some : (n : ℕ) (b : Bool) (e : ltb n registers ≡ b) (s : Register) → register_if n b e ≡ Some s → n ≡ s.index
register_if_some n true e s q = let u : record { index = n; ok = ltb-true n registers e } ≡ s = cc in ap (λ (r : Register). r.index) u
register_if_some n false e s q = let z : ◌≡◌ {A = ℕ} 0 1 = cc in absurd (omega arith)

pub register_of_some : (o : Option ℕ) (s : Register) → register_of o ≡ Some s → o ≡ Some s.index
register_of_some None s q = let z : ◌≡◌ {A = ℕ} 0 1 = cc in absurd (omega arith)
register_of_some (Some n) s q = ap Some (register_if_some n (nat_lt n registers) refl s q)
