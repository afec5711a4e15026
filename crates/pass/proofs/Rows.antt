-- Rows with one element for each register: what they hold, and how often a test passes in them.
use Rattle.std.specs.Array.{IsFromFnResultFrom, IsFromFnResult}
use Rattle.std.specs.Fn.{Called, Mut}
use Rattle.std.proofs.Common.{◌≡◌, ℕ, zero, suc, ◌+◌, ◌<◌, ◌≤◌, Bool, true, false, cond, ◌||◌, eqb, List, [], ◌∷◌, length, get_or, set, count_by, sym, refl, ap, subst, ◌∙◌, ⊎_elim, add-one, arith, get_or-set_other, get_or-set_same}
use mathlib.Core.Bool.{or_comm}
use Rattle.std.proofs.lemmas.List.Sums.{sum_by-cons}
use Rattle.std.proofs.lemmas.Bool.{cases_eq, cases_Bool, and_from, and_parts, or_parts, or_cases, both_ways, cond-true, cond-false, eq-eqb, ne_eqb}
use Rattle.std.proofs.lemmas.List.FromFn.{length-map-range_with_len, get_or-map-range_with_len, fill_by_all}
use Rattle.std.proofs.lemmas.List.Edits.{fill_by_more}
use Rattle.script.specs.Limits.{registers}
use Rattle.pass.specs.Rows.{row, some, every}

pub length_row : {X : Type 0} (f : ℕ → X) → length (row f) ≡ registers
unfolding row
length_row f = length-map-range_with_len f 0 registers

pub get_or_row : {X : Type 0} (f : ℕ → X) (i : ℕ) (d : X) → i < registers → get_or (row f) i d ≡ f i
unfolding row
get_or_row f i d h = get_or-map-range_with_len f 0 registers i i d h (omega arith)

pub row_all : {X : Type 0} (f : ℕ → X) (xs : List X) (d : X) → length xs ≡ registers → ((k : ℕ) → k < registers → get_or xs k d ≡ f k) → xs ≡ row f
unfolding row
row_all f xs d l h = fill_by_all f xs registers d l h

-- A row that `array::from_fn` made: `h i` is what the function answers at i, and no call changes it.
module _ {F X : Type 0} (g : Mut F (ℕ × Unit {0}) X) (f : F) (h : ℕ → X) (answers : (i : ℕ) (x : X) (q : F) → Called g f (i, tt) x q → (x ≡ h i) × (q ≡ f)) where
  made_from : (xs : List X) (n i : ℕ) → IsFromFnResultFrom g f xs i n → (k : ℕ) (d : X) → i ≤ k → k < i + n → get_or xs k d ≡ h k
  made_from xs zero i m k d a b = absurd (omega (arith, a, b))
  made_from xs (suc n) i m k d a b =
      let one = answers i m.1 m.0 m.3 in
      ⊎_elim
      (λ (q : k ≡ i). rw q (m.2.1 d ∙ one.0))
      (λ (q : k ≡ i → ⊥). made_from xs n (i + 1) (subst (λ p. IsFromFnResultFrom g p xs (i + 1) n) one.1 m.4) k d (omega (arith, a, q)) (omega (arith, b)))
      (cases_eq k i)

  pub row_made : (xs : List X) (d : X) → IsFromFnResult g f xs registers → xs ≡ row h
  row_made xs d made = row_all h xs d made.long (λ k b. made_from xs registers 0 made.each k d (omega arith) (omega (arith, b)))

-- For authors of passes whose join is a loop: `some_none`, `some_next` and `write_more` are its steps.

pub some_none : (p : ℕ → Bool) → some p 0 ≡ false
unfolding some
some_none p = refl

pub some_more : (p : ℕ → Bool) (i : ℕ) → some p (i + 1) ≡ (p i || some p i)
unfolding some
some_more p i = rw add-one

-- a loop's turn that adds one more place to a flag
pub some_next : (p : ℕ → Bool) (i : ℕ) (d b : Bool) → d ≡ some p i → b ≡ p i → (d || b) ≡ some p (i + 1)
some_next p i d b e q = (λ j. e j || q j) ∙ or_comm (some p i) (p i) ∙ sym (some_more p i)

pub some_false : (p : ℕ → Bool) (n : ℕ) → some p n ≡ false → (k : ℕ) → k < n → p k ≡ false
unfolding some
some_false p zero e k h = absurd (omega arith)
some_false p (suc n) e k h =
    let o = or_parts (p n) (some p n) e in
    ⊎_elim (λ (q : k ≡ n). ap p q ∙ o.0) (λ (q : k ≡ n → ⊥). some_false p n o.1 k (omega arith)) (cases_eq k n)

pub some_true : (p : ℕ → Bool) (n : ℕ) → some p n ≡ true → (k : ℕ) × (k < n) × (p k ≡ true)
unfolding some
some_true p zero e = absurd (both_ways false refl e)
some_true p (suc n) e =
    ⊎_elim (λ (q : p n ≡ true). (n, omega arith, q))
    (λ (q : some p n ≡ true). let r = some_true p n q in (r.0, omega (arith, r.1), r.2))
    (or_cases (p n) (some p n) e)

pub every_true : (p : ℕ → Bool) (n : ℕ) → every p n ≡ true → (k : ℕ) → k < n → p k ≡ true
unfolding every
every_true p zero e k h = absurd (omega arith)
every_true p (suc n) e k h =
    let o = and_parts (p n) (every p n) e in
    ⊎_elim (λ (q : k ≡ n). ap p q ∙ o.0) (λ (q : k ≡ n → ⊥). every_true p n o.1 k (omega arith)) (cases_eq k n)

pub every_from : (p : ℕ → Bool) (n : ℕ) → ((k : ℕ) → k < n → p k ≡ true) → every p n ≡ true
unfolding every
every_from p zero h = refl
every_from p (suc n) h = and_from (p n) (every p n) (h n (omega arith)) (every_from p n (λ k b. h k (omega arith)))

pub every_false : (p : ℕ → Bool) (n k : ℕ) → k < n → p k ≡ false → every p n ≡ false
every_false p n k h e = ⊎_elim (λ (q : every p n ≡ true). absurd (both_ways (p k) e (every_true p n q k h))) (λ (q : every p n ≡ false). q) (cases_Bool (every p n))

pub get_or_set_at : {X : Type 0} (l : List X) (i j : ℕ) (a d : X) → i < length l → get_or (set l i a) j d ≡ cond (eqb j i) a (get_or l j d)
get_or_set_at l i j a d h =
    ⊎_elim
    (λ (q : j ≡ i). ap (λ n. get_or (set l i a) n d) q ∙ get_or-set_same l i a d h ∙ sym (cond-true (eqb j i) a (get_or l j d) (eq-eqb j i q)))
    (λ (q : j ≡ i → ⊥). get_or-set_other l i j a d q ∙ sym (cond-false (eqb j i) a (get_or l j d) (ne_eqb j i q)))
    (cases_eq j i)

-- a loop's turn that writes f i at i
pub write_more : {X : Type 0} (f : ℕ → X) (xs ys : List X) (i : ℕ) (v d : X) → ys ≡ set xs i v → v ≡ f i → i < length xs → ((k : ℕ) → k < i → get_or xs k d ≡ f k) → (k : ℕ) → k < i + 1 → get_or ys k d ≡ f k
write_more f xs ys i v d e q l h k b = ap (λ zs. get_or zs k d) (e ∙ ap (set xs i) q) ∙ fill_by_more f xs i d l h k b

-- ---- counts

one_less : (b c : Bool) → (c ≡ true → b ≡ true) → cond c 1 0 ≤ cond b 1 0
one_less true true h = omega arith
one_less true false h = omega arith
one_less false true h = absurd (both_ways false refl (h refl))
one_less false false h = omega arith

module _ {X : Type 0} (p : X → Bool) (d : X) where
  not_more : (xs ys : List X) → length xs ≡ length ys → ((k : ℕ) → k < length ys → p (get_or ys k d) ≡ true → p (get_or xs k d) ≡ true) → count_by p ys ≤ count_by p xs
  not_more [] [] l h = omega arith
  not_more [] (y ∷ ys) l h = absurd (omega arith)
  not_more (x ∷ xs) [] l h = absurd (omega arith)
  not_more (x ∷ xs) (y ∷ ys) l h =
      let r = not_more xs ys (omega arith) (λ k b. h (suc k) (omega arith)) in
      let o = one_less (p x) (p y) (h 0 (omega arith)) in
      omega (arith, sum_by-cons (λ z. cond (p z) 1 0) x xs, sum_by-cons (λ z. cond (p z) 1 0) y ys)

  pub fewer : (xs ys : List X) → length xs ≡ length ys → ((k : ℕ) → k < length ys → p (get_or ys k d) ≡ true → p (get_or xs k d) ≡ true) → (k : ℕ) → k < length ys → p (get_or xs k d) ≡ true → p (get_or ys k d) ≡ false → count_by p ys < count_by p xs
  fewer [] [] l h k b s t = absurd (omega arith)
  fewer [] (y ∷ ys) l h k b s t = absurd (omega arith)
  fewer (x ∷ xs) [] l h k b s t = absurd (omega arith)
  fewer (x ∷ xs) (y ∷ ys) l h zero b s t =
      let r = not_more xs ys (omega arith) (λ k b. h (suc k) (omega arith)) in
      let u : ◌≡◌ {A = ℕ} (cond (p x) 1 0) 1 = cond-true (p x) 1 0 s in
      let v : ◌≡◌ {A = ℕ} (cond (p y) 1 0) 0 = cond-false (p y) 1 0 t in
      omega (arith, sum_by-cons (λ z. cond (p z) 1 0) x xs, sum_by-cons (λ z. cond (p z) 1 0) y ys)
  fewer (x ∷ xs) (y ∷ ys) l h (suc k) b s t =
      let r = fewer xs ys (omega arith) (λ k b. h (suc k) (omega arith)) k (omega arith) s t in
      let o = one_less (p x) (p y) (h 0 (omega arith)) in
      omega (arith, sum_by-cons (λ z. cond (p z) 1 0) x xs, sum_by-cons (λ z. cond (p z) 1 0) y ys)

-- A row that loses something of another: the test passes in it only where it passes there, and somewhere no more.
pub row_fewer : {X : Type 0} (p : X → Bool) (d : X) (xs : List X) (f : ℕ → X) (lost : ℕ → Bool) → length xs ≡ registers → ((k : ℕ) → k < registers → p (f k) ≡ true → p (get_or xs k d) ≡ true) → ((k : ℕ) → k < registers → lost k ≡ true → (p (get_or xs k d) ≡ true) × (p (f k) ≡ false)) → some lost registers ≡ true → count_by p (row f) < count_by p xs
row_fewer p d xs f lost l kept gone e =
    let n = length_row f in
    let t = some_true lost registers e in
    let u = gone t.0 t.1 t.2 in
    fewer p d xs (row f) (l ∙ sym n)
    (λ k h q. let b : k < registers = omega (arith, n, h) in kept k b (ap p (sym (get_or_row f k d b)) ∙ q))
    t.0 (omega (arith, n, t.1)) u.0
    (ap p (get_or_row f t.0 d t.1) ∙ u.1)
