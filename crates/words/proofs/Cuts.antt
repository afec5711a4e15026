-- Cutting at a byte, and putting together again.
use Rattle.std.proofs.Common.{◌≡◌, ◌≢◌, ℕ, zero, suc, ◌+◌, ◌<◌, Bool, true, false, cond, not, ◌&&◌, eqb, List, [], ◌∷◌, ◌++◌, length, get_or, take, drop, Some, None, Option, sym, refl, ap, ◌∙◌, append-nil, arith, length-append, take-append-drop}
use Rattle.std.proofs.lemmas.List.{take_all, drop_more}
use Rattle.std.specs.List.{AllWithin, HoldsAt}
use Rattle.std.specs.Option.{MatchOption}
use Rattle.std.proofs.lemmas.Bool.{eqb-true, eq-eqb, not-true, and_parts, and_from, not_from_false, ne_eqb}
use Rattle.words.specs.Words.{cut}

-- the byte and what follows it, if there is something
abbrev pub after : ℕ → Option (List ℕ) → List ℕ
after c None = []
after c (Some l) = c ∷ l

abbrev pub cut_at : ℕ → ℕ → List ℕ → Bool → List ℕ × Option (List ℕ)
cut_at c x xs b = cond b ([], Some xs) (x ∷ (cut c xs).0, (cut c xs).1)

glue_step : (c x : ℕ) (xs : List ℕ) (b : Bool) → (b ≡ true → x ≡ c) → xs ≡ (cut c xs).0 ++ after c (cut c xs).1 → x ∷ xs ≡ (cut_at c x xs b).0 ++ after c (cut_at c x xs b).1
glue_step c x xs true h e = ap (λ y. y ∷ xs) (h refl)
glue_step c x xs false h e = ap (λ l. x ∷ l) e

pub cut_glues : (c : ℕ) (l : List ℕ) → l ≡ (cut c l).0 ++ after c (cut c l).1
cut_glues c [] = refl
cut_glues c (x ∷ xs) = glue_step c x xs (eqb x c) (eqb-true x c) (cut_glues c xs)

-- c does not stand in the list
abbrev pub lacks : ℕ → List ℕ → Bool
lacks c [] = true
lacks c (x ∷ xs) = not (eqb x c) && lacks c xs

pub cut_after : (c : ℕ) (w : List ℕ) (o : Option (List ℕ)) → lacks c w ≡ true → cut c (w ++ after c o) ≡ (w, o)
cut_after c [] None h = refl
cut_after c [] (Some r) h = ap (cut_at c c r) (eq-eqb c c refl)
cut_after c (x ∷ w) o h =
    let two = and_parts _ _ h in
    ap (cut_at c x (w ++ after c o)) (not-true (eqb x c) two.0) ∙ ap (λ (p : List ℕ × Option (List ℕ)). (x ∷ p.0, p.1)) (cut_after c w o two.1)

pub lacks_append : (c : ℕ) (v w : List ℕ) → lacks c v ≡ true → lacks c w ≡ true → lacks c (v ++ w) ≡ true
lacks_append c [] w h k = k
lacks_append c (x ∷ v) w h k = let two = and_parts _ _ h in and_from _ _ two.0 (lacks_append c v w two.1 k)

-- ---- by the place of the byte

pub found_cut : (c : ℕ) (l : List ℕ) (i : ℕ) → i < length l → lacks c (take i l) ≡ true → get_or l i 0 ≡ c → cut c l ≡ (take i l, Some (drop (i + 1) l))
found_cut c l i h k e =
    let parts : l ≡ take i l ++ after c (Some (drop (i + 1) l)) =
    sym (take-append-drop i l) ∙ ap (λ r. take i l ++ r) (drop_more l i 0 h) ∙ ap (λ d. take i l ++ d ∷ drop (i + 1) l) e in
    ap (cut c) parts ∙ cut_after c (take i l) (Some (drop (i + 1) l)) k

pub none_cut : (c : ℕ) (l : List ℕ) → lacks c l ≡ true → cut c l ≡ (l, None)
none_cut c l k = ap (cut c) (sym (append-nil l)) ∙ cut_after c l None k

lacks_within : (c : ℕ) (l : List ℕ) (i : ℕ) → AllWithin (λ x. x ≢ c) l 0 i → lacks c (take i l) ≡ true
lacks_within c l zero others = refl
lacks_within c [] (suc i) others = refl
lacks_within c (x ∷ l) (suc i) others =
    and_from _ _ (not_from_false _ (ne_eqb x c (others 0 0 (omega arith) (omega arith))))
    (lacks_within c l i (λ k d low high. others (suc k) d (omega arith) (omega arith)))

-- r is the first place of c, if it stands there
abbrev pub FirstPlace : ℕ → List ℕ → Option ℕ → Type 0
FirstPlace c l r = MatchOption r (AllWithin (λ x. x ≢ c) l 0 (length l)) (λ i. (i < length l) × HoldsAt (λ x. x ≡ c) l i × AllWithin (λ x. x ≢ c) l 0 i)

module _ (c : ℕ) (l : List ℕ) (r : Option ℕ) (first : FirstPlace c l r) where
  pub cut_found : (i : ℕ) → r ≡ Some i → cut c l ≡ (take i l, Some (drop (i + 1) l))
  cut_found i e = let q = rw e at first in found_cut c l i q.0 (lacks_within c l i q.2) (q.1 0)

  pub cut_missing : r ≡ None → cut c l ≡ (l, None)
  cut_missing e = none_cut c l (ap (lacks c) (sym (take_all (length l) l (omega arith))) ∙ lacks_within c l (length l) (rw e at first))

pub cut_length : (c : ℕ) (l w : List ℕ) (o : Option (List ℕ)) (r : List ℕ) → w ≡ (cut c l).0 → o ≡ (cut c l).1 → o ≡ Some r → length w + suc (length r) ≡ length l
cut_length c l w o r a b e =
    let parts : w ++ after c (Some r) ≡ l = (λ i. a i ++ after c ((sym e ∙ b) i)) ∙ sym (cut_glues c l) in
    sym (length-append w (c ∷ r)) ∙ ap length parts
