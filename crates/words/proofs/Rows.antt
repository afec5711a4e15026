-- What is written of a line is read as that line, and what is read of a line is what its row makes.
use Rattle.std.proofs.Common.{◌≡◌, ℕ, suc, ◌+◌, ◌≤◌, Bool, true, false, cond, List, [], ◌∷◌, ◌++◌, length, ℤ, Some, None, Ok, Err, Option, Result, sym, refl, ap, ◌∙◌, subst, arith, length-append}
use Rattle.std.specs.Str.{bytes_eq}
use Rattle.std.proofs.lemmas.Slice.Eq.{bytes_eq-Decides}
use Rattle.script.specs.Limits.{most_blocks}
use Rattle.words.specs.declared.flaw.Flaw.{Flaw}
use Rattle.words.specs.declared.kind.Kind.{Kind}
use Rattle.words.specs.Words.{cut, within, spell, operand, both, operands, spaced}
use Rattle.words.specs.Forms.{Row, seek, made_by, follow, line_as, row_text}
use Rattle.words.proofs.Cuts.{after, lacks, cut_glues, cut_after, lacks_append}
use Rattle.words.proofs.Spelt.{operand_is, operand_written, lacks_spell, within_small, room, spell_short}

-- the values are as many as the kinds, and each in range
abbrev pub Fit : ℕ → List Kind → List ℤ → Type 0
Fit n [] [] = Unit {0}
Fit n [] (v ∷ vs) = ⊥
Fit n (k ∷ ks) [] = ⊥
Fit n (k ∷ ks) (v ∷ vs) = (within n k v ≡ true) × Fit n ks vs

-- ---- operands

both_is : (a : Result ℤ Flaw) (b : Result (List ℤ) Flaw) (v : ℤ) (vs : List ℤ) → both a b ≡ Ok (v ∷ vs) → (a ≡ Ok v) × (b ≡ Ok vs)
both_is (Ok x) (Ok xs) v vs e = (cc, cc)
both_is (Ok x) (Err g) v vs e = absurd (cc)
both_is (Err f) (Ok xs) v vs e = absurd (cc)
both_is (Err f) (Err g) v vs e = absurd (cc)

both_some : (a : Result ℤ Flaw) (b : Result (List ℤ) Flaw) → both a b ≡ Ok [] → ⊥
both_some (Ok x) (Ok xs) e = cc
both_some (Ok x) (Err g) e = cc
both_some (Err f) (Ok xs) e = cc
both_some (Err f) (Err g) e = cc

-- as many numbers as kinds
pub operands_length : (n : ℕ) (ks : List Kind) (o : Option (List ℕ)) (vs : List ℤ) → operands n ks o ≡ Ok vs → length vs ≡ length ks
operands_length n [] None [] e = refl
operands_length n [] None (v ∷ vs) e = absurd (cc)
operands_length n [] (Some l) vs e = absurd (cc)
operands_length n (k ∷ ks) None vs e = absurd (cc)
operands_length n (k ∷ ks) (Some l) [] e = absurd (both_some (operand n k (cut 32 l).0) (operands n ks (cut 32 l).1) e)
operands_length n (k ∷ ks) (Some l) (v ∷ vs) e =
    ap suc (operands_length n ks (cut 32 l).1 vs (both_is (operand n k (cut 32 l).0) (operands n ks (cut 32 l).1) v vs e).1)

pub operands_is : (n : ℕ) → n ≤ most_blocks → (ks : List Kind) (o : Option (List ℕ)) (vs : List ℤ) → operands n ks o ≡ Ok vs → Fit n ks vs × (after 32 o ≡ spaced ks vs)
operands_is n b [] None [] e = (tt, refl)
operands_is n b [] None (v ∷ vs) e = absurd (cc)
operands_is n b [] (Some l) vs e = absurd (cc)
operands_is n b (k ∷ ks) None vs e = absurd (cc)
operands_is n b (k ∷ ks) (Some l) [] e = absurd (both_some (operand n k (cut 32 l).0) (operands n ks (cut 32 l).1) e)
operands_is n b (k ∷ ks) (Some l) (v ∷ vs) e =
    let two = both_is (operand n k (cut 32 l).0) (operands n ks (cut 32 l).1) v vs e in
    let here = operand_is n b k (cut 32 l).0 v two.0 in
    let more = operands_is n b ks (cut 32 l).1 vs two.1 in
    ((here.1, more.0), ap (λ t. 32 ∷ t) (cut_glues 32 l ∙ (λ i. here.0 i ++ more.1 i)))

rest_of : List Kind → List ℤ → Option (List ℕ)
rest_of [] vs = None
rest_of (k ∷ ks) [] = None
rest_of (k ∷ ks) (v ∷ vs) = Some (spell k v ++ spaced ks vs)

after_rest : (ks : List Kind) (vs : List ℤ) → spaced ks vs ≡ after 32 (rest_of ks vs)
unfolding rest_of
after_rest [] vs = refl
after_rest (k ∷ ks) [] = refl
after_rest (k ∷ ks) (v ∷ vs) = refl

operands_written : (n : ℕ) → n ≤ most_blocks → (ks : List Kind) (vs : List ℤ) → Fit n ks vs → operands n ks (rest_of ks vs) ≡ Ok vs
unfolding rest_of
operands_written n b [] [] f = refl
operands_written n b [] (v ∷ vs) f = absurd f
operands_written n b (k ∷ ks) [] f = absurd f
operands_written n b (k ∷ ks) (v ∷ vs) f =
    let q : cut 32 (spell k v ++ spaced ks vs) ≡ (spell k v, rest_of ks vs) =
    ap (λ t. cut 32 (spell k v ++ t)) (after_rest ks vs) ∙ cut_after 32 (spell k v) (rest_of ks vs) (lacks_spell 32 (omega arith) k v (within_small n b k v f.0)) in
    (λ i. both (operand n k (q i).0) (operands n ks (q i).1)) ∙ (λ i. both (operand_written n b k v f.0 i) (operands_written n b ks vs f.1 i))

lacks_spaced : (n : ℕ) → n ≤ most_blocks → (ks : List Kind) (vs : List ℤ) → Fit n ks vs → lacks 10 (spaced ks vs) ≡ true
lacks_spaced n b [] vs f = refl
lacks_spaced n b (k ∷ ks) [] f = refl
lacks_spaced n b (k ∷ ks) (v ∷ vs) f =
    lacks_append 10 (spell k v) (spaced ks vs) (lacks_spell 10 (omega arith) k v (within_small n b k v f.0)) (lacks_spaced n b ks vs f.1)

-- the most bytes that operands of these kinds take
abbrev pub rooms : List Kind → ℕ
rooms [] = 0
rooms (k ∷ ks) = suc (room k + rooms ks)

spaced_short : (n : ℕ) → n ≤ most_blocks → (ks : List Kind) (vs : List ℤ) → Fit n ks vs → length (spaced ks vs) ≤ rooms ks
spaced_short n b [] vs f = omega arith
spaced_short n b (k ∷ ks) [] f = absurd f
spaced_short n b (k ∷ ks) (v ∷ vs) f =
    omega (arith, length-append (spell k v) (spaced ks vs), spell_short n b k v f.0, spaced_short n b ks vs f.1)

-- ---- lines

module _ {A : Type 0} (n : ℕ) (b : n ≤ most_blocks) where
  -- whatever a row makes of values in range is so with the line of those values
  abbrev pub Good : (A → List ℕ → Type 0) → Row A → Type 0
  Good G r = (vs : List ℤ) → Fit n r.kinds vs → G (r.make vs) (row_text r vs)

  abbrev pub Each : (A → List ℕ → Type 0) → List (Row A) → Type 0
  Each G [] = Unit {0}
  Each G (r ∷ rs) = Good G r × Each G rs

  module _ (G : A → List ℕ → Type 0) where
    seek_by : (w : List ℕ) (t : Bool) (r : Row A) (o : Option (Row A)) (s : Row A) → (t ≡ true → w ≡ r.name) → Good G r → (o ≡ Some s → (s.name ≡ w) × Good G s)
        → cond t (Some r) o ≡ Some s → (s.name ≡ w) × Good G s
    seek_by w true r o s h g k e = let same : r ≡ s = cc in (sym (h refl ∙ ap (λ (x : Row A). x.name) same), subst (Good G) same g)
    seek_by w false r o s h g k e = k e

    seek_is : (rows : List (Row A)) → Each G rows → (w : List ℕ) (s : Row A) → seek rows w ≡ Some s → (s.name ≡ w) × Good G s
    seek_is [] g w s e = absurd (cc)
    seek_is (r ∷ rs) g w s e = seek_by w (bytes_eq w r.name) r (seek rs w) s (bytes_eq-Decides w r.name).0 g.0 (seek_is rs g.1 w s) e

    follow_is : (o : Option (Row A)) (rest : Option (List ℕ)) (a : A) → follow n o rest ≡ Ok a → (r : Row A) × (o ≡ Some r) × (made_by r (operands n r.kinds rest) ≡ Ok a)
    follow_is None rest a e = absurd (cc)
    follow_is (Some r) rest a e = (r, refl, e)

    made_is : (r : Row A) (x : Result (List ℤ) Flaw) (a : A) → made_by r x ≡ Ok a → (vs : List ℤ) × (x ≡ Ok vs) × (r.make vs ≡ a)
    made_is r (Ok vs) a e = (vs, refl, cc)
    made_is r (Err f) a e = absurd (cc)

    pub line_is : (rows : List (Row A)) → Each G rows → (l : List ℕ) (a : A) → line_as n rows l ≡ Ok a → G a l
    line_is rows g l a e =
        let one = follow_is (seek rows (cut 32 l).0) (cut 32 l).1 a e in
        let r = one.0 in
        let found = seek_is rows g (cut 32 l).0 r one.1 in
        let two = made_is r (operands n r.kinds (cut 32 l).1) a one.2 in
        let vs = two.0 in
        let ops = operands_is n b r.kinds (cut 32 l).1 vs two.1 in
        let whole : row_text r vs ≡ l = (λ i. found.0 i ++ sym ops.1 i) ∙ sym (cut_glues 32 l) in
        subst (λ (x : List ℕ). G a x) whole (subst (λ (y : A). G y (row_text r vs)) two.2 (found.1 vs ops.0))

  pub line_written : (rows : List (Row A)) (r : Row A) (vs : List ℤ) → seek rows r.name ≡ Some r → lacks 32 r.name ≡ true → Fit n r.kinds vs
      → line_as n rows (row_text r vs) ≡ Ok (r.make vs)
  line_written rows r vs s k f =
      let q : cut 32 (row_text r vs) ≡ (r.name, rest_of r.kinds vs) =
      ap (λ t. cut 32 (r.name ++ t)) (after_rest r.kinds vs) ∙ cut_after 32 r.name (rest_of r.kinds vs) k in
      (λ i. follow n (seek rows (q i).0) (q i).1) ∙ ap (λ o. follow n o (rest_of r.kinds vs)) s ∙ ap (made_by r) (operands_written n b r.kinds vs f)

  pub row_lacks : (r : Row A) (vs : List ℤ) → lacks 10 r.name ≡ true → Fit n r.kinds vs → lacks 10 (row_text r vs) ≡ true
  row_lacks r vs k f = lacks_append 10 r.name (spaced r.kinds vs) k (lacks_spaced n b r.kinds vs f)

  pub row_short : (r : Row A) (vs : List ℤ) → Fit n r.kinds vs → length (row_text r vs) ≤ length r.name + rooms r.kinds
  row_short r vs f = omega (arith, length-append r.name (spaced r.kinds vs), spaced_short n b r.kinds vs f)
