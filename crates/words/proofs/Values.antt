-- The operands of a line, one after the other.
use Rattle.std.proofs.Common.{◌≡◌, ℕ, ◌+◌, ◌<◌, List, [], ◌∷◌, ◌++◌, length, get_or, drop, ℤ, Some, None, Ok, Err, Option, Result, sym, refl, ap, ◌∙◌, append_assoc}
use Rattle.std.proofs.lemmas.List.{drop_more}
use Rattle.std.specs.Option.{ok_or}
use Rattle.std.specs.Result.{IsErrAnd}
use Rattle.words.specs.declared.flaw.Flaw.{Flaw}
use Rattle.words.specs.declared.flaw.Flaw.TheVariants.{Form, Range}
use Rattle.words.specs.declared.kind.Kind.{Kind}
use Rattle.words.specs.Words.{cut, operand, both, operands}

-- what comes of the numbers so far, or of one that was out of range, with the others
abbrev pub onto : List ℤ → Result (Unit {0}) Flaw → Result (List ℤ) Flaw → Result (List ℤ) Flaw
onto xs (Ok u) (Ok vs) = Ok (xs ++ vs)
onto xs (Ok u) (Err g) = Err g
onto xs (Err f) (Ok vs) = Err f
onto xs (Err f) (Err g) = Err g

pub onto_ok : (xs : List ℤ) (far : Result (Unit {0}) Flaw) (v : ℤ) (r : Result (List ℤ) Flaw) → onto xs far (both (Ok v) r) ≡ onto (xs ++ v ∷ []) far r
onto_ok xs (Ok u) v (Ok vs) = ap Ok (sym (append_assoc xs (v ∷ []) vs))
onto_ok xs (Ok u) v (Err g) = refl
onto_ok xs (Err f) v (Ok vs) = refl
onto_ok xs (Err f) v (Err g) = refl

pub onto_far : (xs ys : List ℤ) (far : Result (Unit {0}) Flaw) (r : Result (List ℤ) Flaw) → onto xs far (both (Err Range) r) ≡ onto ys (Err Range) r
onto_far xs ys (Ok u) (Ok vs) = refl
onto_far xs ys (Ok u) (Err g) = refl
onto_far xs ys (Err f) (Ok vs) = refl
onto_far xs ys (Err f) (Err g) = refl

pub onto_err : (xs : List ℤ) (far : Result (Unit {0}) Flaw) (g : Flaw) → onto xs far (Err g) ≡ Err g
onto_err xs (Ok u) g = refl
onto_err xs (Err f) g = refl

-- at operand i
module _ (n : ℕ) (ks : List Kind) (i : ℕ) (d : Kind) (h : i < length ks) (all : Result (List ℤ) Flaw) (xs : List ℤ) (far : Result (Unit {0}) Flaw) (o : Option (List ℕ))
    (was : all ≡ onto xs far (operands n (drop i ks) o)) where
  pub values_none : o ≡ None → all ≡ Err Form
  values_none e = was ∙ (λ j. onto xs far (operands n (drop_more ks i d h j) (e j))) ∙ onto_err xs far Form

  pub values_here : (l : List ℕ) → o ≡ Some l → (w : List ℕ) (more : Option (List ℕ)) → w ≡ (cut 32 l).0 → more ≡ (cut 32 l).1 → (r : Result ℤ Flaw) → r ≡ operand n (get_or ks i d) w
      → all ≡ onto xs far (both r (operands n (drop (i + 1) ks) more))
  values_here l e w more a b r q =
      was ∙ (λ j. onto xs far (operands n (drop_more ks i d h j) (e j)))
      ∙ (λ j. onto xs far (both (operand n (get_or ks i d) (sym a j)) (operands n (drop (i + 1) ks) (sym b j))))
      ∙ ap (λ x. onto xs far (both x (operands n (drop (i + 1) ks) more))) (sym q)

-- the way out of `ok_or(Flaw::Form)?`
pub none_left : {A X : Type 0} (o : Option A) (r : Result A Flaw) (f : Flaw) (out : Result X Flaw) → r ≡ ok_or o Form → r ≡ Err f → IsErrAnd out (λ g. g ≡ f)
    → (o ≡ None) × (out ≡ Err Form)
none_left None r f (Ok x) e q given = absurd given
none_left None r f (Err g) e q given = (refl, cc)
none_left (Some x) r f out e q given = absurd (cc)
