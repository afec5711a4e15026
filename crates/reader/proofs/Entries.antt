-- The names of blocks.
use Rattle.std.proofs.Common.{◌≡◌, ℕ, ◌<◌, Bool, true, false, eqb, List, ◌∷◌, ℤ, pos, Ok, Err, Result, decimal, sym, ap, ◌∙◌, arith, w32, of_z}
use Rattle.std.specs.Fmt.{signed_decimal}
use Rattle.std.specs.Result.{MatchResult}
use Rattle.std.specs.Str.{bytes_eq}
use Rattle.std.proofs.lemmas.Bool.{lt-ltb, le-ltb, and_from, not_from_false, false_from_ne_true}
use Rattle.std.proofs.lemmas.Bool.Decides.{Decides-eqb, Decides-like, same_from_decides}
use Rattle.std.proofs.lemmas.Slice.Eq.{bytes_eq-Decides}
use Rattle.std.proofs.lemmas.Fmt.{decimal_injective}
use Rattle.script.specs.Limits.{most_blocks}
use Rattle.words.specs.declared.flaw.Flaw.{Flaw}
use Rattle.words.specs.declared.kind.Kind.TheVariants.{BlockWord}
use Rattle.words.specs.Words.{operand, from_to}
use Rattle.words.proofs.Spelt.{operand_is, operand_written, from_to_pos}

same_decimal : (v i : ℕ) → v < most_blocks → i < most_blocks → eqb v i ≡ bytes_eq (decimal v) (decimal i)
same_decimal v i a b =
    same_from_decides (eqb v i) (bytes_eq (decimal v) (decimal i)) (Decides-eqb v i)
    (Decides-like (bytes_eq (decimal v) (decimal i)) (decimal_injective v i (omega arith) (omega arith)) (ap decimal) (bytes_eq-Decides (decimal v) (decimal i)))

pub names_ok : (w : List ℕ) (i : ℕ) → i < most_blocks → (x : ℤ) → Ok x ≡ operand most_blocks BlockWord w → eqb (of_z w32 x) i ≡ bytes_eq w (98 ∷ decimal i)
names_ok w i h x e =
    let is = operand_is most_blocks (omega arith) BlockWord w x (sym e) in
    let at = from_to_pos 0 most_blocks x is.1 in
    ap (λ y. eqb (of_z w32 y) i) at.1 ∙ same_decimal at.0 i at.3 h ∙ sym (ap (λ u. bytes_eq u (98 ∷ decimal i)) (is.0 ∙ ap (λ y. 98 ∷ signed_decimal y) at.1))

pub names_err : (w : List ℕ) (i : ℕ) → i < most_blocks → (f : Flaw) → Err f ≡ operand most_blocks BlockWord w → bytes_eq w (98 ∷ decimal i) ≡ false
names_err w i h f e =
    false_from_ne_true (bytes_eq w (98 ∷ decimal i)) (λ t.
    let is = (bytes_eq-Decides w (98 ∷ decimal i)).0 t in
    let in_range : from_to 0 most_blocks (pos i) ≡ true = and_from _ _ (not_from_false _ (le-ltb i 0 (omega arith))) (lt-ltb i most_blocks h) in
    let read : operand most_blocks BlockWord w ≡ Ok (pos i) = ap (operand most_blocks BlockWord) is ∙ operand_written most_blocks (omega arith) BlockWord (pos i) in_range in
    let clash : Err f ≡ Ok (pos i) = e ∙ read in
    cc clash)

pub names : (w : List ℕ) (i : ℕ) → i < most_blocks → (o : Result ℤ Flaw) → o ≡ operand most_blocks BlockWord w → (b : Bool) (Is : ℤ → Type 0) → MatchResult o Is (λ f. b ≡ false) → ((x : ℤ) → Is x → b ≡ eqb (of_z w32 x) i)
    → b ≡ bytes_eq w (98 ∷ decimal i)
names w i h (Ok x) e b Is k said = said x k ∙ names_ok w i h x e
names w i h (Err f) e b Is k said = k ∙ sym (names_err w i h f e)
