-- Reading digits from the left.
use Rattle.std.proofs.Common.{◌≡◌, ℕ, zero, suc, ◌+◌, ◌-◌, ◌*◌, ◌<◌, true, false, ◌&&◌, List, [], ◌∷◌, ◌++◌, length, get_or, take, refl, ap, ◌∙◌, arith}
use Rattle.std.specs.Char.{is_ascii_digit}
use Rattle.std.specs.Str.{all_ascii_digits}
use Rattle.std.proofs.Math.Bool.{and-false}
use Rattle.std.proofs.lemmas.Bool.{and_parts, and_from}
use Rattle.std.proofs.lemmas.List.{take_more}
use Rattle.words.specs.Numbers.{value_after}

read_on_push : (n : ℕ) (ds : List ℕ) (c : ℕ) → value_after n (ds ++ c ∷ []) ≡ value_after n ds * 10 + (c - 48)
read_on_push n [] c = refl
read_on_push n (d ∷ ds) c = read_on_push (n * 10 + (d - 48)) ds c

all_push : (ds : List ℕ) (c : ℕ) → all_ascii_digits ds ≡ true → is_ascii_digit c ≡ true → all_ascii_digits (ds ++ c ∷ []) ≡ true
all_push [] c a b = and_from _ _ b refl
all_push (d ∷ ds) c a b = let two = and_parts _ _ a in and_from _ _ two.0 (all_push ds c two.1 b)

pub read_more : (ds : List ℕ) (i : ℕ) → i < length ds → value_after 0 (take (i + 1) ds) ≡ value_after 0 (take i ds) * 10 + (get_or ds i 0 - 48)
read_more ds i h = ap (value_after 0) (take_more ds i 0 h) ∙ read_on_push 0 (take i ds) (get_or ds i 0)

pub digits_more : (ds : List ℕ) (i : ℕ) → i < length ds → all_ascii_digits (take i ds) ≡ true → is_ascii_digit (get_or ds i 0) ≡ true → all_ascii_digits (take (i + 1) ds) ≡ true
digits_more ds i h a b = ap all_ascii_digits (take_more ds i 0 h) ∙ all_push (take i ds) (get_or ds i 0) a b

pub digits_stop : (ds : List ℕ) (i : ℕ) → i < length ds → is_ascii_digit (get_or ds i 0) ≡ false → all_ascii_digits ds ≡ false
digits_stop [] i h b = absurd (omega arith)
digits_stop (d ∷ ds) zero h b = ap (λ t. t && all_ascii_digits ds) b
digits_stop (d ∷ ds) (suc i) h b = ap (λ t. is_ascii_digit d && t) (digits_stop ds i (omega arith) b) ∙ and-false (is_ascii_digit d)
