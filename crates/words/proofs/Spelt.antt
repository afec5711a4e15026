-- What is written of a word is read as that word, and what is read is what is written.
use Rattle.std.proofs.Common.{◌≡◌, ℕ, zero, suc, ◌+◌, ◌^◌, ◌<◌, ◌≤◌, Bool, true, false, cond, not, ◌&&◌, eqb, ◌⊎◌, List, [], ◌∷◌, length, get_or, ℤ, pos, negsuc, neg_ℤ, Some, None, Ok, Err, decimal, Option, sym, refl, ap, ◌∙◌, inl, inr, arith, w32, SFits, rules}
use lib.Signed.{mag}
use Rattle.std.specs.Char.{is_ascii_digit}
use Rattle.std.specs.Str.{all_ascii_digits}
use Rattle.std.specs.Fmt.{signed_decimal}
use Rattle.std.proofs.lemmas.Bool.{true≢false, false≢true, ltb-true, ltb-false, leb-true, eqb-true, ne_eqb, not-true, not_from_false, and_parts, and_from, cond-true, eqb-false}
use Rattle.std.proofs.lemmas.Fmt.{decimal_digit, digits_decimal, digits_value-decimal, decimal_nonempty, first_decimal, decimal-digits_value, length-decimal-le}
use Rattle.std.proofs.lemmas.Option.{cond_some}
use Rattle.std.proofs.lemmas.Str.Parse.{IsNumeralModel, numerals_by_fold}
use Rattle.script.specs.Limits.{registers, slots, most_blocks, most_middles}
use Rattle.words.specs.declared.flaw.Flaw.TheVariants.{Range}
use Rattle.words.specs.declared.kind.Kind.{Kind}
use Rattle.words.specs.declared.kind.Kind.TheVariants.{RegisterWord, SlotWord, NumberWord, BlockWord, SizeWord, CountWord}
use Rattle.words.specs.Numbers.{plain, value_after, unsigned_word, minus_word, signed_word, lettered_word}
use Rattle.words.specs.Words.{shape, from_to, word32, within, spell, checked, operand}
use Rattle.words.proofs.Cuts.{lacks}

own : IsNumeralModel (λ ds. all_ascii_digits ds ≡ true) (value_after 0)
own = numerals_by_fold _ (search rules) value_after (search rules)

-- ---- numbers in range are small

pub from_to_pos : (low end : ℕ) (z : ℤ) → from_to low end z ≡ true → (v : ℕ) × (z ≡ pos v) × (low ≤ v) × (v < end)
from_to_pos low end (pos v) h = let two = and_parts _ _ h in (v, refl, ltb-false v low (not-true _ two.0), ltb-true v end two.1)
from_to_pos low end (negsuc v) h = absurd (false≢true h)

word32_small : (z : ℤ) → word32 z ≡ true → mag z < 2 ^ 31
word32_small (pos v) h = ltb-true v (2 ^ 31) h
word32_small (negsuc v) h = ltb-true v (2 ^ 31) h

from_to_small : (low end : ℕ) (z : ℤ) → end ≤ most_middles + 1 → from_to low end z ≡ true → mag z < 2 ^ 31
from_to_small low end z e h = let q = from_to_pos low end z h in omega (arith, ap mag q.1, q.3)

pub within_fits : (n : ℕ) → n ≤ most_middles + 1 → (k : Kind) (z : ℤ) → within n k z ≡ true → mag z < 2 ^ 31
within_fits n b RegisterWord z h = from_to_small 0 registers z (omega arith) h
within_fits n b SlotWord z h = from_to_small 0 slots z (omega arith) h
within_fits n b NumberWord z h = word32_small z h
within_fits n b BlockWord z h = from_to_small 0 n z (omega arith) h
within_fits n b SizeWord z h = from_to_small 1 (most_blocks + 1) z (omega arith) h
within_fits n b CountWord z h = from_to_small 0 (most_middles + 1) z (omega arith) h

pub within_small : (n : ℕ) → n ≤ most_blocks → (k : Kind) (z : ℤ) → within n k z ≡ true → mag z < 2 ^ 31
within_small n b k z h = within_fits n (omega arith) k z h

-- ---- what is written is read

plain_from : (ds : List ℕ) → all_ascii_digits ds ≡ true → 0 < length ds → (length ds ≡ 1) ⊎ (48 < get_or ds 0 0) → plain ds ≡ true
plain_from [] a h f = absurd (omega arith)
plain_from (c ∷ []) a h f = (and_parts _ _ a).0
plain_from (c ∷ d ∷ ds) a h (inl e) = absurd (omega arith)
plain_from (c ∷ d ∷ ds) a h (inr m) = ap (λ t. not t && all_ascii_digits (c ∷ d ∷ ds)) (ne_eqb c 48 (omega arith)) ∙ a

first : (n : ℕ) → n < 2 ^ 64 → (length (decimal n) ≡ 1) ⊎ (48 < get_or (decimal n) 0 0)
first zero h = inl (ap length (decimal_digit 0 (omega arith)))
first (suc n) h = inr (first_decimal (suc n) (omega arith) h)

plain_decimal : (n : ℕ) → n < 2 ^ 64 → plain (decimal n) ≡ true
plain_decimal n h = plain_from (decimal n) (digits_decimal own n h) (decimal_nonempty n h) (first n h)

no_minus : (c : ℕ) → is_ascii_digit c ≡ true → eqb c 45 ≡ false
no_minus c h = ne_eqb c 45 (λ e. true≢false (sym h ∙ ap is_ascii_digit e))

-- a word of digits has no sign
no_sign : (ds : List ℕ) → plain ds ≡ true → signed_word ds ≡ unsigned_word ds
no_sign [] h = absurd (true≢false (sym h))
no_sign (c ∷ []) h = ap (λ t. cond t (minus_word []) (unsigned_word (c ∷ []))) (no_minus c h)
no_sign (c ∷ d ∷ ds) h = ap (λ t. cond t (minus_word (d ∷ ds)) (unsigned_word (c ∷ d ∷ ds))) (no_minus c (and_parts _ _ (and_parts _ _ h).1).0)

unsigned_written : (n : ℕ) → n < 2 ^ 64 → unsigned_word (decimal n) ≡ Some (pos n)
unsigned_written n h = ap (λ t. cond t (Some (pos (value_after 0 (decimal n)))) None) (plain_decimal n h) ∙ ap (λ m. Some (pos m)) (digits_value-decimal own n h)

minus_written : (n : ℕ) → 0 < n → n < 2 ^ 64 → minus_word (decimal n) ≡ Some (neg_ℤ (pos n))
minus_written n some h =
    let v = digits_value-decimal own n h in
    (λ i. cond (plain_decimal n h i && not (ne_eqb (value_after 0 (decimal n)) 0 (omega arith) i)) (Some (neg_ℤ (pos (value_after 0 (decimal n))))) None)
    ∙ ap (λ m. Some (neg_ℤ (pos m))) v

signed_written : (z : ℤ) → mag z < 2 ^ 31 → signed_word (signed_decimal z) ≡ Some z
signed_written (pos n) f = let h : n < 2 ^ 64 = omega arith in no_sign (decimal n) (plain_decimal n h) ∙ unsigned_written n h
signed_written (negsuc n) f = minus_written (suc n) (omega arith) (omega arith)

from_to_written : (low end : ℕ) (z : ℤ) → mag z < 2 ^ 31 → from_to low end z ≡ true → unsigned_word (signed_decimal z) ≡ Some z
from_to_written low end (pos v) m h = unsigned_written v (omega arith)
from_to_written low end (negsuc v) m h = absurd (false≢true h)

shape_written : (n : ℕ) → n ≤ most_blocks → (k : Kind) (z : ℤ) → within n k z ≡ true → shape k (spell k z) ≡ Some z
shape_written n b RegisterWord z h = from_to_written 0 registers z (within_small n b RegisterWord z h) h
shape_written n b SlotWord z h = from_to_written 0 registers z (within_small n b SlotWord z h) h
shape_written n b NumberWord z h = signed_written z (within_small n b NumberWord z h)
shape_written n b BlockWord z h = from_to_written 0 n z (within_small n b BlockWord z h) h
shape_written n b SizeWord z h = from_to_written 1 (most_blocks + 1) z (within_small n b SizeWord z h) h
shape_written n b CountWord z h = from_to_written 0 (most_middles + 1) z (within_small n b CountWord z h) h

pub operand_written : (n : ℕ) → n ≤ most_blocks → (k : Kind) (z : ℤ) → within n k z ≡ true → operand n k (spell k z) ≡ Ok z
operand_written n b k z h = ap (checked (within n k)) (shape_written n b k z h) ∙ cond-true (within n k z) (Ok z) (Err Range) h

-- ---- what is read is what is written

plain_digits : (ds : List ℕ) → plain ds ≡ true → all_ascii_digits ds ≡ true
plain_digits [] h = refl
plain_digits (c ∷ []) h = ap (λ t. t && true) h
plain_digits (c ∷ d ∷ ds) h = (and_parts _ _ h).1

plain_some : (ds : List ℕ) → plain ds ≡ true → 0 < length ds
plain_some [] h = absurd (false≢true h)
plain_some (c ∷ ds) h = omega arith

plain_first : (ds : List ℕ) → plain ds ≡ true → get_or ds 0 0 ≡ 48 → length ds ≡ 1
plain_first [] h e = absurd (false≢true h)
plain_first (c ∷ []) h e = refl
plain_first (c ∷ d ∷ ds) h e = absurd (eqb-false c 48 (not-true _ (and_parts _ _ h).0) e)

plain_is : (ds : List ℕ) → plain ds ≡ true → value_after 0 ds < 2 ^ 64 → decimal (value_after 0 ds) ≡ ds
plain_is ds h s = decimal-digits_value own ds (plain_digits ds h) (plain_some ds h) (plain_first ds h) s

-- a test that was passed
pub some_when : {A : Type 0} (b : Bool) (o : Option A) (y : A) → cond b o None ≡ Some y → (b ≡ true) × (o ≡ Some y)
some_when true o y e = (refl, e)
some_when false o y e = absurd (cc)

unsigned_is : (w : List ℕ) (z : ℤ) → mag z < 2 ^ 31 → unsigned_word w ≡ Some z → w ≡ signed_decimal z
unsigned_is w z m e =
    let two = cond_some (plain w) (pos (value_after 0 w)) z e in
    sym (plain_is w two.0 (omega (arith, ap mag two.1))) ∙ ap signed_decimal two.1

lettered_is : (c : ℕ) (w : List ℕ) (z : ℤ) → mag z < 2 ^ 31 → lettered_word c w ≡ Some z → w ≡ c ∷ signed_decimal z
lettered_is c [] z m e = absurd (cc)
lettered_is c (d ∷ ds) z m e =
    let two = some_when (eqb d c) (unsigned_word ds) z e in
    λ i. eqb-true d c two.0 i ∷ unsigned_is ds z m two.1 i

signed_minus : (m : ℕ) → (m ≡ 0 → ⊥) → signed_decimal (neg_ℤ (pos m)) ≡ 45 ∷ decimal m
signed_minus zero h = absurd (h refl)
signed_minus (suc m) h = refl

mag_minus : (m : ℕ) → m ≤ suc (mag (neg_ℤ (pos m)))
mag_minus zero = omega arith
mag_minus (suc m) = omega arith

minus_is : (ds : List ℕ) (z : ℤ) → mag z < 2 ^ 31 → minus_word ds ≡ Some z → 45 ∷ ds ≡ signed_decimal z
minus_is ds z m e =
    let two = cond_some (plain ds && not (eqb (value_after 0 ds) 0)) (neg_ℤ (pos (value_after 0 ds))) z e in
    let tests = and_parts _ _ two.0 in
    let small : value_after 0 ds < 2 ^ 64 = omega (arith, mag_minus (value_after 0 ds), ap mag two.1) in
    sym (ap (λ l. 45 ∷ l) (plain_is ds tests.0 small)) ∙ sym (signed_minus (value_after 0 ds) (eqb-false _ _ (not-true _ tests.1))) ∙ ap signed_decimal two.1

signed_is_by : (c : ℕ) (ds : List ℕ) (z : ℤ) (b : Bool) → (b ≡ true → c ≡ 45) → mag z < 2 ^ 31 → cond b (minus_word ds) (unsigned_word (c ∷ ds)) ≡ Some z → c ∷ ds ≡ signed_decimal z
signed_is_by c ds z true h m e = ap (λ d. d ∷ ds) (h refl) ∙ minus_is ds z m e
signed_is_by c ds z false h m e = unsigned_is (c ∷ ds) z m e

signed_is : (w : List ℕ) (z : ℤ) → mag z < 2 ^ 31 → signed_word w ≡ Some z → w ≡ signed_decimal z
signed_is [] z m e = absurd (cc)
signed_is (c ∷ ds) z m e = signed_is_by c ds z (eqb c 45) (eqb-true c 45) m e

shape_is : (k : Kind) (w : List ℕ) (z : ℤ) → mag z < 2 ^ 31 → shape k w ≡ Some z → w ≡ spell k z
shape_is RegisterWord w z m e = lettered_is 114 w z m e
shape_is SlotWord w z m e = unsigned_is w z m e
shape_is NumberWord w z m e = signed_is w z m e
shape_is BlockWord w z m e = lettered_is 98 w z m e
shape_is SizeWord w z m e = unsigned_is w z m e
shape_is CountWord w z m e = unsigned_is w z m e

ok_if : (b : Bool) (x y : ℤ) → cond b (Ok x) (Err Range) ≡ Ok y → (b ≡ true) × (x ≡ y)
ok_if true x y e = (refl, cc)
ok_if false x y e = absurd (cc)

ranged_is : (n : ℕ) (k : Kind) (o : Option ℤ) (z : ℤ) → checked (within n k) o ≡ Ok z → (o ≡ Some z) × (within n k z ≡ true)
ranged_is n k None z e = absurd (cc)
ranged_is n k (Some y) z e = let two = ok_if (within n k y) y z e in (ap Some two.1, sym (ap (within n k) two.1) ∙ two.0)

pub operand_is : (n : ℕ) → n ≤ most_blocks → (k : Kind) (w : List ℕ) (z : ℤ) → operand n k w ≡ Ok z → (w ≡ spell k z) × (within n k z ≡ true)
operand_is n b k w z e = let two = ranged_is n k (shape k w) z e in (shape_is k w z (within_small n b k z two.1) two.0, two.1)

-- an operand has 32 bits
pub operand_fits : (n : ℕ) → n ≤ most_middles + 1 → (k : Kind) (w : List ℕ) (z : ℤ) → Ok z ≡ operand n k w → SFits w32 z
operand_fits n b k w z e = record { sfits = within_fits n b k z (ranged_is n k (shape k w) z (sym e)).1 }

-- ---- no space and no line feed stands in an operand

digit_from : (d : ℕ) → is_ascii_digit d ≡ true → 48 ≤ d
digit_from d h = leb-true 48 d (and_parts _ _ h).0

apart : (x c : ℕ) → (x ≡ c → ⊥) → not (eqb x c) ≡ true
apart x c h = not_from_false _ (ne_eqb x c h)

lacks_digits : (c : ℕ) → c < 45 → (ds : List ℕ) → all_ascii_digits ds ≡ true → lacks c ds ≡ true
lacks_digits c b [] h = refl
lacks_digits c b (d ∷ ds) h =
    let two = and_parts _ _ h in
    and_from _ _ (apart d c (λ e. omega (arith, digit_from d two.0))) (lacks_digits c b ds two.1)

pub lacks_decimal : (c : ℕ) → c < 45 → (n : ℕ) → n < 2 ^ 64 → lacks c (decimal n) ≡ true
lacks_decimal c b n h = lacks_digits c b (decimal n) (digits_decimal own n h)

lacks_signed : (c : ℕ) → c < 45 → (z : ℤ) → mag z < 2 ^ 31 → lacks c (signed_decimal z) ≡ true
lacks_signed c b (pos n) h = lacks_decimal c b n (omega arith)
lacks_signed c b (negsuc n) h = and_from _ _ (apart 45 c (λ e. omega arith)) (lacks_decimal c b (suc n) (omega arith))

pub lacks_spell : (c : ℕ) → c < 45 → (k : Kind) (z : ℤ) → mag z < 2 ^ 31 → lacks c (spell k z) ≡ true
lacks_spell c b RegisterWord z m = and_from _ _ (apart 114 c (λ e. omega arith)) (lacks_signed c b z m)
lacks_spell c b SlotWord z m = lacks_signed c b z m
lacks_spell c b NumberWord z m = lacks_signed c b z m
lacks_spell c b BlockWord z m = and_from _ _ (apart 98 c (λ e. omega arith)) (lacks_signed c b z m)
lacks_spell c b SizeWord z m = lacks_signed c b z m
lacks_spell c b CountWord z m = lacks_signed c b z m

-- ---- the length of an operand

abbrev pub room : Kind → ℕ
room RegisterWord = 3
room SlotWord = 2
room NumberWord = 11
room BlockWord = 3
room SizeWord = 2
room CountWord = 3

short : (k low end : ℕ) (z : ℤ) → 0 < k → end ≤ 10 ^ k → end ≤ most_middles + 1 → from_to low end z ≡ true → length (signed_decimal z) ≤ k
short k low end (pos v) p h s e = let u = from_to_pos low end (pos v) e in let w = ltb-true v end (and_parts _ _ e).1 in length-decimal-le k v p (omega arith) (omega arith)
short k low end (negsuc v) p h s e = absurd (false≢true e)

short32 : (z : ℤ) → word32 z ≡ true → length (signed_decimal z) ≤ 11
short32 (pos v) e = let w = ltb-true v (2 ^ 31) e in omega (arith, length-decimal-le 10 v (omega arith) (omega arith) (omega arith))
short32 (negsuc v) e = let w = ltb-true v (2 ^ 31) e in omega (arith, length-decimal-le 10 (suc v) (omega arith) (omega arith) (omega arith))

pub spell_short : (n : ℕ) → n ≤ most_blocks → (k : Kind) (z : ℤ) → within n k z ≡ true → length (spell k z) ≤ room k
spell_short n b RegisterWord z h = omega (arith, short 2 0 registers z (omega arith) (omega arith) (omega arith) h)
spell_short n b SlotWord z h = short 2 0 registers z (omega arith) (omega arith) (omega arith) h
spell_short n b NumberWord z h = short32 z h
spell_short n b BlockWord z h = omega (arith, short 2 0 n z (omega arith) (omega arith) (omega arith) h)
spell_short n b SizeWord z h = short 2 1 (most_blocks + 1) z (omega arith) (omega arith) (omega arith) h
spell_short n b CountWord z h = short 3 0 (most_middles + 1) z (omega arith) (omega arith) (omega arith) h
