-- The numbers of a text, of any size, in base ten.
--
--   plain ds            ds are digits, one at least, and no leading zero
--   value ds            the number that the digits write
--   unsigned_word w     the number of a word without a sign, if it is one
--   minus_word w        the number of what follows a minus sign, if it is one; there is no -0
--   signed_word w       the number of a word with or without a minus sign, if it is one
--   lettered_word c w   the number that follows the letter c, if w is that letter and a number
use Rattle.std.specs.Prelude.{ℕ, ◌+◌, ◌-◌, ◌*◌, Bool, false, cond, not, ◌&&◌, List, [], ◌∷◌, ℤ, pos, neg_ℤ, Some, None, Option, ◌==◌}
use Rattle.std.specs.Char.{is_ascii_digit}
use Rattle.std.specs.Str.{all_ascii_digits}

abbrev pub plain : List ℕ → Bool
plain [] = false
plain (c ∷ []) = is_ascii_digit c
plain (c ∷ d ∷ ds) = not (c == 48) && all_ascii_digits (c ∷ d ∷ ds)

-- the number that the digits write after those of n; 48 is the digit 0
abbrev pub value_after : ℕ → List ℕ → ℕ
value_after n [] = n
value_after n (c ∷ cs) = value_after (n * 10 + (c - 48)) cs

abbrev pub value : List ℕ → ℕ
value ds = value_after 0 ds

abbrev pub unsigned_word : List ℕ → Option ℤ
unsigned_word w = cond (plain w) (Some (pos (value w))) None

abbrev pub minus_word : List ℕ → Option ℤ
minus_word w = cond (plain w && not (value w == 0)) (Some (neg_ℤ (pos (value w)))) None

-- 45 is the minus sign
abbrev pub signed_word : List ℕ → Option ℤ
signed_word [] = None
signed_word (c ∷ ds) = cond (c == 45) (minus_word ds) (unsigned_word (c ∷ ds))

abbrev pub lettered_word : ℕ → List ℕ → Option ℤ
lettered_word c [] = None
lettered_word c (d ∷ ds) = cond (d == c) (unsigned_word ds) None
