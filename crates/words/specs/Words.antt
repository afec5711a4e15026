-- The words of a line: how one of each kind is read and written, and the operands of a line.
--
--   cut c l             what stands before the first byte c of l, and what follows it, if there is one
--   shape k w           the number of a word of kind k, if it has that form
--   within n k z        whether z is in range for the kind k, in a script of n blocks
--   spell k z           how the number z is written as a word of kind k
--   operand n k w       the number of a word of kind k, or its flaw
--   operands n ks rest  the numbers of words of kinds ks, from what follows the space after the word before them, if there
--                       is one; the wrong form of one goes before a number out of range in another
--   spaced ks zs        the words of kinds ks for the numbers zs, each after a space
use Rattle.std.specs.Prelude.{ℕ, ◌+◌, ◌^◌, Bool, false, cond, not, ◌&&◌, List, [], ◌∷◌, ◌++◌, ℤ, pos, negsuc, Some, None, Ok, Err, Option, Result, ◌==◌, nat_lt}
use Rattle.std.specs.Fmt.{signed_decimal}
use Rattle.script.specs.Limits.{registers, slots, most_blocks, most_middles}
use Rattle.words.specs.declared.flaw.Flaw.{Flaw}
use Rattle.words.specs.declared.flaw.Flaw.TheVariants.{Form, Range}
use Rattle.words.specs.declared.kind.Kind.{Kind}
use Rattle.words.specs.declared.kind.Kind.TheVariants.{RegisterWord, SlotWord, NumberWord, BlockWord, SizeWord, CountWord}
use Rattle.words.specs.Numbers.{unsigned_word, signed_word, lettered_word}

abbrev pub cut : ℕ → List ℕ → List ℕ × Option (List ℕ)
cut c [] = ([], None)
cut c (x ∷ xs) = cond (x == c) ([], Some xs) (x ∷ (cut c xs).0, (cut c xs).1)

-- ---- one word; 114 is the letter r, 98 the letter b

abbrev pub shape : Kind → List ℕ → Option ℤ
shape RegisterWord w = lettered_word 114 w
shape SlotWord w = unsigned_word w
shape NumberWord w = signed_word w
shape BlockWord w = lettered_word 98 w
shape SizeWord w = unsigned_word w
shape CountWord w = unsigned_word w

-- from low up to end, without end
abbrev pub between : ℕ → ℕ → ℕ → Bool
between low end v = not (nat_lt v low) && nat_lt v end

abbrev pub from_to : ℕ → ℕ → ℤ → Bool
from_to low end (pos v) = between low end v
from_to low end (negsuc v) = false

-- signed, of 32 bits; negsuc v is -(v + 1)
abbrev pub word32 : ℤ → Bool
word32 (pos v) = nat_lt v (2 ^ 31)
word32 (negsuc v) = nat_lt v (2 ^ 31)

abbrev pub within : ℕ → Kind → ℤ → Bool
within n RegisterWord = from_to 0 registers
within n SlotWord = from_to 0 slots
within n NumberWord = word32
within n BlockWord = from_to 0 n
within n SizeWord = from_to 1 (most_blocks + 1)
within n CountWord = from_to 0 (most_middles + 1)

abbrev pub spell : Kind → ℤ → List ℕ
spell RegisterWord z = 114 ∷ signed_decimal z
spell SlotWord z = signed_decimal z
spell NumberWord z = signed_decimal z
spell BlockWord z = 98 ∷ signed_decimal z
spell SizeWord z = signed_decimal z
spell CountWord z = signed_decimal z

abbrev pub checked : {A : Type 0} → (A → Bool) → Option A → Result A Flaw
checked test None = Err Form
checked test (Some z) = cond (test z) (Ok z) (Err Range)

abbrev pub operand : ℕ → Kind → List ℕ → Result ℤ Flaw
operand n k w = checked (within n k) (shape k w)

-- ---- the operands of a line; 32 is the space

abbrev pub worse : Flaw → Flaw → Flaw
worse Form g = Form
worse Range g = g

abbrev pub both : Result ℤ Flaw → Result (List ℤ) Flaw → Result (List ℤ) Flaw
both (Ok v) (Ok vs) = Ok (v ∷ vs)
both (Ok v) (Err g) = Err g
both (Err f) (Ok vs) = Err f
both (Err f) (Err g) = Err (worse f g)

abbrev pub operands : ℕ → List Kind → Option (List ℕ) → Result (List ℤ) Flaw
operands n [] None = Ok []
operands n [] (Some l) = Err Form
operands n (k ∷ ks) None = Err Form
operands n (k ∷ ks) (Some l) = both (operand n k (cut 32 l).0) (operands n ks (cut 32 l).1)

abbrev pub spaced : List Kind → List ℤ → List ℕ
spaced [] vs = []
spaced (k ∷ ks) [] = []
spaced (k ∷ ks) (v ∷ vs) = 32 ∷ (spell k v ++ spaced ks vs)
