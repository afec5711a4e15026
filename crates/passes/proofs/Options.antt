-- Numbers and sources that may be missing: what they are as a flag with a value beside it, and what joining keeps of them.
use Rattle.std.specs.Prelude.{◌≡◌, ℕ, ◌<◌, Bool, true, false, cond, ℤ, pos, is_some, Some, None, Option, FitsSigned, nat_eq, refl}
use Rattle.std.specs.Int.{w32}
use Rattle.std.specs.Option.{unwrap_or}
use Rattle.std.proofs.Common.{sym}
use Rattle.std.proofs.lemmas.Bool.{both_ways}
use Rattle.script.specs.Arithmetic.{same}
use Rattle.script.specs.Limits.{registers}
use Rattle.passes.specs.declared.constants.Numbers.{Numbers}
use Rattle.passes.specs.Shared.{both}
use Rattle.passes.specs.SharedLaws.{both_keeps}
use Rattle.passes.specs.Constants.{FitsIf, Valid, known_as}
use Rattle.passes.specs.ConstantsLaws.{zero_fits}
use Rattle.passes.specs.Sources.{fine}

-- ---- a number that may be missing, as a flag and a number

pub put_together : (o : Option ℤ) → cond (is_some o) (Some (unwrap_or o (pos 0))) None ≡ o
put_together None = refl
put_together (Some k) = refl

pub flag_is : (b : Bool) (n : ℤ) → is_some (cond b (Some n) None) ≡ b
flag_is true n = refl
flag_is false n = refl

pub number_is : (b : Bool) (n : ℤ) → (b ≡ false → n ≡ pos 0) → unwrap_or (cond b (Some n) None) (pos 0) ≡ n
number_is true n h = refl
number_is false n h = sym (h refl)

pub value_fits : (o : Option ℤ) → FitsIf o → FitsSigned w32 (unwrap_or o (pos 0))
value_fits None f = zero_fits
value_fits (Some k) f = f

pub value_blank : (o : Option ℤ) → is_some o ≡ false → unwrap_or o (pos 0) ≡ pos 0
value_blank None e = refl
value_blank (Some k) e = absurd (both_ways true e refl)

pub known_fits : (f : Numbers) → Valid f → (i : ℕ) → i < registers → FitsIf (known_as f i)
known_fits f v = v.fits

-- ---- what both have

pub shared_fits : (a b : Option ℤ) → FitsIf a → FitsIf (both same a b)
shared_fits = both_keeps same FitsIf tt

pub both_fine : (i : ℕ) (a b : Option ℕ) → fine i a ≡ true → fine i (both nat_eq a b) ≡ true
both_fine i = both_keeps nat_eq (λ o. fine i o ≡ true) refl
