use Rattle.std.proofs.Common.{◌≡◌, ◌^◌, min, true, take}
use Rattle.std.specs.Str.{all_ascii_digits}
use Rattle.words.specs.Numbers.{value_after}
use Rattle.words.proofs.number.scan.Given as goal

abbrev pub invariant-loop-d : goal.invariant-loop-d
invariant-loop-d l = (all_ascii_digits (take l.d-index l.digits) ≡ true) × (l.n ≡ min (value_after 0 (take l.d-index l.digits)) (2 ^ 32))
