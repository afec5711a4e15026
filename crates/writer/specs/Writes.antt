-- What `write` does with the bytes that it is lent.
use Rattle.std.specs.Prelude.{◌≡◌, ℕ, ◌<◌, ◌≤◌, List, ◌++◌, length, drop, Some, None, Option}

-- Writes r t old new: where the text t fits into old, it stands at the beginning of new, the bytes past it are as they
-- were, and r is its length; where it does not, r is none and every byte is as it was.
abbrev pub Writes : Option ℕ → List ℕ → List ℕ → List ℕ → Type 0
Writes (Some n) t old new = (n ≡ length t) × (n ≤ length old) × (new ≡ t ++ drop n old)
Writes None t old new = (length old < length t) × (new ≡ old)
