-- Writing a piece into lent bytes, all or nothing.
use Rattle.std.specs.Prelude.{◌≡◌, ℕ, ◌+◌, ◌<◌, ◌≤◌, List, ◌++◌, length, take, drop, Some, None, Option}

-- Placed r old at piece new: where the piece fits into old from place `at` on, it stands there in new, every other byte
-- is as it was, and r is the place after it; where it does not, r is none and every byte is as it was.
abbrev pub Placed : Option ℕ → List ℕ → ℕ → List ℕ → List ℕ → Type 0
Placed (Some end) old at piece new =
    (end ≡ at + length piece) × (end ≤ length old) × (new ≡ take at old ++ (piece ++ drop end old))
Placed None old at piece new = (length old < at + length piece) × (new ≡ old)
