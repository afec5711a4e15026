-- Writing a piece onto a page of a fixed size, all or nothing.
use Rattle.std.specs.Prelude.{◌≡◌, ℕ, ◌+◌, ◌<◌, ◌≤◌, List, ◌++◌, length, Ok, Err, Result}

-- Pushed size r old piece new: where the piece fits behind old into so many bytes, r is Ok and new is old and then the
-- piece; where it does not, r is an error and new is old.
abbrev pub Pushed : {A E : Type 0} → ℕ → Result A E → List ℕ → List ℕ → List ℕ → Type 0
Pushed size (Ok done) old piece new = (length old + length piece ≤ size) × (new ≡ old ++ piece)
Pushed size (Err full) old piece new = (size < length old + length piece) × (new ≡ old)
