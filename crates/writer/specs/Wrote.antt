-- Writing a text piece by piece.
use Rattle.std.specs.Prelude.{◌≡◌, ◌+◌, ◌<◌, List, ◌++◌, length, Ok, Err, Result, ℕ}
use Rattle.script.specs.Limits.{most_bytes}

-- Wrote r old piece new: the page had old, and new is old and then the piece; or r is an error, since there is no room for
-- the piece. What new is then is open.
abbrev pub Wrote : {A E : Type 0} → Result A E → List ℕ → List ℕ → List ℕ → Type 0
Wrote (Ok done) old piece new = new ≡ old ++ piece
Wrote (Err full) old piece new = most_bytes < length old + length piece
