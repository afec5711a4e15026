-- Rows with one element for each register, for facts that say something of every register.
--
--   row f       the row that has f i at place i
--   some p n    whether the test p passes at some place below n
--   every p n   whether it passes at every place below n
use Rattle.std.specs.Prelude.{ℕ, zero, suc, Bool, true, false, ◌&&◌, ◌||◌, List, map}
use Rattle.std.specs.List.{range_with_len}
use Rattle.script.specs.Limits.{registers}

unfoldable pub row : {X : Type 0} → (ℕ → X) → List X
row f = map f (range_with_len 0 registers)

unfoldable pub some : (ℕ → Bool) → ℕ → Bool
some p zero = false
some p (suc n) = p n || some p n

unfoldable pub every : (ℕ → Bool) → ℕ → Bool
every p zero = true
every p (suc n) = p n && every p n
