-- What counts come to.
use Rattle.std.specs.Prelude.{ℕ, ◌+◌, List, [], ◌∷◌}

abbrev pub total : List ℕ → ℕ
total [] = 0
total (k ∷ ks) = k + total ks
