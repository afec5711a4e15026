-- When two rows, of middle nodes and of block ends, are a script.
--
--   below n l            the blocks that the last node l names are among the first n
--   ends_at from bs end  the blocks bs lie one after the other from `from` on, and the last of them ends at `end`
--   all_below n bs       each last node of bs names only blocks among the first n
use Rattle.std.specs.Prelude.{ℕ, Bool, true, ◌&&◌, List, [], ◌∷◌, ◌==◌, nat_le, nat_lt}
use Rattle.script.specs.declared.node.Last.{Last}
use Rattle.script.specs.declared.node.Last.TheVariants.{Go, If, End}
use Rattle.script.specs.declared.block.BlockEnd.{BlockEnd}

abbrev pub below : ℕ → Last → Bool
below n (Go target) = nat_lt target n
below n (If test then other) = nat_lt then n && nat_lt other n
below n (End from) = true

abbrev pub ends_at : ℕ → List BlockEnd → ℕ → Bool
ends_at from [] end = from == end
ends_at from (b ∷ bs) end = nat_le from b.end && ends_at b.end bs end

abbrev pub all_below : ℕ → List BlockEnd → Bool
all_below n [] = true
all_below n (b ∷ bs) = below n b.last && all_below n bs
