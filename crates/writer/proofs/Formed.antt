-- What always holds of a script, said of its list of blocks.
use Rattle.std.proofs.Common.{◌≡◌, ℕ, ◌<◌, ◌≤◌, true, List, [], ◌∷◌, length, vec_items, sym, subst, arith}
use Rattle.std.proofs.lemmas.Bool.{ltb-true, and_parts}
use Rattle.std.specs.List.{AllByRecursion}
use Rattle.script.specs.Limits.{most_blocks, most_middles}
use Rattle.script.specs.Model.{blocks_from, program_of, middle_count}
use Rattle.script.specs.Run.{Block, Program, Fits}
use Rattle.script.specs.Shape.{below, all_below}
use Rattle.script.specs.declared.block.BlockEnd.{BlockEnd}
use Rattle.script.specs.declared.node.Last.{Last}
use Rattle.script.specs.declared.node.Last.TheVariants.{Go, If, End}
use Rattle.script.specs.declared.node.Middle.{Middle}
use Rattle.script.specs.declared.store.Script.{Script}
use Rattle.script.proofs.Stored.{blocks_many, middles_counted}

-- the blocks that a last node names are among the n
abbrev pub Below : ℕ → Last → Type 0
Below n (Go target) = target < n
Below n (If test then other) = (then < n) × (other < n)
Below n (End from) = Unit {0}

abbrev pub EachBelow : ℕ → Program → Type 0
EachBelow n = AllByRecursion (λ (b : Block). Below n b.1)

pub record WellFormed (p : Program) : Type 0 where
  pub some : 1 ≤ length p
  pub few : length p ≤ most_blocks
  pub small : middle_count p ≤ most_middles
  pub targets : EachBelow (length p) p
  pub numbers : Fits p

below_from : (n : ℕ) (l : Last) → below n l ≡ true → Below n l
below_from n (Go t) h = ltb-true t n h
below_from n (If x t u) h = let two = and_parts _ _ h in (ltb-true t n two.0, ltb-true u n two.1)
below_from n (End x) h = tt

each_below : (n : ℕ) (ms : List Middle) (from : ℕ) (bs : List BlockEnd) → all_below n bs ≡ true → EachBelow n (blocks_from ms from bs)
each_below n ms from [] w = tt
each_below n ms from (b ∷ bs) w = let two = and_parts _ _ w in (below_from n b.last two.0, each_below n ms b.end bs two.1)

pub few_blocks : (s : Script) → length (program_of s) ≤ most_blocks
few_blocks s = omega (arith, blocks_many (vec_items s.middles) 0 (vec_items s.blocks), s.few)

pub few_middles : (s : Script) → middle_count (program_of s) ≤ most_middles
few_middles s = omega (arith, middles_counted (vec_items s.middles) (vec_items s.blocks) s.ends, s.small)

pub formed : (s : Script) → Fits (program_of s) → WellFormed (program_of s)
formed s f =
    let ms = vec_items s.middles in
    let bs = vec_items s.blocks in
    let many = blocks_many ms 0 bs in
    record {
      some = omega (arith, many, s.some);
      few = few_blocks s;
      small = few_middles s;
      targets = subst (λ (n : ℕ). EachBelow n (program_of s)) (sym many) (each_below (length bs) ms 0 bs s.named);
      numbers = f;
    }
