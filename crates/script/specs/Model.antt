-- Which list of blocks a stored script is.
--
--   blocks_from ms from bs   the blocks whose ends are bs, with their middle nodes out of ms, from place `from` on
--   program_of s             the blocks of the script s
--   unused                   the middle node `put r0`, in places of a row that no node has taken
--   blank                    the script `end r0`
--   found p i                block i of p, if there is one
--   begin_at from bs i       where the middle nodes of block i begin
--   middle_count p           how many middle nodes all blocks have together
use Rattle.std.specs.Prelude.{ℕ, zero, suc, ◌+◌, ◌-◌, List, [], ◌∷◌, length, take, drop, Some, None, vec_items, Option}
use Rattle.std.proofs.Common.{lit<}
use Rattle.script.specs.declared.node.Middle.{Middle}
use Rattle.script.specs.declared.node.Middle.TheVariants.{Put}
use Rattle.script.specs.declared.block.BlockEnd.{BlockEnd}
use Rattle.script.specs.declared.store.Script.{Script}
use Rattle.script.specs.Run.{Block, Program, end_r0}

abbrev pub blocks_from : List Middle → ℕ → List BlockEnd → Program
blocks_from ms from [] = []
blocks_from ms from (b ∷ bs) = (take (b.end - from) (drop from ms), b.last) ∷ blocks_from ms b.end bs

abbrev pub program_of : Script → Program
program_of s = blocks_from (vec_items s.middles) 0 (vec_items s.blocks)

abbrev pub unused : Middle
unused = Put (record { index = 0; ok = lit< tt })

abbrev pub blank : Program
blank = ([], end_r0) ∷ []

-- its block, as it is stored
abbrev pub blank_end : BlockEnd
blank_end = record { end = 0; last = end_r0 }

abbrev pub found : Program → ℕ → Option Block
found [] i = None
found (b ∷ bs) zero = Some b
found (b ∷ bs) (suc i) = found bs i

abbrev pub begin_at : ℕ → List BlockEnd → ℕ → ℕ
begin_at from [] i = from
begin_at from (b ∷ bs) zero = from
begin_at from (b ∷ bs) (suc i) = begin_at b.end bs i

abbrev pub middle_count : Program → ℕ
middle_count [] = 0
middle_count (b ∷ bs) = length b.0 + middle_count bs
