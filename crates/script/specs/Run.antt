-- What a run of a script is, and when two scripts run alike.
--
--   File              a register file: the number of each register; a filling of the slots is one too
--   Words f           every number of the file f is a signed one of 32 bits
--   zeros             the file with 0 in every register
--   step slots m f    the file after the middle node m
--   puts m f          the numbers that m puts out
--   through slots ms f    the numbers that ms put out in order, and the file after them
--   Place             where a run is: standing at a block, or ended with a result
--   leaves l f        where the last node l leads from the file f
--   Program           a script as a list of blocks, each its middle nodes and its last node
--   Fits p            every number that p sets is a signed one of 32 bits, as every number of the code is
--   hop p slots r     the run r after one hop more: a block's middle nodes in order, then its last node
--   run p slots h     the run of p after h hops, from block 0 with every register 0
--   Alike p q         p and q run alike
use Rattle.std.specs.Prelude.{◌≡◌, ℕ, zero, suc, cond, List, [], ◌∷◌, ◌++◌, ℤ, pos, FitsSigned, ◌==◌}
use Rattle.std.proofs.Common.{lit<}
use Rattle.std.specs.Int.{w32}
use Rattle.std.specs.List.{AllByRecursion}
use Rattle.script.specs.declared.node.Middle.{Middle}
use Rattle.script.specs.declared.node.Middle.TheVariants.{Set, Mov, Compute, Get, Put}
use Rattle.script.specs.declared.node.Last.{Last}
use Rattle.script.specs.declared.node.Last.TheVariants.{Go, If, End}
use Rattle.script.specs.Arithmetic.{computed, same}

abbrev pub File : Type 0
File = ℕ → ℤ

abbrev pub Words : File → Type 0
Words f = (i : ℕ) → FitsSigned w32 (f i)

abbrev pub zeros : File
zeros = λ r. pos 0

abbrev pub with_register : File → ℕ → ℤ → File
with_register f d v = λ r. cond (r == d) v (f r)

abbrev pub step : File → Middle → File → File
step slots (Set to value) f = with_register f to.index value
step slots (Mov to from) f = with_register f to.index (f from.index)
step slots (Compute operation to left right) f =
    with_register f to.index (computed operation (f left.index) (f right.index))
step slots (Get to slot) f = with_register f to.index (slots slot.index)
step slots (Put from) f = f

abbrev pub puts : Middle → File → List ℤ
puts (Set to value) f = []
puts (Mov to from) f = []
puts (Compute operation to left right) f = []
puts (Get to slot) f = []
puts (Put from) f = f from.index ∷ []

abbrev pub through : File → List Middle → File → List ℤ × File
through slots [] f = ([], f)
through slots (m ∷ ms) f =
    (puts m f ++ (through slots ms (step slots m f)).0, (through slots ms (step slots m f)).1)

pub data Place : Type 0 where
  standing : ℕ → Place
  ended : ℤ → Place

abbrev pub leaves : Last → File → Place
leaves (Go target) f = standing target
leaves (If test then other) f = cond (same (f test.index) (pos 0)) (standing other) (standing then)
leaves (End from) f = ended (f from.index)

abbrev pub Block : Type 0
Block = List Middle × Last

abbrev pub Program : Type 0
Program = List Block

-- the number that a node sets is a signed one of 32 bits
abbrev pub Fit : Middle → Type 0
Fit (Set to value) = FitsSigned w32 value
Fit (Mov to from) = Unit {0}
Fit (Compute operation to left right) = Unit {0}
Fit (Get to slot) = Unit {0}
Fit (Put from) = Unit {0}

abbrev pub Fits : Program → Type 0
Fits p = AllByRecursion (λ (k : Block). AllByRecursion Fit k.0) p

-- `end r0`, the last node of a blank script
abbrev pub end_r0 : Last
end_r0 = End (record { index = 0; ok = lit< tt })

-- block b; past the last one stands a block that ends at once, which no run of a script comes to
abbrev pub block_at : Program → ℕ → Block
block_at [] b = ([], end_r0)
block_at (k ∷ ks) zero = k
block_at (k ∷ ks) (suc b) = block_at ks b

pub record Run : Type 0 where
  pub put : List ℤ
  pub place : Place
  pub file : File

abbrev pub hop_from : Place → Program → File → Run → Run
hop_from (standing b) p slots r =
    record {
      put = r.put ++ (through slots (block_at p b).0 r.file).0;
      place = leaves (block_at p b).1 (through slots (block_at p b).0 r.file).1;
      file = (through slots (block_at p b).0 r.file).1;
    }
hop_from (ended x) p slots r = r

abbrev pub hop : Program → File → Run → Run
hop p slots r = hop_from r.place p slots r

abbrev pub run : Program → File → ℕ → Run
run p slots zero = record { put = []; place = standing 0; file = zeros }
run p slots (suc h) = hop p slots (run p slots h)

-- For every filling of the slots, and after every number of hops, both have put the same numbers, and both stand at
-- the same block or have ended with the same result.
pub record Alike (p q : Program) : Type 0 where
  pub put : (slots : File) → Words slots → (h : ℕ) → (run p slots h).put ≡ (run q slots h).put
  pub place : (slots : File) → Words slots → (h : ℕ) → (run p slots h).place ≡ (run q slots h).place
