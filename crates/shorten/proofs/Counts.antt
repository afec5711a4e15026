-- The lines for the blocks that are left.
use Rattle.std.proofs.Common.{◌≡◌, ℕ, ◌+◌, ◌∷◌, ◌++◌, length, sym, ap, ◌∙◌, add-one}
use Rattle.script.specs.declared.blocks.Blocks.{Blocks}
use Rattle.script.specs.Model.{blocks_from}
use Rattle.script.specs.Run.{Block, Program}
use Rattle.shorten.specs.Reports.{count_line, counts_from}

-- what is left of the blocks of a script
abbrev pub blocks_left : Blocks → Program
blocks_left b = blocks_from b.middles.now b.from b.ends.now

pub counts_first : (i k n : ℕ) (p : Program) (b : Block) (rest : Program) → p ≡ b ∷ rest → k ≡ i → n ≡ i + 1
    → counts_from i p ≡ count_line k (length b.0) ++ counts_from n rest
counts_first i k n p b rest e is more =
    ap (counts_from i) e ∙ (λ j. count_line (sym is j) (length b.0) ++ counts_from ((sym (add-one i) ∙ sym more) j) rest)
