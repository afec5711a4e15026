-- The text of a script, line by line.
--
--   middle_text m, last_text l    the line of a node, without line feed
--   header_text n                 the first line, of a script of n blocks
--   count_text i k                the contents line of block i, with k middle nodes
--   line l rest                   the line l, a line feed, and what follows
--   counts p                      how many middle nodes each block of p has
--   text p                        the whole text
-- The texts of several lines take what follows them as their last argument.
use Rattle.std.specs.Prelude.{ℕ, suc, List, [], ◌∷◌, ◌++◌, length, pos}
use Rattle.script.specs.Run.{Program}
use Rattle.script.specs.declared.node.Last.{Last}
use Rattle.script.specs.declared.node.Last.TheVariants.{Go, If, End}
use Rattle.script.specs.declared.node.Middle.{Middle}
use Rattle.script.specs.declared.node.Middle.TheVariants.{Set, Mov, Compute, Get, Put}
use Rattle.words.specs.Forms.{header_row, contents_row, set_row, mov_row, compute_row, get_row, put_row, go_row, if_row, end_row, row_text}

abbrev pub middle_text : Middle → List ℕ
middle_text (Set to value) = row_text set_row (pos to.index ∷ value ∷ [])
middle_text (Mov to from) = row_text mov_row (pos to.index ∷ pos from.index ∷ [])
middle_text (Compute operation to left right) =
    row_text (compute_row operation) (pos to.index ∷ pos left.index ∷ pos right.index ∷ [])
middle_text (Get to slot) = row_text get_row (pos to.index ∷ pos slot.index ∷ [])
middle_text (Put from) = row_text put_row (pos from.index ∷ [])

abbrev pub last_text : Last → List ℕ
last_text (Go target) = row_text go_row (pos target ∷ [])
last_text (If test then other) = row_text if_row (pos test.index ∷ pos then ∷ pos other ∷ [])
last_text (End from) = row_text end_row (pos from.index ∷ [])

abbrev pub header_text : ℕ → List ℕ
header_text n = row_text header_row (pos n ∷ [])

abbrev pub count_text : ℕ → ℕ → List ℕ
count_text i k = row_text (contents_row i) (pos k ∷ [])

abbrev pub line : List ℕ → List ℕ → List ℕ
line l rest = l ++ (10 ∷ rest)

-- the contents lines from block i on
abbrev pub counts_text : ℕ → List ℕ → List ℕ → List ℕ
counts_text i [] rest = rest
counts_text i (k ∷ ks) rest = line (count_text i k) (counts_text (suc i) ks rest)

abbrev pub middles_text : List Middle → List ℕ → List ℕ
middles_text [] rest = rest
middles_text (m ∷ ms) rest = line (middle_text m) (middles_text ms rest)

abbrev pub bodies_text : Program → List ℕ → List ℕ
bodies_text [] rest = rest
bodies_text (b ∷ bs) rest = middles_text b.0 (line (last_text b.1) (bodies_text bs rest))

abbrev pub counts : Program → List ℕ
counts [] = []
counts (b ∷ bs) = length b.0 ∷ counts bs

abbrev pub text : Program → List ℕ
text p = line (header_text (length p)) (counts_text 0 (counts p) (bodies_text p []))
