-- The first line says how many blocks there are, one at least and not too many.
use Rattle.std.proofs.Common.{◌≡◌, ℕ, ◌+◌, ◌≤◌, true, List, [], ◌∷◌, ℤ, nat_abs, Ok, ap, arith}
use Rattle.script.specs.Limits.{most_blocks}
use Rattle.words.specs.Forms.{header_row}
use Rattle.words.specs.Words.{from_to}
use Rattle.words.proofs.Rows.{Fit}
use Rattle.words.proofs.Spelt.{from_to_pos}
use Rattle.reader.specs.declared.fault.Due.TheVariants.{Header}
use Rattle.reader.specs.Read.{Cursor, due}
use Rattle.reader.proofs.Dues.{due_is}

abbrev Sized : ℕ → List ℕ → Type 0
Sized n l = (1 ≤ n) × (n ≤ most_blocks)

sized : (z : ℤ) → from_to 1 (most_blocks + 1) z ≡ true → Sized (nat_abs z) []
sized z h = let q = from_to_pos 1 (most_blocks + 1) z h in (omega (arith, ap nat_abs q.1, q.2), omega (arith, ap nat_abs q.1, q.3))

size_at : (vs : List ℤ) → Fit 0 header_row.kinds vs → Sized (header_row.make vs) []
size_at [] f = absurd f
size_at (u ∷ vs) f = sized u f.0

pub header_range : (c : Cursor) (y : ℕ × Cursor) → due Header 0 (header_row ∷ []) c ≡ Ok y → (1 ≤ y.0) × (y.0 ≤ most_blocks)
header_range c y e = (due_is Header 0 (omega arith) Sized (header_row ∷ []) (λ b. (size_at, tt)) c y e).2
