-- What stands at a block of a stored script, and how many blocks and middle nodes there are.
use Rattle.std.proofs.Common.{◌≡◌, ℕ, zero, suc, ◌+◌, ◌-◌, ◌<◌, ◌≤◌, true, leb, List, [], ◌∷◌, length, get_or, take, drop, Some, None, sym, refl, ap, ◌∙◌, arith, length-drop, length-take}
use Rattle.std.proofs.lemmas.Bool.{leb-true, eqb-true, and_parts}
use Rattle.script.specs.declared.node.Middle.{Middle}
use Rattle.script.specs.declared.block.BlockEnd.{BlockEnd}
use Rattle.script.specs.Shape.{ends_at}
use Rattle.script.specs.Model.{blocks_from, found, begin_at, middle_count}

pub ends_up : (from : ℕ) (bs : List BlockEnd) (end : ℕ) → ends_at from bs end ≡ true → from ≤ end
ends_up from [] end e = omega (arith, eqb-true from end e)
ends_up from (b ∷ bs) end e =
    let two = and_parts (leb from b.end) (ends_at b.end bs end) e in
    omega (arith, leb-true from b.end two.0, ends_up b.end bs end two.1)

pub begin_first : (from : ℕ) (bs : List BlockEnd) → begin_at from bs 0 ≡ from
begin_first from [] = refl
begin_first from (b ∷ bs) = refl

-- the next block begins where this one ends
pub begin_next : (from : ℕ) (bs : List BlockEnd) (i : ℕ) (x : BlockEnd) → i < length bs → x ≡ get_or bs i x → x.end ≡ begin_at from bs (suc i)
begin_next from [] i x h e = absurd (omega arith)
begin_next from (b ∷ bs) zero x h e = ap (λ y. y.end) e ∙ sym (begin_first b.end bs)
begin_next from (b ∷ bs) (suc i) x h e = begin_next b.end bs i x (omega arith) e

-- a block ends no earlier than it begins, and no later than the row of middle nodes
pub bounds : (from : ℕ) (bs : List BlockEnd) (end i : ℕ) (x : BlockEnd) → ends_at from bs end ≡ true → i < length bs → x ≡ get_or bs i x
    → (begin_at from bs i ≤ x.end) × (x.end ≤ end)
bounds from [] end i x t h e = absurd (omega arith)
bounds from (b ∷ bs) end zero x t h e =
    let two = and_parts (leb from b.end) (ends_at b.end bs end) t in
    let same = ap (λ y. y.end) e in
    (omega (arith, leb-true from b.end two.0), omega (arith, ends_up b.end bs end two.1))
bounds from (b ∷ bs) end (suc i) x t h e = bounds b.end bs end i x (and_parts _ _ t).1 (omega arith) e

pub found_at : (ms : List Middle) (from : ℕ) (bs : List BlockEnd) (i : ℕ) (x : BlockEnd) → i < length bs → x ≡ get_or bs i x
    → found (blocks_from ms from bs) i ≡ Some (take (x.end - begin_at from bs i) (drop (begin_at from bs i) ms), x.last)
found_at ms from [] i x h e = absurd (omega arith)
found_at ms from (b ∷ bs) zero x h e = ap (λ y. Some (take (y.end - from) (drop from ms), y.last)) (sym e)
found_at ms from (b ∷ bs) (suc i) x h e = found_at ms b.end bs i x (omega arith) e

pub missing_at : (ms : List Middle) (from : ℕ) (bs : List BlockEnd) (i : ℕ) → length bs ≤ i → found (blocks_from ms from bs) i ≡ None
missing_at ms from [] i h = refl
missing_at ms from (b ∷ bs) zero h = absurd (omega arith)
missing_at ms from (b ∷ bs) (suc i) h = missing_at ms b.end bs i (omega arith)

pub blocks_many : (ms : List Middle) (from : ℕ) (bs : List BlockEnd) → length (blocks_from ms from bs) ≡ length bs
blocks_many ms from [] = refl
blocks_many ms from (b ∷ bs) = ap suc (blocks_many ms b.end bs)

all_counted : (ms : List Middle) (from : ℕ) (bs : List BlockEnd) → ends_at from bs (length ms) ≡ true
    → middle_count (blocks_from ms from bs) + from ≡ length ms
all_counted ms from [] e = omega (arith, eqb-true from (length ms) e)
all_counted ms from (b ∷ bs) e =
    let two = and_parts _ _ e in
    let low = leb-true from b.end two.0 in
    let high = ends_up b.end bs (length ms) two.1 in
    let more = all_counted ms b.end bs two.1 in
    let part : length (take (b.end - from) (drop from ms)) ≡ b.end - from = simp (length-take, length-drop) (omega arith) in
    omega arith

-- the blocks together have the whole row of middle nodes
pub middles_counted : (ms : List Middle) (bs : List BlockEnd) → ends_at 0 bs (length ms) ≡ true → middle_count (blocks_from ms 0 bs) ≡ length ms
middles_counted ms bs e = omega (arith, all_counted ms 0 bs e)
