-- A script in two rows, block after block.
use Rattle.std.proofs.Common.{◌≡◌, ℕ, ◌+◌, ◌-◌, ◌%◌, ◌<◌, ◌≤◌, true, ltb, List, [], ◌∷◌, ◌++◌, length, get_or, take, drop, ℤ, nat_abs, Ok, Err, Result, sym, refl, ap, ◌∙◌, mod-eq_of_lt, arith, length-append, length-drop}
use Rattle.std.proofs.lemmas.Bool.{leb-true, le-leb, eqb-true, eq-eqb, lt-ltb, and_parts, and_from}
use Rattle.std.proofs.lemmas.List.{take-append-le, drop-append-le, take_all, drop_at, drop_more}
use Rattle.std.proofs.lemmas.List.Sums.{sum_by_more, sum_by_more_le}
use Rattle.script.specs.declared.node.Middle.{Middle}
use Rattle.script.specs.declared.node.Last.{Last}
use Rattle.script.specs.Run.{Block, Program}
use Rattle.script.specs.declared.block.BlockEnd.{BlockEnd}
use Rattle.script.specs.Shape.{ends_at, all_below, below}
use Rattle.script.specs.Model.{blocks_from}
use Rattle.script.proofs.Stored.{ends_up}
use Rattle.reader.specs.declared.fault.Fault.{Fault}
use Rattle.words.specs.Words.{from_to}
use Rattle.words.specs.Forms.{last_rows, go_row, if_row}
use Rattle.reader.specs.declared.fault.Due.TheVariants.{LastNode}
use Rattle.script.specs.Limits.{most_blocks}
use Rattle.reader.specs.Read.{Cursor, Step, then, due, middles, body, bodies}
use Rattle.words.proofs.Spelt.{from_to_pos}
use Rattle.words.proofs.Rows.{Fit}
use Rattle.reader.proofs.Dues.{due_is}
use Rattle.reader.specs.Steps.{Gives}
use Rattle.reader.specs.Totals.{total}
use Rattle.reader.proofs.Loops.{joins, joins_more, total_sum}

module _ (b : BlockEnd) where
  pub ends_more : (from : ℕ) (bs : List BlockEnd) (size : ℕ) → ends_at from bs size ≡ true → size ≤ b.end → ends_at from (bs ++ b ∷ []) b.end ≡ true
  ends_more from [] size e h = and_from _ _ (le-leb from b.end (omega (arith, eqb-true from size e))) (eq-eqb b.end b.end refl)
  ends_more from (a ∷ bs) size e h = let two = and_parts _ _ e in and_from _ _ two.0 (ends_more a.end bs size two.1 h)

  pub below_block : (n : ℕ) (bs : List BlockEnd) → all_below n bs ≡ true → below n b.last ≡ true → all_below n (bs ++ b ∷ []) ≡ true
  below_block n [] e h = and_from _ _ h refl
  below_block n (a ∷ bs) e h = let two = and_parts _ _ e in and_from _ _ two.0 (below_block n bs two.1 h)

  pub model_block : (ms xs : List Middle) (from : ℕ) (bs : List BlockEnd) → ends_at from bs (length ms) ≡ true → b.end ≡ length ms + length xs
      → blocks_from (ms ++ xs) from (bs ++ b ∷ []) ≡ blocks_from ms from bs ++ (xs, b.last) ∷ []
  model_block ms xs from [] e h =
      let at = eqb-true from (length ms) e in
      let part : take (b.end - from) (drop from (ms ++ xs)) ≡ xs = ap (take (b.end - from)) (drop_at ms xs from (sym at)) ∙ take_all (b.end - from) xs (omega arith) in
      ap (λ l. (l, b.last) ∷ []) part
  model_block ms xs from (a ∷ bs) e h =
      let two = and_parts _ _ e in
      let low : from ≤ a.end = leb-true from a.end two.0 in
      let high : a.end ≤ length ms = ends_up a.end bs (length ms) two.1 in
      let inside : from ≤ length ms = omega arith in
      let part : take (a.end - from) (drop from (ms ++ xs)) ≡ take (a.end - from) (drop from ms) =
      ap (take (a.end - from)) (drop-append-le from ms xs inside) ∙ take-append-le (a.end - from) (drop from ms) xs (simp length-drop (omega arith)) in
      λ i. (part i, a.last) ∷ model_block ms xs a.end bs two.1 h i

-- ---- a last node that is read names blocks of the script

abbrev Targets : ℕ → Last → List ℕ → Type 0
Targets n last l = below n last ≡ true

low : (n : ℕ) → n ≤ most_blocks → (z : ℤ) → from_to 0 n z ≡ true → ltb (nat_abs z % 256) n ≡ true
low n b z h =
    let q = from_to_pos 0 n z h in
    let v : nat_abs z ≡ q.0 = ap nat_abs q.1 in
    let small : nat_abs z < 256 = omega (arith, q.3) in
    lt-ltb (nat_abs z % 256) n (omega (arith, mod-eq_of_lt small, q.3))

module _ (n : ℕ) (b : n ≤ most_blocks) where
  go_targets : (vs : List ℤ) → Fit n go_row.kinds vs → Targets n (go_row.make vs) []
  go_targets [] f = absurd f
  go_targets (u ∷ vs) f = low n b u f.0

  if_targets : (vs : List ℤ) → Fit n if_row.kinds vs → Targets n (if_row.make vs) []
  if_targets [] f = absurd f
  if_targets (u ∷ []) f = absurd f.1
  if_targets (u ∷ v ∷ []) f = absurd f.1.1
  if_targets (u ∷ v ∷ w ∷ vs) f = and_from _ _ (low n b v f.1.0) (low n b w f.1.1.0)

pub due_targets : (n : ℕ) → n ≤ most_blocks → (c : Cursor) (y : Last × Cursor) → due LastNode n last_rows c ≡ Ok y → below n y.0 ≡ true
due_targets n b c y e = (due_is LastNode n b (Targets n) last_rows (λ b. (go_targets n b, (if_targets n b, ((λ vs f. refl), tt)))) c y e).2

-- ---- the bodies, one after the other

body_step : (n k : ℕ) (c d : Cursor) (xs : List Middle) → middles n k c ≡ Ok (xs, d) → body n k c ≡ then (due LastNode n last_rows d) (λ t. Ok ((xs, t.0), t.1))
body_step n k c d xs e = ap (λ r. then r (λ h. then (due LastNode n last_rows h.1) (λ t. Ok ((h.0, t.0), t.1)))) e

-- a body whose middle nodes are read, and put at the end of a row
pub body_made : (n k : ℕ) → n ≤ most_blocks → (c d g : Cursor) (row row' xs : List Middle) → row' ≡ row ++ xs → length xs ≡ k → middles n k c ≡ Ok (xs, d)
    → (r : Result Last Fault) → Gives (due LastNode n last_rows d) r g
    → elim r as (λ s. Type 0) [ Ok l ↦ ((ys : List Middle) × (row' ≡ row ++ ys) × (length ys ≡ k) × (body n k c ≡ Ok ((ys, l), g)) × (below n l ≡ true)) | Err f ↦ body n k c ≡ Err f ]
body_made n k b c d g row row' xs put long e (Ok l) q = (xs, put, long, body_step n k c d xs e ∙ ap (λ r. then r (λ t. Ok ((xs, t.0), t.1))) q, due_targets n b d (l, g) q)
body_made n k b c d g row row' xs put long e (Err f) q = body_step n k c d xs e ∙ ap (λ r. then r (λ t. Ok ((xs, t.0), t.1))) q

module _ (n : ℕ) (ks : List ℕ) (i : ℕ) (c : Cursor) (p : Program) (h : i < length ks) where
  abbrev after_block : Block × Cursor → Step Program
  after_block q = then (bodies n (drop (i + 1) ks) q.1) (λ t. Ok (q.0 ∷ t.0, t.1))

  pub bodies_step : (b : Block) (d : Cursor) → body n (get_or ks i 0) c ≡ Ok (b, d) → joins p (bodies n (drop i ks) c) ≡ joins (p ++ b ∷ []) (bodies n (drop (i + 1) ks) d)
  bodies_step b d e = ap (joins p) (ap (λ l. bodies n l c) (drop_more ks i 0 h) ∙ ap (λ r. then r after_block) e) ∙ joins_more p b (bodies n (drop (i + 1) ks) d)

pub total_room : (ks : List ℕ) (i : ℕ) → i < length ks → total (take i ks) + get_or ks i 0 ≤ total ks
total_room ks i h = omega (arith, total_sum (take i ks), total_sum ks, sum_by_more_le (λ k. k) ks i 0 h)

-- the blocks so far, and the reading of the others
pub record Built (n : ℕ) (ks : List ℕ) (all : Step Program) (i : ℕ) (c : Cursor) (ms : List Middle) (bs : List BlockEnd) : Type 0 where
  pub reads : all ≡ joins (blocks_from ms 0 bs) (bodies n (drop i ks) c)
  pub ends : ends_at 0 bs (length ms) ≡ true
  pub targets : all_below n bs ≡ true
  pub many : length bs ≡ i
  pub size : length ms ≡ total (take i ks)

module _ (n : ℕ) (ks : List ℕ) (all : Step Program) (i : ℕ) (c : Cursor) (ms : List Middle) (bs : List BlockEnd) (s : Built n ks all i c ms bs) where
  pub built_more : i < length ks → (xs ms' : List Middle) (b : BlockEnd) (bs' : List BlockEnd) (d : Cursor) → ms' ≡ ms ++ xs → bs' ≡ bs ++ b ∷ [] → b.end ≡ length ms'
      → length xs ≡ get_or ks i 0 → below n b.last ≡ true → body n (get_or ks i 0) c ≡ Ok ((xs, b.last), d) → Built n ks all (i + 1) d ms' bs'
  built_more h xs ms' b bs' d em eb end long low e =
      let both : length ms' ≡ length ms + length xs = ap length em ∙ length-append ms xs in
      record {
        reads = s.reads ∙ bodies_step n ks i c (blocks_from ms 0 bs) h (xs, b.last) d e
            ∙ sym (ap (λ p. joins p (bodies n (drop (i + 1) ks) d)) ((λ j. blocks_from (em j) 0 (eb j)) ∙ model_block b ms xs 0 bs s.ends (end ∙ both)));
        ends = (λ j. ends_at 0 (eb j) (sym end j)) ∙ ends_more b 0 bs (length ms) s.ends (omega arith);
        targets = ap (all_below n) eb ∙ below_block b n bs s.targets low;
        many = ap length eb ∙ length-append bs (b ∷ []) ∙ omega (arith, s.many);
        size = omega (arith, both, long, s.size, total_sum (take (i + 1) ks), total_sum (take i ks), sum_by_more (λ k. k) ks i 0 h);
      }
