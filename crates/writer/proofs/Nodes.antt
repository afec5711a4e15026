-- Each form of the table, read and written.
use Rattle.std.proofs.Common.{◌≡◌, ℕ, ◌+◌, ◌%◌, ◌^◌, ◌<◌, ◌≤◌, true, cond, List, [], ◌∷◌, length, ℤ, pos, negsuc, nat_abs, Some, None, Ok, decimal, sym, refl, ap, ◌∙◌, mod-eq_of_lt, arith, w32, SFits}
use Rattle.std.proofs.lemmas.Bool.{lt-ltb, le-ltb, not_from_false, and_from}
use Rattle.std.proofs.lemmas.Fmt.{length-decimal-le}
use Rattle.std.proofs.lemmas.Slice.Eq.{bytes_eq-Decides}
use Rattle.script.proofs.Same.{same_register, same_slot}
use Rattle.script.specs.declared.register.Register.{Register}
use Rattle.script.specs.declared.register.Slot.{Slot}
use Rattle.script.specs.declared.node.Operation.{Operation}
use Rattle.script.specs.declared.node.Operation.TheVariants.{Add, Sub, Mul, Div, Rem, Lt, Eq}
use Rattle.script.specs.declared.node.Middle.{Middle}
use Rattle.script.specs.declared.node.Middle.TheVariants.{Set, Mov, Compute, Get, Put}
use Rattle.script.specs.declared.node.Last.{Last}
use Rattle.script.specs.declared.node.Last.TheVariants.{Go, If, End}
use Rattle.words.specs.declared.kind.Kind.{Kind}
use Rattle.words.specs.declared.kind.Kind.TheVariants.{RegisterWord, SlotWord, NumberWord, BlockWord, SizeWord, CountWord}
use Rattle.words.specs.Words.{from_to, word32, within}
use Rattle.words.specs.Forms.{Row, register, slot, header_row, contents_row, set_row, mov_row, compute_row, get_row, put_row, go_row, if_row, end_row, middle_rows, last_rows, seek, line_as, row_text}
use Rattle.writer.specs.Text.{middle_text, last_text, header_text, count_text}
use Rattle.script.specs.Run.{Fit as FitNumber}
use Rattle.script.specs.Limits.{registers, most_blocks, most_middles}
use Rattle.writer.proofs.Formed.{Below}
use Rattle.words.proofs.Cuts.{lacks}
use Rattle.words.proofs.Spelt.{from_to_pos, lacks_decimal}
use Rattle.words.proofs.Rows.{Fit, Each, line_written, row_lacks, row_short, rooms}

-- ---- what is read is what is written

-- a number that is in range, put through a register, and one that is a count
low_is : (z : ℤ) → from_to 0 registers z ≡ true → pos (nat_abs z % registers) ≡ z
low_is z h = let q = from_to_pos 0 registers z h in ap (λ y. pos (nat_abs y % registers)) q.1 ∙ ap pos (mod-eq_of_lt q.3) ∙ sym q.1

target_is : (n : ℕ) → n ≤ most_blocks → (z : ℤ) → from_to 0 n z ≡ true → pos (nat_abs z % 256) ≡ z
target_is n b z h =
    let q = from_to_pos 0 n z h in
    let small : q.0 < 256 = omega (arith, q.3) in
    ap (λ y. pos (nat_abs y % 256)) q.1 ∙ ap pos (mod-eq_of_lt small) ∙ sym q.1

pos_is : (low end : ℕ) (z : ℤ) → from_to low end z ≡ true → pos (nat_abs z) ≡ z
pos_is low end z h = let q = from_to_pos low end z h in ap (λ y. pos (nat_abs y)) q.1 ∙ sym q.1

module _ (n : ℕ) where
  -- a row of one, two or three operands
  one : (k : Kind) (P : List ℤ → Type 0) → ((u : ℤ) → within n k u ≡ true → P (u ∷ [])) → (vs : List ℤ) → Fit n (k ∷ []) vs → P vs
  one k P f [] g = absurd g
  one k P f (u ∷ []) g = f u g.0
  one k P f (u ∷ v ∷ vs) g = absurd g.1

  two : (k l : Kind) (P : List ℤ → Type 0) → ((u v : ℤ) → within n k u ≡ true → within n l v ≡ true → P (u ∷ v ∷ [])) → (vs : List ℤ) → Fit n (k ∷ l ∷ []) vs → P vs
  two k l P f [] g = absurd g
  two k l P f (u ∷ []) g = absurd g.1
  two k l P f (u ∷ v ∷ []) g = f u v g.0 g.1.0
  two k l P f (u ∷ v ∷ w ∷ vs) g = absurd g.1.1

  three : (k l m : Kind) (P : List ℤ → Type 0) → ((u v w : ℤ) → within n k u ≡ true → within n l v ≡ true → within n m w ≡ true → P (u ∷ v ∷ w ∷ [])) → (vs : List ℤ) → Fit n (k ∷ l ∷ m ∷ []) vs → P vs
  three k l m P f [] g = absurd g
  three k l m P f (u ∷ []) g = absurd g.1
  three k l m P f (u ∷ v ∷ []) g = absurd g.1.1
  three k l m P f (u ∷ v ∷ w ∷ []) g = f u v w g.0 g.1.0 g.1.1.0
  three k l m P f (u ∷ v ∷ w ∷ x ∷ vs) g = absurd g.1.1.1

-- a is written as the line l
abbrev pub WrittenAs : {A : Type 0} → (A → List ℕ) → A → List ℕ → Type 0
WrittenAs write a l = write a ≡ l

abbrev Says : {A : Type 0} → (A → List ℕ) → Row A → List ℤ → Type 0
Says write r vs = write (r.make vs) ≡ row_text r vs

module _ (n : ℕ) (b : n ≤ most_blocks) where
  compute_says : (o : Operation) → (vs : List ℤ) → Fit n (RegisterWord ∷ RegisterWord ∷ RegisterWord ∷ []) vs → Says middle_text (compute_row o) vs
  compute_says o =
      three n RegisterWord RegisterWord RegisterWord (Says middle_text (compute_row o))
      (λ u v w g h k i. row_text (compute_row o) (low_is u g i ∷ low_is v h i ∷ low_is w k i ∷ []))

  pub middle_each : Each n b (WrittenAs middle_text) middle_rows
  middle_each = (
    two n RegisterWord NumberWord (Says middle_text set_row) (λ u v g h i. row_text set_row (low_is u g i ∷ v ∷ [])),
    (
      two n RegisterWord RegisterWord (Says middle_text mov_row) (λ u v g h i. row_text mov_row (low_is u g i ∷ low_is v h i ∷ [])),
      (
        compute_says Add,
        (
          compute_says Sub,
          (
            compute_says Mul,
            (
              compute_says Div,
              (
                compute_says Rem,
                (
                  compute_says Lt,
                  (
                    compute_says Eq,
                    (
                      two n RegisterWord SlotWord (Says middle_text get_row) (λ u v g h i. row_text get_row (low_is u g i ∷ low_is v h i ∷ [])),
                      (one n RegisterWord (Says middle_text put_row) (λ u g i. row_text put_row (low_is u g i ∷ [])), tt),
                    ),
                  ),
                ),
              ),
            ),
          ),
        ),
      ),
    ),
  )

  pub last_each : Each n b (WrittenAs last_text) last_rows
  last_each = (
    one n BlockWord (Says last_text go_row) (λ u g i. row_text go_row (target_is n b u g i ∷ [])),
    (
      three n RegisterWord BlockWord BlockWord (Says last_text if_row) (λ u v w g h k i. row_text if_row (low_is u g i ∷ target_is n b v h i ∷ target_is n b w k i ∷ [])),
      (one n RegisterWord (Says last_text end_row) (λ u g i. row_text end_row (low_is u g i ∷ [])), tt),
    ),
  )

  pub count_each : (i : ℕ) → Each n b (WrittenAs (count_text i)) (contents_row i ∷ [])
  count_each i = (one n CountWord (Says (count_text i) (contents_row i)) (λ u g j. row_text (contents_row i) (pos_is 0 (most_middles + 1) u g j ∷ [])), tt)

-- a header is written as its line, and counts not too many blocks
abbrev pub Header : ℕ → List ℕ → Type 0
Header n l = (header_text n ≡ l) × (n ≤ most_blocks)

few_is : (z : ℤ) → from_to 1 (most_blocks + 1) z ≡ true → nat_abs z ≤ most_blocks
few_is z h = let q = from_to_pos 1 (most_blocks + 1) z h in omega (arith, ap nat_abs q.1, q.3)

pub header_each : (b : 0 ≤ most_blocks) → Each 0 b Header (header_row ∷ [])
header_each b = (
  one 0 SizeWord (λ vs. Header (header_row.make vs) (row_text header_row vs))
      (λ u g. ((λ j. row_text header_row (pos_is 1 (most_blocks + 1) u g j ∷ [])), few_is u g)),
  tt,
)

-- ---- what is written is read

in_range : (low end v : ℕ) → low ≤ v → v < end → from_to low end (pos v) ≡ true
in_range low end v l h = and_from _ _ (not_from_false _ (le-ltb v low l)) (lt-ltb v end h)

word_in : (z : ℤ) → SFits w32 z → word32 z ≡ true
word_in (pos v) f = lt-ltb v (2 ^ 31) f.sfits
word_in (negsuc v) f = lt-ltb v (2 ^ 31) f.sfits

register_is : (r : Register) → register r.index ≡ r
register_is r = same_register (register r.index) r (mod-eq_of_lt r.ok)

slot_is : (s : Slot) → slot s.index ≡ s
slot_is s = same_slot (slot s.index) s (mod-eq_of_lt s.ok)

reg_in : (r : Register) → from_to 0 registers (pos r.index) ≡ true
reg_in r = in_range 0 registers r.index (omega arith) r.ok

-- a line that is read as a, has no line feed and is short
pub record Line {A : Type 0} (n : ℕ) (rows : List (Row A)) (most : ℕ) (l : List ℕ) (a : A) : Type 0 where
  pub reads : line_as n rows l ≡ Ok a
  pub whole : lacks 10 l ≡ true
  pub short : length l ≤ most

module _ {A : Type 0} (n : ℕ) (b : n ≤ most_blocks) where
  by_row : (rows : List (Row A)) (most : ℕ) (r : Row A) (vs : List ℤ) (a : A) → seek rows r.name ≡ Some r → lacks 32 r.name ≡ true → lacks 10 r.name ≡ true
      → length r.name + rooms r.kinds ≤ most → Fit n r.kinds vs → r.make vs ≡ a → Line n rows most (row_text r vs) a
  by_row rows most r vs a s k l m f e = record {
    reads = line_written n b rows r vs s k f ∙ ap Ok e;
    whole = row_lacks n b r vs l f;
    short = omega (arith, row_short n b r vs f, m);
  }

module _ (n : ℕ) (b : n ≤ most_blocks) where
  compute_line : (o : Operation) (x y z : Register) → seek middle_rows (compute_row o).name ≡ Some (compute_row o) → lacks 32 (compute_row o).name ≡ true → lacks 10 (compute_row o).name ≡ true
      → length (compute_row o).name + rooms (compute_row o).kinds ≤ 19 → Fit n (compute_row o).kinds (pos x.index ∷ pos y.index ∷ pos z.index ∷ [])
      → Line n middle_rows 19 (middle_text (Compute o x y z)) (Compute o x y z)
  compute_line o x y z s k l m f =
      by_row n b middle_rows 19 (compute_row o) (pos x.index ∷ pos y.index ∷ pos z.index ∷ []) _ s k l m f (λ i. Compute o (register_is x i) (register_is y i) (register_is z i))

  compute_lines : (o : Operation) (x y z : Register) → Line n middle_rows 19 (middle_text (Compute o x y z)) (Compute o x y z)
  compute_lines Add x y z = compute_line Add x y z refl refl refl (omega arith) (reg_in x, (reg_in y, (reg_in z, tt)))
  compute_lines Sub x y z = compute_line Sub x y z refl refl refl (omega arith) (reg_in x, (reg_in y, (reg_in z, tt)))
  compute_lines Mul x y z = compute_line Mul x y z refl refl refl (omega arith) (reg_in x, (reg_in y, (reg_in z, tt)))
  compute_lines Div x y z = compute_line Div x y z refl refl refl (omega arith) (reg_in x, (reg_in y, (reg_in z, tt)))
  compute_lines Rem x y z = compute_line Rem x y z refl refl refl (omega arith) (reg_in x, (reg_in y, (reg_in z, tt)))
  compute_lines Lt x y z = compute_line Lt x y z refl refl refl (omega arith) (reg_in x, (reg_in y, (reg_in z, tt)))
  compute_lines Eq x y z = compute_line Eq x y z refl refl refl (omega arith) (reg_in x, (reg_in y, (reg_in z, tt)))

  pub middle_line : (m : Middle) → FitNumber m → Line n middle_rows 19 (middle_text m) m
  middle_line (Set x z) f = by_row n b middle_rows 19 set_row (pos x.index ∷ z ∷ []) _ refl refl refl (omega arith) (reg_in x, (word_in z f, tt)) (ap (λ r. Set r z) (register_is x))
  middle_line (Mov x y) f = by_row n b middle_rows 19 mov_row (pos x.index ∷ pos y.index ∷ []) _ refl refl refl (omega arith) (reg_in x, (reg_in y, tt)) (λ i. Mov (register_is x i) (register_is y i))
  middle_line (Compute o x y z) f = compute_lines o x y z
  middle_line (Get x s) f =
      by_row n b middle_rows 19 get_row (pos x.index ∷ pos s.index ∷ []) _ refl refl refl (omega arith) (reg_in x, (in_range 0 registers s.index (omega arith) s.ok, tt)) (λ i. Get (register_is x i) (slot_is s i))
  middle_line (Put x) f = by_row n b middle_rows 19 put_row (pos x.index ∷ []) _ refl refl refl (omega arith) (reg_in x, tt) (ap Put (register_is x))

  pub last_line : (l : Last) → Below n l → Line n last_rows 19 (last_text l) l
  last_line (Go t) f =
      let small : t < 256 = omega arith in
      by_row n b last_rows 19 go_row (pos t ∷ []) _ refl refl refl (omega arith) (in_range 0 n t (omega arith) f, tt) (ap Go (mod-eq_of_lt small))
  last_line (If x t u) f =
      let then_small : t < 256 = omega (arith, f.0) in
      let other_small : u < 256 = omega (arith, f.1) in
      by_row n b last_rows 19 if_row (pos x.index ∷ pos t ∷ pos u ∷ []) _ refl refl refl (omega arith) (reg_in x, (in_range 0 n t (omega arith) f.0, (in_range 0 n u (omega arith) f.1, tt))) (λ i. If (register_is x i) (mod-eq_of_lt then_small i) (mod-eq_of_lt other_small i))
  last_line (End x) f = by_row n b last_rows 19 end_row (pos x.index ∷ []) _ refl refl refl (omega arith) (reg_in x, tt) (ap End (register_is x))

pub header_line : (n : ℕ) → 1 ≤ n → n ≤ most_blocks → Line 0 (header_row ∷ []) 19 (header_text n) n
header_line n l h = by_row 0 (omega arith) (header_row ∷ []) 19 header_row (pos n ∷ []) _ refl refl refl (omega arith) (in_range 1 (most_blocks + 1) n l (omega arith), tt) refl

pub count_line : (i k : ℕ) → i ≤ most_blocks → k ≤ most_middles → Line 0 (contents_row i ∷ []) 19 (count_text i k) k
count_line i k h g =
    let same = (bytes_eq-Decides (98 ∷ decimal i) (98 ∷ decimal i)).1 refl in
    by_row 0 (omega arith) (contents_row i ∷ []) 19 (contents_row i) (pos k ∷ []) _ (ap (λ t. cond t (Some (contents_row i)) None) same)
    (lacks_decimal 32 (omega arith) i (omega arith)) (lacks_decimal 10 (omega arith) i (omega arith))
    (omega (arith, length-decimal-le 2 i (omega arith) (omega arith) (omega arith)))
    (in_range 0 (most_middles + 1) k (omega arith) (omega arith), tt) refl
