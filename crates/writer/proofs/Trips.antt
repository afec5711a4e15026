-- Whole texts: what is read is what is written, and what is written is read.
use Rattle.std.proofs.Common.{◌≡◌, ℕ, zero, suc, ◌+◌, ◌*◌, ◌≤◌, Bool, true, false, cond, leb, List, [], ◌∷◌, length, Ok, Err, Result, sym, refl, ap, ◌∙◌, arith, length-append}
use Rattle.std.proofs.lemmas.Bool.{le-leb}
use Rattle.script.specs.declared.node.Middle.{Middle}
use Rattle.script.specs.Run.{Block, Program}
use Rattle.reader.specs.declared.fault.Fault.{Fault}
use Rattle.reader.specs.declared.fault.Due.TheVariants.{Header, Count, MiddleNode, LastNode}
use Rattle.reader.specs.declared.fault.Due.{Due}
use Rattle.reader.specs.declared.fault.Question.TheVariants.{Total}
use Rattle.words.specs.Forms.{Row, header_row, contents_row, middle_rows, last_rows}
use Rattle.reader.specs.Read.{Cursor, start, past, fault, Step, then, due, contents, middles, body, bodies, finished, read}
use Rattle.writer.specs.Text.{middle_text, last_text, line, header_text, count_text, counts_text, middles_text, bodies_text, counts, text}
use Rattle.std.specs.List.{AllByRecursion}
use Rattle.script.specs.Limits.{most_blocks, most_middles, most_bytes}
use Rattle.script.specs.Model.{middle_count}
use Rattle.script.specs.Run.{Fit, Fits}
use Rattle.reader.specs.Totals.{total}
use Rattle.writer.proofs.Formed.{EachBelow, WellFormed}
use Rattle.reader.proofs.Dues.{due_is, due_written}
use Rattle.writer.proofs.Nodes.{WrittenAs, Header as SaidHeader, Line, middle_each, last_each, count_each, header_each, middle_line, last_line, header_line, count_line}

then_is : {A B : Type 0} (r : Result A Fault) (f : A → Result B Fault) (y : B) → then r f ≡ Ok y → (x : A) × (r ≡ Ok x) × (f x ≡ Ok y)
then_is (Ok a) f y e = (a, refl, e)
then_is (Err x) f y e = absurd (cc)

cond_is : {B : Type 0} (t : Bool) (r : Result B Fault) (x : Fault) (y : B) → cond t r (Err x) ≡ Ok y → r ≡ Ok y
cond_is true r x y e = e
cond_is false r x y e = absurd (cc)

-- ---- what is read is what is written

contents_is : (k i sum : ℕ) (c : Cursor) (y : List ℕ × Cursor) → contents k i sum c ≡ Ok y → (c.rest ≡ counts_text i y.0 y.1.rest) × (length y.0 ≡ k)
contents_is zero i sum c y e =
    let q : ([], c) ≡ y = cc in
    (ap (λ (p : List ℕ × Cursor). counts_text i p.0 p.1.rest) q, sym (ap (λ (p : List ℕ × Cursor). length p.0) q))
contents_is (suc k) i sum c y e =
    let one = then_is (due Count 0 (contents_row i ∷ []) c) _ y e in
    let h = one.0 in
    let two = then_is (contents k (suc i) (sum + h.0) h.1) _ y (cond_is (leb (sum + h.0) most_middles) _ _ y one.2) in
    let t = two.0 in
    let q : (h.0 ∷ t.0, t.1) ≡ y = cc two.2 in
    let here = due_is Count 0 (omega arith) (WrittenAs (count_text i)) (contents_row i ∷ []) (λ b. count_each 0 b i) c h one.1 in
    let more = contents_is k (suc i) (sum + h.0) h.1 t two.1 in (
      here.1 ∙ ap (λ l. line l h.1.rest) (sym here.2) ∙ ap (line (count_text i h.0)) more.0 ∙ ap (λ (p : List ℕ × Cursor). counts_text i p.0 p.1.rest) q,
      sym (ap (λ (p : List ℕ × Cursor). length p.0) q) ∙ ap suc more.1,
    )

module _ (n : ℕ) (b : n ≤ most_blocks) where
  middles_is : (k : ℕ) (c : Cursor) (y : List Middle × Cursor) → middles n k c ≡ Ok y → (c.rest ≡ middles_text y.0 y.1.rest) × (length y.0 ≡ k)
  middles_is zero c y e =
      let q : ([], c) ≡ y = cc in
      (ap (λ (p : List Middle × Cursor). middles_text p.0 p.1.rest) q, sym (ap (λ (p : List Middle × Cursor). length p.0) q))
  middles_is (suc k) c y e =
      let one = then_is (due MiddleNode n middle_rows c) _ y e in
      let h = one.0 in
      let two = then_is (middles n k h.1) _ y one.2 in
      let t = two.0 in
      let q : (h.0 ∷ t.0, t.1) ≡ y = cc two.2 in
      let here = due_is MiddleNode n b (WrittenAs middle_text) middle_rows (middle_each n) c h one.1 in
      let more = middles_is k h.1 t two.1 in (
        here.1 ∙ ap (λ l. line l h.1.rest) (sym here.2) ∙ ap (line (middle_text h.0)) more.0 ∙ ap (λ (p : List Middle × Cursor). middles_text p.0 p.1.rest) q,
        sym (ap (λ (p : List Middle × Cursor). length p.0) q) ∙ ap suc more.1,
      )

  body_is : (k : ℕ) (c : Cursor) (y : Block × Cursor) → body n k c ≡ Ok y → (c.rest ≡ middles_text y.0.0 (line (last_text y.0.1) y.1.rest)) × (length y.0.0 ≡ k)
  body_is k c y e =
      let one = then_is (middles n k c) _ y e in
      let h = one.0 in
      let two = then_is (due LastNode n last_rows h.1) _ y one.2 in
      let t = two.0 in
      let q : ((h.0, t.0), t.1) ≡ y = cc two.2 in
      let front = middles_is k c h one.1 in
      let here = due_is LastNode n b (WrittenAs last_text) last_rows (last_each n) h.1 t two.1 in (
        front.0 ∙ ap (middles_text h.0) (here.1 ∙ ap (λ l. line l t.1.rest) (sym here.2)) ∙ ap (λ (p : Block × Cursor). middles_text p.0.0 (line (last_text p.0.1) p.1.rest)) q,
        sym (ap (λ (p : Block × Cursor). length p.0.0) q) ∙ front.1,
      )

  bodies_is : (ks : List ℕ) (c : Cursor) (y : Program × Cursor) → bodies n ks c ≡ Ok y → (c.rest ≡ bodies_text y.0 y.1.rest) × (counts y.0 ≡ ks)
  bodies_is [] c y e =
      let q : ([], c) ≡ y = cc in
      (ap (λ (p : Program × Cursor). bodies_text p.0 p.1.rest) q, sym (ap (λ (p : Program × Cursor). counts p.0) q))
  bodies_is (k ∷ ks) c y e =
      let one = then_is (body n k c) _ y e in
      let h = one.0 in
      let two = then_is (bodies n ks h.1) _ y one.2 in
      let t = two.0 in
      let q : (h.0 ∷ t.0, t.1) ≡ y = cc two.2 in
      let here = body_is k c h one.1 in
      let more = bodies_is ks h.1 t two.1 in (
        here.0 ∙ ap (λ l. middles_text h.0.0 (line (last_text h.0.1) l)) more.0 ∙ ap (λ (p : Program × Cursor). bodies_text p.0 p.1.rest) q,
        sym (ap (λ (p : Program × Cursor). counts p.0) q) ∙ (λ i. here.1 i ∷ more.1 i),
      )

end_is : (l : List ℕ) (c : Cursor) (p q : Program) → finished l c p ≡ Ok q → (l ≡ []) × (p ≡ q)
end_is [] c p q e = (refl, cc)
end_is (x ∷ xs) c p q e = absurd (cc)

counts_total : (p : Program) → total (counts p) ≡ middle_count p
counts_total [] = refl
counts_total (b ∷ bs) = ap (λ n. length b.0 + n) (counts_total bs)

length_counts : (p : Program) → length (counts p) ≡ length p
length_counts [] = refl
length_counts (b ∷ bs) = ap suc (length_counts bs)

pub text_of_read : (t : List ℕ) (p : Program) → read t ≡ Ok p → text p ≡ t
text_of_read t p e =
    let one = then_is (due Header 0 (header_row ∷ []) (start t)) _ p e in
    let h = one.0 in
    let two = then_is (contents h.0 0 0 h.1) _ p one.2 in
    let k = two.0 in
    let three = then_is (bodies h.0 k.0 k.1) _ p two.2 in
    let b = three.0 in
    let last = end_is b.1.rest b.1 b.0 p three.2 in
    let head = due_is Header 0 (omega arith) SaidHeader (header_row ∷ []) header_each (start t) h one.1 in
    let list = contents_is h.0 0 0 h.1 k two.1 in
    let rest = bodies_is h.0 head.2.1 k.0 k.1 b three.1 in
    let named : counts p ≡ k.0 = sym (ap counts last.1) ∙ rest.1 in
    let size : length p ≡ h.0 = sym (length_counts p) ∙ ap length named ∙ list.1 in
    let tail : bodies_text p [] ≡ k.1.rest = sym (rest.0 ∙ (λ i. bodies_text (last.1 i) (last.0 i))) in
    (λ i. line (header_text (size i)) (counts_text 0 (named i) (tail i))) ∙ sym (head.1 ∙ ap (λ l. line l h.1.rest) (sym head.2.0) ∙ ap (line (header_text h.0)) list.0)

-- ---- what is written is read

-- r is the reading of a, which goes on at `rest`
pub record Reads {A : Type 0} (r : Step A) (a : A) (rest : List ℕ) : Type 0 where
  pub next : Cursor
  pub reads : r ≡ Ok (a, next)
  pub on : next.rest ≡ rest

line_reads : {A : Type 0} (d : Due) (n : ℕ) → (rows : List (Row A)) (most : ℕ) (l : List ℕ) (a : A) → Line n rows most l a → (c : Cursor) (rest : List ℕ) → c.rest ≡ line l rest → Reads (due d n rows c) a rest
line_reads d n rows most l a h c rest e = record { next = past c l rest; reads = due_written d n rows l a h.reads h.whole c rest e; on = refl }

contents_reads : (ks : List ℕ) (i sum : ℕ) → i + length ks ≤ most_blocks → sum + total ks ≤ most_middles → (c : Cursor) (rest : List ℕ) → c.rest ≡ counts_text i ks rest
    → Reads (contents (length ks) i sum c) ks rest
contents_reads [] i sum f s c rest e = record { next = c; reads = refl; on = e }
contents_reads (k ∷ ks) i sum f s c rest e =
    let here = line_reads Count 0 (contents_row i ∷ []) 19 (count_text i k) k (count_line i k (omega arith) (omega arith)) c (counts_text (suc i) ks rest) e in
    let more = contents_reads ks (suc i) (sum + k) (omega arith) (omega arith) here.next rest here.on in
    record {
      next = more.next;
      reads = ap (λ r. then r (λ h. cond (leb (sum + h.0) most_middles) (then (contents (length ks) (suc i) (sum + h.0) h.1) (λ t. Ok (h.0 ∷ t.0, t.1))) (Err (fault Total Count c)))) here.reads
          ∙ ap (λ t. cond t (then (contents (length ks) (suc i) (sum + k) here.next) (λ t. Ok (k ∷ t.0, t.1))) (Err (fault Total Count c))) (le-leb (sum + k) most_middles (omega arith))
          ∙ ap (λ r. then r (λ t. Ok (k ∷ t.0, t.1))) more.reads;
      on = more.on;
    }

module _ (n : ℕ) (b : n ≤ most_blocks) where
  middles_read : (ms : List Middle) → AllByRecursion Fit ms → (c : Cursor) (rest : List ℕ) → c.rest ≡ middles_text ms rest → Reads (middles n (length ms) c) ms rest
  middles_read [] f c rest e = record { next = c; reads = refl; on = e }
  middles_read (m ∷ ms) f c rest e =
      let here = line_reads MiddleNode n middle_rows 19 (middle_text m) m (middle_line n b m f.0) c (middles_text ms rest) e in
      let more = middles_read ms f.1 here.next rest here.on in
      record {
        next = more.next;
        reads = ap (λ r. then r (λ h. then (middles n (length ms) h.1) (λ t. Ok (h.0 ∷ t.0, t.1)))) here.reads
            ∙ ap (λ r. then r (λ t. Ok (m ∷ t.0, t.1))) more.reads;
        on = more.on;
      }

  bodies_read : (p : Program) → EachBelow n p → Fits p → (c : Cursor) (rest : List ℕ) → c.rest ≡ bodies_text p rest → Reads (bodies n (counts p) c) p rest
  bodies_read [] f g c rest e = record { next = c; reads = refl; on = e }
  bodies_read (k ∷ ks) f g c rest e =
      let front = middles_read k.0 g.0 c (line (last_text k.1) (bodies_text ks rest)) e in
      let here = line_reads LastNode n last_rows 19 (last_text k.1) k.1 (last_line n b k.1 f.0) front.next (bodies_text ks rest) front.on in
      let more = bodies_read ks f.1 g.1 here.next rest here.on in
      let one : body n (length k.0) c ≡ Ok (k, here.next) =
      ap (λ r. then r (λ h. then (due LastNode n last_rows h.1) (λ t. Ok ((h.0, t.0), t.1)))) front.reads
      ∙ ap (λ r. then r (λ t. Ok ((k.0, t.0), t.1))) here.reads in
      record {
        next = more.next;
        reads = ap (λ r. then r (λ h. then (bodies n (counts ks) h.1) (λ t. Ok (h.0 ∷ t.0, t.1)))) one ∙ ap (λ r. then r (λ t. Ok (k ∷ t.0, t.1))) more.reads;
        on = more.on;
      }

read_of : (p : Program) → WellFormed p → read (text p) ≡ Ok p
read_of p w =
    let n = length p in
    let few = w.few in
    let head = line_reads Header 0 (header_row ∷ []) 19 (header_text n) n (header_line n w.some w.few) (start (text p)) (counts_text 0 (counts p) (bodies_text p [])) refl in
    let list = contents_reads (counts p) 0 0 (omega (arith, length_counts p)) (omega (arith, w.small, counts_total p)) head.next (bodies_text p []) head.on in
    let same : contents n 0 0 head.next ≡ Ok (counts p, list.next) = sym (ap (λ k. contents k 0 0 head.next) (length_counts p)) ∙ list.reads in
    let all = bodies_read n few p w.targets w.numbers list.next [] list.on in
    ap (λ r. then r (λ h. then (contents h.0 0 0 h.1) (λ k. then (bodies h.0 k.0 k.1) (λ b. finished b.1.rest b.1 b.0)))) head.reads
    ∙ ap (λ r. then r (λ k. then (bodies n k.0 k.1) (λ b. finished b.1.rest b.1 b.0))) same
    ∙ ap (λ r. then r (λ b. finished b.1.rest b.1 b.0)) all.reads
    ∙ ap (λ l. finished l all.next p) all.on

-- ---- how long a text is

line_short : {A : Type 0} (n : ℕ) (rows : List (Row A)) (l : List ℕ) (a : A) → Line n rows 19 l a → (rest : List ℕ) → length (line l rest) ≤ 20 + length rest
line_short n rows l a h rest = omega (arith, length-append l (10 ∷ rest), h.short)

counts_short : (ks : List ℕ) (i : ℕ) → i + length ks ≤ most_blocks → total ks ≤ most_middles → (rest : List ℕ) → length (counts_text i ks rest) ≤ 20 * length ks + length rest
counts_short [] i f s rest = omega arith
counts_short (k ∷ ks) i f s rest =
    omega (arith, line_short 0 (contents_row i ∷ []) (count_text i k) k (count_line i k (omega arith) (omega arith)) (counts_text (suc i) ks rest), counts_short ks (suc i) (omega arith) (omega arith) rest)

module _ (n : ℕ) (b : n ≤ most_blocks) where
  middles_short : (ms : List Middle) → AllByRecursion Fit ms → (rest : List ℕ) → length (middles_text ms rest) ≤ 20 * length ms + length rest
  middles_short [] f rest = omega arith
  middles_short (m ∷ ms) f rest = omega (arith, line_short n middle_rows (middle_text m) m (middle_line n b m f.0) (middles_text ms rest), middles_short ms f.1 rest)

  bodies_short : (p : Program) → EachBelow n p → Fits p → (rest : List ℕ) → length (bodies_text p rest) ≤ 20 * length p + 20 * total (counts p) + length rest
  bodies_short [] f g rest = omega arith
  bodies_short (k ∷ ks) f g rest =
      omega (arith, middles_short k.0 g.0 (line (last_text k.1) (bodies_text ks rest)), line_short n last_rows (last_text k.1) k.1 (last_line n b k.1 f.0) (bodies_text ks rest), bodies_short ks f.1 g.1 rest)

short_text : (p : Program) → WellFormed p → length (text p) ≤ most_bytes
short_text p w =
    let n = length p in
    let few = w.few in
    omega (
      arith,
      length_counts p,
      counts_total p,
      w.small,
      w.few,
      line_short 0 (header_row ∷ []) (header_text n) n (header_line n w.some w.few) (counts_text 0 (counts p) (bodies_text p [])),
      counts_short (counts p) 0 (omega (arith, length_counts p)) (omega (arith, w.small, counts_total p)) (bodies_text p []),
      bodies_short n few p w.targets w.numbers [],
    )

pub read_of_text : (p : Program) → WellFormed p → (read (text p) ≡ Ok p) × (length (text p) ≤ most_bytes)
read_of_text p w = (read_of p w, short_text p w)
