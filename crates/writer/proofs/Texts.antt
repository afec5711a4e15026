-- The text of a script, line after line.
use Rattle.std.proofs.Common.{◌≡◌, ℕ, suc, ◌+◌, ◌<◌, List, [], ◌∷◌, ◌++◌, length, get_or, drop, sym, refl, ap, ◌∙◌, append_assoc, add-one}
use Rattle.std.proofs.lemmas.List.{drop_more}
use Rattle.script.specs.declared.node.Middle.{Middle}
use Rattle.script.specs.Run.{Block, Program}
use Rattle.script.specs.declared.blocks.Blocks.{Blocks}
use Rattle.script.specs.Model.{blocks_from}
use Rattle.writer.proofs.Puts.{Left, left_start, left_more}
use Rattle.writer.specs.Text.{middle_text, last_text, line, count_text, counts_text, middles_text, bodies_text, counts, header_text, text}

line_splits : (l rest : List ℕ) → line l rest ≡ (l ++ 10 ∷ []) ++ rest
line_splits l rest = sym (append_assoc l (10 ∷ []) rest)

pub middles_step : (ms : List Middle) (i : ℕ) (m : Middle) → i < length ms → m ≡ get_or ms i m → middles_text (drop i ms) [] ≡ (middle_text m ++ 10 ∷ []) ++ middles_text (drop (i + 1) ms) []
middles_step ms i m h e =
    ap (λ l. middles_text l []) (drop_more ms i m h ∙ ap (λ x. x ∷ drop (i + 1) ms) (sym e)) ∙ line_splits (middle_text m) (middles_text (drop (i + 1) ms) [])

-- what is left of the blocks of a script
abbrev pub blocks_left : Blocks → Program
blocks_left b = blocks_from b.middles.now b.from b.ends.now

middles_then : (ms : List Middle) (rest : List ℕ) → middles_text ms rest ≡ middles_text ms [] ++ rest
middles_then [] rest = refl
middles_then (m ∷ ms) rest = ap (line (middle_text m)) (middles_then ms rest) ∙ sym (append_assoc (middle_text m) (10 ∷ middles_text ms []) rest)

counts_then : (ks : List ℕ) (i : ℕ) (rest : List ℕ) → counts_text i ks rest ≡ counts_text i ks [] ++ rest
counts_then [] i rest = refl
counts_then (k ∷ ks) i rest = ap (line (count_text i k)) (counts_then ks (suc i) rest) ∙ sym (append_assoc (count_text i k) (10 ∷ counts_text (suc i) ks []) rest)

pub counts_first : (i k n : ℕ) (p : Program) (b : Block) (rest : Program) → p ≡ b ∷ rest → k ≡ i → n ≡ i + 1
    → counts_text i (counts p) [] ≡ (count_text k (length b.0) ++ 10 ∷ []) ++ counts_text n (counts rest) []
counts_first i k n p b rest e is more =
    ap (λ q. counts_text i (counts q) []) e ∙ line_splits (count_text i (length b.0)) (counts_text (suc i) (counts rest) [])
    ∙ (λ j. (count_text (sym is j) (length b.0) ++ 10 ∷ []) ++ counts_text ((sym (add-one i) ∙ sym more) j) (counts rest) [])

pub bodies_first : (p : Program) (b : Block) (rest : Program) → p ≡ b ∷ rest → bodies_text p [] ≡ (middles_text b.0 [] ++ (last_text b.1 ++ 10 ∷ [])) ++ bodies_text rest []
bodies_first p b rest e =
    ap (λ q. bodies_text q []) e ∙ middles_then b.0 (line (last_text b.1) (bodies_text rest []))
    ∙ ap (λ r. middles_text b.0 [] ++ r) (line_splits (last_text b.1) (bodies_text rest []))
    ∙ sym (append_assoc (middles_text b.0 []) (last_text b.1 ++ 10 ∷ []) (bodies_text rest []))

pub text_splits : (p : Program) (n : ℕ) → n ≡ length p → text p ≡ (header_text n ++ 10 ∷ []) ++ (counts_text 0 (counts p) [] ++ bodies_text p [])
text_splits p n e =
    line_splits (header_text (length p)) (counts_text 0 (counts p) (bodies_text p [])) ∙ (λ i. (header_text (sym e i) ++ 10 ∷ []) ++ counts_then (counts p) 0 (bodies_text p []) i)

-- the first line is written
pub header_put : (p : Program) (n : ℕ) (old now : List ℕ) → n ≡ length p → now ≡ old ++ (header_text n ++ 10 ∷ []) → Left old (text p) now (counts_text 0 (counts p) [] ++ bodies_text p [])
header_put p n old now e w =
    left_more (left_start old (text p) _ (sym (text_splits p n e))) (header_text n ++ 10 ∷ []) (counts_text 0 (counts p) [] ++ bodies_text p []) now refl w
