-- Reading one after the other.
use Rattle.std.specs.List.{sum}
use Rattle.std.proofs.lemmas.List.Sums.{sum_by-cons, sum_by_push}
use Rattle.std.proofs.Common.{◌≡◌, ℕ, suc, ◌+◌, ◌-◌, ◌<◌, ◌≤◌, cond, leb, List, [], ◌∷◌, ◌++◌, Ok, Err, sym, refl, ap, ◌∙◌, append_assoc, add-one, arith}
use Rattle.std.proofs.lemmas.Bool.{le-leb, lt-leb}
use Rattle.script.specs.Limits.{most_middles}
use Rattle.script.specs.declared.node.Middle.{Middle}
use Rattle.reader.specs.declared.fault.Fault.{Fault}
use Rattle.reader.specs.declared.fault.Due.TheVariants.{Count, MiddleNode}
use Rattle.reader.specs.declared.fault.Question.TheVariants.{Total}
use Rattle.words.specs.Forms.{contents_row, middle_rows}
use Rattle.reader.specs.Read.{Cursor, Step, fault, then, due, contents, middles}
use Rattle.reader.specs.Totals.{total}

-- what was read before xs, and then what r reads
abbrev pub joins : {A : Type 0} → List A → Step (List A) → Step (List A)
joins xs r = then r (λ t. Ok (xs ++ t.0, t.1))

pub joins_more : {A : Type 0} (xs : List A) (x : A) (r : Step (List A)) → joins xs (then r (λ t. Ok (x ∷ t.0, t.1))) ≡ joins (xs ++ x ∷ []) r
joins_more xs x (Ok t) = ap (λ l. Ok (l, t.1)) (sym (append_assoc xs (x ∷ []) t.0))
joins_more xs x (Err f) = refl

pub total_sum : (xs : List ℕ) → total xs ≡ sum xs
total_sum [] = refl
total_sum (x ∷ xs) = ap (λ t. x + t) (total_sum xs) ∙ sym (sum_by-cons (λ k. k) x xs)

pub total_push : (xs : List ℕ) (k : ℕ) → total (xs ++ k ∷ []) ≡ total xs + k
total_push xs k = total_sum (xs ++ k ∷ []) ∙ sum_by_push (λ k. k) xs k ∙ ap (λ t. t + k) (sym (total_sum xs))

down : (n i : ℕ) → i < n → n - i ≡ suc (n - (i + 1))
down n i h = omega arith

module _ (n i sum : ℕ) (c : Cursor) (xs : List ℕ) (h : i < n) where
  abbrev after_count : ℕ × Cursor → Step (List ℕ)
  after_count p = cond (leb (sum + p.0) most_middles) (then (contents (n - (i + 1)) (i + 1) (sum + p.0) p.1) (λ t. Ok (p.0 ∷ t.0, t.1))) (Err (fault Total Count c))

  open_contents : contents (n - i) i sum c ≡ then (due Count 0 (contents_row i ∷ []) c) after_count
  open_contents = ap (λ k. contents k i sum c) (down n i h) ∙ ap (λ m. then (due Count 0 (contents_row i ∷ []) c) (λ p. cond (leb (sum + p.0) most_middles) (then (contents (n - (i + 1)) m (sum + p.0) p.1) (λ t. Ok (p.0 ∷ t.0, t.1))) (Err (fault Total Count c)))) (sym (add-one i))

  pub contents_fault : (f : Fault) → due Count 0 (contents_row i ∷ []) c ≡ Err f → joins xs (contents (n - i) i sum c) ≡ Err f
  contents_fault f e = ap (joins xs) (open_contents ∙ ap (λ r. then r after_count) e)

  pub contents_full : (k : ℕ) (d : Cursor) → due Count 0 (contents_row i ∷ []) c ≡ Ok (k, d) → most_middles < sum + k → joins xs (contents (n - i) i sum c) ≡ Err (fault Total Count c)
  contents_full k d e l = ap (joins xs) (open_contents ∙ ap (λ r. then r after_count) e ∙ ap (λ t. cond t (then (contents (n - (i + 1)) (i + 1) (sum + k) d) (λ t. Ok (k ∷ t.0, t.1))) (Err (fault Total Count c))) (lt-leb (sum + k) most_middles l))

  pub contents_step : (k : ℕ) (d : Cursor) → due Count 0 (contents_row i ∷ []) c ≡ Ok (k, d) → sum + k ≤ most_middles
      → joins xs (contents (n - i) i sum c) ≡ joins (xs ++ k ∷ []) (contents (n - (i + 1)) (i + 1) (sum + k) d)
  contents_step k d e l =
      ap (joins xs) (open_contents ∙ ap (λ r. then r after_count) e ∙ ap (λ t. cond t (then (contents (n - (i + 1)) (i + 1) (sum + k) d) (λ t. Ok (k ∷ t.0, t.1))) (Err (fault Total Count c))) (le-leb (sum + k) most_middles l))
      ∙ joins_more xs k (contents (n - (i + 1)) (i + 1) (sum + k) d)

module _ (b k i : ℕ) (c : Cursor) (xs : List Middle) (h : i < k) where
  abbrev after_node : Middle × Cursor → Step (List Middle)
  after_node p = then (middles b (k - (i + 1)) p.1) (λ t. Ok (p.0 ∷ t.0, t.1))

  pub middles_fault : (f : Fault) → due MiddleNode b middle_rows c ≡ Err f → joins xs (middles b (k - i) c) ≡ Err f
  middles_fault f e = ap (joins xs) (ap (λ m. middles b m c) (down k i h) ∙ ap (λ r. then r after_node) e)

  pub middles_step : (m : Middle) (d : Cursor) → due MiddleNode b middle_rows c ≡ Ok (m, d) → joins xs (middles b (k - i) c) ≡ joins (xs ++ m ∷ []) (middles b (k - (i + 1)) d)
  middles_step m d e = ap (joins xs) (ap (λ m. middles b m c) (down k i h) ∙ ap (λ r. then r after_node) e) ∙ joins_more xs m (middles b (k - (i + 1)) d)
