-- The line that is due, when it is read and when it is written.
use Rattle.std.proofs.Common.{◌≡◌, ℕ, ◌≤◌, true, List, ◌∷◌, ◌++◌, Some, None, Ok, Err, Option, Result, sym, ap, ◌∙◌}
use Rattle.std.specs.Result.{MatchResult, IsErrAnd}
use Rattle.script.specs.Limits.{most_blocks}
use Rattle.words.specs.declared.flaw.Flaw.{Flaw}
use Rattle.words.specs.Forms.{Row, line_as}
use Rattle.words.specs.Words.{cut}
use Rattle.words.proofs.Cuts.{after, lacks, cut_glues, cut_after}
use Rattle.words.proofs.Rows.{Each, line_is}
use Rattle.reader.specs.declared.fault.Due.{Due}
use Rattle.reader.specs.declared.fault.Fault.{Fault}
use Rattle.reader.specs.declared.fault.Question.TheVariants.{Words}
use Rattle.reader.specs.Read.{Cursor, past, fault, judged, ended_line, due}
use Rattle.reader.specs.Steps.{Gives}

module _ {A : Type 0} (d : Due) (n : ℕ) where
  judged_is : (c next : Cursor) (x : Result A Flaw) (y : A × Cursor) → judged d c next x ≡ Ok y → (x ≡ Ok y.0) × (next ≡ y.1)
  judged_is c next (Ok a) y e = let q : (a, next) ≡ y = cc in (ap (λ (p : A × Cursor). Ok p.0) q, ap (λ (p : A × Cursor). p.1) q)
  judged_is c next (Err f) y e = cc

  ended_is : (rows : List (Row A)) (c : Cursor) (l : List ℕ) (o : Option (List ℕ)) (y : A × Cursor) → ended_line d n rows c l o ≡ Ok y
      → (l ++ after 10 o ≡ l ++ 10 ∷ y.1.rest) × (line_as n rows l ≡ Ok y.0)
  ended_is rows c l None y e = cc
  ended_is rows c l (Some rest) y e =
      let two = judged_is c (past c l rest) (line_as n rows l) y e in
      ((λ i. l ++ 10 ∷ (two.1 i).rest), two.0)

  -- a line that is read: its bytes, a line feed, and the rest; and whatever every row makes of its line is so of it
  pub due_is : n ≤ most_blocks → (G : A → List ℕ → Type 0) (rows : List (Row A)) → ((b : n ≤ most_blocks) → Each n b G rows) → (c : Cursor) (y : A × Cursor) → due d n rows c ≡ Ok y
      → (l : List ℕ) × (c.rest ≡ l ++ 10 ∷ y.1.rest) × G y.0 l
  due_is b G rows g c y e =
      let l = (cut 10 c.rest).0 in
      let is = ended_is rows c l (cut 10 c.rest).1 y e in
      (l, cut_glues 10 c.rest ∙ is.0, line_is n b G rows (g b) l y.0 is.1)

  pub due_written : (rows : List (Row A)) (l : List ℕ) (a : A) → line_as n rows l ≡ Ok a → lacks 10 l ≡ true → (c : Cursor) (rest : List ℕ) → c.rest ≡ l ++ 10 ∷ rest
      → due d n rows c ≡ Ok (a, past c l rest)
  due_written rows l a e k c rest t =
      let q : cut 10 c.rest ≡ (l, Some rest) = ap (cut 10) t ∙ cut_after 10 l (Some rest) k in
      (λ i. ended_line d n rows c (q i).0 (q i).1) ∙ ap (judged d c (past c l rest)) e

  -- a line that ends, and what is made of it
  due_cut : (rows : List (Row A)) (c next : Cursor) (l rest : List ℕ) → cut 10 c.rest ≡ (l, Some rest) → next ≡ past c l rest → (r : Result A Flaw) → r ≡ line_as n rows l
      → due d n rows c ≡ judged d c next r
  due_cut rows c next l rest q p r e = (λ i. ended_line d n rows c (q i).0 (q i).1) ∙ (λ i. judged d c (sym p i) (sym e i))

  pub due_made : (rows : List (Row A)) (c next : Cursor) (l rest : List ℕ) → cut 10 c.rest ≡ (l, Some rest) → next ≡ past c l rest → (r : Result A Flaw) → r ≡ line_as n rows l
      → (o : Result A Fault) → MatchResult r (λ x. o ≡ Ok x) (λ e. IsErrAnd o (λ f. f ≡ fault (Words e) d c)) → Gives (due d n rows c) o next
  due_made rows c next l rest q p (Ok x) e (Ok y) h = due_cut rows c next l rest q p (Ok x) e ∙ (let s : x ≡ y = cc (sym h) in ap (λ z. Ok (z, next)) s)
  due_made rows c next l rest q p (Ok x) e (Err f) h = cc h
  due_made rows c next l rest q p (Err g) e (Ok y) h = absurd h
  due_made rows c next l rest q p (Err g) e (Err f) h = due_cut rows c next l rest q p (Err g) e ∙ ap Err (sym h)
