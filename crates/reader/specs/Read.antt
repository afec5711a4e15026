-- What a text says: the script that it is read as, or its first fault.
--
--   Cursor              a place in a text, at the begin of a line: the line's number, its place, and the bytes from there on
--   Step A              an A and where the reading goes on, or a fault
--   due d n rows c      the line at c has the form of one of the rows, in a script of n blocks; d is what was due there
--   contents k i sum c  the contents lines of k blocks from block i on, after counts that come to sum
--   middles n k c       k middle nodes, of a script of n blocks
--   body n k c          a block with k middle nodes
--   bodies n ks c       blocks with ks middle nodes each
--   read t              the text t
use Rattle.std.specs.Prelude.{ℕ, zero, suc, ◌+◌, cond, List, [], ◌∷◌, length, Some, None, Ok, Err, Option, Result, nat_le}
use Rattle.script.specs.Limits.{most_middles}
use Rattle.script.specs.Run.{Block, Program}
use Rattle.script.specs.declared.node.Middle.{Middle}
use Rattle.words.specs.declared.flaw.Flaw.{Flaw}
use Rattle.words.specs.Words.{cut}
use Rattle.words.specs.Forms.{Row, header_row, contents_row, middle_rows, last_rows, line_as}
use Rattle.reader.specs.declared.fault.Due.{Due}
use Rattle.reader.specs.declared.fault.Due.TheVariants.{Header, Count, MiddleNode, LastNode, Nothing}
use Rattle.reader.specs.declared.fault.Fault.{Fault}
use Rattle.reader.specs.declared.fault.Question.{Question}
use Rattle.reader.specs.declared.fault.Question.TheVariants.{Feed, Words, Total, Finish}

pub record Cursor : Type 0 where
  pub line : ℕ
  pub place : ℕ
  pub rest : List ℕ

abbrev pub start : List ℕ → Cursor
start t = record { line = 1; place = 0; rest = t }

-- after the line l
abbrev pub past : Cursor → List ℕ → List ℕ → Cursor
past c l rest = record { line = suc c.line; place = c.place + suc (length l); rest = rest }

abbrev pub fault : Question → Due → Cursor → Fault
fault q d c = record { question = q; due = d; line = c.line; place = c.place }

abbrev pub Step : Type 0 → Type 0
Step A = Result (A × Cursor) Fault

abbrev pub then : {A B : Type 0} → Result A Fault → (A → Result B Fault) → Result B Fault
then (Ok a) f = f a
then (Err x) f = Err x

-- ---- one line; 10 is the line feed

abbrev pub judged : {A : Type 0} → Due → Cursor → Cursor → Result A Flaw → Step A
judged d c next (Ok a) = Ok (a, next)
judged d c next (Err f) = Err (fault (Words f) d c)

abbrev pub ended_line : {A : Type 0} → Due → ℕ → List (Row A) → Cursor → List ℕ → Option (List ℕ) → Step A
ended_line d n rows c l None = Err (fault Feed d c)
ended_line d n rows c l (Some rest) = judged d c (past c l rest) (line_as n rows l)

abbrev pub due : {A : Type 0} → Due → ℕ → List (Row A) → Cursor → Step A
due d n rows c = ended_line d n rows c (cut 10 c.rest).0 (cut 10 c.rest).1

-- ---- the parts of a text

abbrev pub contents : ℕ → ℕ → ℕ → Cursor → Step (List ℕ)
contents zero i sum c = Ok ([], c)
contents (suc k) i sum c =
    then (due Count 0 (contents_row i ∷ []) c) (λ h.
    cond (nat_le (sum + h.0) most_middles)
    (then (contents k (suc i) (sum + h.0) h.1) (λ t. Ok (h.0 ∷ t.0, t.1)))
    (Err (fault Total Count c)))

abbrev pub middles : ℕ → ℕ → Cursor → Step (List Middle)
middles n zero c = Ok ([], c)
middles n (suc k) c =
    then (due MiddleNode n middle_rows c) (λ h. then (middles n k h.1) (λ t. Ok (h.0 ∷ t.0, t.1)))

abbrev pub body : ℕ → ℕ → Cursor → Step Block
body n k c = then (middles n k c) (λ h. then (due LastNode n last_rows h.1) (λ t. Ok ((h.0, t.0), t.1)))

abbrev pub bodies : ℕ → List ℕ → Cursor → Step Program
bodies n [] c = Ok ([], c)
bodies n (k ∷ ks) c = then (body n k c) (λ h. then (bodies n ks h.1) (λ t. Ok (h.0 ∷ t.0, t.1)))

-- after the last line due
abbrev pub finished : List ℕ → Cursor → Program → Result Program Fault
finished [] c p = Ok p
finished (x ∷ xs) c p = Err (fault Finish Nothing c)

abbrev pub read : List ℕ → Result Program Fault
read t =
    then (due Header 0 (header_row ∷ []) (start t)) (λ h.
    then (contents h.0 0 0 h.1) (λ k.
    then (bodies h.0 k.0 k.1) (λ b.
    finished b.1.rest b.1 b.0)))
