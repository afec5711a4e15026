-- The forms of all lines, for the reader and for the writer.
--
--   Row A             the form of a line: its first word, the kinds of the words that follow, and what these make
--   header_row        `blocks N`
--   contents_row i    `bI C` of block i
--   middle_rows       the middle nodes
--   last_rows         the last nodes
--   line_as n rows l  what the line l says as one of the rows, in a script of n blocks, or its flaw; l has no line feed
--   row_text r zs     the line of the row r for the numbers zs, without line feed
use Rattle.std.specs.Prelude.{ℕ, ◌%◌, cond, List, [], ◌∷◌, ◌++◌, ℤ, pos, Some, None, Ok, Err, codes, decimal, Option, Result, slice_index_or, unsigned_abs}
use Rattle.std.proofs.Common.{mod-lt, lit<}
use Rattle.std.specs.Str.{bytes_eq}
use Rattle.script.specs.Limits.{registers, slots}
use Rattle.script.specs.declared.register.Register.{Register}
use Rattle.script.specs.declared.register.Slot.{Slot}
use Rattle.script.specs.declared.node.Operation.{Operation}
use Rattle.script.specs.declared.node.Operation.TheVariants.{Add, Sub, Mul, Div, Rem, Lt, Eq}
use Rattle.script.specs.declared.node.Middle.{Middle}
use Rattle.script.specs.declared.node.Middle.TheVariants.{Set, Mov, Compute, Get, Put}
use Rattle.script.specs.declared.node.Last.{Last}
use Rattle.script.specs.declared.node.Last.TheVariants.{Go, If, End}
use Rattle.words.specs.declared.flaw.Flaw.{Flaw}
use Rattle.words.specs.declared.flaw.Flaw.TheVariants.{Form}
use Rattle.words.specs.declared.kind.Kind.{Kind}
use Rattle.words.specs.declared.kind.Kind.TheVariants.{SizeWord, CountWord}
use Rattle.words.specs.declared.verb.Verb.{Verb}
use Rattle.words.specs.declared.verb.Verb.TheVariants as verb
use Rattle.words.specs.Table.{name_of, kinds_of}
use Rattle.words.specs.Words.{cut, operands, spaced}

pub record Row (A : Type 0) : Type 0 where
  pub name : List ℕ
  pub kinds : List Kind
  pub make : List ℤ → A

-- ---- operand i, as what its kind says that it is; where it is read, it is in range

abbrev pub number_at : List ℤ → ℕ → ℤ
number_at vs i = slice_index_or vs i (pos 0)

abbrev pub count_at : List ℤ → ℕ → ℕ
count_at vs i = unsigned_abs (number_at vs i)

abbrev pub register : ℕ → Register
register n = record { index = n % registers; ok = mod-lt n (lit< tt) }

abbrev pub slot : ℕ → Slot
slot n = record { index = n % slots; ok = mod-lt n (lit< tt) }

abbrev pub register_at : List ℤ → ℕ → Register
register_at vs i = register (count_at vs i)

abbrev pub slot_at : List ℤ → ℕ → Slot
slot_at vs i = slot (count_at vs i)

-- a block's number is a byte
abbrev pub block_at : List ℤ → ℕ → ℕ
block_at vs i = count_at vs i % 256

-- ---- the rows

abbrev pub header_row : Row ℕ
header_row = record { name = codes "blocks"; kinds = SizeWord ∷ []; make = λ v. count_at v 0 }

abbrev pub contents_row : ℕ → Row ℕ
contents_row i = record { name = 98 ∷ decimal i; kinds = CountWord ∷ []; make = λ v. count_at v 0 }

abbrev pub node_row : {A : Type 0} → Verb → (List ℤ → A) → Row A
node_row v f = record { name = name_of v; kinds = kinds_of v; make = f }

abbrev pub verb_of : Operation → Verb
verb_of Add = verb.Add
verb_of Sub = verb.Sub
verb_of Mul = verb.Mul
verb_of Div = verb.Div
verb_of Rem = verb.Rem
verb_of Lt = verb.Lt
verb_of Eq = verb.Eq

abbrev pub set_row : Row Middle
set_row = node_row verb.Set (λ v. Set (register_at v 0) (number_at v 1))

abbrev pub mov_row : Row Middle
mov_row = node_row verb.Mov (λ v. Mov (register_at v 0) (register_at v 1))

abbrev pub compute_row : Operation → Row Middle
compute_row o = node_row (verb_of o) (λ v. Compute o (register_at v 0) (register_at v 1) (register_at v 2))

abbrev pub get_row : Row Middle
get_row = node_row verb.Get (λ v. Get (register_at v 0) (slot_at v 1))

abbrev pub put_row : Row Middle
put_row = node_row verb.Put (λ v. Put (register_at v 0))

abbrev pub go_row : Row Last
go_row = node_row verb.Go (λ v. Go (block_at v 0))

abbrev pub if_row : Row Last
if_row = node_row verb.If (λ v. If (register_at v 0) (block_at v 1) (block_at v 2))

abbrev pub end_row : Row Last
end_row = node_row verb.End (λ v. End (register_at v 0))

abbrev pub middle_rows : List (Row Middle)
middle_rows =
    set_row ∷ mov_row ∷ compute_row Add ∷ compute_row Sub ∷ compute_row Mul ∷ compute_row Div ∷ compute_row Rem ∷ compute_row Lt
    ∷ compute_row Eq ∷ get_row ∷ put_row ∷ []

abbrev pub last_rows : List (Row Last)
last_rows = go_row ∷ if_row ∷ end_row ∷ []

-- ---- reading a line as one of the rows

-- the row with this first word
abbrev pub seek : {A : Type 0} → List (Row A) → List ℕ → Option (Row A)
seek [] w = None
seek (r ∷ rs) w = cond (bytes_eq w r.name) (Some r) (seek rs w)

abbrev pub made_by : {A : Type 0} → Row A → Result (List ℤ) Flaw → Result A Flaw
made_by r (Ok vs) = Ok (r.make vs)
made_by r (Err f) = Err f

abbrev pub follow : {A : Type 0} → ℕ → Option (Row A) → Option (List ℕ) → Result A Flaw
follow n None rest = Err Form
follow n (Some r) rest = made_by r (operands n r.kinds rest)

abbrev pub line_as : {A : Type 0} → ℕ → List (Row A) → List ℕ → Result A Flaw
line_as n rows l = follow n (seek rows (cut 32 l).0) (cut 32 l).1

-- ---- and writing one

abbrev pub row_text : {A : Type 0} → Row A → List ℤ → List ℕ
row_text r vs = r.name ++ spaced r.kinds vs
