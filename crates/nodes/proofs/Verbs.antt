-- What the tables of node lines say of each verb, and a line whose first word is the name of no verb. (The lemmas on the row
-- of a verb are for proofs about lines that were read; none here needs them.)
use Rattle.std.proofs.Common.{◌≡◌, ℕ, cond, List, [], ◌∷◌, length, take, ℤ, Some, None, Err, Result, sym, refl, ap, ◌∙◌}
use Rattle.std.specs.Str.{bytes_eq}
use Rattle.std.proofs.lemmas.Bool.{false_from_ne_true}
use Rattle.std.proofs.lemmas.Slice.Eq.{bytes_eq-Decides}
use Rattle.std.proofs.lemmas.Result.{err_from_is_err_and}
use Rattle.std.specs.Result.{IsErrAnd}
use Rattle.script.specs.declared.node.Last.{Last}
use Rattle.script.specs.declared.node.Middle.{Middle}
use Rattle.words.specs.declared.flaw.Flaw.{Flaw}
use Rattle.words.specs.declared.flaw.Flaw.TheVariants.{Form}
use Rattle.words.specs.declared.verb.Verb.{Verb}
use Rattle.words.specs.declared.verb.Verb.TheVariants.{Set, Mov, Add, Sub, Mul, Div, Rem, Lt, Eq, Get, Put, Go, If, End}
use Rattle.words.specs.Forms.{Row, node_row, seek, follow, line_as, middle_rows, last_rows}
use Rattle.words.specs.Table.{name_of}
use Rattle.words.specs.Words.{cut}
use Rattle.nodes.specs.Nodes.{ends_block, middle_make, last_make}

-- ---- the row of a verb

abbrev pub middle_row : Verb → Row Middle
middle_row v = node_row v (middle_make v)

abbrev pub last_row : Verb → Row Last
last_row v = node_row v (last_make v)

pub seek_middle : (v : Verb) → seek middle_rows (name_of v) ≡ cond (ends_block v) None (Some (middle_row v))
seek_middle Set = refl
seek_middle Mov = refl
seek_middle Add = refl
seek_middle Sub = refl
seek_middle Mul = refl
seek_middle Div = refl
seek_middle Rem = refl
seek_middle Lt = refl
seek_middle Eq = refl
seek_middle Get = refl
seek_middle Put = refl
seek_middle Go = refl
seek_middle If = refl
seek_middle End = refl

pub seek_last : (v : Verb) → seek last_rows (name_of v) ≡ cond (ends_block v) (Some (last_row v)) None
seek_last Set = refl
seek_last Mov = refl
seek_last Add = refl
seek_last Sub = refl
seek_last Mul = refl
seek_last Div = refl
seek_last Rem = refl
seek_last Lt = refl
seek_last Eq = refl
seek_last Get = refl
seek_last Put = refl
seek_last Go = refl
seek_last If = refl
seek_last End = refl

-- ---- what a row makes hangs on no more values than it has kinds

abbrev pub Local : {A : Type 0} → Row A → Type 0
Local r = (a b c : ℤ) → r.make (take (length r.kinds) (a ∷ b ∷ c ∷ [])) ≡ r.make (a ∷ b ∷ c ∷ [])

pub middle_local : (v : Verb) → Local (middle_row v)
middle_local Set a b c = refl
middle_local Mov a b c = refl
middle_local Add a b c = refl
middle_local Sub a b c = refl
middle_local Mul a b c = refl
middle_local Div a b c = refl
middle_local Rem a b c = refl
middle_local Lt a b c = refl
middle_local Eq a b c = refl
middle_local Get a b c = refl
middle_local Put a b c = refl
middle_local Go a b c = refl
middle_local If a b c = refl
middle_local End a b c = refl

pub last_local : (v : Verb) → Local (last_row v)
last_local Set a b c = refl
last_local Mov a b c = refl
last_local Add a b c = refl
last_local Sub a b c = refl
last_local Mul a b c = refl
last_local Div a b c = refl
last_local Rem a b c = refl
last_local Lt a b c = refl
last_local Eq a b c = refl
last_local Get a b c = refl
last_local Put a b c = refl
last_local Go a b c = refl
last_local If a b c = refl
last_local End a b c = refl

-- ---- no verb

module _ {A : Type 0} (w : List ℕ) where
  abbrev Others : List (Row A) → Type 0
  Others [] = Unit {0}
  Others (r ∷ rs) = (r.name ≡ w → ⊥) × Others rs

  seek_none : (rows : List (Row A)) → Others rows → seek rows w ≡ None
  seek_none [] n = refl
  seek_none (r ∷ rs) n =
      ap (λ t. cond t (Some r) (seek rs w)) (false_from_ne_true (bytes_eq w r.name) (λ t. n.0 (sym ((bytes_eq-Decides w r.name).0 t))))
      ∙ seek_none rs n.1

pub middle_missing : (w : List ℕ) → ((v : Verb) → name_of v ≡ w → ⊥) → seek middle_rows w ≡ None
middle_missing w n = seek_none w middle_rows
    (n Set, (n Mov, (n Add, (n Sub, (n Mul, (n Div, (n Rem, (n Lt, (n Eq, (n Get, (n Put, tt)))))))))))

pub last_missing : (w : List ℕ) → ((v : Verb) → name_of v ≡ w → ⊥) → seek last_rows w ≡ None
last_missing w n = seek_none w last_rows (n Go, (n If, (n End, tt)))

-- and what its flaw comes out as
module _ {A : Type 0} (n : ℕ) (rows : List (Row A)) (l : List ℕ) where
  pub line_miss : seek rows (cut 32 l).0 ≡ None → (r : Result A Flaw) (f : Flaw) → f ≡ Form → IsErrAnd r (λ g. g ≡ f) → r ≡ line_as n rows l
  line_miss e r f form given =
      let exit = err_from_is_err_and r given in
      exit.1 ∙ ap Err (exit.2 ∙ form) ∙ sym (ap (λ o. follow n o (cut 32 l).1) e)
