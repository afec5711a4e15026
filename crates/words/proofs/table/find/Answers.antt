use Rattle.std.proofs.Common.{◌≡◌, ◌≢◌, ℕ, ◌<◌, List, [], ◌∷◌, length, get_or, Some, None, Option, ap, subst, ◌∙◌, arith, rules}
use Rattle.std.proofs.lemmas.Iterator.{first_from_find, YieldsList-from_slice}
use Rattle.std.proofs.lemmas.List.Elements.{AllWithin-from_all}
use Rattle.std.specs.List.{All, AllWithin, HoldsAt}
use Rattle.std.specs.Option.{MatchOption}
use borrow.Author.Tests.{tests}
use denote.Ref.{Bor}
use Rattle.words.specs.declared.table.NodeForm.{NodeForm}
use Rattle.words.specs.declared.verb.Verb.{Verb as AnyVerb}
use Rattle.words.specs.declared.verb.Verb.TheVariants.{Set, Mov, Add, Sub, Mul, Div, Rem, Lt, Eq, Get, Put, Go, If, End}
use Rattle.words.specs.Table.{name_of}
use Rattle.words.proofs.table.find.Goals as goal

abbrev place_of : AnyVerb → ℕ
place_of Set = 0
place_of Mov = 1
place_of Add = 2
place_of Sub = 3
place_of Mul = 4
place_of Div = 5
place_of Rem = 6
place_of Lt = 7
place_of Eq = 8
place_of Get = 9
place_of Put = 10
place_of Go = 11
place_of If = 12
place_of End = 13

abbrev Named : NodeForm → Type 0
Named row = name_of row.verb ≡ row.name.now

first_row : (rows : List NodeForm) → 0 < length rows → NodeForm
first_row [] h = absurd (omega arith)
first_row (row ∷ rows) h = row

-- in a table with a row for each verb, the verb of the first row with this name is the verb with this name
module _ (items rows : List NodeForm) (same : items ≡ rows) (w : List ℕ) where
  verb_found : (r : Option (Bor NodeForm)) (o : Option AnyVerb)
      → MatchOption r (AllWithin (λ f. f.name.now ≢ w) rows 0 (length rows))
      (λ x. (x.now.name.now ≡ w) × (i : ℕ) × (i < length rows) × HoldsAt (λ y. y ≡ x.now) rows i × AllWithin (λ f. f.name.now ≢ w) rows 0 i)
      → MatchOption r (o ≡ None) (λ x. o ≡ Some x.now.verb)
      → All Named rows
      → ((v : AnyVerb) → (place_of v < length rows) × ((d : NodeForm) → (get_or rows (place_of v) d).name.now ≡ name_of v))
      → elim o as (λ _. Type 0) [ Some v ↦ name_of v ≡ w | None ↦ ((v : AnyVerb) → name_of v ≢ w) ]
  verb_found None None none e named each = λ v h.
      let low = (each v).0 in
      let row = first_row rows (omega arith) in
      none (place_of v) row (omega arith) low ((each v).1 row ∙ h)
  verb_found None (Some v) none e named each = absurd (cc)
  verb_found (Some x) None some e named each = absurd (cc)
  verb_found (Some x) (Some v) some e named each =
      let named_here = AllWithin-from_all Named rows named some.1 x.now (omega arith) some.2 in
      ap name_of (cc) ∙ subst Named (some.3 x.now) named_here ∙ some.0

pub returns-clause-finds : goal.returns-clause-finds
returns-clause-finds c =
    let first = first_from_find _ _ _ (λ (f : NodeForm). f.name.now ≡ c.args.word.now) (λ (f : NodeForm). f.name.now ≢ c.args.word.now)
    c.find.ensures.ran (YieldsList-from_slice _ c.iter.ensures.rest) (λ x q k. search (rules, tests)) (λ x q k. search (rules, tests)) in
    let verb : MatchOption c.find.result (c.map.result ≡ None) (λ x. c.map.result ≡ Some x.now.verb) = search (rules, tests) in
    verb_found _ _ c.iter.ensures.rest c.args.word.now c.find.result c.map.result first verb (search rules) (search rules)
