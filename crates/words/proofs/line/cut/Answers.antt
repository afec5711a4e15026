use Rattle.std.proofs.Common.{◌≡◌, ◌≢◌, ℕ, ◌+◌, List, Some, Option, sym, ap, ◌∙◌, rules}
use Rattle.std.proofs.lemmas.Iterator.{IsFirst-from_position, YieldsList-from_slice}
use Rattle.std.proofs.lemmas.List.{take_rest}
use borrow.Author.Tests.{tests}
use Rattle.words.proofs.Cuts.{FirstPlace, cut_found, cut_missing}
use Rattle.words.proofs.line.cut.Goals as goal
use Rattle.words.proofs.line.cut.Goals.{After-position}

first : (c : After-position) → FirstPlace c.args.byte c.args.bytes.now c.position.result
first c =
    IsFirst-from_position _ _ _ (λ x. x ≡ c.args.byte) (λ x. x ≢ c.args.byte) c.position.ensures.ran (YieldsList-from_slice c.args.bytes.now c.iter.ensures.rest)
    (λ x q k. search (rules, tests)) (λ x q k. search (rules, tests))

pub returns-in-Some : goal.returns-in-Some
returns-in-Some c =
    let parts = cut_found c.args.byte c.args.bytes.now _ (first (goal.at.returns-in-Some c).After-position) c.in-Some.at c.in-Some.is in
    record {
      front = sym (ap (λ (p : List ℕ × Option (List ℕ)). p.0) parts);
      back = ap Some (take_rest c.args.bytes.now (c.in-Some.at + 1)) ∙ sym (ap (λ (p : List ℕ × Option (List ℕ)). p.1) parts);
    }

pub returns-in-None : goal.returns-in-None
returns-in-None c =
    let parts = cut_missing c.args.byte c.args.bytes.now _ (first (goal.at.returns-in-None c).After-position) c.in-None.is in
    record {
      front = sym (ap (λ (p : List ℕ × Option (List ℕ)). p.0) parts);
      back = sym (ap (λ (p : List ℕ × Option (List ℕ)). p.1) parts);
    }
