use Rattle.std.proofs.Common.{◌≡◌, true, length, subst}
use Rattle.std.proofs.lemmas.Bool.{and_parts}
use Rattle.script.specs.Shape.{ends_at}
use Rattle.script.proofs.Stored.{ends_up}
use Rattle.script.proofs.blocks.BlocksIterator.next.Goals as goal

-- the next block ends within the row of middle nodes
pub part-requires-clause-inside : goal.part-requires-clause-inside
part-requires-clause-inside c =
    let self = c.args.self.now in
    let stored = c.in_ok-stored.stored.now in
    let rest = c.in_ok-stored.ends.now in
    let size = length self.middles.now in
    let ordered = subst (λ bs. ends_at self.from bs size ≡ true) c.in_ok-stored.ensures.cases.0 self.ordered in
    ends_up stored.end rest size (and_parts _ (ends_at stored.end rest size) ordered).1
