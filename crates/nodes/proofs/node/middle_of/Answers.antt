use Rattle.std.proofs.Common.{◌≡◌, ◌≢◌, ◌<◌, false, length, refl, true≢false, lit<, rules}
use Rattle.script.specs.declared.node.Operation.{Operation}
use Rattle.script.specs.declared.node.Operation.TheVariants as operation
use Rattle.words.specs.declared.verb.Verb.{Verb}
use Rattle.words.specs.declared.verb.Verb.TheVariants.{Set, Mov, Add, Sub, Mul, Div, Rem, Lt, Eq, Get, Put, Go, If, End}
use Rattle.words.specs.Forms.{verb_of}
use Rattle.words.specs.Table.{kinds_of}
use Rattle.nodes.specs.Nodes.{ends_block}
use Rattle.nodes.proofs.node.middle_of.Goals as goal

-- a middle node that is no arithmetic has fewer operands
no_other : (v : Verb) → ends_block v ≡ false → ((o : Operation) → verb_of o ≢ v) → length (kinds_of v) < 3
no_other Set m others = lit< tt
no_other Mov m others = lit< tt
no_other Add m others = absurd (others operation.Add refl)
no_other Sub m others = absurd (others operation.Sub refl)
no_other Mul m others = absurd (others operation.Mul refl)
no_other Div m others = absurd (others operation.Div refl)
no_other Rem m others = absurd (others operation.Rem refl)
no_other Lt m others = absurd (others operation.Lt refl)
no_other Eq m others = absurd (others operation.Eq refl)
no_other Get m others = lit< tt
no_other Put m others = lit< tt
no_other Go m others = absurd (true≢false m)
no_other If m others = absurd (true≢false m)
no_other End m others = absurd (true≢false m)

pub unreachable-requires : goal.unreachable-requires
unreachable-requires c = let h : length (kinds_of c.args.verb) < 3 = no_other c.args.verb c.requires.inside c.in_default.ensures.1 in search rules
