use Rattle.std.proofs.Common.{ap}
use Rattle.script.specs.declared.node.Last.TheVariants.{End}
use Rattle.script.proofs.Same.{same_register}
use Rattle.script.proofs.node.LastDefault.default.Goals as goal

pub returns : goal.returns
returns c = ap End (same_register _ _ c.default-from.ensures)
