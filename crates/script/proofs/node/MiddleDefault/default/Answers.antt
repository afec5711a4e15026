use Rattle.std.proofs.Common.{ap}
use Rattle.script.specs.declared.node.Middle.TheVariants.{Put}
use Rattle.script.proofs.Same.{same_register}
use Rattle.script.proofs.node.MiddleDefault.default.Goals as goal

pub returns : goal.returns
returns c = ap Put (same_register _ _ c.default-from.ensures)
