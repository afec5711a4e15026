use Rattle.std.proofs.Common.{List, vec_items, subst}
use Rattle.std.specs.List.{AllByRecursion}
use Rattle.script.specs.declared.node.Middle.{Middle}
use Rattle.script.specs.Run.{Fit}
use Rattle.script.proofs.Fitting.{blocks_fit}
use Rattle.script.proofs.store.Script.numbers_fit.Goals as goal

pub returns : goal.returns
returns c =
    let self = c.args.self.now in
    blocks_fit (vec_items self.middles) 0 (vec_items self.blocks) (subst (λ (ms : List Middle). AllByRecursion Fit ms) c.as_slice.ensures.value c.all_fit.ensures)
