use Rattle.std.proofs.Common.{ap, ◌∙◌}
use Rattle.passes.specs.Sources.{well}
use Rattle.passes.specs.SourcesLaws.{common_well}
use Rattle.passes.proofs.sources.Sources.join.Goals as goal

pub invariant_of-result : goal.invariant_of-result
invariant_of-result c = record { ok = ap well c.join-differs.ensures.shared ∙ common_well c.args.self.now.row c.args.new.now.row c.args.self.now.ok }
