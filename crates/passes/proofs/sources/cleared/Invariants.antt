use Rattle.std.proofs.Common.{◌≡◌, ◌++◌, map, take, drop}
use Rattle.passes.specs.Sources.{without}
use Rattle.passes.proofs.sources.cleared.Given as goal

abbrev pub invariant-loop-source : goal.invariant-loop-source
invariant-loop-source l = l.source-items ≡ map (without l.d.index) (take l.source-index l.initial.source-items) ++ drop l.source-index l.initial.source-items
