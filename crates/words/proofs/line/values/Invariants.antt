use Rattle.std.proofs.Common.{◌≡◌, ◌≤◌, length, drop}
use Rattle.std.specs.Option.{option_map}
use Rattle.words.specs.Words.{operands}
use Rattle.words.proofs.Values.{onto}
use Rattle.words.proofs.line.values.Given as goal

abbrev pub invariant-loop-kind : goal.invariant-loop-kind
invariant-loop-kind l = record {
  few : length l.numbers.items ≤ l.kind-index;
  left : operands l.blocks l.kinds (option_map (λ x. x.now) l.rest)
      ≡ onto l.numbers.items l.in_range (operands l.blocks (drop l.kind-index l.kinds) (option_map (λ x. x.now) l.left));
}
