use Rattle.std.specs.Iterator.Adapters.{zip_first, zip_second}
use Rattle.std.specs.Slice.Iter.{iter_rest}
use Rattle.words.specs.Words.{spaced}
use Rattle.writer.proofs.Puts.{Left}
use Rattle.writer.proofs.put.put_operands.Given as goal

abbrev pub invariant-loop-kind : goal.invariant-loop-kind
invariant-loop-kind l =
    Left l.fn.page.items (spaced l.kinds l.values) l.page.items (spaced (iter_rest (zip_first l.kind-iterator)) (iter_rest (zip_second l.kind-iterator)))
