use Rattle.std.proofs.Common.{rules, ◌∷◌}
use Rattle.std.specs.Iterator.Adapters.{zip_first, zip_second}
use Rattle.std.specs.Slice.Iter.{iter_rest}
use Rattle.std.proofs.lemmas.Slice.Zip.{Zip-more, either_empty_from_Zip}
use Rattle.words.specs.Words.{spell, spaced}
use Rattle.writer.proofs.Puts.{left_full, left_none, spaced_end}
use Rattle.writer.proofs.put.put_operands.Goals as goal

pub returns-in_err-put_operand : goal.returns-in_err-put_operand
returns-in_err-put_operand c =
    let step = Zip-more c.loop-kind.kind-iterator c.next.new.self c.next.result (c.in-Some.kind, c.in-Some.value) c.in-Some.is c.next.ensures.steps in
    left_full c.loop-kind.invariant c.from_residual.result (32 ∷ spell c.in-Some.kind.now c.in-Some.value.now)
    (spaced (iter_rest (zip_first c.next.new.self)) (iter_rest (zip_second c.next.new.self))) _ c.from_residual.ensures.0 (λ i. spaced (step.0 i) (step.1 i)) (search rules)

pub returns : goal.returns
returns c =
    left_none c.loop-kind.invariant (spaced_end _ _ (either_empty_from_Zip c.loop-kind.kind-iterator c.next.new.self c.next.result c.in-None.is c.next.ensures.steps))
