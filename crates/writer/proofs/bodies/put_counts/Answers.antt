use Rattle.std.proofs.Common.{◌≡◌, [], ◌∷◌, ◌++◌, length, ap, ◌∙◌, arith}
use Rattle.std.specs.Iterator.Adapters.{enumerate_source, enumerate_count}
use mathlib.Core.Logic.{inl}
use Rattle.script.specs.Model.{program_of, middle_count}
use Rattle.writer.specs.Text.{count_text, counts_text, counts}
use Rattle.writer.proofs.Formed.{few_blocks, few_middles}
use Rattle.writer.proofs.Puts.{left_full}
use Rattle.writer.proofs.Texts.{blocks_left, counts_first}
use Rattle.writer.proofs.bodies.put_counts.Goals as goal

pub loop-i-init-derived : goal.loop-i-init-derived
loop-i-init-derived c =
    let it = c.into_iter-i-iterator.ensures.into_iter_gives in
    let none : enumerate_count c.into_iter-i-iterator.result ≡ 0 = ap enumerate_count it ∙ c.enumerate-i-items.ensures.count in
    let all : blocks_left (enumerate_source c.into_iter-i-iterator.result) ≡ program_of c.args.script.now =
    ap (λ e. blocks_left (enumerate_source e)) it ∙ ap blocks_left c.enumerate-i-items.ensures.source ∙ c.blocks-2.ensures in
    ((tt, tt, inl (omega (arith, none, ap length all, few_blocks c.args.script.now))), tt)

pub overflow_cast-i : goal.overflow_cast-i
overflow_cast-i c =
    let step = c.in-Some.ensures.steps in
    record { fits = omega (arith, step.1, ap length step.0, c.loop-i.invariant.1, few_blocks c.args.script.now) }

pub overflow_cast-block : goal.overflow_cast-block
overflow_cast-block c =
    record { fits = omega (arith, ap middle_count c.in-Some.ensures.steps.0, c.loop-i.invariant.2, few_middles c.args.script.now) }

pub returns-in_err-put_count : goal.returns-in_err-put_count
returns-in_err-put_count c =
    let step = c.in-Some.ensures.steps in
    left_full c.loop-i.invariant.0 c.from_residual.result (count_text c.in-Some.i (length c.in-Some.block.middles.now) ++ 10 ∷ [])
    (counts_text (enumerate_count c.next.new.self) (counts (blocks_left (enumerate_source c.next.new.self))) []) _ c.from_residual.ensures.0
    (counts_first (enumerate_count c.loop-i.i-iterator) c.in-Some.i (enumerate_count c.next.new.self) (blocks_left (enumerate_source c.loop-i.i-iterator)) (c.in-Some.block.middles.now, c.in-Some.block.last) _ step.0 step.1 step.2)
    c.in_err-put_count.ensures
