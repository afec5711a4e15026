use Rattle.std.proofs.Common.{◌≡◌, [], ◌++◌, length, refl, sym, ap, ◌∙◌, append-nil, append_assoc, arith}
use Rattle.std.proofs.Output.{writes_in_calls_nil, has_written_append, has_written_of_eq}
use Rattle.std.specs.Iterator.Adapters.{enumerate_source, enumerate_count}
use mathlib.Core.Logic.{inl}
use Rattle.script.specs.Model.{program_of}
use Rattle.writer.proofs.Formed.{few_blocks}
use Rattle.shorten.specs.Reports.{count_line, counts_from}
use Rattle.shorten.proofs.Counts.{blocks_left, counts_first}
use Rattle.shorten.proofs.report.CountsDisplay.fmt.Given.{Over}
use Rattle.shorten.proofs.report.CountsDisplay.fmt.Goals as goal

-- at the loop no block has been counted, and all are left
begun : (g : Over) (c : goal.After-into_iter-i-iterator g) → (enumerate_count c.into_iter-i-iterator.result ≡ 0) × (blocks_left (enumerate_source c.into_iter-i-iterator.result) ≡ program_of c.args.self.now.0.now)
begun g c =
    let it = c.into_iter-i-iterator.ensures.into_iter_gives in (
      ap enumerate_count it ∙ c.enumerate-i-items.ensures.count,
      ap (λ e. blocks_left (enumerate_source e)) it ∙ ap blocks_left c.enumerate-i-items.ensures.source ∙ c.blocks-2.ensures,
    )

pub loop-i-init : goal.loop-i-init
loop-i-init g c = λ plain.
    ([], record { wrote = writes_in_calls_nil _ _; plain = plain }, λ j. counts_from ((begun g c).0 j) ((begun g c).1 j))

pub loop-i-init-derived : goal.loop-i-init-derived
loop-i-init-derived g c =
    ((tt, tt, inl (omega (arith, (begun g c).0, ap length (begun g c).1, few_blocks c.args.self.now.0.now))), tt)

pub loop-i-preserved : goal.loop-i-preserved
loop-i-preserved g c = λ plain.
    let so_far = c.loop-i.invariant plain in
    let step = c.in-Some.ensures.steps in
    let line = count_line c.in-Some.i (length c.in-Some.block.middles.now) in
    let left = counts_first (enumerate_count c.loop-i.i-iterator) c.in-Some.i (enumerate_count c.next.new.self) (blocks_left (enumerate_source c.loop-i.i-iterator)) (c.in-Some.block.middles.now, c.in-Some.block.last) (blocks_left (enumerate_source c.next.new.self)) step.0 step.1 step.2 in (
      so_far.0 ++ line,
      has_written_append _ _ _ _ _ _ so_far.1 (c.in_ok-writeln.ensures.writes so_far.1.plain refl),
      append_assoc so_far.0 line _ ∙ ap (λ l. so_far.0 ++ l) (sym left) ∙ so_far.2,
    )

pub returns-clause-writes : goal.returns-clause-writes
returns-clause-writes g c = λ plain ok.
    let so_far = c.loop-i.invariant plain in
    has_written_of_eq _ _ _ _ _
    (sym (append-nil so_far.0) ∙ ap (λ p. so_far.0 ++ counts_from (enumerate_count c.loop-i.i-iterator) p) (sym c.in-None.ensures.steps.0.0) ∙ so_far.2) so_far.1
