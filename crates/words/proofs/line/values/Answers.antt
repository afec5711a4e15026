use Rattle.std.proofs.Common.{◌≡◌, ◌+◌, [], ◌∷◌, ◌++◌, length, get_or, drop, ℤ, Ok, sym, ap, ◌∙◌, arith, length-append, w32}
use Rattle.arrayvec.specs.ArrayVec.{ArrayVec}
use Rattle.std.proofs.lemmas.Grind.{common_steps}
use Rattle.std.proofs.lemmas.Int.{to_z-of_z}
use Rattle.std.specs.Option.{option_map}
use Rattle.std.specs.Result.{result_ok, result_map_both}
use Rattle.words.specs.declared.kind.Kind.TheVariants.{RegisterWord}
use Rattle.words.specs.Words.{operands}
use Rattle.words.proofs.Values.{onto_ok, onto_far, values_none, values_here, none_left}
use Rattle.words.proofs.Rows.{operands_length}
use Rattle.words.proofs.Spelt.{operand_fits}
use Rattle.words.proofs.line.values.Goals as goal
use Rattle.words.proofs.line.values.Goals.{in-Ok, in-Err-Range}

pub returns-in_err-ok_or-clause-reads : goal.returns-in_err-ok_or-clause-reads
returns-in_err-ok_or-clause-reads c =
    let end = none_left c.loop-kind.left c.ok_or.result c.in_err-ok_or.field-0.0 c.from_residual.result c.ok_or.ensures.value c.in_err-ok_or.was c.from_residual.ensures.1 in
    ap (result_map_both (λ v. v.items) (λ f. f)) end.1
    ∙ sym (values_none c.args.blocks c.args.kinds.now c.loop-kind.kind-index RegisterWord c.loop-kind-test.true _ c.loop-kind.numbers.items c.loop-kind.in_range
    (option_map (λ x. x.now) c.loop-kind.left) c.loop-kind.invariant.left (ap (option_map (λ x. x.now)) end.0))

pub loop-kind-preserved : goal.loop-kind-preserved
loop-kind-preserved c =
    let i = c.loop-kind.kind-index in
    let items = c.loop-kind.numbers.items in
    let rest = operands c.args.blocks (drop (i + 1) c.args.kinds.now) (option_map (λ x. x.now) c.cut.result.1) in
    let here = values_here c.args.blocks c.args.kinds.now i RegisterWord c.loop-kind-test.true _ items c.loop-kind.in_range (option_map (λ x. x.now) c.loop-kind.left) c.loop-kind.invariant.left
    c.in_ok-ok_or.field-0.now (ap (option_map (λ x. x.now)) (c.ok_or.ensures.ok_part ∙ ap result_ok c.in_ok-ok_or.was))
    c.cut.result.0.now (option_map (λ x. x.now) c.cut.result.1) c.cut.ensures.front c.cut.ensures.back
    c.operand.result c.operand.ensures in
    elim c.match-operand.branch [
      | in-Ok w ↦
          let fits = operand_fits c.args.blocks (omega arith) (get_or c.args.kinds.now i RegisterWord) c.cut.result.0.now w.in-Ok.x (sym w.in-Ok.is ∙ c.operand.ensures) in
          let pushed : c.match-operand.numbers.items ≡ items ++ w.in-Ok.x ∷ [] =
          ap (λ (v : ArrayVec ℤ). v.items) w.numbers-is ∙ w.push.ensures.items ∙ ap (λ z. items ++ z ∷ []) (to_z-of_z w32 w.in-Ok.x fits) in
          let next = onto_ok items c.loop-kind.in_range w.in-Ok.x rest in
          record { few = omega (arith, ap length pushed, length-append items (w.in-Ok.x ∷ [])); left = cc (here, next, pushed) }
      | in-Err-Range w ↦
          let next = onto_far items c.match-operand.numbers.items c.loop-kind.in_range rest in
          record { few = omega (arith, ap (λ (v : ArrayVec ℤ). length v.items) w.numbers-is); left = cc (here, next) }
    ]

pub returns-clause-many : goal.returns-clause-many
returns-clause-many c =
    let rest = option_map (λ x. x.now) c.args.rest in
    let reads : Ok c.loop-kind.numbers.items ≡ operands c.args.blocks c.args.kinds.now rest = grind (arith, common_steps) in
    operands_length c.args.blocks c.args.kinds.now rest c.loop-kind.numbers.items (sym reads)
