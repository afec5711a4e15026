use Rattle.std.proofs.Common.{rules, of_calls, false, refl, ap, arith}
use Rattle.std.specs.Cmp.{booleans_Decides}
use Rattle.std.proofs.lemmas.Slice.Eq.{slice_eq-Decides}
use Rattle.pass.proofs.Joins.{join_by_test}
use Rattle.pass.proofs.Rows.{row_made}
use Rattle.nonzero.specs.Joins
use Rattle.nonzero.specs.Marks.{kept}
use Rattle.nonzero.specs.declared.Marks.{Marks}
use Rattle.nonzero.proofs.NonZeroLattice.join.Goals as goal

pub returns : goal.returns
returns c =
    let old = c.args.old in
    let both = row_made _ _ (kept old c.args.new) (λ i x q k. search (rules, of_calls)) _ false c.from_fn.ensures.items in
    let same = slice_eq-Decides booleans_Decides c.from_fn.result old.known _ refl in
    join_by_test Joins.lattice old c.args.new (omega arith) (omega arith) _ _ _
    (λ j. record { known = both j })
    (λ t j. record { known = same.0 t j }, λ e. same.1 (ap (λ (m : Marks). m.known) e))
    c.ne.ensures
