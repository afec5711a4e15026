use Rattle.std.proofs.Common.{rules, not, None, ap, ◌∙◌, arith}
use Rattle.std.specs.Option.{option_eq}
use Rattle.std.specs.Cmp.Lexicographic.{pointwise}
use Rattle.pass.proofs.Rows.{row_made}
use Rattle.passes.specs.Shared.{shared}
use Rattle.passes.proofs.Joins.{differs}
use Rattle.passes.proofs.rows.join.Goals as goal

pub returns : goal.returns
returns g c =
    let same = g.T.PartialEq.eq in
    let row = row_made _ _ (shared same c.args.old c.args.new) (λ i x q k. search rules) _ None c.from_fn-row.ensures.items in
    record {
      shared = row;
      differs = c.ne-differs.ensures ∙ ap (λ r. not (pointwise (option_eq same) r c.args.old)) row ∙ differs same g.met.T.Eq.laws c.args.old c.args.new (omega arith);
    }
