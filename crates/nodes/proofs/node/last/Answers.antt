use Rattle.words.specs.Forms.{last_rows}
use Rattle.nodes.proofs.Verbs.{last_missing, line_miss}
use Rattle.nodes.proofs.node.last.Goals as goal

pub returns-in_err-verb : goal.returns-in_err-verb
returns-in_err-verb c =
    let flaw = c.in_err-verb.ensures in
    line_miss c.args.blocks last_rows c.args.line.now (last_missing _ flaw.1) c.from_residual.result c.in_err-verb.field-0.0 flaw.0 c.from_residual.ensures.1
