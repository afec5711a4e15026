use Rattle.words.specs.Forms.{middle_rows}
use Rattle.nodes.proofs.Verbs.{middle_missing, line_miss}
use Rattle.nodes.proofs.node.middle.Goals as goal

pub returns-in_err-verb : goal.returns-in_err-verb
returns-in_err-verb c =
    let flaw = c.in_err-verb.ensures in
    line_miss c.args.blocks middle_rows c.args.line.now (middle_missing _ flaw.1) c.from_residual.result c.in_err-verb.field-0.0 flaw.0 c.from_residual.ensures.1
