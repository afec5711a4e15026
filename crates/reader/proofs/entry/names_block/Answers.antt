use Rattle.std.proofs.Common.{rules}
use Rattle.reader.proofs.Entries.{names}
use Rattle.reader.proofs.entry.names_block.Goals as goal

pub returns : goal.returns
returns c = names c.args.word.now c.args.i c.requires c.operand.result c.operand.ensures c.is_ok_and.result _ c.is_ok_and.ensures (λ x is. search rules)
