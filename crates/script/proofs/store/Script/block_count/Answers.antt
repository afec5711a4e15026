use Rattle.std.proofs.Common.{vec_items, sym, ◌∙◌}
use Rattle.script.proofs.Stored.{blocks_many}
use Rattle.script.proofs.store.Script.block_count.Goals as goal

pub returns : goal.returns
returns c =
    let self = c.args.self.now in
    c.len.ensures ∙ self.blocks.ok.0 ∙ sym (blocks_many (vec_items self.middles) 0 (vec_items self.blocks))
