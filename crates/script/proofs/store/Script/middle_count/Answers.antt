use Rattle.std.proofs.Common.{vec_items, sym, ◌∙◌}
use Rattle.script.proofs.Stored.{middles_counted}
use Rattle.script.proofs.store.Script.middle_count.Goals as goal

pub returns : goal.returns
returns c =
    let self = c.args.self.now in
    c.len.ensures ∙ self.middles.ok.0 ∙ sym (middles_counted (vec_items self.middles) (vec_items self.blocks) self.ends)
