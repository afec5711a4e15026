use Rattle.std.proofs.Common.{◌≡◌, suc, ◌-◌, vec_items, sym, ap, ◌∙◌, arith}
use Rattle.script.specs.Model.{begin_at}
use Rattle.script.proofs.Stored.{begin_first, begin_next}
use Rattle.script.proofs.store.Script.begin.Goals as goal

pub returns-then-i-eq0 : goal.returns-then-i-eq0
returns-then-i-eq0 c =
    let bs = vec_items c.args.self.now.blocks in
    sym (ap (begin_at 0 bs) c.if-i-eq0.true ∙ begin_first 0 bs)

pub returns-else-i-eq0 : goal.returns-else-i-eq0
returns-else-i-eq0 c =
    let bs = vec_items c.args.self.now.blocks in
    let up : suc (c.args.i - 1) ≡ c.args.i = omega arith in
    begin_next 0 bs (c.args.i - 1) c.index.result.now (omega (arith, c.requires)) c.index.ensures ∙ ap (begin_at 0 bs) up
