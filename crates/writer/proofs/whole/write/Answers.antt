use Rattle.std.proofs.Common.{ap, length, arith}
use Rattle.script.specs.Model.{program_of}
use Rattle.writer.specs.Text.{text}
use Rattle.writer.proofs.Formed.{formed}
use Rattle.writer.proofs.Puts.{wrote_all}
use Rattle.writer.proofs.Trips.{read_of_text, text_of_read}
use Rattle.writer.proofs.whole.write.Goals as goal

pub unwrap-requires : goal.unwrap-requires
unwrap-requires c =
    let s = c.args.script.now in
    let short = (read_of_text (program_of s) (formed s c.numbers_fit.ensures)).1 in
    wrote_all c.put_text.result c.new-page.result.items (text (program_of s)) c.put_text.new.page.items (omega (arith, short, ap length c.new-page.ensures)) c.put_text.ensures

pub returns-clause-back : goal.returns-clause-back
returns-clause-back c =
    let s = c.args.script.now in
    (read_of_text (program_of s) (formed s c.numbers_fit.ensures)).0

pub returns-clause-same : goal.returns-clause-same
returns-clause-same c = λ t e. text_of_read t (program_of c.args.script.now) e
