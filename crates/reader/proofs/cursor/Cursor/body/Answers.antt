use Rattle.reader.specs.Cursors.{cursor_of}
use Rattle.reader.proofs.Builds.{body_made}
use Rattle.reader.proofs.cursor.Cursor.body.Goals as goal

pub returns : goal.returns
returns c =
    let front = c.in_ok-middles.ensures in
    body_made c.args.blocks c.args.count c.requires.few (cursor_of c.args.self.now) _ (cursor_of c.last.new.self) _ _ front.0 front.1 front.2 front.3 c.last.result c.last.ensures
