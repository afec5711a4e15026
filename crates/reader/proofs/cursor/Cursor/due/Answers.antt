use Rattle.std.proofs.Common.{refl}
use Rattle.reader.specs.Cursors.{cursor_of}
use Rattle.reader.proofs.Dues.{due_made}
use Rattle.reader.proofs.cursor.Cursor.due.Goals as goal

pub returns : goal.returns
returns g c n rows reads =
    let line = c.in_ok-line.ensures in
    due_made c.args.due n rows (cursor_of c.args.self.now) _ _ _ line.0 line.1 c.read.result (reads _ _ (c.in_ok-line.line, c.read.ensures, refl)) c.map_err.result c.map_err.ensures.cases
