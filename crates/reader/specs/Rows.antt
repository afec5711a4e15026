-- The script that rows of the reader's own hold.
use Rattle.script.specs.Model.{blocks_from}
use Rattle.script.specs.Run.{Program}
use Rattle.reader.specs.declared.rows.Rows.{Rows}

abbrev pub rows_program : Rows → Program
rows_program r = blocks_from r.middles 0 r.ends
