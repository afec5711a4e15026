-- The cursor of the code, as a place in a text.
use Rattle.reader.specs.declared.cursor.Cursor.{Cursor}
use Rattle.reader.specs.Read as text

abbrev pub cursor_of : Cursor → text.Cursor
cursor_of c = record { line = c.line; place = c.place; rest = c.rest.now }
