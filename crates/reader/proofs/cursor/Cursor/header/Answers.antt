use Rattle.std.proofs.Common.{◌≤◌, rules, [], ◌∷◌, arith}
use Rattle.script.specs.Limits.{most_blocks}
use Rattle.words.specs.Forms.{header_row}
use Rattle.reader.specs.Cursors.{cursor_of}
use Rattle.reader.proofs.Headers.{header_range}
use Rattle.reader.proofs.cursor.Cursor.header.Goals as goal

range : (c : goal.In_ok-n) → (1 ≤ c.in_ok-n.n) × (c.in_ok-n.n ≤ most_blocks)
range c = header_range (cursor_of c.args.self.now) (c.in_ok-n.n, cursor_of c.due.new.self) (c.in_ok-n.ensures 0 (header_row ∷ []) (λ l r made. search rules))

pub overflow_cast-result : goal.overflow_cast-result
overflow_cast-result c = omega (arith, (range c).1)

pub returns-clause-range : goal.returns-clause-range
returns-clause-range c = range c
