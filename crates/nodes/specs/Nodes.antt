-- The node lines by their verbs.
--
--   ends_block v      whether v is the verb of a last node
--   middle_make v     what the operands of v make, where v is the verb of a middle node
--   last_make v       what the operands of v make, where v is the verb of a last node
use Rattle.std.specs.Prelude.{Bool, true, false, List, ℤ}
use Rattle.script.specs.declared.node.Last.{Last}
use Rattle.script.specs.declared.node.Middle.{Middle}
use Rattle.script.specs.declared.node.Operation.TheVariants as operation
use Rattle.words.specs.declared.verb.Verb.{Verb}
use Rattle.words.specs.declared.verb.Verb.TheVariants.{Set, Mov, Add, Sub, Mul, Div, Rem, Lt, Eq, Get, Put, Go, If, End}
use Rattle.words.specs.Forms.{set_row, mov_row, compute_row, get_row, put_row, go_row, if_row, end_row}

abbrev pub ends_block : Verb → Bool
ends_block Set = false
ends_block Mov = false
ends_block Add = false
ends_block Sub = false
ends_block Mul = false
ends_block Div = false
ends_block Rem = false
ends_block Lt = false
ends_block Eq = false
ends_block Get = false
ends_block Put = false
ends_block Go = true
ends_block If = true
ends_block End = true

-- of the verb of a last node it says nothing
abbrev pub middle_make : Verb → List ℤ → Middle
middle_make Set = set_row.make
middle_make Mov = mov_row.make
middle_make Add = (compute_row operation.Add).make
middle_make Sub = (compute_row operation.Sub).make
middle_make Mul = (compute_row operation.Mul).make
middle_make Div = (compute_row operation.Div).make
middle_make Rem = (compute_row operation.Rem).make
middle_make Lt = (compute_row operation.Lt).make
middle_make Eq = (compute_row operation.Eq).make
middle_make Get = get_row.make
middle_make Put = put_row.make
middle_make Go = put_row.make
middle_make If = put_row.make
middle_make End = put_row.make

-- of the verb of a middle node it says nothing
abbrev pub last_make : Verb → List ℤ → Last
last_make Set = end_row.make
last_make Mov = end_row.make
last_make Add = end_row.make
last_make Sub = end_row.make
last_make Mul = end_row.make
last_make Div = end_row.make
last_make Rem = end_row.make
last_make Lt = end_row.make
last_make Eq = end_row.make
last_make Get = end_row.make
last_make Put = end_row.make
last_make Go = go_row.make
last_make If = if_row.make
last_make End = end_row.make
