-- Which nodes a proposal holds, if there is one.
--
--   middle_piece p   the nodes proposed in place of a middle node
--   last_piece p     the nodes proposed in place of a last node
use Rattle.std.specs.Prelude.{List, take, Option}
use Rattle.std.specs.Option.{option_map}
use Rattle.script.specs.declared.node.Middle.{Middle}
use Rattle.script.specs.declared.node.Last.{Last}
use Rattle.pass.specs.declared.piece.MiddlePiece.{MiddlePiece}
use Rattle.pass.specs.declared.piece.LastPiece.{LastPiece}

abbrev pub middle_piece : Option MiddlePiece → Option (List Middle)
middle_piece p = option_map (λ piece. take piece.count piece.middles) p

abbrev pub last_piece : Option LastPiece → Option (List Middle × Last)
last_piece p = option_map (λ piece. (take piece.count piece.middles, piece.last)) p
