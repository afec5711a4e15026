-- The number and the layer of each question that a text can fail.
--
--   number_of q     the number of the question q
--   layer_of q      the layer that puts it
--   layer_name l    the name of a layer
use Rattle.std.specs.Prelude.{ℕ, List, codes}
use Rattle.words.specs.declared.flaw.Flaw.TheVariants.{Form, Range}
use Rattle.reader.specs.declared.fault.Layer.{Layer}
use Rattle.reader.specs.declared.fault.Layer.TheVariants.{Line, Word, Contents}
use Rattle.reader.specs.declared.fault.Question.{Question}
use Rattle.reader.specs.declared.fault.Question.TheVariants.{Feed, Words, Total, Finish}

abbrev pub number_of : Question → ℕ
number_of Feed = 3
number_of (Words Form) = 4
number_of (Words Range) = 5
number_of Total = 6
number_of Finish = 7

abbrev pub layer_of : Question → Layer
layer_of Feed = Line
layer_of (Words flaw) = Word
layer_of Total = Contents
layer_of Finish = Contents

abbrev pub layer_name : Layer → List ℕ
layer_name Line = codes "line"
layer_name Word = codes "word"
layer_name Contents = codes "contents"
