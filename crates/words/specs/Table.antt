-- The table of node forms.
--
--   name_of v     the word that the line of the node v begins with
--   kinds_of v    the kinds of the words that follow it
use Rattle.std.specs.Prelude.{ℕ, List, [], ◌∷◌, codes}
use Rattle.words.specs.declared.kind.Kind.{Kind}
use Rattle.words.specs.declared.kind.Kind.TheVariants.{RegisterWord, SlotWord, NumberWord, BlockWord}
use Rattle.words.specs.declared.verb.Verb.{Verb}
use Rattle.words.specs.declared.verb.Verb.TheVariants.{Set, Mov, Add, Sub, Mul, Div, Rem, Lt, Eq, Get, Put, Go, If, End}

abbrev pub name_of : Verb → List ℕ
name_of Set = codes "set"
name_of Mov = codes "mov"
name_of Add = codes "add"
name_of Sub = codes "sub"
name_of Mul = codes "mul"
name_of Div = codes "div"
name_of Rem = codes "rem"
name_of Lt = codes "lt"
name_of Eq = codes "eq"
name_of Get = codes "get"
name_of Put = codes "put"
name_of Go = codes "go"
name_of If = codes "if"
name_of End = codes "end"

abbrev pub three_registers : List Kind
three_registers = RegisterWord ∷ RegisterWord ∷ RegisterWord ∷ []

abbrev pub kinds_of : Verb → List Kind
kinds_of Set = RegisterWord ∷ NumberWord ∷ []
kinds_of Mov = RegisterWord ∷ RegisterWord ∷ []
kinds_of Add = three_registers
kinds_of Sub = three_registers
kinds_of Mul = three_registers
kinds_of Div = three_registers
kinds_of Rem = three_registers
kinds_of Lt = three_registers
kinds_of Eq = three_registers
kinds_of Get = RegisterWord ∷ SlotWord ∷ []
kinds_of Put = RegisterWord ∷ []
kinds_of Go = BlockWord ∷ []
kinds_of If = RegisterWord ∷ BlockWord ∷ BlockWord ∷ []
kinds_of End = RegisterWord ∷ []
