-- Worked cases of reading, and the one statement that all of them stand. A bar stands for a line feed.
use Rattle.std.specs.Prelude.{◌≡◌, ℕ, cond, List, [], ◌∷◌, negsuc, Ok, Err, codes, Result, ◌==◌}
use Rattle.script.specs.Model.{blank}
use Rattle.script.specs.Run.{Program}
use Rattle.script.specs.declared.node.Last.TheVariants.{If}
use Rattle.script.specs.declared.node.Middle.TheVariants.{Set}
use Rattle.words.specs.Forms.{register}
use Rattle.reader.specs.declared.fault.Fault.{Fault}
use Rattle.reader.specs.declared.fault.Layer.{Layer}
use Rattle.reader.specs.declared.fault.Layer.TheVariants.{Line, Word, Contents}
use Rattle.reader.specs.Faults.{number_of, layer_of}
use Rattle.reader.specs.Read.{read}

abbrev pub bars : List ℕ → List ℕ
bars [] = []
bars (c ∷ cs) = cond (c == 124) 10 c ∷ bars cs

-- what a case must give: a script, or a fault by its number, layer, line and place
pub data Outcome : Type 0 where
  script : Program → Outcome
  wrong : ℕ → Layer → ℕ → ℕ → Outcome

abbrev pub outcome : Result Program Fault → Outcome
outcome (Ok p) = script p
outcome (Err f) = wrong (number_of f.question) (layer_of f.question) f.line f.place

pub record Case : Type 0 where
  pub given : List ℕ
  pub gives : Outcome

abbrev pub case : List ℕ → Outcome → Case
case t o = record { given = t; gives = o }

abbrev pub cases : List Case
cases =
    case (codes "blocks 1|b0 0|end r0|") (script blank)
    ∷ case (codes "blocks 1|b0 0|end r0") (wrong 3 Line 3 14)
    ∷ case (codes "blocks 1|b0 0|end r16|") (wrong 5 Word 3 14)
    ∷ case (codes "blocks 1|b0 0|end r00|") (wrong 4 Word 3 14)
    ∷ case (codes "blocks 2|b0 1|b1 0|set r1 -2147483648|if r1 b0 b1|end r0|")
    (script (((Set (register 1) (negsuc 2147483647) ∷ []), If (register 1) 0 1) ∷ blank))
    ∷ case (codes "blocks 1|b0 0|end r99999999999999999999|") (wrong 5 Word 3 14)
    ∷ case (codes "blocks 1|b0 0|end  r0|") (wrong 4 Word 3 14)
    ∷ case (codes "blocks 1|b0 0|put r0|") (wrong 4 Word 3 14)
    ∷ case (codes "blocks 1|b0 0|if r16 b x|") (wrong 4 Word 3 14)
    ∷ case (codes "blocks 1|b0 0|go b1|") (wrong 5 Word 3 14)
    ∷ case (codes "blocks 1|b0 1|set r0 -0|end r0|") (wrong 4 Word 3 14)
    ∷ case (codes "blocks 0|") (wrong 5 Word 1 0)
    ∷ case (codes "blocks 2|b0 512|b1 1|") (wrong 6 Contents 3 16)
    ∷ case (codes "blocks 1|b1 0|") (wrong 4 Word 2 9)
    ∷ case (codes "blocks 1|b0 0|end r0||") (wrong 7 Contents 4 21)
    ∷ case [] (wrong 3 Line 1 0)
    ∷ []

abbrev pub EachStands : List Case → Type 0
EachStands [] = Unit {0}
EachStands (k ∷ ks) = (outcome (read (bars k.given)) ≡ k.gives) × EachStands ks

abbrev pub AllStand : Type 0
AllStand = EachStands cases
