-- Worked cases of the arithmetic, and the one statement that all of them stand.
use Rattle.std.specs.Prelude.{◌≡◌, List, [], ◌∷◌, ℤ, pos, negsuc}
use Rattle.script.specs.declared.node.Operation.{Operation}
use Rattle.script.specs.declared.node.Operation.TheVariants.{Add, Div, Rem}
use Rattle.script.specs.Arithmetic.{computed}

pub record Case : Type 0 where
  pub operation : Operation
  pub left : ℤ
  pub right : ℤ
  pub gives : ℤ

-- 2147483647 and -2147483648; negsuc n is -(n + 1)
abbrev pub largest : ℤ
largest = pos 2147483647

abbrev pub least : ℤ
least = negsuc 2147483647

abbrev pub case : Operation → ℤ → ℤ → ℤ → Case
case o a b r = record { operation = o; left = a; right = b; gives = r }

abbrev pub cases : List Case
cases =
    case Div (negsuc 6) (pos 2) (negsuc 2)
    ∷ case Rem (negsuc 6) (pos 2) (negsuc 0)
    ∷ case Div (pos 7) (negsuc 1) (negsuc 2)
    ∷ case Rem (pos 7) (negsuc 1) (pos 1)
    ∷ case Div least (negsuc 0) least
    ∷ case Rem least (negsuc 0) (pos 0)
    ∷ case Div (pos 5) (pos 0) (pos 0)
    ∷ case Rem (pos 5) (pos 0) (pos 5)
    ∷ case Add largest (pos 1) least
    ∷ []

abbrev pub EachStands : List Case → Type 0
EachStands [] = Unit {0}
EachStands (k ∷ ks) = (computed k.operation k.left k.right ≡ k.gives) × EachStands ks

abbrev pub AllStand : Type 0
AllStand = EachStands cases
