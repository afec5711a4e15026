-- Numbers of 32 bits: what arithmetic gives is one, and the numbers of a stored script are where those of its row of
-- middle nodes are.
use Rattle.std.proofs.Common.{ℕ, ◌-◌, Bool, true, false, List, [], ◌∷◌, drop, ℤ, lit<, w32, SFits}
use Rattle.std.specs.List.{AllByRecursion}
use Rattle.std.proofs.ByRecursion.{All-take, All-drop}
use Rattle.std.proofs.lemmas.Int.{SFits-int_wrap}
use Rattle.script.specs.declared.node.Middle.{Middle}
use Rattle.script.specs.declared.node.Operation.{Operation}
use Rattle.script.specs.declared.node.Operation.TheVariants.{Add, Sub, Mul, Div, Rem, Lt, Eq}
use Rattle.script.specs.declared.block.BlockEnd.{BlockEnd}
use Rattle.script.specs.Arithmetic.{computed, truth}
use Rattle.script.specs.Model.{blocks_from}
use Rattle.script.specs.Run.{Fit, Fits}

truth_fits : (b : Bool) → SFits w32 (truth b)
truth_fits true = record { sfits = lit< tt }
truth_fits false = record { sfits = lit< tt }

pub computed_fits : (o : Operation) (a b : ℤ) → SFits w32 (computed o a b)
computed_fits Add a b = SFits-int_wrap w32 _
computed_fits Sub a b = SFits-int_wrap w32 _
computed_fits Mul a b = SFits-int_wrap w32 _
computed_fits Div a b = SFits-int_wrap w32 _
computed_fits Rem a b = SFits-int_wrap w32 _
computed_fits Lt a b = truth_fits _
computed_fits Eq a b = truth_fits _

pub blocks_fit : (ms : List Middle) (from : ℕ) (bs : List BlockEnd) → AllByRecursion Fit ms → Fits (blocks_from ms from bs)
blocks_fit ms from [] f = tt
blocks_fit ms from (b ∷ bs) f = (All-take Fit (b.end - from) (drop from ms) (All-drop Fit from ms f), blocks_fit ms b.end bs f)
