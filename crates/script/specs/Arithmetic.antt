-- The arithmetic of scripts: on whole numbers, wrapped to 32 bits.
--
--   wrapped w32 z     the low 32 bits of z, read as two's complement (of the library)
--   same a b          whether two whole numbers are equal
--   quotient a b      a by b, cut toward zero; 0 when b is 0
--   truth t           1 for true, 0 for false
--   computed o a b    what the operation o makes of a and b
use Rattle.std.specs.Prelude.{Bool, false, cond, ℤ, pos, negsuc, ◌+ℤ◌, ◌-ℤ◌, ◌*ℤ◌, ◌==◌, int_div, int_lt}
use Rattle.std.specs.Int.{int_wrap, w32}
use Rattle.script.specs.declared.node.Operation.{Operation}
use Rattle.script.specs.declared.node.Operation.TheVariants.{Add, Sub, Mul, Div, Rem, Lt, Eq}

abbrev pub same : ℤ → ℤ → Bool
same (pos a) (pos b) = a == b
same (pos a) (negsuc b) = false
same (negsuc a) (pos b) = false
same (negsuc a) (negsuc b) = a == b

abbrev pub quotient : ℤ → ℤ → ℤ
quotient a b = cond (same b (pos 0)) (pos 0) (int_div a b)

abbrev pub truth : Bool → ℤ
truth t = cond t (pos 1) (pos 0)

abbrev pub computed : Operation → ℤ → ℤ → ℤ
computed Add a b = int_wrap w32 (a +ℤ b)
computed Sub a b = int_wrap w32 (a -ℤ b)
computed Mul a b = int_wrap w32 (a *ℤ b)
computed Div a b = int_wrap w32 (quotient a b)
computed Rem a b = int_wrap w32 (a -ℤ b *ℤ int_wrap w32 (quotient a b))
computed Lt a b = truth (int_lt a b)
computed Eq a b = truth (same a b)
