-- What a written register holds, and what the others hold.
use Rattle.std.proofs.Common.{◌≡◌, ℕ, eqb, ℤ, refl}
use Rattle.std.proofs.lemmas.Bool.{eq-eqb, ne_eqb, cond-true, cond-false}
use Rattle.script.specs.Run.{File, with_register}

pub register_same : (e : File) (d : ℕ) (x : ℤ) → with_register e d x d ≡ x
register_same e d x = cond-true (eqb d d) x (e d) (eq-eqb d d refl)

pub register_other : (e : File) (d : ℕ) (x : ℤ) (i : ℕ) → (i ≡ d → ⊥) → with_register e d x i ≡ e i
register_other e d x i n = cond-false (eqb i d) x (e i) (ne_eqb i d n)
