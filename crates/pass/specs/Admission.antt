-- Which files a pair admits.
--
--   AdmitsBoth w v u p   u admits, at the pair p, exactly the files that w admits at the first half and v at the second
use Rattle.script.specs.Run.{File}
use Rattle.pass.specs.declared.pair.Pair.{Pair}

module _ {P Q F G : Type 0} where
  abbrev pub AdmitsBoth : (P → F → File → Type 0) → (Q → G → File → Type 0) → (Pair P Q → F × G → File → Type 0) → Pair P Q → Type 0
  AdmitsBoth w v u p =
      (f : F × G) (e : File)
      → (u p f e → w p.first f.0 e × v p.second f.1 e)
      × (w p.first f.0 e → v p.second f.1 e → u p f e)
