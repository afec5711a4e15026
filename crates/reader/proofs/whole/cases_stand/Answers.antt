use Rattle.std.proofs.Common.{◌≡◌, [], ◌∷◌, negsuc, refl, ap, lit<}
use Rattle.std.specs.Fmt.{digits}
use Rattle.script.specs.declared.node.Last.TheVariants.{If, End}
use Rattle.script.specs.declared.node.Middle.TheVariants.{Set}
use Rattle.script.proofs.Same.{same_register}
use Rattle.words.specs.Forms.{register}
use Rattle.reader.specs.Cases.{script}
use Rattle.reader.proofs.whole.cases_stand.Goals as goal

r0 : register 0 ≡ record { index = 0; ok = lit< tt }
r0 = same_register (register 0) (record { index = 0; ok = lit< tt }) refl

pub returns : goal.returns
unfolding digits
returns c = (
  ap (λ r. script (([], End r) ∷ [])) r0,
  (
    refl,
    (
      refl,
      (
        refl,
        (
          ap (λ r. script ((Set (register 1) (negsuc 2147483647) ∷ [], If (register 1) 0 1) ∷ ([], End r) ∷ [])) r0,
          (refl, (refl, (refl, (refl, (refl, (refl, (refl, (refl, (refl, (refl, (refl, tt))))))))))),
        ),
      ),
    ),
  ),
)
