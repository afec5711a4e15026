-- Two registers with one index are one, and so are two slots: what a ghost field says has at most one proof.
use Rattle.std.proofs.Common.{◌≡◌, ◌<◌}
use mathlib.Core.HLevel.{is_prop→PathP}
use native.Mathlib.Bridge.{le_prop}
use Rattle.script.specs.declared.register.Register.{Register}
use Rattle.script.specs.declared.register.Slot.{Slot}
use Rattle.script.specs.Limits.{registers, slots}

pub same_register : (a b : Register) → a.index ≡ b.index → a ≡ b
same_register a b e = λ i. record { index = e i; ok = is_prop→PathP (λ j. e j < registers) (λ j. le_prop) a.ok b.ok i }

pub same_slot : (a b : Slot) → a.index ≡ b.index → a ≡ b
same_slot a b e = λ i. record { index = e i; ok = is_prop→PathP (λ j. e j < slots) (λ j. le_prop) a.ok b.ok i }
