-- What a function that reads gives of a step of the definition, and what a closure that it is handed computes.
--
--   Gives s r c      r is what the step s gives: a value, after which the reading goes on at c, or a fault
--   GivesAs v s r c  the same, where v says which value r holds
--   Computes Call f  each call answers what f gives; Call x y says that a call at x may answer y
use Rattle.std.specs.Prelude.{◌≡◌, Ok, Err, Result}
use Rattle.reader.specs.declared.fault.Fault.{Fault}
use Rattle.reader.specs.Read.{Cursor, Step}

abbrev pub Gives : {A : Type 0} → Step A → Result A Fault → Cursor → Type 0
Gives s (Ok a) c = s ≡ Ok (a, c)
Gives s (Err f) c = s ≡ Err f

abbrev pub GivesAs : {A B : Type 0} → (B → A) → Step A → Result B Fault → Cursor → Type 0
GivesAs v s (Ok b) c = s ≡ Ok (v b, c)
GivesAs v s (Err f) c = s ≡ Err f

abbrev pub Computes : {X Y : Type 0} → (X → Y → Type 0) → (X → Y) → Type 0
Computes {X} {Y} Call f = (x : X) (y : Y) → Call x y → y ≡ f x
