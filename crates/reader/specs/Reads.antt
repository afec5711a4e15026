-- What `read` does with the script that it is lent.
use Rattle.std.specs.Prelude.{◌≡◌, ℕ, List, Ok, Err, Result}
use Rattle.script.specs.Model.{program_of}
use Rattle.script.specs.declared.store.Script.{Script}
use Rattle.reader.specs.declared.fault.Fault.{Fault}
use Rattle.reader.specs.Read.{read}

-- Reads t old r new: the text t is read and the script becomes what it says, or it has the fault that r names and the
-- script is as it was.
abbrev pub Reads : List ℕ → Script → Result (Unit {0}) Fault → Script → Type 0
Reads t old (Ok done) new = read t ≡ Ok (program_of new)
Reads t old (Err f) new = (read t ≡ Err f) × (new ≡ old)
