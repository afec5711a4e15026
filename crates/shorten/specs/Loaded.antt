-- What becomes of a text that comes in.
--
--   IsOther s          the program stopped for want of memory, or where a line could not be printed
--   Turned name t n    the notice n tells why the text t, which has this name, is turned away
--   Loaded name t r    r has the script of the text t, or tells why there is none
use Rattle.std.specs.Prelude.{◌≡◌, ℕ, ◌<◌, ◌≤◌, List, length, Ok, Err, Result}
use Rattle.script.specs.Limits.{most_bytes}
use Rattle.script.specs.Model.{program_of}
use Rattle.script.specs.declared.store.Script.{Script}
use Rattle.reader.specs.Read.{read}
use Rattle.reader.specs.declared.fault.Fault.{Fault}
use Rattle.tell.specs.Notices.{line_of, told, told_long}
use Rattle.tell.specs.declared.notice.Notice.{Notice}
use Rattle.shorten.specs.declared.stop.Stop.{Stop}
use Rattle.shorten.specs.declared.stop.Stop.TheVariants.{Unread, File, Other}

abbrev pub IsOther : Stop → Type 0
IsOther (Unread n) = ⊥
IsOther (File n e) = ⊥
IsOther (Other e) = Unit {0}

-- it is too long to be read, or it was read and has a fault
abbrev pub Turned : List ℕ → List ℕ → Notice → Type 0
Turned name t n =
    (most_bytes < length t → line_of n ≡ told_long name)
    × (length t ≤ most_bytes → (f : Fault) × (read t ≡ Err f) × (line_of n ≡ told name f))

-- of memory that was not found it says nothing
abbrev pub Loaded : List ℕ → List ℕ → Result Script Stop → Type 0
Loaded name t (Ok s) = (length t ≤ most_bytes) × (read t ≡ Ok (program_of s))
Loaded name t (Err (Unread n)) = Turned name t n
Loaded name t (Err (File n e)) = ⊥
Loaded name t (Err (Other e)) = Unit {0}
