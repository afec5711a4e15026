-- Where a text comes from.
--
--   source_of w    the source that the word w names
--   name_of s      what the text of the source s is called
use Rattle.std.specs.Prelude.{ℕ, cond, List, Some, None, string_bytes, codes, Option, String}
use Rattle.std.specs.Str.{bytes_eq}
use Rattle.std.specs.declared.alloc.Global.{Global}
use Rattle.shorten.specs.declared.arguments.Source.{Source}
use Rattle.shorten.specs.declared.arguments.Source.TheVariants.{StandardInput, Path}

abbrev pub name_of : Source → List ℕ
name_of StandardInput = codes "standard input"
name_of (Path p) = string_bytes p

-- none and the word `-` name standard input
abbrev pub source_of : Option (String Global) → Source
source_of None = StandardInput
source_of (Some p) = cond (bytes_eq (string_bytes p) (codes "-")) StandardInput (Path p)
