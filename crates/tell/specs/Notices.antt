-- What people are told of a fault.
--
--   form_of d          the form that is due
--   range_of d         the ranges of the numbers in the line that is due
--   expected_of q d    what would have been answered Yes
--   line n l q y e p   the line that tells of a text n: its line l, the number q of the question, the layer y that put it,
--                      what was expected, and the place p where the line begins
--   told n f           the line for the fault f of a text n
--   told_long n        the line for a text n that is too long to be read
--   line_told r        of a reason to turn a text away: the line, 0 for a text that was not read
--   number_told r      the number of the question
--   layer_told r       the layer that put it
--   expected_told r    what was expected
--   place_told r       the place where the line begins
--   line_of n          the line of a notice
use Rattle.std.specs.Prelude.{ℕ, List, ◌++◌, codes, decimal}
use Rattle.words.specs.declared.flaw.Flaw.TheVariants.{Form, Range}
use Rattle.reader.specs.Faults.{number_of, layer_of, layer_name}
use Rattle.reader.specs.declared.fault.Due.{Due}
use Rattle.reader.specs.declared.fault.Due.TheVariants.{Header, Count, MiddleNode, LastNode, Nothing}
use Rattle.reader.specs.declared.fault.Fault.{Fault}
use Rattle.reader.specs.declared.fault.Question.{Question}
use Rattle.reader.specs.declared.fault.Question.TheVariants.{Feed, Words, Total, Finish}
use Rattle.tell.specs.declared.notice.Notice.{Notice}
use Rattle.tell.specs.declared.notice.Reason.{Reason}
use Rattle.tell.specs.declared.notice.Reason.TheVariants.{TooLong, Faulty, Told}

abbrev pub form_of : Due → List ℕ
form_of Header = codes "expected `blocks N`"
form_of Count = codes "expected a contents line `bI C` with the block's own number I"
form_of MiddleNode = codes "expected a middle node"
form_of LastNode = codes "expected a last node: go, if or end"
form_of Nothing = codes "expected the text to end here"

abbrev pub range_of : Due → List ℕ
range_of Header = codes "expected N from 1 to 64"
range_of Count = codes "expected a count from 0 to 512"
range_of MiddleNode = codes "expected registers r0 to r15, slots 0 to 15 and signed 32-bit numbers"
range_of LastNode = codes "expected registers r0 to r15 and blocks of this script"
range_of Nothing = codes "expected the text to end here"

abbrev pub expected_of : Question → Due → List ℕ
expected_of Feed d = codes "expected a line feed at the end of the line"
expected_of (Words Form) d = form_of d
expected_of (Words Range) d = range_of d
expected_of Total d = codes "expected counts that come to at most 512"
expected_of Finish d = codes "expected the text to end here"

abbrev pub line : List ℕ → ℕ → ℕ → List ℕ → List ℕ → ℕ → List ℕ
line name at number layer expected place =
    name ++ (codes ":" ++ (decimal at ++ (codes ": number " ++ (decimal number ++ (codes " (" ++ (layer ++ (codes "): " ++ (expected ++ (codes " (byte " ++ (decimal place ++ codes ")"))))))))))

abbrev pub told : List ℕ → Fault → List ℕ
told name f =
    line name f.line (number_of f.question) (layer_name (layer_of f.question)) (expected_of f.question f.due) f.place

abbrev pub told_long : List ℕ → List ℕ
told_long name = line name 0 2 (codes "bench") (codes "expected a text of at most 16384 bytes") 0

abbrev pub line_told : Reason → ℕ
line_told TooLong = 0
line_told (Faulty f) = f.line
line_told (Told l n y e p) = l

abbrev pub number_told : Reason → ℕ
number_told TooLong = 2
number_told (Faulty f) = number_of f.question
number_told (Told l n y e p) = n

abbrev pub layer_told : Reason → List ℕ
layer_told TooLong = codes "bench"
layer_told (Faulty f) = layer_name (layer_of f.question)
layer_told (Told l n y e p) = y.now

abbrev pub expected_told : Reason → List ℕ
expected_told TooLong = codes "expected a text of at most 16384 bytes"
expected_told (Faulty f) = expected_of f.question f.due
expected_told (Told l n y e p) = e.now

abbrev pub place_told : Reason → ℕ
place_told TooLong = 0
place_told (Faulty f) = f.place
place_told (Told l n y e p) = p

abbrev pub line_of : Notice → List ℕ
line_of n =
    line n.name.now (line_told n.reason) (number_told n.reason) (layer_told n.reason) (expected_told n.reason) (place_told n.reason)
