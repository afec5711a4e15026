-- What is said of a script that was read.
--
--   count_line i k     the line for block i, with k middle nodes
--   counts_from i p    the lines for the blocks of p, the first of which is block i
--   as_read w t        whether the bytes w are the bytes t, in words
--   report_of r        all lines of a report
use Rattle.std.specs.Prelude.{ℕ, suc, cond, List, [], ◌∷◌, ◌++◌, length, bytes_eq, codes, decimal}
use Rattle.script.specs.Model.{program_of, middle_count}
use Rattle.script.specs.Run.{Program}
use Rattle.shorten.specs.declared.report.Report.{Report}

abbrev pub count_line : ℕ → ℕ → List ℕ
count_line i k = codes "middle nodes of b" ++ (decimal i ++ (codes ": " ++ (decimal k ++ codes "\n")))

abbrev pub counts_from : ℕ → Program → List ℕ
counts_from i [] = []
counts_from i (b ∷ bs) = count_line i (length b.0) ++ counts_from (suc i) bs

abbrev pub as_read : List ℕ → List ℕ → List ℕ
as_read w t = cond (bytes_eq w t) (codes "the same as read") (codes "not those read")

abbrev pub report_of : Report → List ℕ
report_of r =
    (codes "script: " ++ (r.name.now ++ codes "\n"))
    ++ ((codes "bytes read: " ++ (decimal (length r.read.now) ++ codes "\n"))
    ++ ((codes "blocks: " ++ (decimal (length (program_of r.script.now)) ++ codes "\n"))
    ++ ((codes "middle nodes: " ++ (decimal (middle_count (program_of r.script.now)) ++ codes "\n"))
    ++ (counts_from 0 (program_of r.script.now)
    ++ (codes "bytes written: " ++ (decimal (length r.written.now) ++ (codes ", " ++ as_read r.written.now r.read.now)))))))
