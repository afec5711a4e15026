-- The limits of a script and of its text. Each stands here once, and once in src/limits.rt for the code.
--
--   registers       how many registers there are, r0 upward
--   slots           how many slots there are, 0 upward
--   most_blocks     blocks of a script, at the most
--   most_middles    middle nodes of a script, all blocks together, at the most
--   most_bytes      bytes of a script's text, at the most
use Rattle.std.specs.Prelude.{ℕ}

abbrev pub registers : ℕ
registers = 16

abbrev pub slots : ℕ
slots = 16

abbrev pub most_blocks : ℕ
most_blocks = 64

abbrev pub most_middles : ℕ
most_middles = 512

abbrev pub most_bytes : ℕ
most_bytes = 16384
