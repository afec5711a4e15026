use Rattle.std.proofs.Common.{[], ◌++◌, refl, arith}
use Rattle.script.specs.Model.{program_of}
use Rattle.writer.specs.Text.{counts_text, counts, bodies_text, text}
use Rattle.writer.proofs.Formed.{few_blocks}
use Rattle.writer.proofs.Puts.{Left, left_more, left_full, left_last}
use Rattle.writer.proofs.Texts.{header_put}
use Rattle.writer.proofs.whole.put_text.Goals as goal
use Rattle.writer.proofs.whole.put_text.Goals.{After-put_counts}

-- the header is written
first : (c : After-put_counts)
    → Left c.args.page.now.items (text (program_of c.args.script.now)) c.put_header.new.page.items
    (counts_text 0 (counts (program_of c.args.script.now)) [] ++ bodies_text (program_of c.args.script.now) [])
first c =
    header_put (program_of c.args.script.now) c.block_count.result c.args.page.now.items c.put_header.new.page.items c.block_count.ensures c.in_ok-put_header.ensures

pub overflow_cast-block_count : goal.overflow_cast-block_count
overflow_cast-block_count c = record { fits = omega (arith, c.block_count.ensures, few_blocks c.args.script.now) }

pub returns-in_err-put_counts : goal.returns-in_err-put_counts
returns-in_err-put_counts c =
    let p = program_of c.args.script.now in
    left_full (first (goal.at.returns-in_err-put_counts c).After-put_counts) c.from_residual-in_err-put_counts.result (counts_text 0 (counts p) []) (bodies_text p []) _ c.from_residual-in_err-put_counts.ensures.0 refl c.in_err-put_counts.ensures

pub returns : goal.returns
returns c =
    let p = program_of c.args.script.now in
    let second = left_more (first (goal.at.returns c).After-put_counts) (counts_text 0 (counts p) []) (bodies_text p []) c.put_counts.new.page.items refl c.in_ok-put_counts.ensures in
    left_last second c.put_bodies.result c.put_bodies.new.page.items c.put_bodies.ensures
