use Rattle.std.proofs.Common.{rules, ◌≡◌, false, ℕ, ◌<◌}
use Rattle.script.specs.Limits.{registers}
use Rattle.pass.proofs.Rows.{every_from, every_false}
use Rattle.passes.specs.Sources.{fine, source}
use Rattle.passes.proofs.sources.Sources.checked.Goals as goal

pub returns-then-not-all : goal.returns-then-not-all
returns-then-not-all c =
    let u : (k : ℕ) × (k < registers) × (fine k (source c.args.row k) ≡ false) = search rules in
    every_false (λ k. fine k (source c.args.row k)) registers u.0 u.1 u.2

pub invariant_of-result : goal.invariant_of-result
invariant_of-result c = record { ok = every_from (λ k. fine k (source c.args.row k)) registers (λ k h. search rules) }
