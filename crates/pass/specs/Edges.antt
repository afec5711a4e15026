-- The edges of a last node: edge First leads to the first block that it names, edge Second to the second.
--
--   leads l k      the block that the edge k of l leads to, if l has that edge
--   Takes l k e    a run that comes to l with the register file e goes along the edge k
--   Names l b      l names the block b
use Rattle.std.specs.Prelude.{◌≡◌, ℕ, ◌⊎◌, pos, Some, None, Option}
use Rattle.script.specs.declared.node.Last.{Last}
use Rattle.script.specs.declared.node.Last.TheVariants.{Go, If, End}
use Rattle.script.specs.Run.{File}
use Rattle.pass.specs.declared.edge.Edge.{Edge}
use Rattle.pass.specs.declared.edge.Edge.TheVariants.{First, Second}

abbrev pub leads : Last → Edge → Option ℕ
leads (Go target) First = Some target
leads (Go target) Second = None
leads (If test then other) First = Some then
leads (If test then other) Second = Some other
leads (End from) First = None
leads (End from) Second = None

abbrev pub Takes : Last → Edge → File → Type 0
Takes (Go target) First e = Unit {0}
Takes (Go target) Second e = ⊥
Takes (If test then other) First e = e test.index ≡ pos 0 → ⊥
Takes (If test then other) Second e = e test.index ≡ pos 0
Takes (End from) First e = ⊥
Takes (End from) Second e = ⊥

abbrev pub Names : Last → ℕ → Type 0
Names (Go target) b = b ≡ target
Names (If test then other) b = (b ≡ then) ⊎ (b ≡ other)
Names (End from) b = ⊥
