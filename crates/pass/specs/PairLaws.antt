-- The laws of two lattices are the laws of the lattice of their pairs.
--
--   both_lattice l m p   of lawful l and m, the lattice of pairs at p is lawful: what `Pair` gives as its `lawful`
use Rattle.std.specs.Prelude.{◌≡◌, ℕ, ◌+◌, ◌<◌, Bool, true, false, ◌||◌, refl}
use Rattle.std.proofs.Common.{ap, arith}
use Rattle.std.proofs.lemmas.Bool.{both_ways, or_parts}
use Rattle.pass.specs.declared.lattice.Lattice.{Ghosts as LatticeOf}
use Rattle.pass.specs.declared.pair.Pair.{Pair}
use Rattle.pass.specs.Lawful.{LawfulLattice}
use Rattle.pass.specs.Pairs.{paired_lattice}

pair_same : {F G : Type 0} (c d : Bool) (a f : F) (b g : G) → (c ≡ false → a ≡ f) → (d ≡ false → b ≡ g) → (c || d) ≡ false → ◌≡◌ {A = F × G} (a, b) (f, g)
pair_same c d a f b g h k e =
    let o = or_parts c d e in
    λ i. (h o.0 i, k o.1 i)

pair_falls : {F G : Type 0} (rf : F → ℕ) (rg : G → ℕ) (c d : Bool) (a f : F) (b g : G) → (c ≡ false → a ≡ f) → (d ≡ false → b ≡ g) → (c ≡ true → rf a < rf f) → (d ≡ true → rg b < rg g) → (c || d) ≡ true → rf a + rg b < rf f + rg g
pair_falls rf rg true true a f b g h k l m e = omega (arith, l refl, m refl)
pair_falls rf rg true false a f b g h k l m e = omega (arith, l refl, ap rg (k refl))
pair_falls rf rg false true a f b g h k l m e = omega (arith, m refl, ap rf (h refl))
pair_falls rf rg false false a f b g h k l m e = absurd (both_ways false refl e)

module _ {P Q F G : Type 0} (l : LatticeOf P F) (m : LatticeOf Q G) (p : Pair P Q) where
  pub both_lattice : LawfulLattice l p.first → LawfulLattice m p.second → LawfulLattice (paired_lattice l m) p
  both_lattice x y =
      record {
        start_valid = (x.start_valid, y.start_valid);
        join_valid = λ old new v w. (x.join_valid old.0 new.0 v.0 w.0, y.join_valid old.1 new.1 v.1 w.1);
        reflexive = λ f v. (x.reflexive f.0 v.0, y.reflexive f.1 v.1);
        transitive = λ f g h u v w a b. (x.transitive f.0 g.0 h.0 u.0 v.0 w.0 a.0 b.0, y.transitive f.1 g.1 h.1 u.1 v.1 w.1 a.1 b.1);
        over_old = λ old new v w. (x.over_old old.0 new.0 v.0 w.0, y.over_old old.1 new.1 v.1 w.1);
        over_new = λ old new v w. (x.over_new old.0 new.0 v.0 w.0, y.over_new old.1 new.1 v.1 w.1);
        same = λ old new v w. pair_same (joins old.0 new.0).1 (meets old.1 new.1).1 (joins old.0 new.0).0 old.0 (meets old.1 new.1).0 old.1 (x.same old.0 new.0 v.0 w.0) (y.same old.1 new.1 v.1 w.1);
        falls = λ old new v w. pair_falls (l.rank p.first) (m.rank p.second) (joins old.0 new.0).1 (meets old.1 new.1).1 (joins old.0 new.0).0 old.0 (meets old.1 new.1).0 old.1 (x.same old.0 new.0 v.0 w.0) (y.same old.1 new.1 v.1 w.1) (x.falls old.0 new.0 v.0 w.0) (y.falls old.1 new.1 v.1 w.1);
      }
    where
      joins : F → F → F × Bool
      joins = l.joined p.first

      meets : G → G → G × Bool
      meets = m.joined p.second
