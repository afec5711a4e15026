-- What two passes mean and answer as one.
--
--   option_or a b        the first, and only where there is none the second (of the library)
--   paired_lattice l m   the lattice of pairs of facts, the first of l and the second of m
--   paired_pass w v      the forward pass over them
use Rattle.std.specs.Prelude.{◌+◌, ◌||◌}
use Rattle.std.specs.Option.{option_or}
use Rattle.pass.specs.declared.lattice.Lattice.{Ghosts as LatticeOf}
use Rattle.pass.specs.declared.forward.ForwardPass.{Ghosts as ForwardOf}
use Rattle.pass.specs.declared.pair.Pair.{Pair}

module _ {P Q F G : Type 0} where
  abbrev pub paired_lattice : LatticeOf P F → LatticeOf Q G → LatticeOf (Pair P Q) (F × G)
  paired_lattice l m =
      record {
        valid = λ p f. l.valid p.first f.0 × m.valid p.second f.1;
        cautious = λ p f g. l.cautious p.first f.0 g.0 × m.cautious p.second f.1 g.1;
        rank = λ p f. l.rank p.first f.0 + m.rank p.second f.1;
        origin = λ p. (l.origin p.first, m.origin p.second);
        joined = λ p old new. (
          ((l.joined p.first old.0 new.0).0, (m.joined p.second old.1 new.1).0),
          (l.joined p.first old.0 new.0).1 || (m.joined p.second old.1 new.1).1,
        );
      }

  abbrev pub paired_pass : ForwardOf P F → ForwardOf Q G → ForwardOf (Pair P Q) (F × G)
  paired_pass w v =
      record {
        admits = λ p f e. w.admits p.first f.0 e × v.admits p.second f.1 e;
        follows = λ p m f. (w.follows p.first m f.0, v.follows p.second m f.1);
        crosses = λ p n k f. (w.crosses p.first n k f.0, v.crosses p.second n k f.1);
        middle = λ p m f. option_or (w.middle p.first m f.0) (v.middle p.second m f.1);
        last = λ p n f. option_or (w.last p.first n f.0) (v.last p.second n f.1);
      }
