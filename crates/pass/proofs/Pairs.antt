-- The laws of two passes are the laws of the pair. Those of their lattices are in specs/PairLaws.antt, since `Pair` gives
-- them in src/.
use Rattle.std.proofs.Common.{◌≡◌, List, Some, None, Option}
use Rattle.std.specs.Option.{option_or}
use Rattle.script.specs.declared.node.Middle.{Middle}
use Rattle.script.specs.declared.node.Last.{Last}
use Rattle.script.specs.Run.{File}
use Rattle.pass.specs.declared.lattice.Lattice.{Ghosts as LatticeOf}
use Rattle.pass.specs.declared.forward.ForwardPass.{Ghosts as ForwardOf}
use Rattle.pass.specs.declared.pair.Pair.{Pair}
use Rattle.pass.specs.Forward.{MiddleAgrees, LastAgrees}
use Rattle.pass.specs.Lawful.{LawfulPass}
use Rattle.pass.specs.Pairs.{paired_lattice, paired_pass}

-- what a piece does where less is admitted
fewer_middle : {m : Middle} {ms : List Middle} {P Q : File → Type 0} → ((e : File) → Q e → P e) → MiddleAgrees m ms P → MiddleAgrees m ms Q
fewer_middle h a =
    record {
      few = a.few;
      fit = a.fit;
      put = λ slots e u v q. a.put slots e u v (h e q);
      registers = λ slots e u v q. a.registers slots e u v (h e q);
    }

fewer_last : {l : Last} {ms : List Middle} {k : Last} {P Q : File → Type 0} → ((e : File) → Q e → P e) → LastAgrees l ms k P → LastAgrees l ms k Q
fewer_last h a =
    record {
      few = a.few;
      fit = a.fit;
      named = a.named;
      put = λ slots e u v q. a.put slots e u v (h e q);
      registers = λ slots e u v q. a.registers slots e u v (h e q);
      place = λ slots e u v q. a.place slots e u v (h e q);
    }

-- what holds of each answer holds of the first, else the second
either_holds : {T : Type 0} (P : T → Type 0) (a b : Option T) → ((t : T) → a ≡ Some t → P t) → ((t : T) → b ≡ Some t → P t) → (t : T) → option_or a b ≡ Some t → P t
either_holds P None b h k t e = k t e
either_holds P (Some s) b h k t e = h t e

module _ {P Q F G : Type 0} (l : LatticeOf P F) (m : LatticeOf Q G) (w : ForwardOf P F) (v : ForwardOf Q G) (p : Pair P Q) where
  pub both_forward : LawfulPass l w p.first → LawfulPass m v p.second → LawfulPass (paired_lattice l m) (paired_pass w v) p
  both_forward x y =
      record {
        weaker = λ f g s t c e a b. (x.weaker f.0 g.0 s.0 t.0 c.0 e a b.0, y.weaker f.1 g.1 s.1 t.1 c.1 e a b.1);
        start_admits = (x.start_admits, y.start_admits);
        after_valid = λ n t f s. (x.after_valid n t f.0 s.0, y.after_valid n t f.1 s.1);
        after_admits = λ n t f s slots e a b c. (x.after_admits n t f.0 s.0 slots e a b c.0, y.after_admits n t f.1 s.1 slots e a b c.1);
        along_valid = λ n k b t f s. (x.along_valid n k b t f.0 s.0, y.along_valid n k b t f.1 s.1);
        along_admits = λ n k f s e a b t. (x.along_admits n k f.0 s.0 e a b.0 t, y.along_admits n k f.1 s.1 e a b.1 t);
        middle_agrees = λ n t f s. either_holds (λ ms. MiddleAgrees n ms (λ e. w.admits p.first f.0 e × v.admits p.second f.1 e)) (w.middle p.first n f.0) (v.middle p.second n f.1) (λ ms q. fewer_middle (λ e a. a.0) (x.middle_agrees n t f.0 s.0 ms q)) (λ ms q. fewer_middle (λ e a. a.1) (y.middle_agrees n t f.1 s.1 ms q));
        last_agrees = λ n f s ms k. either_holds (λ t. LastAgrees n t.0 t.1 (λ e. w.admits p.first f.0 e × v.admits p.second f.1 e)) (w.last p.first n f.0) (v.last p.second n f.1) (λ t q. fewer_last (λ e a. a.0) (x.last_agrees n f.0 s.0 t.0 t.1 q)) (λ t q. fewer_last (λ e a. a.1) (y.last_agrees n f.1 s.1 t.0 t.1 q)) (ms, k);
      }
