-- When the ghost members of a pass are lawful: a lattice l and a forward pass w over it, at the value p.
use Rattle.pass.specs.declared.lattice.Lattice.{Ghosts as LatticeOf}
use Rattle.pass.specs.declared.forward.ForwardPass.{Ghosts as ForwardOf}
use Rattle.pass.specs.Lattices.{LatticeLaws}
use Rattle.pass.specs.Forward.{ForwardLaws}

abbrev pub LawfulLattice : {P F : Type 0} → LatticeOf P F → P → Type 0
LawfulLattice l p = LatticeLaws (l.valid p) (l.cautious p) (l.rank p) (l.origin p) (l.joined p)

abbrev pub LawfulPass : {P F : Type 0} → LatticeOf P F → ForwardOf P F → P → Type 0
LawfulPass l w p = ForwardLaws l p (w.admits p) (w.follows p) (w.crosses p) (w.middle p) (w.last p)
