use Rattle.pass.proofs.Pairs.{both_forward}
use Rattle.pass.proofs.pair.PairForwardPass.sound.Goals as goal

pub returns : goal.returns
returns g c = both_forward g.A.Lattice g.B.Lattice g.A.ForwardPass g.B.ForwardPass c.args.self.now c.sound.ensures c.sound-2.ensures
