use Rattle.passes.proofs.Known.{forward}
use Rattle.passes.proofs.constants.ConstantsForwardPass.sound.Goals as goal

pub returns : goal.returns
returns c = forward c.args.self.now
