use Rattle.passes.proofs.Copied.{forward}
use Rattle.passes.proofs.copies.CopiesForwardPass.sound.Goals as goal

pub returns : goal.returns
returns c = forward c.args.self.now
