use Rattle.std.proofs.Common.{arith}
use Rattle.std.proofs.lemmas.Grind.{common_steps}
use Rattle.sketches_c.proofs.floats.any_nan.Goals as goal

pub loop-bits-smaller : goal.loop-bits-smaller
loop-bits-smaller c = grind (arith, common_steps)
