use Rattle.std.proofs.Common.{◌≡◌, length}
use Rattle.sketches_c.specs.Floats.{any_nan}
use Rattle.sketches_c.proofs.floats.any_nan.Given as goal

abbrev pub invariant-loop-bits : goal.invariant-loop-bits
invariant-loop-bits l = any_nan l.rest ≡ any_nan l.items

abbrev pub decreases-loop-bits : goal.decreases-loop-bits
decreases-loop-bits l = length l.rest
