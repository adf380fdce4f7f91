use Rattle.std.proofs.Common.{◌<◌, ◌-◌, length}
use Rattle.sketch_kll.proofs.sketch.KllSketch.find_at.Given as goal

abbrev pub invariant-loop-level : goal.invariant-loop-level
invariant-loop-level g l = l.level < length l.bounds

abbrev pub decreases-loop-level : goal.decreases-loop-level
decreases-loop-level g l = l.level - 1
