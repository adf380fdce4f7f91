use Rattle.std.proofs.Common.{◌-◌, ◌<◌, length}
use Rattle.sketch_kll.proofs.layout.Full.{SeeksFull}
use Rattle.sketch_kll.proofs.levels.Levels.level_to_compact.Given as goal

abbrev pub invariant-loop-level : goal.invariant-loop-level
invariant-loop-level g l = record { within : l.level < length l.self.levels; seeks : SeeksFull l.self.k l.self.levels l.level }

abbrev pub decreases-loop-level : goal.decreases-loop-level
decreases-loop-level g l = length l.self.levels - l.level
