use Rattle.std.proofs.Common.{length}
use Rattle.sketch_req.proofs.sketch.ReqSketch.find_at.Given as goal

abbrev pub decreases-loop-level : goal.decreases-loop-level
decreases-loop-level g l = length l.levels
