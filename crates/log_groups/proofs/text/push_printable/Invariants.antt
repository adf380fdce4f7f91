use Rattle.std.proofs.Common.{length}
use Rattle.log_groups.proofs.text.push_printable.Given as goal

abbrev pub decreases-loop-rest : goal.decreases-loop-rest
decreases-loop-rest l = length l.rest
