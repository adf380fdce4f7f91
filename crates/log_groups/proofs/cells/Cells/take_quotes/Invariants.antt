use Rattle.std.proofs.Common.{length}
use Rattle.log_groups.proofs.cells.Cells.take_quotes.Given as goal

abbrev pub decreases-loop-rest : goal.decreases-loop-rest
decreases-loop-rest l = length l.rest
