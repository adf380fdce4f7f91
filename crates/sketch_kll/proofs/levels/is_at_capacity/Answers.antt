use Rattle.std.proofs.lemmas.Grind.{common_steps}
use Rattle.std.proofs.Common.{arith}
use Rattle.std.proofs.lemmas.Bool.{lt-leb}
use Rattle.sketch_kll.proofs.layout.Full.{capacity_eight}
use Rattle.sketch_kll.proofs.levels.is_at_capacity.Goals as goal

pub returns-else-count : goal.returns-else-count
returns-else-count c = grind (arith, common_steps, lt-leb, capacity_eight)
