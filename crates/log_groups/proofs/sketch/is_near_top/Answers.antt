use Rattle.std.proofs.Common.{arith}
use Rattle.log_groups.proofs.sketch.is_near_top.Goals as goal

pub overflow_mul-beyond : goal.overflow_mul-beyond
overflow_mul-beyond c = grind arith

pub overflow_mul-limit : goal.overflow_mul-limit
overflow_mul-limit c = grind arith
