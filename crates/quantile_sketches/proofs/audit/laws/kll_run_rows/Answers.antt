use Rattle.std.proofs.Common.{refl}
use Rattle.sketch_kll.specs.Capacity.{capacity_at, depth_capacity, shallow_capacity}
use Rattle.sketch_kll.specs.Schedule.{walk_actions}
use Rattle.quantile_sketches.proofs.audit.laws.kll_run_rows.Goals as goal

pub returns : goal.returns
unfolding walk_actions capacity_at depth_capacity shallow_capacity
returns c = search refl
