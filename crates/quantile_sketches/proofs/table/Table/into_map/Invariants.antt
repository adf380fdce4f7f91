use Rattle.std.proofs.Common.{◌≡◌}
use Rattle.std.specs.Vec.{vec_len}
use Rattle.quantile_sketches.specs.Outcome.{sketch_at}
use Rattle.quantile_sketches.proofs.slots.Slots.{IsMoved}
use Rattle.quantile_sketches.proofs.table.Table.into_map.Given as goal

abbrev pub invariant-loop-slot : goal.invariant-loop-slot
invariant-loop-slot g l = (vec_len l.self-inside.slots ≡ 256) × IsMoved l.fn.self l.self-inside.slots.items l.slot (sketch_at l.map)
