use Rattle.std.proofs.Common.{◌≡◌, ◌+◌, ◌≤◌, vec_len, vec_capacity}
use Rattle.sketch_kll.proofs.images.Places.{BoundsRead}
use Rattle.sketch_kll.proofs.image.reading.read_bounds.Given as goal

abbrev pub invariant-loop : goal.invariant-loop
invariant-loop l = record {
  so_far : BoundsRead l.fn.input l.input l.limit l.low l.counter l.bounds.items;
  as_many : vec_len l.bounds ≡ l.counter;
  room : l.num_levels + 1 ≤ vec_capacity l.bounds;
}
