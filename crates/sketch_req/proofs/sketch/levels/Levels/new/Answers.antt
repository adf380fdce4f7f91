use Rattle.sketch_req.proofs.sketches.Copies.{few-levels}
use Rattle.sketch_req.proofs.sketch.levels.Levels.new.Goals as goal

pub sums-num_retained-requires : goal.sums-num_retained-requires
sums-num_retained-requires g c = record { few = few-levels g.T.Ord.cmp _ _ _ _ c.requires.levels c.as_slice.ensures.value }
