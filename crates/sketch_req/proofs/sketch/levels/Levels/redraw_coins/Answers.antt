use Rattle.sketch_req.proofs.sketches.Copies.{held-redrawn}
use Rattle.sketch_req.proofs.sketch.levels.Levels.redraw_coins.Goals as goal

pub invariant_of-self : goal.invariant_of-self
invariant_of-self g c = rw c.redraw_if.ensures.levels (held-redrawn g.T.Ord.cmp _ _ _ _ _ _ c.self.invariant)
