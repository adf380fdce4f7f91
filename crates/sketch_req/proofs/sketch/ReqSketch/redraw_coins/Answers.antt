use Rattle.sketch_base.specs.Random.{bits_from}
use Rattle.sketch_req.specs.Schedule.{layouts_of, turning_levels}
use Rattle.sketch_req.specs.Sketch.{sketch_of}
use Rattle.sketch_req.proofs.sketches.Copies.{redrawn-sound}
use Rattle.sketch_req.proofs.sketch.ReqSketch.redraw_coins.Goals as goal

-- The sketch stays sound.
pub invariant_of-self : goal.invariant_of-self
invariant_of-self g c =
    let inside = c.self.inside in
    let word = bits_from g.B.RandomBits.bit g.B.RandomBits.next c.args.coins.now (turning_levels (layouts_of inside.levels.levels)) in
    rw c.redraw_coins.ensures.value
    (redrawn-sound g.met.T.Ord.total word (sketch_of inside.levels.k inside.levels.accuracy inside.n inside.levels.levels inside.min_item inside.max_item) c.self.invariant)

pub returns-clause-sound : goal.returns-clause-sound
returns-clause-sound g c = invariant_of-self g c
