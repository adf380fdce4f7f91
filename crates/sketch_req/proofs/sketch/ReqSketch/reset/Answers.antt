use Rattle.sketch_req.proofs.calls.Calls.{empty_sound}
use Rattle.sketch_req.proofs.sketch.ReqSketch.reset.Goals as goal

pub invariant_of-self : goal.invariant_of-self
invariant_of-self g c = rw c.clear.ensures (empty_sound g.T.Ord.cmp _ _ c.self.invariant.legal_k)

pub returns-clause-sound : goal.returns-clause-sound
returns-clause-sound g c = invariant_of-self g c
