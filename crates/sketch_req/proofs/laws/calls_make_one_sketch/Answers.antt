use Rattle.sketch_req.proofs.calls.OneCall.{one-list, one-update, one-merge, one-image}
use Rattle.sketch_req.proofs.laws.calls_make_one_sketch.Goals as goal

pub returns-clause-update : goal.returns-clause-update
returns-clause-update g c = one-update g.met.T.Ord.total

pub returns-clause-all : goal.returns-clause-all
returns-clause-all g c = one-list g.met.T.Ord.total

pub returns-clause-merge : goal.returns-clause-merge
returns-clause-merge g c = one-merge g.met.T.Ord.total

pub returns-clause-image : goal.returns-clause-image
returns-clause-image g c = one-image g.met.T.Ord.total
