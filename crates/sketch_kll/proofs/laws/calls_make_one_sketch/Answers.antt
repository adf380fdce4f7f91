use Rattle.sketch_kll.proofs.calls.InTurn.{one-update, one-list, one-weighted, one-merge, one-image}
use Rattle.sketch_kll.proofs.laws.calls_make_one_sketch.Goals as goal

pub returns-clause-update : goal.returns-clause-update
returns-clause-update g c = one-update g.met.T.Ord.total

pub returns-clause-all : goal.returns-clause-all
returns-clause-all g c = one-list g.met.T.Ord.total

pub returns-clause-weighted : goal.returns-clause-weighted
returns-clause-weighted g c = one-weighted g.met.T.Ord.total

pub returns-clause-merge : goal.returns-clause-merge
returns-clause-merge g c = one-merge g.met.T.Ord.total

pub returns-clause-image : goal.returns-clause-image
returns-clause-image g c = one-image g.met.T.Ord.total
