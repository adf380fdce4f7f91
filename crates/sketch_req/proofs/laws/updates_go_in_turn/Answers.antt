use Rattle.sketch_req.proofs.calls.InTurn.{one_updates, updates_go_on}
use Rattle.sketch_req.proofs.laws.updates_go_in_turn.Goals as goal

pub returns : goal.returns
returns g c = record { one = one_updates g.met.T.Ord.total; more = updates_go_on g.met.T.Ord.total }
