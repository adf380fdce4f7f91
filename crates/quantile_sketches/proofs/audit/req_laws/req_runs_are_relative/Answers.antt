use Rattle.quantile_sketches.proofs.req.Updated.{run-are_relative, run-are_relative_to_counts}
use Rattle.quantile_sketches.proofs.audit.req_laws.req_runs_are_relative.Goals as goal

pub returns : goal.returns
returns g c = record { levels = run-are_relative g.met.T.Ord.total; counts = run-are_relative_to_counts g.met.T.Ord.total }
