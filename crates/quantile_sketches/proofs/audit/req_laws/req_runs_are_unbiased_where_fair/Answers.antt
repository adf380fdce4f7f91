use Rattle.quantile_sketches.proofs.req.Fair.{run-unbiased_where_fair}
use Rattle.quantile_sketches.proofs.audit.req_laws.req_runs_are_unbiased_where_fair.Goals as goal

pub returns : goal.returns
returns g c = record { unbiased = run-unbiased_where_fair g.T.Ord.cmp }
