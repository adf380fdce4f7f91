use Rattle.quantile_sketches.proofs.req.Fair.{run-stays_fair, run-unbiased_where_redrawn}
use Rattle.quantile_sketches.proofs.audit.req_laws.req_runs_stay_fair.Goals as goal

pub returns : goal.returns
returns g c = record { fair = run-stays_fair; unbiased = run-unbiased_where_redrawn g.T.Ord.cmp }
