use Rattle.quantile_sketches.proofs.runs.Kll.{run-moments, run-rare}
use Rattle.quantile_sketches.proofs.audit.laws.runs_are_rarely_far_off.Goals as goal

pub returns-clause-moments : goal.returns-clause-moments
returns-clause-moments g c = run-moments g.met.T.Ord.total

pub returns-clause-rare : goal.returns-clause-rare
returns-clause-rare g c = run-rare g.met.T.Ord.total
