use Rattle.log_groups.proofs.OneRun.{one-run}
use Rattle.log_groups.proofs.summary.fed_is_one_run.Goals as goal

pub returns : goal.returns
returns c = record { run = one-run }
