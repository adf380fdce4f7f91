use Rattle.log_groups.proofs.Summaries.{rows-exact}
use Rattle.log_groups.proofs.summary.rows_are_exact.Goals as goal

pub returns : goal.returns
returns c = record { rows = rows-exact }
