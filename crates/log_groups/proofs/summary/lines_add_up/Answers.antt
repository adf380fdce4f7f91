use Rattle.log_groups.proofs.Summaries.{lines-add-up}
use Rattle.log_groups.proofs.summary.lines_add_up.Goals as goal

pub returns : goal.returns
returns g c = record { lines = lines-add-up g.T.ReadLine.reads }
