use Rattle.log_groups.proofs.Exact.{top-is-exact}
use Rattle.log_groups.proofs.sketch.top_is_exact.Goals as goal

pub returns : goal.returns
returns c = record { top = top-is-exact }
