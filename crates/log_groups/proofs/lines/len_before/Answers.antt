use Rattle.std.proofs.Common.{◌∙◌}
use Rattle.log_groups.proofs.NextLines.{first-place}
use Rattle.log_groups.proofs.lines.len_before.Goals as goal

pub returns-clause-value : goal.returns-clause-value
returns-clause-value c = c.unwrap_or.ensures ∙ first-place c.args.byte c.args.text.now c.memchr.result c.memchr.ensures
