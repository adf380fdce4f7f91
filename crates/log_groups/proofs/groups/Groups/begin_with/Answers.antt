use Rattle.log_groups.proofs.Adding.{joined-new}
use Rattle.log_groups.proofs.groups.Groups.begin_with.Goals as goal

pub returns-clause-joined : goal.returns-clause-joined
returns-clause-joined c = joined-new c.args.self.now _ c.args.key.now c.args.coming _ c.requires.new c.in_ok-insert.ensures.begun c.redraw.ensures
