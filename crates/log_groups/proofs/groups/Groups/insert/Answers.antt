use Rattle.log_groups.proofs.groups.Groups.insert.Goals as goal

pub returns-clause-begun : goal.returns-clause-begun
returns-clause-begun c = (c.in_ok-key.key, c.in_ok-key.ensures.items, c.in_ok-insert.ensures.entries)
