use Rattle.std.proofs.Common.{◌≡◌, ◌++◌, take}
use Rattle.log_groups.specs.Fields.{joined}
use Rattle.log_groups.proofs.columns.push_joined.Given as goal

abbrev pub invariant-loop-place : goal.invariant-loop-place
invariant-loop-place l = l.key.items ≡ l.fn.key.items ++ joined l.separator (take l.place-index l.places) l.line
