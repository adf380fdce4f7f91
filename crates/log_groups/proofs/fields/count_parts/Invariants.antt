use Rattle.std.proofs.Common.{◌≡◌, ◌+◌, ◌==◌, take}
use Rattle.std.specs.Prelude.{count_by}
use Rattle.log_groups.proofs.fields.count_parts.Given as goal

abbrev pub invariant-loop-i : goal.invariant-loop-i
invariant-loop-i l = l.count ≡ count_by (λ c. c == l.separator) (take l.i l.line) + 1
