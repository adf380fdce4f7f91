use Rattle.std.proofs.Common.{◌≡◌, ◌-◌, ◌==◌, [], get_or}
use Rattle.std.specs.List.{slice_split}
use Rattle.log_groups.proofs.fields.part.Given as goal

abbrev pub invariant-loop-passed : goal.invariant-loop-passed
invariant-loop-passed l = get_or (slice_split (λ c. c == l.separator) l.line) (l.number - 1) [] ≡ get_or (slice_split (λ c. c == l.separator) l.rest) (l.number - l.passed) []
