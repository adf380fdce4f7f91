use Rattle.std.proofs.Common.{◌≡◌, ◌-◌, [], get_or}
use Rattle.log_groups.specs.Fields.{words_of}
use Rattle.log_groups.proofs.FirstFields.{IsBare}
use Rattle.log_groups.proofs.fields.word.Given as goal

abbrev pub invariant-loop-passed : goal.invariant-loop-passed
invariant-loop-passed l = record {
  word : get_or (words_of l.line) (l.number - 1) [] ≡ get_or (words_of l.rest) (l.number - l.passed) [];
  bare : IsBare l.rest;
}
