use Rattle.std.proofs.Common.{◌≡◌, ◌≤◌, ◌+◌, length}
use Rattle.log_groups.specs.Fields.{words_of}
use Rattle.log_groups.proofs.FirstFields.{IsBare}
use Rattle.log_groups.proofs.fields.count_words.Given as goal

abbrev pub invariant-loop-rest : goal.invariant-loop-rest
invariant-loop-rest l = record {
  count : l.count + length (words_of l.rest) ≡ length (words_of l.line);
  bare : IsBare l.rest;
  few : l.count + length l.rest ≤ length l.line;
}

abbrev pub decreases-loop-rest : goal.decreases-loop-rest
decreases-loop-rest l = length l.rest
