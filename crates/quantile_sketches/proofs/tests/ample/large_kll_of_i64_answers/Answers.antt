use Rattle.std.proofs.Common.{rules}
use Rattle.sketch_base.specs.SpellingLaws.{i64_ties}
use Rattle.quantile_sketches.proofs.tests.ample.large_kll_of_i64_answers.Goals as goal

pub holds_many-requires : goal.holds_many-requires
holds_many-requires c _ = (i64_ties, search rules)
