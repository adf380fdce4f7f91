use Rattle.std.proofs.Common.{rules}
use Rattle.sketch_base.specs.SpellingLaws.{i64_ties}
use Rattle.quantile_sketches.proofs.tests.refused.kll_of_i64.Goals as goal

pub try_all-requires : goal.try_all-requires
try_all-requires c _ = (i64_ties, search rules)
