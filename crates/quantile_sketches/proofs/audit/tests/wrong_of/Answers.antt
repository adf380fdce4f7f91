use Rattle.std.proofs.Common.{rules}
use Rattle.sketch_base.specs.SpellingLaws.{i64_ties}
use Rattle.quantile_sketches.proofs.audit.tests.wrong_of.Goals as goal

pub first_wrong-requires : goal.first_wrong-requires
first_wrong-requires c = (i64_ties, search rules)
