use Rattle.std.proofs.Common.{rules}
use Rattle.sketch_base.specs.NumberSpellings.{i32_ties}
use Rattle.quantile_sketches.proofs.audit.req_tests.wrong_of.Goals as goal

pub first_wrong-requires : goal.first_wrong-requires
first_wrong-requires c = (i32_ties, search rules)
