use Rattle.std.proofs.Common.{rules}
use Rattle.sketch_base.specs.NumberSpellings.{i32_ties}
use Rattle.quantile_sketches.proofs.tests.ample.large_req.Goals as goal

pub holds_many-requires : goal.holds_many-requires
holds_many-requires c = (i32_ties, search rules)
