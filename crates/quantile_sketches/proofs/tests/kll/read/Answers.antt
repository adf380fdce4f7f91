use Rattle.sketch_base.specs.SpellingLaws.{i64_ties}
use Rattle.quantile_sketches.proofs.tests.kll.read.Goals as goal

pub deserialize-requires-clause-codec : goal.deserialize-requires-clause-codec
deserialize-requires-clause-codec c = i64_ties
