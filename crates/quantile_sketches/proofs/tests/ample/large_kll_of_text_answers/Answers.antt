use Rattle.std.specs.String.{string_bytes}
use Rattle.sketch_base.specs.SpellingLaws.{text_ties, text_clones}
use Rattle.quantile_sketches.proofs.tests.ample.large_kll_of_text_answers.Goals as goal

pub holds_many-requires : goal.holds_many-requires
holds_many-requires c _ = (text_ties string_bytes, text_clones string_bytes)
