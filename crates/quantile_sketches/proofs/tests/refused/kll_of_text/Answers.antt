use Rattle.std.specs.String.{string_bytes}
use Rattle.sketch_base.specs.SpellingLaws.{text_ties, text_clones}
use Rattle.quantile_sketches.proofs.tests.refused.kll_of_text.Goals as goal

pub try_all-requires : goal.try_all-requires
try_all-requires c _ = (text_ties string_bytes, text_clones string_bytes)
