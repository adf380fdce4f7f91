use Rattle.std.specs.String.{string_bytes}
use Rattle.sketch_base.specs.SpellingLaws.{text_clones}
use Rattle.quantile_sketches.proofs.text.tests.put.Goals as goal

pub update-requires : goal.update-requires
update-requires c = record { clones = text_clones string_bytes }
