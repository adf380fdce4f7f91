use Rattle.std.proofs.Common.{rules}
use Rattle.sketch_base.specs.SpellingLaws.{i64_ties}
use Rattle.quantile_sketches.proofs.tests.refused.a_room_serves_the_next_merge.Goals as goal

pub serves_again-requires : goal.serves_again-requires
serves_again-requires c _ = (i64_ties, search rules)

pub serves_again-requires-then-serves_again : goal.serves_again-requires-then-serves_again
serves_again-requires-then-serves_again c _ = (i64_ties, search rules)
