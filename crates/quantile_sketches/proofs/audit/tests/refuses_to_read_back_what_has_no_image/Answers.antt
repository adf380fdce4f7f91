use Rattle.std.proofs.Common.{rules}
use Rattle.std.proofs.lemmas.Bool.{false≢true}
use Rattle.quantile_sketches.proofs.audit.tests.refuses_to_read_back_what_has_no_image.Goals as goal

pub first_wrong-wrong-requires : goal.first_wrong-wrong-requires
first_wrong-wrong-requires c _ = (λ x y h e. absurd (false≢true h), search rules)
