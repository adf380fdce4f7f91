use Rattle.std.proofs.Common.{ap, ◌∙◌, ◌/◌, ℕ}
use Rattle.std.specs.Int.{trailing_zeros, w8}
use Rattle.sketch_req.proofs.sections.Sections.{doublings_found}
use Rattle.sketch_req.proofs.serialization.doublings_of.Goals as goal

pub returns : goal.returns
returns c = λ j few e. ap (λ (n : ℕ). trailing_zeros w8 (n / 3)) e ∙ doublings_found j few
