use Rattle.std.proofs.Common.{refl}
use Rattle.std.specs.Int.Count.{count_trailing_zeros}
use Rattle.sketch_req.specs.Sections.{size_of}
use Rattle.quantile_sketches.proofs.audit.req_laws.req_fair_rows.Goals as goal

pub returns : goal.returns
unfolding size_of count_trailing_zeros
returns g = search refl
