use Rattle.quantile_sketches.proofs.req.Obeys.{req-obeys}
use Rattle.quantile_sketches.proofs.family.req.ReqSketchFamily.obeys_rules.Goals as goal

pub returns : goal.returns
returns g c = req-obeys g.met.T.Ord.total g.T.ReqValue.spelling g.B.RandomBits.bit g.B.RandomBits.next g.met.T.ReqValue.is_prefix_free c.requires.0
