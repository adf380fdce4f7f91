use Rattle.quantile_sketches.proofs.kll.Obeys.{kll-obeys}
use Rattle.quantile_sketches.proofs.family.kll.KllSketchFamily.obeys_rules.Goals as goal

pub returns : goal.returns
returns g c = kll-obeys g.met.T.Ord.total g.T.KllValue.spelling g.B.RandomBits.bit g.B.RandomBits.next g.met.T.KllValue.is_prefix_free c.requires.0
