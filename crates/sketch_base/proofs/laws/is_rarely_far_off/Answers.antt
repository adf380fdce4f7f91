use Rattle.sketch_base.proofs.spread.Squares.{within_moments, within_few}
use Rattle.sketch_base.proofs.laws.is_rarely_far_off.Goals as goal

pub returns-clause-moments : goal.returns-clause-moments
returns-clause-moments g c = λ y criteria trace length slot m kll obeys enough. within_moments g.met.T.Ord.total y criteria trace length slot kll obeys enough m

pub returns-clause-rare : goal.returns-clause-rare
returns-clause-rare g c = λ y criteria trace length slot t m kll obeys enough. within_few g.met.T.Ord.total y criteria trace length slot kll obeys enough t m
