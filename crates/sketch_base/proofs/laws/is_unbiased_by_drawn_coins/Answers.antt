use Rattle.sketch_base.proofs.unbiased.Fair.{fair_is_unbiased}
use Rattle.sketch_base.proofs.laws.is_unbiased_by_drawn_coins.Goals as goal

pub returns : goal.returns
returns g c = record { ranks = fair_is_unbiased g.T.Ord.cmp }
