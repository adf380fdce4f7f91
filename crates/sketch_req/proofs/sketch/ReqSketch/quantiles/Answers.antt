use Rattle.sketch_base.proofs.views.Entries.{quantiles-result}
use Rattle.sketch_req.proofs.sketch.ReqSketch.quantiles.Goals as goal

pub returns : goal.returns
returns g c =
    quantiles-result g.met.T.Ord.total c.in_ok-sorted_view.ensures.view c.args.criteria c.args.fractions.now c.quantiles-2.result c.quantiles-2.ensures
