use Rattle.sketch_base.proofs.views.Entries.{quantile-result}
use Rattle.sketch_req.proofs.sketch.ReqSketch.quantile.Goals as goal

pub returns : goal.returns
returns g c = quantile-result g.met.T.Ord.total c.in_ok-sorted_view.ensures.view c.args.criteria c.args.fraction c.quantile-2.result c.quantile-2.ensures
