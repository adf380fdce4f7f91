use Rattle.sketch_req.proofs.tails.Summaries.{empty-summarizes, update-summarizes, updates-summarize, merge-summarizes, empty-adds, redrawn-summarizes, copy-summarizes}
use Rattle.sketch_req.proofs.laws.calls_keep_summaries.Goals as goal

pub returns : goal.returns
returns g c = record {
  empty = empty-summarizes g.met.T.Ord.total;
  update = update-summarizes g.met.T.Ord.total;
  all = updates-summarize g.met.T.Ord.total;
  merge = merge-summarizes g.met.T.Ord.total;
  nothing = empty-adds g.met.T.Ord.total;
  redrawn = redrawn-summarizes g.met.T.Ord.total;
  copy = copy-summarizes g.met.T.Ord.total;
}
