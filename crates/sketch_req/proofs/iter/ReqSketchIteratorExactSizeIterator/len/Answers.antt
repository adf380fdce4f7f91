use Rattle.std.proofs.Common.{◌∙◌, length, ap}
use Rattle.sketch_req.proofs.iter.ReqSketchIteratorExactSizeIterator.len.Goals as goal

pub returns-clause-value : goal.returns-clause-value
returns-clause-value g c = c.self.invariant ∙ ap length c.self.view_is
