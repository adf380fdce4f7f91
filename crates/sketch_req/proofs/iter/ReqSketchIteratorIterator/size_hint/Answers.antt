use Rattle.std.proofs.Common.{le_of_eq, ◌∙◌, length, sym, ap}
use Rattle.sketch_req.proofs.iter.ReqSketchIteratorIterator.size_hint.Goals as goal

pub returns : goal.returns
returns g c =
    let left = c.self.invariant ∙ ap length c.self.view_is in
    record { lower = λ _. le_of_eq left; upper = (tt, le_of_eq (sym left)) }
