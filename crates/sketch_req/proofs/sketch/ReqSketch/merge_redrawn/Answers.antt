use Rattle.sketch_req.proofs.sketch.ReqSketch.merge_redrawn.Goals as goal

pub returns : goal.returns
returns g c = c.merge_by.ensures
