use Rattle.sketch_req.specs.Imaged.{IsSameSketch}
use Rattle.sketch_req.specs.Sketch.{IsSound}
use Rattle.quantile_sketches.proofs.kll.Obeys.{memory_told}
use Rattle.quantile_sketches.proofs.family.req.ReqSketchFamily.copy.Goals as goal

pub returns : goal.returns
returns g c = memory_told (IsSameSketch g.T.Ord.cmp c.args.self.now) (IsSound g.T.Ord.cmp) c.clone.result c.map_err.result c.map_err.ensures.cases c.clone.ensures.copy c.clone.ensures.sound
