use Rattle.std.proofs.Common.{◌≡◌, ℕ, List, Option, Ordering, Result, Ok, Err, IfOk, ap}
use Rattle.sketch_base.specs.declared.error.ErrorKind.{ErrorKind}
use Rattle.sketch_req.specs.Sketch.{Req, IsSound, empty_sketch}
use Rattle.sketch_req.specs.declared.RankAccuracy.{RankAccuracy}
use Rattle.quantile_sketches.specs.ReqBehaviour.{IsEmptyOf}
use Rattle.quantile_sketches.proofs.family.req.ReqSketchFamily.create.Goals as goal

-- a new sketch holds nothing
made-empty : {A : Type 0} (cmp : A → A → Ordering) (spelling : A → Option (List ℕ)) (k : ℕ) (accuracy : RankAccuracy) (r : Result (Req A) ErrorKind) →
    IfOk r (λ s. s ≡ empty_sketch k accuracy) → IfOk r (IsSound cmp) → IfOk r (IsEmptyOf cmp spelling k accuracy)
made-empty {A} cmp spelling k accuracy (Ok s) is sound = (
  ap (λ (s : Req A). s.k) is,
  ap (λ (s : Req A). s.accuracy) is,
  ap (λ (s : Req A). s.n) is,
  ap (λ (s : Req A). s.levels) is,
  ap (λ (s : Req A). s.least) is,
  ap (λ (s : Req A). s.greatest) is,
  sound,
)
made-empty cmp spelling k accuracy (Err e) is sound = tt

pub returns : goal.returns
returns g c =
    let is = c.new.ensures in
    (is.illegal, is.memory, made-empty g.T.Ord.cmp g.T.ReqValue.spelling c.args.config.0 c.args.config.1 c.new.result is.empty is.sound)
