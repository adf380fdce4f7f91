use Rattle.std.proofs.Common.{◌≡◌, ◌-◌, ◌^◌, ◌<◌, Result, Ok, Err, IfErr, Ordering, arith}
use Rattle.sketch_base.specs.Bag.{retained}
use Rattle.sketch_base.specs.declared.error.ErrorKind.{ErrorKind}
use Rattle.sketch_base.specs.declared.error.ErrorKind.TheVariants.{OutOfMemory}
use Rattle.sketch_req.specs.Actions.{bag_of}
use Rattle.sketch_req.specs.Sketch.{Req, IsSound}
use Rattle.sketch_req.proofs.views.Views.{retained_is}
use Rattle.quantile_sketches.proofs.writing.Answers.{ok-so}
use Rattle.quantile_sketches.proofs.family.req.ReqSketchFamily.update.Goals as goal

-- an update of a sound sketch that isn't full fails only if it runs out of memory
starved : {A : Type 0} (cmp : A → A → Ordering) (s : Req A) (r : Result (Unit {0}) ErrorKind) → IsSound cmp s →
    IfErr r (λ e. s.n < 2 ^ 64 - 1 → retained (bag_of s.levels) < 4294967295 → e ≡ OutOfMemory) →
    IfErr r (λ e. (s.n ≡ 2 ^ 64 - 1 → ⊥) → (retained (bag_of s.levels) ≡ 4294967295 → ⊥) → e ≡ OutOfMemory)
starved cmp s (Ok done) sound memory = tt
starved cmp s (Err e) sound memory = λ n m. memory (omega (arith, n, sound.n_fits)) (omega (arith, m, sound.few_items, retained_is s.levels))

pub returns : goal.returns
returns g c =
    let is = c.update.ensures in
    (is.full, starved g.T.Ord.cmp c.args.self.now c.update.result c.n-n.ensures.sound is.memory, is.ok, is.coins, ok-so c.update.result is.sound, is.err)
