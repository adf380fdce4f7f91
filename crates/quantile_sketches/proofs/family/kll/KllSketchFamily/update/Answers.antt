use Rattle.std.proofs.Common.{◌≡◌, ◌-◌, ◌^◌, ◌<◌, ℕ, Result, Ok, Err, IfErr, arith}
use Rattle.sketch_base.specs.declared.error.ErrorKind.{ErrorKind}
use Rattle.sketch_base.specs.declared.error.ErrorKind.TheVariants.{OutOfMemory}
use Rattle.quantile_sketches.proofs.slots.Slots.{both-done}
use Rattle.quantile_sketches.proofs.writing.Answers.{ok-so}
use Rattle.quantile_sketches.proofs.family.kll.KllSketchFamily.update.Goals as goal

-- an update of a sketch that isn't full fails only if it runs out of memory
starved : (n read : ℕ) (r : Result (Unit {0}) ErrorKind) → read ≡ n → read < 2 ^ 64 → IfErr r (λ e. n < 2 ^ 64 - 1 → e ≡ OutOfMemory) → IfErr r (λ e. (n ≡ 2 ^ 64 - 1 → ⊥) → e ≡ OutOfMemory)
starved n read (Ok done) is fits memory = tt
starved n read (Err e) is fits memory = λ full. memory (omega (arith, full, is, fits))

pub returns : goal.returns
returns g c =
    let is = c.update.ensures in
    (is.full, starved c.args.self.now.n c.n-n.result c.update.result c.n-n.ensures.value c.n-n.type_inv is.memory, both-done _ _ c.update.result is.ok is.coins, ok-so c.update.result is.sound, is.err)
