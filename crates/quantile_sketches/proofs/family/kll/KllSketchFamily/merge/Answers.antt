use Rattle.std.proofs.Common.{◌≡◌, Bool, true, false, ℕ, List, Option, Ordering, Result, Err, refl, sym, ap}
use Rattle.std.proofs.lemmas.Bool.{false≢true}
use Rattle.sketch_base.specs.declared.error.ErrorKind.{ErrorKind}
use Rattle.sketch_base.specs.declared.error.ErrorKind.TheVariants.{InvalidArgument}
use Rattle.sketch_kll.specs.Sketch.{Kll}
use Rattle.quantile_sketches.specs.KllBehaviour.{JoinsIn, MergesIn}
use Rattle.quantile_sketches.proofs.writing.Answers.{ok-so}
use Rattle.quantile_sketches.proofs.family.kll.KllSketchFamily.merge.Goals as goal

-- a merge that redraws no coins, and one that would
module _ {A Source : Type 0} (cmp : A → A → Ordering) (spelling : A → Option (List ℕ)) (bit : Source → Bool) (next : Source → Source) (o s : Kll A)
    (coins : Source) (r : Result (Unit {0}) ErrorKind) where
  joins : (redraws : Bool) (t : Kll A) (rest : Source) → redraws ≡ false → JoinsIn cmp spelling bit next o s coins r t rest → MergesIn cmp spelling bit next redraws o s coins r t rest
  joins true t rest kept h = absurd (false≢true (sym kept))
  joins false t rest kept h = h

  refuses : (redraws : Bool) → redraws ≡ true → r ≡ Err InvalidArgument → MergesIn cmp spelling bit next redraws o s coins r s coins
  refuses true redrawn is = (is, refl, refl)
  refuses false redrawn is = absurd (false≢true redrawn)

pub returns : goal.returns
returns g c =
    let is = c.merge.ensures in
    joins g.T.Ord.cmp g.T.KllValue.spelling g.B.RandomBits.bit g.B.RandomBits.next c.args.other.now c.args.self.now c.args.coins.now c.merge.result
    c.args.redraws c.merge.new.self c.merge.new.coins c.if-redraws.false (is.heavy, is.memory, is.empty, is.ok, is.coins, ok-so c.merge.result is.sound, is.err)

pub returns-then-redraws : goal.returns-then-redraws
returns-then-redraws g c = refuses g.T.Ord.cmp g.T.KllValue.spelling g.B.RandomBits.bit g.B.RandomBits.next c.args.other.now c.args.self.now c.args.coins.now _
    c.args.redraws c.if-redraws.true (ap (λ e. Err e) c.new.ensures)
