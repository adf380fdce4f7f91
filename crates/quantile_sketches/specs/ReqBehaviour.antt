-- What comes of the calls that a command makes on a REQ sketch.
use Rattle.std.specs.Prelude.{◌≡◌, ◌≢◌, ◌⊎◌, ◌^◌, ◌+◌, ◌-◌, ◌<◌, ◌≤◌, ◌↔◌, ℕ, Bool, true, List, [], ◌∷◌, Option, None, Result, IsErrOf, IsOk, IfOk, IfErr, OnOk, OnErr, IsTrue}
use Rattle.std.specs.declared.alloc.Global.{Global}
use Rattle.std.specs.declared.vec.Vec.{Vec}
use Rattle.std.specs.declared.cmp.Ordering.{Ordering}
use Rattle.sketch_base.specs.Bag.{retained}
use Rattle.sketch_base.specs.Random.{bits_from, after_draws}
use Rattle.sketch_base.specs.declared.error.ErrorKind.{ErrorKind}
use Rattle.sketch_base.specs.declared.error.ErrorKind.TheVariants.{InvalidArgument, InvalidData, OutOfMemory}
use Rattle.sketch_req.specs.Actions.{bag_of}
use Rattle.sketch_req.specs.Imaged.{IsSameSketch}
use Rattle.sketch_req.specs.Image.{BeginsImage, NoImage}
use Rattle.sketch_req.specs.Level.{fresh}
use Rattle.sketch_req.specs.Merged.{IsMergedBy, coins_of_merge_by}
use Rattle.sketch_req.specs.Redrawn.{redrawn_sketch, coins_of_redraw}
use Rattle.sketch_req.specs.Sections.{IsLegalK}
use Rattle.sketch_req.specs.ImageLaws.{without_coins}
use Rattle.sketch_req.specs.Sketch.{Req, IsSound, IsUpdated, coins_of_update}
use Rattle.sketch_req.specs.Views.{queried}
use Rattle.sketch_req.specs.Written.{image_text}
use Rattle.sketch_req.specs.declared.RankAccuracy.{RankAccuracy}
use Rattle.quantile_sketches.specs.Behaviour.{Behaviour}
use Rattle.quantile_sketches.specs.ReqKind.{HasImage}

module _ {A : Type 0} (cmp : A → A → Ordering) (spelling : A → Option (List ℕ)) where
  -- a sketch of no items, which is sound, as are all sketches below
  abbrev pub IsEmptyOf : ℕ → RankAccuracy → Req A → Type 0
  IsEmptyOf k accuracy s =
      (s.k ≡ k) × (s.accuracy ≡ accuracy) × (s.n ≡ 0) × (s.levels ≡ fresh [] true 0 k accuracy ∷ [])
      × (s.least ≡ None) × (s.greatest ≡ None) × IsSound cmp s

  -- an empty sketch of this k and accuracy, or out of memory; refused exactly if the k isn't legal
  abbrev pub IsMade : ℕ × RankAccuracy → Result (Req A) ErrorKind → Type 0
  IsMade config r =
      (IsErrOf r InvalidArgument ↔ ¬ (IsLegalK config.0))
      × IfErr r (λ e. IsLegalK config.0 → e ≡ OutOfMemory)
      × IfOk r (IsEmptyOf config.0 config.1)

  -- an equal sketch, or out of memory
  abbrev pub IsCopied : Req A → Result (Req A) ErrorKind → Type 0
  IsCopied s r = IfOk r (λ t. IsSameSketch cmp s t × IsSound cmp t) × IfErr r (λ e. e ≡ OutOfMemory)

  -- the same as a new sketch of the same k and accuracy
  abbrev pub IsEmptied : Req A → Req A → Type 0
  IsEmptied s t = IsEmptyOf s.k s.accuracy t

  -- the bytes of the sketch, which are an image of it without its kept coins, or out of memory; refused only if it has no image
  abbrev pub IsImaged : Req A → Result (Vec ℕ Global) ErrorKind → Type 0
  IsImaged s r =
      IfOk r (λ v. (v.items ≡ image_text spelling s) × BeginsImage cmp spelling v.items (without_coins s) [])
      × OnOk r (HasImage spelling s)
      × (IsErrOf r InvalidArgument → ¬ HasImage spelling s)
      × IfErr r (λ e. e ≢ InvalidData)

  -- the sketch of an image that the bytes begin with, or out of memory; refused only if they begin with none
  abbrev pub IsLoaded : List ℕ → Result (Req A) ErrorKind → Type 0
  IsLoaded bytes r =
      IfOk r (λ s. ((rest : List ℕ) × BeginsImage cmp spelling bytes s rest) × IsSound cmp s)
      × IfErr r (λ e. e ≢ InvalidArgument)
      × IfErr r (λ e. e ≡ InvalidData → NoImage cmp spelling bytes)

  -- a merge of another sketch is refused: the accuracies differ, or too many items would be counted or retained
  abbrev pub IsUnfit : Req A → Req A → Type 0
  IsUnfit s o =
      (s.accuracy ≢ o.accuracy) ⊎ ((2 ^ 64 ≤ s.n + o.n)
      ⊎ (2 ^ 32 ≤ retained (bag_of s.levels) + retained (bag_of o.levels)))

  module _ {Source : Type 0} (bit : Source → Bool) (next : Source → Source) where
    -- an item is taken in, or memory runs out; refused exactly if the weight or the number of retained items is at its maximum
    abbrev pub TakesIn : Req A → A → Source → Result Unit ErrorKind → Req A → Source → Type 0
    TakesIn s x coins r t rest =
        (IsErrOf r InvalidArgument ↔ ((s.n ≡ 2 ^ 64 - 1) ⊎ (retained (bag_of s.levels) ≡ 4294967295)))
        × IfErr r (λ e. s.n ≢ 2 ^ 64 - 1 → retained (bag_of s.levels) ≢ 4294967295 → e ≡ OutOfMemory)
        × OnOk r (IsUpdated cmp s x (bits_from bit next coins (coins_of_update s x)) t)
        × OnOk r (rest ≡ after_draws next coins (coins_of_update s x))
        × OnOk r (IsSound cmp t)
        × OnErr r ((t ≡ s) × (rest ≡ coins))

    -- an item with a weight is never taken in
    abbrev pub TakesNone : Req A → Source → Result Unit ErrorKind → Req A → Source → Type 0
    TakesNone s coins r t rest = IsErrOf r InvalidArgument × (t ≡ s) × (rest ≡ coins)

    -- each level at an odd state has its kept coin redrawn
    abbrev pub DrawsAnew : Req A → Source → Result Unit ErrorKind → Req A → Source → Type 0
    DrawsAnew s coins r t rest =
        IsOk r × (t ≡ redrawn_sketch (bits_from bit next coins (coins_of_redraw s)) s)
        × (rest ≡ after_draws next coins (coins_of_redraw s)) × IsSound cmp t

    -- another sketch is merged in, with coins redrawn or not, or memory runs out; refused exactly if it is unfit
    abbrev pub JoinsIn : (redraws : Bool) → Req A → Req A → Source → Result Unit ErrorKind → Req A → Source → Type 0
    JoinsIn redraws o s coins r t rest =
        (IsErrOf r InvalidArgument ↔ IsUnfit s o)
        × IfErr r (λ e. s.accuracy ≡ o.accuracy → s.n + o.n < 2 ^ 64
        → retained (bag_of s.levels) + retained (bag_of o.levels) < 2 ^ 32 → e ≡ OutOfMemory)
        × (s.accuracy ≡ o.accuracy → o.n ≡ 0 → IsOk r × (t ≡ s) × (rest ≡ coins))
        × OnOk r (0 < o.n → IsMergedBy cmp redraws s o (bits_from bit next coins (coins_of_merge_by redraws s o)) t)
        × OnOk r (0 < o.n → rest ≡ after_draws next coins (coins_of_merge_by redraws s o))
        × OnOk r (IsSound cmp t)
        × OnErr r ((t ≡ s) × (rest ≡ coins))

  -- how REQ sketches behave
  abbrev pub req : Behaviour (Req A) A (ℕ × RankAccuracy)
  req = record {
    made = IsMade;
    copied = IsCopied;
    emptied = IsEmptied;
    taken = λ x Source bit next s. TakesIn bit next s x;
    taken_weighted = λ x weight Source bit next. TakesNone bit next;
    redrawn = λ Source bit next. DrawsAnew bit next;
    joined = λ redraws other Source bit next. JoinsIn bit next redraws other;
    refuses = λ redraws s o answer. IsTrue answer ↔ IsUnfit s o;
    queried = queried cmp;
    imaged = IsImaged;
    loaded = IsLoaded;
  }
