-- Sketches that summarize a stream: its length, its extremes, and exactly its tail at the protected end.
use Rattle.std.specs.Prelude.{◌≡◌, ℕ, ◌+◌, ◌-◌, ◌*◌, ◌<◌, ◌≤◌, ◌⊎◌, min, Bool, List, [], ◌∷◌, ◌++◌, length, Option, slice_get}
use Rattle.std.specs.declared.cmp.Ordering.{Ordering}
use Rattle.sketch_base.specs.Exact.{IsExactUpTo}
use Rattle.sketch_base.specs.declared.common.SearchCriteria.{SearchCriteria}
use Rattle.sketch_base.specs.declared.common.Rank.{Rank}
use Rattle.sketch_base.specs.Bag.{SameItems, expanded, sort, weighted_rank}
use Rattle.sketch_base.specs.Extremes.{IsLeastOf, IsGreatestOf}
use Rattle.sketch_base.specs.Queries.{SameAnswer, quantile_in, quantile_place}
use Rattle.sketch_base.specs.Query.{counted, true_rank}
use Rattle.sketch_base.specs.Spelling.{AllSpelled}
use Rattle.sketch_base.specs.Queried.{quantile_of}
use Rattle.sketch_base.specs.Views.{View, IsViewOf, queried_view}
use Rattle.sketch_req.specs.Actions.{bag_of}
use Rattle.sketch_req.specs.Image.{BeginsImage}
use Rattle.sketch_req.specs.Imaged.{IsSameSketch}
use Rattle.sketch_req.specs.Merged.{IsMergedBy}
use Rattle.sketch_req.specs.Redrawn.{redrawn_sketch}
use Rattle.sketch_req.specs.Relative.{off_protected_end}
use Rattle.sketch_req.specs.Sketch.{Req, IsSound, IsUpdated, empty_sketch}
use Rattle.sketch_req.specs.Updates.{AreUpdated}
use Rattle.sketch_req.specs.Views.{queried, view_of}
use Rattle.sketch_req.specs.Written.{image_text, written_items}
use Rattle.sketch_req.specs.declared.RankAccuracy.{RankAccuracy}
use Rattle.sketch_req.specs.declared.RankAccuracy.TheVariants.{HighRank, LowRank}

-- a sketch summarizes a stream with a tail: it has the stream's length and extremes, and at every query the weight of its
-- items on the query's accurate side is the number of the stream's items there, up to three times the tail
pub record Summarizes {A : Type 0} (cmp : A → A → Ordering) (s : Req A) (stream : List A) (tail : ℕ) : Type 0 where
  pub tail_fits : tail ≤ s.k
  pub length_is : s.n ≡ length stream
  pub least : IsLeastOf cmp stream s.least
  pub greatest : IsGreatestOf cmp stream s.greatest
  pub exact : (y : A) (criteria : SearchCriteria) → IsExactUpTo (3 * tail)
      (off_protected_end cmp s.accuracy y criteria stream) (off_protected_end cmp s.accuracy y criteria (expanded cmp (bag_of s.levels)))

-- ---- calls

-- an empty sketch summarizes no items, with any tail that is at most its k
abbrev pub EmptySummarizes : {A : Type 0} → (A → A → Ordering) → Type 0
EmptySummarizes {A} cmp = (k tail : ℕ) (accuracy : RankAccuracy) → tail ≤ k → Summarizes cmp (empty_sketch k accuracy) [] tail

-- updates add their items to what a sketch summarizes
abbrev pub UpdateSummarizes : {A : Type 0} → (A → A → Ordering) → Type 0
UpdateSummarizes {A} cmp = (s t : Req A) (x : A) (word : List Bool) (stream : List A) (tail : ℕ) → IsSound cmp s →
    Summarizes cmp s stream tail → IsUpdated cmp s x word t → Summarizes cmp t (stream ++ x ∷ []) tail

abbrev pub UpdatesSummarize : {A : Type 0} → (A → A → Ordering) → Type 0
UpdatesSummarize {A} cmp = (s t : Req A) (items : List A) (word : List Bool) (stream : List A) (tail : ℕ) → IsSound cmp s →
    Summarizes cmp s stream tail → AreUpdated cmp s items word t → Summarizes cmp t (stream ++ items) tail

-- a merge of either kind appends the other sketch's stream; the tail is the lesser of both. An empty sketch adds nothing
abbrev pub MergeSummarizes : {A : Type 0} → (A → A → Ordering) → Type 0
MergeSummarizes {A} cmp = (redraws : Bool) (s other t : Req A) (word : List Bool) (stream more : List A) (tail tail' : ℕ) → IsSound cmp s →
    s.accuracy ≡ other.accuracy → Summarizes cmp s stream tail → Summarizes cmp other more tail' →
    IsMergedBy cmp redraws s other word t → Summarizes cmp t (stream ++ more) (min tail tail')

abbrev pub EmptyAddsNothing : {A : Type 0} → (A → A → Ordering) → Type 0
EmptyAddsNothing {A} cmp = (s other : Req A) (stream more : List A) (tail tail' : ℕ) → other.n ≡ 0 →
    Summarizes cmp s stream tail → Summarizes cmp other more tail' → Summarizes cmp s (stream ++ more) (min tail tail')

-- redrawn coins change nothing
abbrev pub RedrawnSummarizes : {A : Type 0} → (A → A → Ordering) → Type 0
RedrawnSummarizes {A} cmp = (s : Req A) (word : List Bool) (stream : List A) (tail : ℕ) →
    Summarizes cmp s stream tail → Summarizes cmp (redrawn_sketch word s) stream tail

-- a copy summarizes what the sketch does
abbrev pub CopySummarizes : {A : Type 0} → (A → A → Ordering) → Type 0
CopySummarizes {A} cmp = (s copy : Req A) (stream : List A) (tail : ℕ) → IsSameSketch cmp s copy →
    Summarizes cmp s stream tail → Summarizes cmp copy stream tail

-- so does a sketch that is read from an image of it, whoever wrote that
abbrev pub ImageSummarizes : {A : Type 0} → (A → A → Ordering) → (A → Option (List ℕ)) → Type 0
ImageSummarizes {A} cmp spelling = (text : List ℕ) (s found : Req A) (rest others : List ℕ) (stream : List A) (tail : ℕ) →
    BeginsImage cmp spelling text s rest → BeginsImage cmp spelling text found others →
    Summarizes cmp s stream tail → Summarizes cmp found stream tail

-- and from the image that `serialize` writes
abbrev pub WrittenSummarizes : {A : Type 0} → (A → A → Ordering) → (A → Option (List ℕ)) → Type 0
WrittenSummarizes {A} cmp spelling = (s found : Req A) (rest others : List ℕ) (stream : List A) (tail : ℕ) → IsSound cmp s →
    AllSpelled spelling (written_items s) → BeginsImage cmp spelling (image_text spelling s ++ rest) found others →
    Summarizes cmp s stream tail → Summarizes cmp found stream tail

-- ---- streams and tails

-- the order of a stream doesn't matter, and items may be replaced by items that compare equal
abbrev pub AnyOrderIsSummarized : {A : Type 0} → (A → A → Ordering) → Type 0
AnyOrderIsSummarized {A} cmp = (s : Req A) (stream others : List A) (tail : ℕ) → SameItems cmp (sort cmp stream) (sort cmp others) →
    Summarizes cmp s stream tail → Summarizes cmp s others tail

-- a summary with a tail is one with each smaller tail
abbrev pub SmallerTailIsExact : {A : Type 0} → (A → A → Ordering) → Type 0
SmallerTailIsExact {A} cmp = (s : Req A) (stream : List A) (tail fewer : ℕ) → fewer ≤ tail →
    Summarizes cmp s stream tail → Summarizes cmp s stream fewer

-- ---- answers

-- the rank of a query with few enough of the stream's items on its accurate side is its true rank
abbrev pub TailRanksAreExact : {A : Type 0} → (A → A → Ordering) → Type 0
TailRanksAreExact {A} cmp = (s : Req A) (stream : List A) (tail : ℕ) (y : A) (criteria : SearchCriteria) → IsSound cmp s → Summarizes cmp s stream tail →
    off_protected_end cmp s.accuracy y criteria stream ≤ 3 * tail →
    weighted_rank cmp (counted cmp y criteria) (bag_of s.levels) ≡ true_rank cmp y criteria stream

-- a place among n sorted entries, counted from 0, is one of the `most` at the protected end
abbrev pub IsProtectedPlace : RankAccuracy → (most n place : ℕ) → Type 0
IsProtectedPlace HighRank most n place = n ≤ place + most
IsProtectedPlace LowRank most n place = place < most

-- at such a place the expanded list compares equal to the sorted stream
abbrev pub TailEntriesAreExact : {A : Type 0} → (A → A → Ordering) → Type 0
TailEntriesAreExact {A} cmp = (s : Req A) (stream : List A) (tail place : ℕ) → IsSound cmp s → Summarizes cmp s stream tail →
    IsProtectedPlace s.accuracy (3 * tail) (length stream) place →
    SameAnswer cmp (slice_get (expanded cmp (bag_of s.levels)) place) (slice_get (sort cmp stream) place)

-- a fraction whose quantile among n entries is an extreme, or has such a place
abbrev pub IsProtectedFraction : RankAccuracy → (most n : ℕ) → Rank → SearchCriteria → Type 0
IsProtectedFraction accuracy most n fraction criteria =
    (fraction.weight ≡ 0) ⊎ ((fraction.weight ≡ fraction.total)
    ⊎ IsProtectedPlace accuracy most n (quantile_place n fraction.weight fraction.total criteria))

-- it does if few enough entries lie beyond it
abbrev pub IsNearProtectedEnd : RankAccuracy → (most n : ℕ) → Rank → Type 0
IsNearProtectedEnd HighRank most n fraction = (fraction.total - fraction.weight) * n < most * fraction.total
IsNearProtectedEnd LowRank most n fraction = fraction.weight * n < most * fraction.total

abbrev pub NearFractionsAreProtected : Type 0
NearFractionsAreProtected = (accuracy : RankAccuracy) (most n : ℕ) (fraction : Rank) (criteria : SearchCriteria) →
    0 < fraction.total → fraction.weight ≤ fraction.total →
    IsNearProtectedEnd accuracy most n fraction → IsProtectedFraction accuracy most n fraction criteria

-- what is found for such a fraction in any view of the sketch compares equal to the quantile of the sorted stream
abbrev pub TailQuantilesAreExact : {A : Type 0} → (A → A → Ordering) → Type 0
TailQuantilesAreExact {A} cmp = (s : Req A) (view : View A) (stream : List A) (tail : ℕ) (least greatest found : Option A) (fraction : Rank) (criteria : SearchCriteria) →
    IsSound cmp s → Summarizes cmp s stream tail → IsLeastOf cmp stream least → IsGreatestOf cmp stream greatest →
    IsViewOf (queried cmp s) view →
    IsProtectedFraction s.accuracy (3 * tail) (length stream) fraction criteria →
    SameAnswer cmp (quantile_of (queried_view cmp view) fraction criteria) found →
    SameAnswer cmp (quantile_in (sort cmp stream) least greatest fraction.weight fraction.total criteria) found

-- so does what is found in the sketch itself
abbrev pub SketchIsViewOfItself : {A : Type 0} → (A → A → Ordering) → Type 0
SketchIsViewOfItself {A} cmp = (s : Req A) → IsSound cmp s → IsViewOf (queried cmp s) (view_of cmp s)
