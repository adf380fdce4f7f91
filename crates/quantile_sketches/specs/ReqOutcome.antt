-- What a run on REQ sketches gives beyond what every run gives.
use Rattle.std.specs.Prelude.{◌≡◌, ℕ, ◌*◌, ◌^◌, ◌<◌, ◌≤◌, IsTrue, List, [], length, Option, IsSorted}
use Rattle.std.specs.List.{AllByRecursion}
use Rattle.std.specs.declared.cmp.Ordering.{Ordering}
use Rattle.sketch_base.specs.declared.common.SearchCriteria.{SearchCriteria}
use Rattle.sketch_base.specs.Bag.{retained, weighted_rank}
use Rattle.sketch_base.specs.Query.{counted, true_rank}
use Rattle.sketch_req.specs.Actions.{bag_of}
use Rattle.sketch_req.specs.Image.{BeginsImage}
use Rattle.sketch_req.specs.ImageLaws.{without_coins}
use Rattle.sketch_req.specs.Imaged.{IsSameSketch}
use Rattle.sketch_req.specs.Relative.{off_protected_end}
use Rattle.sketch_req.specs.Schedule.{layouts_of, nominal_sum}
use Rattle.sketch_req.specs.Sketch.{Req}
use Rattle.sketch_req.specs.Written.{image_text}
use Rattle.quantile_sketches.specs.Outcome.{SlotMap, EachSketch}
use Rattle.quantile_sketches.specs.ReqKind.{HasImage}
use Rattle.quantile_sketches.specs.ReqPlan.{ReqCommand, tails_of}
use Rattle.quantile_sketches.specs.ReqRules.{req_rules}
use Rattle.quantile_sketches.specs.ReqRun.{took_no_sketch}
use Rattle.quantile_sketches.specs.Run.{stream_of}

-- each level that counts as sorted is sorted
abbrev pub AreSortedInOrder : {A : Type 0} → (A → A → Ordering) → SlotMap (Req A) → Type 0
AreSortedInOrder cmp = EachSketch (λ slot s. AllByRecursion (λ level. IsTrue level.is_sorted → IsSorted cmp level.items) s.levels)

-- each sketch of L levels, L at least 2, took at least 2^L items
abbrev pub HaveFewLevels : {A : Type 0} → SlotMap (Req A) → Type 0
HaveFewLevels = EachSketch (λ slot s. 2 ≤ length s.levels → 2 ^ length s.levels ≤ s.n)

-- each sketch that took in no sketch with items retains less than the sum of its nominal capacities
abbrev pub AreBelowNominal : {A : Type 0} → List (ReqCommand A) → SlotMap (Req A) → Type 0
AreBelowNominal commands = EachSketch (λ slot s.
    IsTrue (took_no_sketch commands slot) → retained (bag_of s.levels) < nominal_sum s.k (layouts_of s.levels))

-- and the tail number of each such sketch is its k
abbrev pub TailsAreK : {A : Type 0} → List (ReqCommand A) → SlotMap (Req A) → Type 0
TailsAreK commands = EachSketch (λ slot s. IsTrue (took_no_sketch commands slot) → tails_of commands slot ≡ s.k)

-- on its protected tail of 3t items, t being its slot's tail number, a sketch's weighted rank is the true rank in its stream
abbrev pub IsExact : {A : Type 0} → (A → A → Ordering) → List (ReqCommand A) → ℕ → Req A → Type 0
IsExact {A} cmp commands slot s = (y : A) (criteria : SearchCriteria) →
    off_protected_end cmp s.accuracy y criteria (stream_of req_rules commands slot) ≤ 3 * tails_of commands slot →
    weighted_rank cmp (counted cmp y criteria) (bag_of s.levels) ≡ true_rank cmp y criteria (stream_of req_rules commands slot)

-- this holds for each sketch
abbrev pub TailsAreExact : {A : Type 0} → (A → A → Ordering) → List (ReqCommand A) → SlotMap (Req A) → Type 0
TailsAreExact cmp commands = EachSketch (IsExact cmp commands)

-- what is written for a sketch is an image of it, and each sketch read from that is the same except for coins, which are false
pub record ReadsBackButCoins {A : Type 0} (cmp : A → A → Ordering) (spelling : A → Option (List ℕ)) (s : Req A) : Type 0 where
  pub written : BeginsImage cmp spelling (image_text spelling s) (without_coins s) []
  pub read : (t : Req A) (rest : List ℕ) → BeginsImage cmp spelling (image_text spelling s) t rest → IsSameSketch cmp (without_coins s) t × (rest ≡ [])

-- each sketch that has an image reads back
abbrev pub ReqImagesReadBack : {A : Type 0} → (A → A → Ordering) → (A → Option (List ℕ)) → SlotMap (Req A) → Type 0
ReqImagesReadBack cmp spelling = EachSketch (λ slot s. HasImage spelling s → ReadsBackButCoins cmp spelling s)
