-- What calls from C ask of the sketch behind a handle, and what they answer.
use Rattle.std.specs.Prelude.{◌≡◌, ◌≢◌, ◌↔◌, ◌⊎◌, ◌<◌, ◌+◌, ◌&&◌, ◌++◌, ℕ, ℤ, Bool, true, false, if◌then◌else◌, Option, None, Some, List, length, drop}
use mathlib.Core.Bool.{beq}
use Rattle.sketch_base.specs.declared.error.ErrorKind.TheVariants.{InvalidArgument, OutOfMemory}
use Rattle.sketch_base.specs.Queried.{Queried, quantile_of}
use Rattle.sketch_base.specs.Queries.{IsFraction, IsIncreasing, SameAnswer, cdf_of, pmf_of}
use Rattle.sketch_base.specs.Query.{true_rank}
use Rattle.sketch_base.specs.declared.common.Rank.{Rank}
use Rattle.sketch_base.specs.declared.common.SearchCriteria.{SearchCriteria}
use Rattle.sketch_base.specs.declared.common.SearchCriteria.TheVariants.{Inclusive, Exclusive}
use Rattle.sketches_c.specs.Codes.{ok, empty, code_of, no_sketch, not_a_number, other_kind, wrong_size}
use Rattle.sketches_c.specs.Floats.{any_nan}
use Rattle.sketches_c.specs.Frames.{Holds}
use Rattle.sketches_c.specs.Sketches.{IsOfImage, is_req, queried}
use Rattle.sketches_c.specs.declared.sketch.Sketch.{Sketch}
use Rattle.sketches_c.specs.declared.state.State.{State}

abbrev pub criteria_of : Bool → SearchCriteria
criteria_of true = Inclusive
criteria_of false = Exclusive

-- what a call about items is answered by a sketch, floats or not, before it is asked: that it is of the other kind, that one of the
-- items is no number, or that it may be asked
unfoldable pub refusal : Bool → Bool → List ℤ → ℤ
refusal own floats items = if beq own floats then (if floats && any_nan items then not_a_number else ok) else other_kind

-- how a question about items is answered
abbrev pub Asks : Bool → List ℤ → Option State → ℤ → (Queried ℤ → Type 0) → Type 0
Asks floats items None answer means = answer ≡ no_sketch
Asks floats items (Some s) answer means =
    (refusal s.floats floats items ≢ ok → answer ≡ refusal s.floats floats items) × (refusal s.floats floats items ≡ ok → means (queried s.sketch))

-- what a call about items makes of the sketch and its source of coins
abbrev pub Changes : Bool → List ℤ → Option State → Option State → ℤ → (Sketch → ℕ → Sketch → ℕ → Type 0) → Type 0
Changes floats items None new answer means = (answer ≡ no_sketch) × (new ≡ None)
Changes floats items (Some s) None answer means = ⊥
Changes floats items (Some s) (Some t) answer means =
    (t.floats ≡ s.floats) × ((refusal s.floats floats items ≢ ok → (answer ≡ refusal s.floats floats items) × (t ≡ s))
    × (refusal s.floats floats items ≡ ok → means s.sketch s.coins t.sketch t.coins))

-- the rank of x: none exactly if there is no item
pub record IsRank (q : Queried ℤ) (x : ℤ) (inclusive : Bool) (answer : ℤ) (weight total : ℕ) : Type 0 where
  pub none : answer ≡ empty ↔ (q.n ≡ 0)
  pub some : answer ≡ ok ↔ (0 < q.n)
  pub weighs : answer ≡ ok → weight ≡ true_rank q.cmp x (criteria_of inclusive) q.entries
  pub whole : answer ≡ ok → total ≡ q.n

-- the item at the fraction
pub record IsQuantile (q : Queried ℤ) (fraction : Rank) (inclusive : Bool) (answer item : ℤ) : Type 0 where
  pub found : answer ≡ ok → SameAnswer q.cmp (quantile_of q fraction (criteria_of inclusive)) (Some item)
  pub some : answer ≡ ok → 0 < q.n
  pub none : answer ≡ empty → q.n ≡ 0
  pub unfit : answer ≡ code_of InvalidArgument ↔ ¬ (IsFraction fraction)
  pub memory : answer ≢ ok → answer ≢ empty → IsFraction fraction → answer ≡ code_of OutOfMemory

-- the numbers of entries of a pmf, if it goes by steps, or of a cdf
abbrev pub masses_of : Queried ℤ → List ℤ → SearchCriteria → Bool → List ℕ
masses_of q points criteria true = pmf_of q.cmp criteria q.entries points
masses_of q points criteria false = cdf_of q.cmp criteria q.entries points

-- one for each point and one more; memory may run out before points are looked at
pub record AreMasses (q : Queried ℤ) (points : List ℤ) (inclusive steps : Bool) (answer : ℤ) (weights : List ℕ) : Type 0 where
  pub found : answer ≡ ok → weights ≡ masses_of q points (criteria_of inclusive) steps
  pub some : answer ≡ ok → (0 < q.n) × (length weights ≡ length points + 1)
  pub none : answer ≡ empty → q.n ≡ 0
  pub unfit : answer ≡ code_of InvalidArgument → ¬ (IsIncreasing q.cmp points)
  pub fit : (answer ≡ ok) ⊎ (answer ≡ empty) ⊎ (answer ≡ wrong_size) → IsIncreasing q.cmp points
  pub room : answer ≡ wrong_size → length weights ≢ length points + 1
  pub memory : answer ≢ ok → answer ≢ empty → answer ≢ wrong_size → IsIncreasing q.cmp points → answer ≡ code_of OutOfMemory

-- the extremes of the stream
pub record AreEnds (q : Queried ℤ) (answer least greatest : ℤ) : Type 0 where
  pub none : answer ≡ empty ↔ (q.n ≡ 0)
  pub some : answer ≡ ok ↔ (0 < q.n)
  pub least_is : answer ≡ ok → q.least ≡ Some least
  pub greatest_is : answer ≡ ok → q.greatest ≡ Some greatest

-- bytes that are written into a buffer, where there are such bytes, and room; what lies behind them stays
pub record IsWritten (HasText : Type 0) (text buffer : List ℕ) (answer : ℤ) (after : List ℕ) (size : ℕ) : Type 0 where
  pub room : (answer ≡ ok) ⊎ (answer ≡ wrong_size) → size ≡ length text
  pub written : answer ≡ ok → after ≡ text ++ drop (length text) buffer
  pub small : answer ≡ wrong_size → length buffer < length text
  pub kept : answer ≢ ok → after ≡ buffer
  pub unfit : answer ≡ code_of InvalidArgument → ¬ HasText
  pub memory : answer ≢ ok → answer ≢ wrong_size → HasText → answer ≡ code_of OutOfMemory

-- the bytes hold an image of the sketch, of this family
pub record IsRead (req : Bool) (bytes : List ℕ) (seed : ℕ) (new : State) : Type 0 where
  pub image : List ℕ
  pub holds : Holds req bytes image new.floats
  pub family : is_req new.sketch ≡ req
  pub sketch : IsOfImage image seed new.sketch new.coins

-- the bytes hold no image of this family
unfoldable pub ReadsNothing : Bool → List ℕ → ℕ → Type 0
ReadsNothing req bytes seed = (s : State) → ¬ (IsRead req bytes seed s)
