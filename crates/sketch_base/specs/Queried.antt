-- What queries see of a sketch or of a view, and what they answer.
use Rattle.std.specs.Prelude.{◌≡◌, ◌↔◌, ℕ, ◌<◌, List, Option, Some, Result, IsSome, IsErrOf, IfOk, IfErr, IfSome, slice_get}
use Rattle.std.specs.List.{All, AllZip}
use Rattle.std.specs.declared.alloc.Global.{Global}
use Rattle.std.specs.declared.cmp.Ordering.{Ordering}
use Rattle.std.specs.declared.vec.Vec.{Vec}
use Rattle.sketch_base.specs.Query.{true_rank}
use Rattle.sketch_base.specs.Queries.{IsFraction, IsIncreasing, SameAnswer, cdf_of, pmf_of, quantile_in, ranks_of}
use Rattle.sketch_base.specs.declared.common.Rank.{Rank}
use Rattle.sketch_base.specs.declared.common.SearchCriteria.{SearchCriteria}
use Rattle.sketch_base.specs.declared.error.ErrorKind.{ErrorKind}
use Rattle.sketch_base.specs.declared.error.ErrorKind.TheVariants.{InvalidArgument, OutOfMemory}

-- the order of the items, the number n of entries, the sorted entries themselves, and the extremes of the stream
pub record Queried (A : Type 0) : Type 0 where
  pub cmp : A → A → Ordering
  pub n : ℕ
  pub entries : List A
  pub least : Option A
  pub greatest : Option A

-- the quantile of a fraction
abbrev pub quantile_of : {A : Type 0} → Queried A → Rank → SearchCriteria → Option A
quantile_of q fraction criteria = quantile_in q.entries q.least q.greatest fraction.weight fraction.total criteria

-- the number of entries that the query of an item counts, out of n; none if there are no entries
pub record IsRank {A : Type 0} (q : Queried A) (x : A) (criteria : SearchCriteria) (r : Option Rank) : Type 0 where
  pub there : IsSome r ↔ (0 < q.n)
  pub weight : IfSome r (λ w. w.weight ≡ true_rank q.cmp x criteria q.entries)
  pub total : IfSome r (λ w. w.total ≡ q.n)

-- what comes of a query of n entries: a wanted answer, none if there are no entries, unless memory runs out; it is refused exactly if
-- its arguments aren't fit, and memory is refused only if there are entries
pub record IsAnswered {V : Type 0} (n : ℕ) (IsFit : Type 0) (IsWanted : Option V → Type 0) (r : Result (Option V) ErrorKind) : Type 0 where
  pub found : IfOk r IsWanted
  pub there : IfOk r (λ found. IsSome found ↔ (0 < n))
  pub refused : IsErrOf r InvalidArgument ↔ ¬ IsFit
  pub memory : IfErr r (λ e. IsFit → (e ≡ OutOfMemory) × (0 < n))

-- an item that compares equal to the quantile of a fraction
abbrev pub IsQuantile : {A : Type 0} → Queried A → Rank → SearchCriteria → Result (Option A) ErrorKind → Type 0
IsQuantile q fraction criteria = IsAnswered q.n (IsFraction fraction) (SameAnswer q.cmp (quantile_of q fraction criteria))

-- one for each fraction
abbrev pub AreAtFractions : {A : Type 0} → Queried A → SearchCriteria → List Rank → List A → Type 0
AreAtFractions q criteria = AllZip (λ fraction x. SameAnswer q.cmp (quantile_of q fraction criteria) (Some x))

abbrev pub AreQuantiles : {A : Type 0} → Queried A → List Rank → SearchCriteria → Result (Option (Vec A Global)) ErrorKind → Type 0
AreQuantiles q fractions criteria = IsAnswered q.n (All IsFraction fractions) (λ found. IfSome found (λ xs. AreAtFractions q criteria fractions xs.items))

-- what a cdf or a pmf answers: ranks, or none if there are no entries; or an error
abbrev pub Masses : Type 0
Masses = Result (Option (Vec Rank Global)) ErrorKind

-- these numbers of entries, each out of n, for split points
abbrev pub AreMasses : {A : Type 0} → Queried A → List A → List ℕ → Masses → Type 0
AreMasses q points weights = IsAnswered q.n (IsIncreasing q.cmp points) (λ found. IfSome found (λ ranks. ranks.items ≡ ranks_of q.n weights))

-- the rank of each split point, and then the whole
abbrev pub IsCdf : {A : Type 0} → Queried A → List A → SearchCriteria → Masses → Type 0
IsCdf q points criteria = AreMasses q points (cdf_of q.cmp criteria q.entries points)

-- the numbers of entries before, between and after the split points
abbrev pub IsPmf : {A : Type 0} → Queried A → List A → SearchCriteria → Masses → Type 0
IsPmf q points criteria = AreMasses q points (pmf_of q.cmp criteria q.entries points)

-- the rank found at this place, if any, is the whole of a total
abbrev pub EndsAt : {Z : Type 0} → (place total : ℕ) → Option (Vec Rank Z) → Type 0
EndsAt place total found = IfSome found (λ ranks. slice_get ranks.items place ≡ Some (record { weight = total; total = total }))
