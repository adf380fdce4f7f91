-- What a table shows of a group.
use Rattle.std.specs.Prelude.{◌≡◌, ⊤, ℤ, ◌≤◌, ◌⊎◌, length, Option, Some, None}
use Rattle.std.specs.Ordering.{int_cmp}
use Rattle.sketch_base.specs.Queried.{quantile_of}
use Rattle.sketch_base.specs.Queries.{SameAnswer}
use Rattle.sketch_base.specs.declared.common.SearchCriteria.TheVariants.{Inclusive}
use Rattle.log_groups.specs.Exact.{IsNearTopOf}
use Rattle.log_groups.specs.Fed.{n_of, least_of, greatest_of, queried_of}
use Rattle.log_groups.specs.declared.answers.Answer.{Answer}
use Rattle.log_groups.specs.declared.answers.Answer.TheVariants.{None as Nothing, Count as OfCount, Number}
use Rattle.log_groups.specs.declared.answers.Column.{Column}
use Rattle.log_groups.specs.declared.answers.Column.TheVariants.{Count, Point, Min, Max, Sum, AtMost, Share}
use Rattle.log_groups.specs.declared.answers.Surety.{Surety}
use Rattle.log_groups.specs.declared.answers.Surety.TheVariants.{Updates}
use Rattle.log_groups.specs.declared.groups.Group.{Group}
use Rattle.log_groups.specs.declared.sketch.Sketch.{Sketch}
use Rattle.log_groups.specs.declared.sketch.Sketch.TheVariants.{Req, Kll}

-- the answer that a number is, if there is one
abbrev pub answer_of : Option ℤ → Answer
answer_of None = Nothing
answer_of (Some x) = Number x

-- what stands in a column: count, least and greatest number are those that the sketch keeps, and a percentile is the sketch's quantile
abbrev pub IsAnswer : Group → Column → Answer → Type 0
IsAnswer g Count a = a ≡ OfCount (n_of g.sketch)
IsAnswer g Min a = a ≡ answer_of (least_of g.sketch)
IsAnswer g Max a = a ≡ answer_of (greatest_of g.sketch)
IsAnswer g Sum a = a ≡ answer_of g.sum
IsAnswer g (Point name fraction) a = (found : Option ℤ) × SameAnswer int_cmp (quantile_of (queried_of g.sketch) fraction Inclusive) found × (a ≡ answer_of found)
IsAnswer g (AtMost limit) a = ⊤
IsAnswer g (Share limit) a = ⊤

-- a sketch that holds each number that it took
abbrev pub IsWhole : Sketch → Type 0
IsWhole (Req s) = length s.levels ≤ 1
IsWhole (Kll s) = length s.levels ≤ 1

-- a percentile is shown as exact only if the sketch is whole, or took numbers alone of which few lie beyond
abbrev pub IsSure : Group → Column → Surety → Type 0
IsSure g (Point name fraction) surety = IsWhole g.sketch ⊎ ((surety ≡ Updates) × IsNearTopOf g.sketch fraction)
IsSure g Count surety = ⊤
IsSure g Min surety = ⊤
IsSure g Max surety = ⊤
IsSure g Sum surety = ⊤
IsSure g (AtMost limit) surety = ⊤
IsSure g (Share limit) surety = ⊤
