-- Which quantiles of a group are exact.
use Rattle.std.specs.Prelude.{ℕ, ℤ, ◌-◌, ◌*◌, ◌<◌, ◌≤◌, List, ◌∷◌, length, Option}
use Rattle.std.specs.Ordering.{int_cmp}
use Rattle.sketch_base.specs.Bag.{sort}
use Rattle.sketch_base.specs.Queries.{SameAnswer, quantile_in}
use Rattle.sketch_base.specs.Queried.{quantile_of}
use Rattle.sketch_base.specs.declared.common.Rank.{Rank}
use Rattle.sketch_base.specs.declared.common.SearchCriteria.TheVariants.{Inclusive}
use Rattle.sketch_req.specs.Sections.{IsLegalK}
use Rattle.sketch_req.specs.Sketch as req
use Rattle.log_groups.specs.Fed.{IsFed, queried_of}
use Rattle.log_groups.specs.declared.sketch.Kind.TheVariants.{Req as OfReq}
use Rattle.log_groups.specs.declared.sketch.Sketch.{Sketch}
use Rattle.log_groups.specs.declared.sketch.Sketch.TheVariants.{Req, Kll}

-- fewer than 3k of n numbers lie beyond a fraction
abbrev pub IsNearTop : ℕ → ℕ → Rank → Type 0
IsNearTop k n fraction = (fraction.total - fraction.weight) * n < 3 * k * fraction.total

abbrev pub IsNearTopOf : Sketch → Rank → Type 0
IsNearTopOf (Req s) fraction = IsNearTop s.k s.n fraction
IsNearTopOf (Kll s) fraction = ⊥

-- a REQ sketch that was fed numbers answers at such a fraction with the number at its place among all of them in order
abbrev pub TopIsExact : Type 0
TopIsExact = (k : ℕ) (x : ℤ) (xs : List ℤ) (s : req.Req ℤ) (fraction : Rank) (found : Option ℤ) → IsLegalK k → IsFed (OfReq k) (x ∷ xs) (Req s) →
    0 < fraction.total → fraction.weight ≤ fraction.total → IsNearTop k (length (x ∷ xs)) fraction →
    SameAnswer int_cmp (quantile_of (queried_of (Req s)) fraction Inclusive) found →
    SameAnswer int_cmp (quantile_in (sort int_cmp (x ∷ xs)) s.least s.greatest fraction.weight fraction.total Inclusive) found
