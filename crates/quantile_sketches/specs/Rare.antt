-- Rollups are rarely far off: how many words put a rank off by some times n / k.
use Rattle.std.specs.Prelude.{◌⊎◌, ℕ, ◌*◌, ◌^◌, ◌<◌, ◌≤◌, IsTrue, List}
use Rattle.std.specs.declared.cmp.Ordering.{Ordering}
use Rattle.sketch_base.specs.Moments.{odd_product}
use Rattle.sketch_base.specs.Shares.{took_once}
use Rattle.sketch_base.specs.declared.common.SearchCriteria.{SearchCriteria}
use Rattle.sketch_kll.specs.Sketch.{Kll}
use Rattle.quantile_sketches.specs.declared.commands.Command.{Command}
use Rattle.quantile_sketches.specs.KllRules.{kll_rules}
use Rattle.quantile_sketches.specs.Outcome.{SlotMap, EachSketch}
use Rattle.quantile_sketches.specs.Plan.{trace_of}
use Rattle.quantile_sketches.specs.Scatter.{words_off_by}

-- whether the 2m-th moment shows that at most one word in `one_in` puts a rank of a rollup off by `times` n / k or more: by a spread of
-- at most 5 (n / k)^2, or, which is better for a k below 21, of at most n^2 / 4k
abbrev pub ShowsRare : (times one_in m : ℕ) → Type 0
ShowsRare times one_in m = one_in * (odd_product m * 5 ^ m) ≤ times ^ (2 * m)

abbrev pub ShowsRareFor : (k times one_in m : ℕ) → Type 0
ShowsRareFor k times one_in m = one_in * (odd_product m * k ^ m) ≤ 4 ^ m * times ^ (2 * m)

-- each sketch with items that took each coin in once, whatever merges made it: where a moment shows that an error of `times` n / k is
-- rare, at most one word of `bits` bits in `one_in` puts its slot's rank off by that or more, for every query; k is its least k
abbrev pub RollupsAreRarelyFarOff : {A : Type 0} → (A → A → Ordering) → List (Command A ℕ) → (bits : ℕ) → SlotMap (Kll A) → Type 0
RollupsAreRarelyFarOff {A} cmp commands bits = EachSketch (λ slot s.
    IsTrue (took_once (trace_of kll_rules commands) slot) → 0 < s.n →
    (y : A) (criteria : SearchCriteria) (times one_in m t : ℕ) →
    ShowsRare times one_in m ⊎ ShowsRareFor s.min_k times one_in m → times * s.n ≤ s.min_k * t →
    one_in * words_off_by kll_rules cmp y criteria commands bits slot t ≤ 2 ^ bits)

-- what moments show: at most one word in 25 puts a rank of a rollup off by 6 n / k or more, and so on; for k 200, 6 n / k is 3 % of n
pub record RareRows : Type 0 where
  pub six : ShowsRare 6 25 4
  pub seven : ShowsRare 7 95 5
  pub eight : ShowsRare 8 400 6
  pub nine : ShowsRare 9 2000 8
  pub ten : ShowsRare 10 15000 10
  pub twelve : ShowsRare 12 1000000 14
  -- for k 8, 4 n / k is half of n
  pub four : ShowsRareFor 8 4 39 4
