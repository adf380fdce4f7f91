-- Worked examples of rollups: hours of nine numbers each, in sketches of k 8.
use Rattle.std.specs.Prelude.{◌≡◌, ℕ, Bool, true, false, List, [], ◌∷◌, ◌++◌, map}
use Rattle.sketch_base.specs.Rows.{numbers}
use Rattle.sketch_base.specs.Shares.{all_shares, spread, took_once}
use Rattle.quantile_sketches.specs.declared.commands.Command.{Command}
use Rattle.quantile_sketches.specs.declared.commands.Command.TheVariants.{New, Update, UpdateWeighted, Merge}
use Rattle.quantile_sketches.specs.KllRules.{kll_rules}
use Rattle.quantile_sketches.specs.Plan.{trace_of}
use Rattle.quantile_sketches.specs.Rollup.{Standing, Free, Used, Mixed, standing_of}

-- a slot holds a new sketch of k 8, which updated_with 1 to n
abbrev pub updated_with : ℕ → ℕ → List (Command ℕ ℕ)
updated_with slot n = New slot 8 ∷ map (λ x. Update slot x) (numbers 1 1 n)

-- slots 1 and 2 take nine numbers each, and both are merged into slot 0
abbrev pub two_hours : List (Command ℕ ℕ)
two_hours = updated_with 1 9 ++ updated_with 2 9 ++ New 0 8 ∷ Merge 0 1 ∷ Merge 0 2 ∷ []

-- slot 1 is merged into slot 0 twice
abbrev pub same_twice : List (Command ℕ ℕ)
same_twice = updated_with 1 9 ++ New 0 8 ∷ Merge 0 1 ∷ Merge 0 1 ∷ []

-- the same, but slot 1 holds a new sketch of nine numbers at the second merge
abbrev pub one_after_another : List (Command ℕ ℕ)
one_after_another = updated_with 1 9 ++ New 0 8 ∷ Merge 0 1 ∷ updated_with 1 9 ++ Merge 0 1 ∷ []

-- slot 1 is merged into slot 3 too; in `two_ways` slot 3 is then merged into slot 0
abbrev pub day_and_region : List (Command ℕ ℕ)
day_and_region = two_hours ++ New 3 8 ∷ Merge 3 1 ∷ []

abbrev pub two_ways : List (Command ℕ ℕ)
two_ways = day_and_region ++ Merge 0 3 ∷ []

-- slot 0 updated_with n numbers, and is then merged into itself
abbrev pub itself : ℕ → List (Command ℕ ℕ)
itself n = updated_with 0 n ++ Merge 0 0 ∷ []

-- slot 0 updated_with a number with a weight
abbrev pub weighted : ℕ → List (Command ℕ ℕ)
weighted weight = New 0 8 ∷ UpdateWeighted 0 7 weight ∷ []

-- whether a slot took each coin in once, its spread, and its standing
abbrev pub once_in : List (Command ℕ ℕ) → ℕ → Bool
once_in commands slot = took_once (trace_of kll_rules commands) slot

abbrev pub spread_in : List (Command ℕ ℕ) → ℕ → ℕ
spread_in commands slot = spread (trace_of kll_rules commands) slot

abbrev pub stands_in : List (Command ℕ ℕ) → ℕ → Standing
stands_in commands slot = standing_of kll_rules commands slot

pub record RollupRows : Type 0 where
  pub day : once_in two_hours 0 ≡ true
  pub day_shares : all_shares (trace_of kll_rules two_hours) (λ slot. []) 0 ≡ 1 ∷ 1 ∷ []
  pub day_spread : spread_in two_hours 0 ≡ 2
  pub day_stands : stands_in two_hours 0 ≡ Free
  pub hour_stands : stands_in two_hours 1 ≡ Used
  pub twice : once_in same_twice 0 ≡ false
  pub twice_spread : spread_in same_twice 0 ≡ 4
  pub twice_stands : stands_in same_twice 0 ≡ Mixed
  pub after : once_in one_after_another 0 ≡ true
  pub after_spread : spread_in one_after_another 0 ≡ 2
  pub after_stands : stands_in one_after_another 0 ≡ Free
  pub region : once_in day_and_region 3 ≡ true
  pub region_stands : stands_in day_and_region 3 ≡ Mixed
  pub day_still : once_in day_and_region 0 ≡ true
  pub brought_together : once_in two_ways 0 ≡ false
  pub brought_spread : spread_in two_ways 0 ≡ 5
  pub brought : once_in two_ways 3 ≡ true
  pub no_coin : once_in (itself 8) 0 ≡ true
  pub no_coin_spread : spread_in (itself 8) 0 ≡ 1
  pub no_coin_stands : stands_in (itself 8) 0 ≡ Mixed
  pub one_coin : once_in (itself 9) 0 ≡ false
  pub one_coin_spread : spread_in (itself 9) 0 ≡ 4
  pub weight_one : once_in (weighted 1) 0 ≡ true
  pub weight_two : once_in (weighted 2) 0 ≡ false
