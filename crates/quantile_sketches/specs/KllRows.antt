-- Worked examples of KLL runs.
use Rattle.std.specs.Prelude.{◌≡◌, ℕ, zero, suc, ◌*◌, List, [], ◌∷◌, ◌++◌, Option, Some}
use Rattle.std.specs.Option.{option_map}
use Rattle.sketch_base.specs.Shares.{spread}
use Rattle.quantile_sketches.specs.declared.commands.Command.{Command}
use Rattle.quantile_sketches.specs.declared.commands.Command.TheVariants.{New, Update, Merge, Reset, RoundTrip}
use Rattle.quantile_sketches.specs.KllRules.{kll_rules}
use Rattle.quantile_sketches.specs.Plan.{plan_of, trace_of}

-- a sketch of k 8 in slot 0 that updated_with n items
abbrev pub updated_with : ℕ → List (Command ℕ ℕ)
updated_with zero = []
updated_with (suc more) = Update 0 more ∷ updated_with more

abbrev pub updates : ℕ → List (Command ℕ ℕ)
updates n = New 0 8 ∷ updated_with n

-- that sketch is merged into a new one of k 20 in slot 1
abbrev pub merged : ℕ → List (Command ℕ ℕ)
merged n = updates n ++ New 1 20 ∷ Merge 1 0 ∷ []

-- 4k times the spread of the slot after n updates
abbrev pub spread_at : ℕ → ℕ
spread_at n = 4 * 8 * spread (trace_of kll_rules (updates n)) 0

-- the least k of a slot's sketch
abbrev pub least_k : List (Command ℕ ℕ) → ℕ → Option ℕ
least_k commands slot = option_map (λ shape. shape.min_k) ((plan_of kll_rules commands).shapes slot)

-- 4k times the spread is at most n * n, which is 81 and 729; then the least k after merges, a round trip and a reset
pub record KllRunRows : Type 0 where
  pub nine : spread_at 9 ≡ 32
  pub twenty_seven : spread_at 27 ≡ 192
  pub two_levels : least_k (merged 9) 1 ≡ Some 8
  pub one_level : least_k (merged 1) 1 ≡ Some 20
  pub read_back : least_k (merged 9 ++ RoundTrip 1 ∷ []) 1 ≡ Some 8
  pub emptied : least_k (merged 9 ++ Reset 1 ∷ []) 1 ≡ Some 20
