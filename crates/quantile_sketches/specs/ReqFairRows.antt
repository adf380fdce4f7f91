-- Worked examples of REQ runs that are fair to a slot, and of runs that aren't.
use Rattle.std.specs.Prelude.{◌≡◌, ℕ, true, false, List, [], ◌∷◌, ◌++◌}
use Rattle.sketch_base.specs.Trace.{coins}
use Rattle.sketch_base.specs.Words.{sum_over_words}
use Rattle.sketch_req.specs.declared.RankAccuracy.TheVariants.{HighRank}
use Rattle.quantile_sketches.specs.declared.commands.Command.TheVariants.{New, Merge}
use Rattle.quantile_sketches.specs.Plan.{trace_of}
use Rattle.quantile_sketches.specs.ReqFair.{is_fair_slot}
use Rattle.quantile_sketches.specs.ReqPlan.{ReqCommand}
use Rattle.quantile_sketches.specs.ReqRows.{taking, with_trip, weight_under}
use Rattle.quantile_sketches.specs.ReqRules.{req_rules}

-- two sketches of k 4: slot `first` takes 1 to 27 and draws its first coin; slot `second` takes 28 to 50 and draws none; then
-- slot `source` is merged into slot `into`
abbrev pub taken_by : (first second into source : ℕ) → List (ReqCommand ℕ)
taken_by first second into source =
    New 0 (4, HighRank) ∷ New 1 (4, HighRank) ∷ (taking first 1 27 ++ (taking second 28 23 ++ Merge into source ∷ []))

-- merged into the sketch that drew no coin, whose level 0 then turns a coin that was never drawn
abbrev pub undrawn : List (ReqCommand ℕ)
undrawn = taken_by 1 0 0 1

-- merged into the sketch that drew a coin
abbrev pub drawn : List (ReqCommand ℕ)
drawn = taken_by 0 1 0 1

-- the inclusive weight of 5 in slot 0, summed over both words of one coin: 10 if it is unbiased
abbrev pub both_weights : List (ReqCommand ℕ) → ℕ
both_weights commands = sum_over_words 1 (λ word. weight_under commands word 0 5)

pub record ReqFairRows : Type 0 where
  pub undrawn_coins : coins (trace_of req_rules undrawn) ≡ 1
  pub undrawn_into : is_fair_slot undrawn 0 ≡ false
  pub undrawn_source : is_fair_slot undrawn 1 ≡ true
  pub undrawn_weights : both_weights undrawn ≡ 8
  pub drawn_coins : coins (trace_of req_rules drawn) ≡ 1
  pub drawn_into : is_fair_slot drawn 0 ≡ true
  pub drawn_weights : both_weights drawn ≡ 10
  pub trip_fair : is_fair_slot with_trip 0 ≡ false
  pub trip_weights : both_weights with_trip ≡ 8
