-- Worked examples of REQ slots that stay fair by their commands, and of slots that don't.
use Rattle.std.specs.Prelude.{◌≡◌, ℕ, true, false, List, [], ◌∷◌, ◌++◌}
use Rattle.sketch_base.specs.Trace.{coins}
use Rattle.sketch_base.specs.Words.{sum_over_words}
use Rattle.sketch_req.specs.declared.RankAccuracy.TheVariants.{HighRank, LowRank}
use Rattle.quantile_sketches.specs.declared.commands.Command.TheVariants.{New, Update, Merge, RoundTrip, Redraw, MergeRedrawn}
use Rattle.quantile_sketches.specs.Plan.{trace_of}
use Rattle.quantile_sketches.specs.ReqFairRows.{undrawn}
use Rattle.quantile_sketches.specs.ReqPlan.{ReqCommand}
use Rattle.quantile_sketches.specs.ReqReady.{stays_fair}
use Rattle.quantile_sketches.specs.ReqRows.{taking, with_trip, weight_under}
use Rattle.quantile_sketches.specs.ReqRules.{req_rules}

-- a sketch of k 4 that takes 1 to 50, with a round trip and then a Redraw after 24
abbrev pub redrawn_trip : List (ReqCommand ℕ)
redrawn_trip = New 0 (4, HighRank) ∷ (taking 0 1 24 ++ RoundTrip 0 ∷ Redraw 0 ∷ taking 0 25 26)

-- two sketches of k 4: slot 1 takes 1 to 27, slot 0 takes 28 to 50, and slot 1 is merged into slot 0 with coins redrawn
abbrev pub merged_redrawn : List (ReqCommand ℕ)
merged_redrawn = New 0 (4, HighRank) ∷ New 1 (4, HighRank) ∷ (taking 1 1 27 ++ (taking 0 28 23 ++ MergeRedrawn 0 1 ∷ []))

-- slot 0 is merged into a new sketch in slot 1, with coins redrawn
abbrev pub and_merged : List (ReqCommand ℕ) → List (ReqCommand ℕ)
and_merged commands = commands ++ New 1 (4, HighRank) ∷ MergeRedrawn 1 0 ∷ []

-- two sketches of one item each, too few for the merge to compact levels
abbrev pub small_merge : List (ReqCommand ℕ)
small_merge = New 0 (4, HighRank) ∷ New 1 (4, HighRank) ∷ Update 0 1 ∷ Update 1 2 ∷ Merge 0 1 ∷ []

-- merges that change nothing: of an empty sketch, and of one of the other accuracy, which is refused
abbrev pub no_merges : List (ReqCommand ℕ)
no_merges =
    New 0 (4, HighRank) ∷ Update 0 1 ∷ New 1 (4, HighRank) ∷ Merge 0 1 ∷ New 2 (4, LowRank) ∷ Update 2 2 ∷ Merge 0 2 ∷ Update 0 3 ∷ []

-- the inclusive weight of 5 in slot 0, summed over the four words of two coins: 20 if it is unbiased
abbrev pub four_weights : List (ReqCommand ℕ) → ℕ
four_weights commands = sum_over_words 2 (λ word. weight_under commands word 0 5)

pub record ReqReadyRows : Type 0 where
  pub trip : stays_fair with_trip 0 ≡ false
  pub trip_merged : stays_fair (and_merged with_trip) 1 ≡ false
  pub redrawn : stays_fair redrawn_trip 0 ≡ true
  pub redrawn_coins : coins (trace_of req_rules redrawn_trip) ≡ 2
  pub redrawn_weights : four_weights redrawn_trip ≡ 20
  pub redrawn_merged : stays_fair (and_merged redrawn_trip) 1 ≡ true
  pub merge_into : stays_fair undrawn 0 ≡ false
  pub merge_source : stays_fair undrawn 1 ≡ true
  pub merge_redrawn_into : stays_fair merged_redrawn 0 ≡ true
  pub merge_redrawn_coins : coins (trace_of req_rules merged_redrawn) ≡ 2
  pub merge_redrawn_weights : four_weights merged_redrawn ≡ 20
  pub small : stays_fair small_merge 0 ≡ true
  pub small_updated : stays_fair (small_merge ++ Update 0 3 ∷ []) 0 ≡ false
  pub small_redrawn : stays_fair (small_merge ++ Redraw 0 ∷ Update 0 3 ∷ []) 0 ≡ true
  pub unchanged : stays_fair no_merges 0 ≡ true
