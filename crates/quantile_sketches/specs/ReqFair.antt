-- Whether the updates, merges and round trips of a REQ run are fair to a slot.
use Rattle.std.specs.Prelude.{ℕ, Bool, List}
use Rattle.sketch_base.specs.Fair.{is_fair, none_drawn}
use Rattle.quantile_sketches.specs.Plan.{trace_of}
use Rattle.quantile_sketches.specs.ReqPlan.{ReqCommand}
use Rattle.quantile_sketches.specs.ReqRules.{req_rules}

-- whether the commands are fair to a slot: each coin that was complemented in what got into it had been drawn
abbrev pub is_fair_slot : {A : Type 0} → List (ReqCommand A) → ℕ → Bool
is_fair_slot commands slot = is_fair (trace_of req_rules commands) slot none_drawn
