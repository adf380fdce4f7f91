-- Slots of a REQ run that stay fair by the commands alone: coins are redrawn in merges, and after round trips.
use Rattle.std.specs.Prelude.{ℕ, ◌==◌, ◌&&◌, not, Bool, true, false, IsTrue, if◌then◌else◌, List, Option}
use Rattle.sketch_base.specs.Trace.{changed}
use Rattle.sketch_req.specs.Schedule.{joined_layouts, are_full}
use Rattle.quantile_sketches.specs.declared.commands.Command.TheVariants.{New, Update, UpdateWeighted, Merge, Reset, RoundTrip, Redraw, MergeRedrawn}
use Rattle.quantile_sketches.specs.Plan.{start_plan, after_commands}
use Rattle.quantile_sketches.specs.ReqFair.{is_fair_slot}
use Rattle.quantile_sketches.specs.ReqPlan.{ReqCommand, shape_in}
use Rattle.quantile_sketches.specs.ReqRules.{ReqShape, req_rules}

-- What commands alone show about a slot. Ready: each level that will complement its kept coin has drawn that coin. Fair: each
-- coin that was complemented in what got into the slot had been drawn.
pub record Fairness : Type 0 where
  pub is_ready : Bool
  pub is_fair : Bool

-- a sketch that took nothing
abbrev pub new_fairness : Fairness
new_fairness = record { is_ready = true; is_fair = true }

-- after an update, which may compact levels
abbrev pub updated_fairness : Fairness → Fairness
updated_fairness f = record { is_ready = f.is_ready; is_fair = f.is_fair && f.is_ready }

-- after a round trip, and after coins were redrawn
abbrev pub with_ready : Fairness → Bool → Fairness
with_ready f ready = record { is_ready = ready; is_fair = f.is_fair }

-- whether a merge compacts levels: both sketches together are at or over the sum of the nominal capacities
abbrev pub merge_compacts : ReqShape → ReqShape → Bool
merge_compacts s other = are_full s.k (joined_layouts s.k s.layouts other.layouts)

-- after a merge of a sketch that holds items: with coins redrawn, the slot is ready, and fair if both were; else it isn't ready,
-- and is fair if both were and no level is compacted
abbrev pub merged_fairness : (redraws : Bool) → ReqShape → ReqShape → Fairness → Fairness → Fairness
merged_fairness redraws s other f g = record {
  is_ready = redraws;
  is_fair = if redraws then f.is_fair && g.is_fair else not (merge_compacts s other) && (f.is_fair && g.is_fair);
}

-- the fairness of all slots after a merge: a merge of an empty sketch changes nothing
abbrev pub fairness_in : (redraws : Bool) → (ℕ → Option ReqShape) → (ℕ → Fairness) → (into source : ℕ) → ℕ → Fairness
fairness_in redraws shapes fairs into source =
    let s = shape_in (shapes into) in
    let other = shape_in (shapes source) in
    if other.n == 0 then fairs else changed fairs into (merged_fairness redraws s other (fairs into) (fairs source))

-- after an accepted command
abbrev pub accepted_fairness : {A : Type 0} → (ℕ → Option ReqShape) → (ℕ → Fairness) → ReqCommand A → ℕ → Fairness
accepted_fairness shapes fairs (New slot config) = changed fairs slot new_fairness
accepted_fairness shapes fairs (Update slot x) = changed fairs slot (updated_fairness (fairs slot))
accepted_fairness shapes fairs (UpdateWeighted slot x weight) = fairs
accepted_fairness shapes fairs (Merge into source) = fairness_in false shapes fairs into source
accepted_fairness shapes fairs (Reset slot) = changed fairs slot new_fairness
accepted_fairness shapes fairs (RoundTrip slot) = changed fairs slot (with_ready (fairs slot) false)
accepted_fairness shapes fairs (Redraw slot) = changed fairs slot (with_ready (fairs slot) true)
accepted_fairness shapes fairs (MergeRedrawn into source) = fairness_in true shapes fairs into source

-- whether a slot stays fair, by the commands from a run's start on
abbrev pub stays_fair : {A : Type 0} → List (ReqCommand A) → ℕ → Bool
stays_fair commands slot =
    let f = after_commands req_rules (λ plan. accepted_fairness plan.shapes) start_plan (λ s. new_fairness) commands slot in f.is_fair

-- after every list of commands the slots that stay fair are fair
abbrev pub ReqStaysFair : Type 0 → Type 0
ReqStaysFair A = (commands : List (ReqCommand A)) (slot : ℕ) → IsTrue (stays_fair commands slot) → IsTrue (is_fair_slot commands slot)
