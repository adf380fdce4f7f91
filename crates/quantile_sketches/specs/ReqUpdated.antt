-- Slots of a REQ run that were only updated: their errors are relative.
use Rattle.std.specs.Prelude.{◌≡◌, ℕ, ◌-◌, ◌≤◌, Some, Bool, true, false, IsTrue, List, length, Option}
use Rattle.std.specs.declared.cmp.Ordering.{Ordering}
use Rattle.sketch_base.specs.declared.common.SearchCriteria.{SearchCriteria}
use Rattle.sketch_base.specs.Trace.{changed, coins}
use Rattle.sketch_req.specs.Relative.{off_protected_end, IsRelative, Reaches}
use Rattle.quantile_sketches.specs.declared.commands.Command.TheVariants.{New, Update, UpdateWeighted, Merge, Reset, RoundTrip, Redraw, MergeRedrawn}
use Rattle.quantile_sketches.specs.Plan.{start_plan, after_commands, plan_of, trace_of}
use Rattle.quantile_sketches.specs.ReqPlan.{ReqCommand, shape_at}
use Rattle.quantile_sketches.specs.ReqRules.{ReqShape, req_rules}
use Rattle.quantile_sketches.specs.ReqRun.{merged_in}
use Rattle.quantile_sketches.specs.Run.{stream_of}
use Rattle.quantile_sketches.specs.Scatter.{squared_errors, scatter_of}

-- which slots were only updated since their New or Reset, after an accepted command: a merge of a sketch that holds items ends
-- that, and so do a round trip, which loses the kept coins, and a Redraw
abbrev pub accepted_only_updated : {A : Type 0} → (ℕ → Option ReqShape) → (ℕ → Bool) → ReqCommand A → ℕ → Bool
accepted_only_updated shapes only (New slot config) = changed only slot true
accepted_only_updated shapes only (Update slot x) = only
accepted_only_updated shapes only (UpdateWeighted slot x weight) = changed only slot false
accepted_only_updated shapes only (Merge into source) = merged_in shapes only into source
accepted_only_updated shapes only (Reset slot) = changed only slot true
accepted_only_updated shapes only (RoundTrip slot) = changed only slot false
accepted_only_updated shapes only (Redraw slot) = changed only slot false
accepted_only_updated shapes only (MergeRedrawn into source) = merged_in shapes only into source

-- whether a slot was only updated since its New or Reset, after commands from a run's start
abbrev pub was_only_updated : {A : Type 0} → List (ReqCommand A) → ℕ → Bool
was_only_updated = after_commands req_rules (λ plan. accepted_only_updated plan.shapes) start_plan (λ slot. true)

-- how many levels of a sketch were compacted: all but the top one
abbrev pub compacted_in : ReqShape → ℕ
compacted_in s = length s.layouts - 1

-- how many items of a slot's stream lie on the accurate side of a query
abbrev pub off_tail_at : {A : Type 0} → (A → A → Ordering) → A → SearchCriteria → List (ReqCommand A) → ℕ → ℕ
off_tail_at cmp y criteria commands slot =
    let s = shape_at commands slot in off_protected_end cmp s.accuracy y criteria (stream_of req_rules commands slot)

module _ {A : Type 0} (cmp : A → A → Ordering) (commands : List (ReqCommand A)) (bits : ℕ) where
  -- in the plays under all words of `bits` bits, the errors of each slot that was only updated are relative to the number of items
  -- on the query's accurate side, whatever the other slots took; s is the shape of its sketch
  abbrev pub AreRelative : Type 0
  AreRelative = (y : A) (criteria : SearchCriteria) (slot : ℕ) (s : ReqShape) →
      (plan_of req_rules commands).shapes slot ≡ Some s → IsTrue (was_only_updated commands slot) →
      IsRelative s.k (length s.layouts - 1) bits (squared_errors req_rules cmp y criteria commands bits slot)
      (off_protected_end cmp s.accuracy y criteria (stream_of req_rules commands slot))

  -- and for a k of at least 24 the bound depends on k and that count alone
  abbrev pub AreRelativeToCounts : Type 0
  AreRelativeToCounts = (y : A) (criteria : SearchCriteria) (slot : ℕ) (s : ReqShape) →
      (plan_of req_rules commands).shapes slot ≡ Some s → IsTrue (was_only_updated commands slot) →
      let count = off_protected_end cmp s.accuracy y criteria (stream_of req_rules commands slot) in
      (levels : ℕ) → 24 ≤ s.k → Reaches s.k count levels →
      IsRelative s.k levels bits (squared_errors req_rules cmp y criteria commands bits slot) count

-- if the slot of an audit was only updated, the squares of its weights' distances from the true rank are relative
abbrev pub WeightsAreRelative : {A : Type 0} → (A → A → Ordering) → A → SearchCriteria → List (ReqCommand A) → ℕ → List ℕ → ℕ → Type 0
WeightsAreRelative cmp y criteria commands slot weights rank = IsTrue (was_only_updated commands slot) →
    let s = shape_at commands slot in
    IsRelative s.k (compacted_in s) (coins (trace_of req_rules commands)) (scatter_of weights rank) (off_tail_at cmp y criteria commands slot)
