-- Rollups: a slot that took each coin in once has a small spread, and the commands alone can show that it did so.
use Rattle.std.specs.Prelude.{◌≡◌, ℕ, ◌*◌, ◌≤◌, Bool, true, false, ◌==◌, if◌then◌else◌, IsTrue, List, Option, Some}
use Rattle.sketch_base.specs.Shares.{spread, took_once}
use Rattle.sketch_base.specs.Trace.{changed}
use Rattle.sketch_kll.specs.Sketch.{Kll}
use Rattle.sketch_kll.specs.Spread.{IsLittle}
use Rattle.quantile_sketches.specs.declared.commands.Command.{Command}
use Rattle.quantile_sketches.specs.declared.commands.Command.TheVariants.{New, Update, UpdateWeighted, Merge, Reset, RoundTrip, Redraw, MergeRedrawn}
use Rattle.quantile_sketches.specs.KllRules.{KllShape, kll_rules}
use Rattle.quantile_sketches.specs.Outcome.{SlotMap, EachSketch}
use Rattle.quantile_sketches.specs.Plan.{start_plan, count_of, after_commands, plan_of, trace_of}
use Rattle.quantile_sketches.specs.Rules.{Rules}

-- each sketch that took each coin in once has a small spread for its least k and its count, whatever merges made it
abbrev pub RollsUp : {A : Type 0} → List (Command A ℕ) → SlotMap (Kll A) → Type 0
RollsUp commands = EachSketch (λ slot s.
    IsTrue (took_once (trace_of kll_rules commands) slot) → IsLittle s.min_k s.n (spread (trace_of kll_rules commands) slot))

-- the bound for a slot, by the least k and the count of its planned shape
abbrev pub SlotRollsUp : {A : Type 0} → List (Command A ℕ) → ℕ → Type 0
SlotRollsUp commands slot = (shape : KllShape) →
    (plan_of kll_rules commands).shapes slot ≡ Some shape → IsTrue (took_once (trace_of kll_rules commands) slot) →
    IsLittle shape.min_k shape.n (spread (trace_of kll_rules commands) slot)

-- the bound holds for every list of commands
abbrev pub RollupsSpreadLittle : Type 0 → Type 0
RollupsSpreadLittle A = (commands : List (Command A ℕ)) (slot : ℕ) → SlotRollsUp commands slot

-- Free: since its New or Reset the slot took only updates and free slots, and was merged into no slot. Used: it was free, was
-- merged into other slots, and took only updates after that. Mixed: any other slot.
pub data Standing : Type 0 where
  Free : Standing
  Used : Standing
  Mixed : Standing

-- the standing of a slot after another one is merged into it, from both standings before
abbrev pub joined_standing : Standing → Standing → Standing
joined_standing Free Free = Free
joined_standing Free Used = Mixed
joined_standing Free Mixed = Mixed
joined_standing Used other = Mixed
joined_standing Mixed other = Mixed

-- the standing of a slot after it is merged into another one
abbrev pub used : Standing → Standing
used Free = Used
used Used = Used
used Mixed = Mixed

-- whether a slot is free or used
abbrev pub is_tree : Standing → Bool
is_tree Free = true
is_tree Used = true
is_tree Mixed = false

module _ {A C Shape : Type 0} (rules : Rules A C Shape) where
  -- the standing of all slots after a merge: a merge of an empty sketch changes nothing, and a slot merged into itself is mixed
  abbrev pub merged_standings : (ℕ → Option Shape) → (ℕ → Standing) → (into source : ℕ) → ℕ → Standing
  merged_standings shapes stands into source =
      if count_of rules (shapes source) == 0 then stands else
      changed (changed stands source (used (stands source))) into
      (if into == source then Mixed else joined_standing (stands into) (stands source))

  -- and after an accepted command: a slot that takes an update with a weight is mixed too
  abbrev pub accepted_standings : (ℕ → Option Shape) → (ℕ → Standing) → Command A C → ℕ → Standing
  accepted_standings shapes stands (New slot config) = changed stands slot Free
  accepted_standings shapes stands (Update slot x) = stands
  accepted_standings shapes stands (UpdateWeighted slot x weight) = changed stands slot Mixed
  accepted_standings shapes stands (Merge into source) = merged_standings shapes stands into source
  accepted_standings shapes stands (Reset slot) = changed stands slot Free
  accepted_standings shapes stands (RoundTrip slot) = stands
  accepted_standings shapes stands (Redraw slot) = stands
  accepted_standings shapes stands (MergeRedrawn into source) = merged_standings shapes stands into source

  -- the standing of a slot after commands from a run's start
  abbrev pub standing_of : List (Command A C) → ℕ → Standing
  standing_of = after_commands rules (λ plan. accepted_standings plan.shapes) start_plan (λ slot. Free)

-- after every list of commands, a slot that is free or used took each coin in once
abbrev pub TreesTakeOnce : Type 0 → Type 0
TreesTakeOnce A = (commands : List (Command A ℕ)) (slot : ℕ) →
    IsTrue (is_tree (standing_of kll_rules commands slot)) → IsTrue (took_once (trace_of kll_rules commands) slot)

-- which slots took neither a sketch that holds items nor an item with a weight since their New or Reset, after an accepted command
abbrev pub accepted_alone : {A : Type 0} → (ℕ → Option KllShape) → (ℕ → Bool) → Command A ℕ → ℕ → Bool
accepted_alone shapes alone (New slot config) = changed alone slot true
accepted_alone shapes alone (Update slot x) = alone
accepted_alone shapes alone (UpdateWeighted slot x weight) = changed alone slot false
accepted_alone shapes alone (Merge into source) = if count_of (kll_rules {A = Unit}) (shapes source) == 0 then alone else changed alone into false
accepted_alone shapes alone (Reset slot) = changed alone slot true
accepted_alone shapes alone (RoundTrip slot) = alone
accepted_alone shapes alone (Redraw slot) = alone
accepted_alone shapes alone (MergeRedrawn into source) = alone

-- whether a slot took neither, after commands from a run's start
abbrev pub took_alone : {A : Type 0} → List (Command A ℕ) → ℕ → Bool
took_alone = after_commands kll_rules (λ plan. accepted_alone plan.shapes) start_plan (λ slot. true)

-- each sketch of such a slot has a small spread for its own k and its count
abbrev pub SpreadsLittle : {A : Type 0} → List (Command A ℕ) → SlotMap (Kll A) → Type 0
SpreadsLittle commands = EachSketch (λ slot s.
    IsTrue (took_alone commands slot) → 4 * s.k * spread (trace_of kll_rules commands) slot ≤ s.n * s.n)
