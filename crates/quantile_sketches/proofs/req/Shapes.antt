-- The shape of each slot, which is what its levels' states and sections are, fits its level lengths, and so the next events are legal.
use Rattle.std.proofs.Common.{arith, ◌≡◌, ℕ, ◌+◌, Bool, true, false, ◌==◌, ◌&&◌, not, if◌then◌else◌, List, [], ◌∷◌, Option, None, Some, is_some, refl, sym, ap, sum, ◌∙◌, subst, Ordering, ◌<◌}
use Rattle.std.proofs.lemmas.Grind.{common_steps}
use Rattle.std.proofs.lemmas.Bool.{false≢true, or_parts}
use Rattle.std.specs.Option.{option_and_then}
use Rattle.sketch_base.specs.Trace.{Event, Snap, At, Clear, changed, events_at, Forget, World, play, start}
use Rattle.sketch_base.proofs.bags.Acts.{changed-own, obeys}
use Rattle.sketch_req.specs.Schedule.{update_actions, update_layouts, redraw_actions, merge_layouts, round_trip_actions, merge_actions_by, counts_of, retained_of, nominal_sum}
use Rattle.quantile_sketches.specs.declared.commands.Command.TheVariants.{New, Update, UpdateWeighted, Merge, Reset, RoundTrip, Redraw, MergeRedrawn}
use Rattle.quantile_sketches.specs.Rules.{none_if}
use Rattle.quantile_sketches.specs.Plan.{Plan, count_of, shape_merged, is_refused, merge_events, accepted_events, events_of, plan_after, start_plan, after_commands, trace_of, plan_of}
use Rattle.quantile_sketches.specs.ReqPlan.{ReqCommand, shape_in, accepted_tails, no_tails, tails_of}
use Rattle.quantile_sketches.specs.ReqRules.{ReqShape, new_shape, is_same, req_rules}
use Rattle.quantile_sketches.specs.ReqRun.{merged_in, HasFewLevels, accepted_unmerged, took_no_sketch}
use Rattle.quantile_sketches.proofs.plans.Legal.{accepted_shapes, plan_from, refused-or-taken, AreBare, IsSteady, bare-after, lengths-trace, steady-after, steady-start, run-lengths as the-lengths, changed-both}
use Rattle.quantile_sketches.proofs.req.Rules.{may_be_k, not-false, same_accuracy, merged_as, no_merge, new_fits, req_lawful, legal_k, redraw-leads}
use Rattle.sketch_base.specs.Lengths.{bag_lengths, start_lengths}
use Rattle.sketch_req.specs.ScheduleLaws.{IsLegalFrom}
use Rattle.sketch_req.specs.declared.RankAccuracy.TheVariants.{HighRank}
use Rattle.sketch_req.proofs.layouts.Capacities.{upper_weighs, new_below, update_below}
use Rattle.sketch_req.proofs.plays.Legal.{fits-legal, update_legal, merge_legal}
use Rattle.quantile_sketches.specs.RuleLaws.{lengths_by}
use Rattle.quantile_sketches.specs.ReqKind.{FitsReq}
use Rattle.std.specs.Prelude.{⊤}

-- What an accepted command does to the shapes of REQ sketches, and its events. A missing sketch has the default shape.

-- how many items the sketch in a slot took, also if there is none
pub counted_in : (A : Type 0) (o : Option ReqShape) → (shape_in o).n ≡ count_of (req_rules {A = A}) o
counted_in A o = grind (arith, common_steps)

-- slots after a merge, by that number
pub merged_in-is : (shapes : ℕ → Option ReqShape) (flags : ℕ → Bool) (into source : ℕ) →
    changed flags into (((shape_in (shapes source)).n == 0) && flags into) ≡ merged_in shapes flags into source
merged_in-is shapes flags into source = ap (λ (n : ℕ). changed flags into ((n == 0) && flags into)) (counted_in Unit (shapes source))

-- a sketch's shape after an update, and after a merge
abbrev pub updated_shape : ReqShape → ReqShape
updated_shape s = record { k = s.k; accuracy = s.accuracy; n = s.n + 1; layouts = update_layouts s.k s.layouts }

abbrev merged_shape : ReqShape → ReqShape → ReqShape
merged_shape s other = merged_as s other (if other.n == 0 then s.layouts else merge_layouts s.k s.layouts other.layouts)

-- the events of a merge of a sketch that holds items, with coins redrawn or not, and of any merge
abbrev pub events_merged : {A : Type 0} → (redraws : Bool) → ReqShape → ReqShape → (into source : ℕ) → List (Event A)
events_merged redraws s other into source = Snap source into ∷ events_at into (merge_actions_by redraws s.k s.accuracy s.layouts other.layouts)

abbrev pub req_merge_events : {A : Type 0} → (redraws : Bool) → (ℕ → Option ReqShape) → (into source : ℕ) → List (Event A)
req_merge_events redraws shapes into source = if (shape_in (shapes source)).n == 0 then [] else events_merged redraws (shape_in (shapes into)) (shape_in (shapes source)) into source

-- the events of an accepted command
abbrev pub accepted_req_events : {A : Type 0} → (ℕ → Option ReqShape) → ReqCommand A → List (Event A)
accepted_req_events shapes (New slot config) = At slot Clear ∷ []
accepted_req_events shapes (Update slot x) = events_at slot (update_actions (shape_in (shapes slot)).k (shape_in (shapes slot)).accuracy (shape_in (shapes slot)).layouts x)
accepted_req_events shapes (UpdateWeighted slot x weight) = []
accepted_req_events shapes (Merge into source) = req_merge_events false shapes into source
accepted_req_events shapes (Reset slot) = At slot Clear ∷ []
accepted_req_events shapes (RoundTrip slot) = events_at slot round_trip_actions
accepted_req_events shapes (Redraw slot) = let s = shape_in (shapes slot) in events_at slot (redraw_actions s.layouts)
accepted_req_events shapes (MergeRedrawn into source) = req_merge_events true shapes into source

-- the shapes after a merge, and after an accepted command
abbrev pub req_merge_shapes : (ℕ → Option ReqShape) → (into source : ℕ) → ℕ → Option ReqShape
req_merge_shapes shapes into source = changed shapes into (Some (merged_shape (shape_in (shapes into)) (shape_in (shapes source))))

abbrev pub accepted_req_shapes : {A : Type 0} → (ℕ → Option ReqShape) → ReqCommand A → ℕ → Option ReqShape
accepted_req_shapes shapes (New slot config) = changed shapes slot (Some (new_shape config.0 config.1))
accepted_req_shapes shapes (Update slot x) = changed shapes slot (Some (updated_shape (shape_in (shapes slot))))
accepted_req_shapes shapes (Merge into source) = req_merge_shapes shapes into source
accepted_req_shapes shapes (Reset slot) = changed shapes slot (Some (new_shape (shape_in (shapes slot)).k (shape_in (shapes slot)).accuracy))
accepted_req_shapes shapes (MergeRedrawn into source) = req_merge_shapes shapes into source
accepted_req_shapes shapes command = shapes

-- ---- shapes and events are those of the rules

no : {X : Type 0} → true ≡ false → X
no e = absurd (false≢true (sym e))

-- a value that is there was not refused
pub allowed : {X : Type 0} (b : Bool) (v : X) → not (is_some (none_if b v)) ≡ false → b ≡ false
allowed b v e = grind (arith, common_steps, no)

taken : {X : Type 0} (b : Bool) (v : X) → not (is_some (none_if b v)) ≡ false → Some v ≡ none_if b v
taken b v e = grind (arith, common_steps, no)

-- if something is made from a slot's sketch, the sketch is there
pub present : {X : Type 0} (f : ReqShape → Option X) (o : Option ReqShape) → not (is_some (option_and_then f o)) ≡ false → o ≡ Some (shape_in o)
present f o e = grind (arith, common_steps, no)

-- what holds of each sketch that isn't refused holds of a slot that isn't refused
unless_refused : (refused : Option ReqShape → Bool) → refused None ≡ true → (P : Option ReqShape → Type 0) →
    ((s : ReqShape) → refused (Some s) ≡ false → P (Some s)) → (o : Option ReqShape) → refused o ≡ false → P o
unless_refused refused absent P there o e = grind (arith, common_steps, false≢true)

unless_none : (f : ReqShape → Option ReqShape) (P : Option ReqShape → Type 0) → ((s : ReqShape) → not (is_some (f s)) ≡ false → P (Some s)) →
    (o : Option ReqShape) → not (is_some (option_and_then f o)) ≡ false → P o
unless_none f P = unless_refused (λ o. not (is_some (option_and_then f o))) refl P

-- whether the rules refuse a merge
abbrev pub refuses_merge : (A : Type 0) → (redraws : Bool) → (ℕ → Option ReqShape) → (into source : ℕ) → Bool
refuses_merge A redraws shapes into source = not (is_some (shape_merged (req_rules {A = A}) redraws shapes into source))

module _ (A : Type 0) (redraws : Bool) where
  abbrev merges : Option ReqShape → Option ReqShape → Option ReqShape
  merges a b = option_and_then (λ shape. option_and_then ((req_rules {A = A}).merged redraws shape) b) a

  -- what holds of two sketches whose merge isn't refused holds of two such slots
  unless_merge_refused : (P : Option ReqShape → Option ReqShape → Type 0) → ((s t : ReqShape) → not (is_some (none_if (no_merge s t) (merged_shape s t))) ≡ false → P (Some s) (Some t)) →
      (a b : Option ReqShape) → not (is_some (merges a b)) ≡ false → P a b
  unless_merge_refused P there a b e = grind (arith, common_steps, no)

  -- an accepted merge is of sketches of the same accuracy, and makes the shapes of `req_merge_shapes`
  module _ (shapes : ℕ → Option ReqShape) (into source : ℕ) (e : refuses_merge A redraws shapes into source ≡ false) where
    -- the accuracies are the same
    pub merge-same : (shape_in (shapes into)).accuracy ≡ (shape_in (shapes source)).accuracy
    merge-same = unless_merge_refused (λ a b. (shape_in a).accuracy ≡ (shape_in b).accuracy)
        (λ s t e. same_accuracy s.accuracy t.accuracy (not-false (is_same s.accuracy t.accuracy) (or_parts _ _ (allowed (no_merge s t) (merged_shape s t) e)).0)) (shapes into) (shapes source) e

    merge-shapes : (j : ℕ) → req_merge_shapes shapes into source j ≡ changed shapes into (shape_merged (req_rules {A = A}) redraws shapes into source) j
    merge-shapes j = ap (λ (o : Option ReqShape). changed shapes into o j)
        (unless_merge_refused (λ a b. Some (merged_shape (shape_in a) (shape_in b)) ≡ merges a b) (λ s t. taken (no_merge s t) (merged_shape s t)) (shapes into) (shapes source) e)

  merge-events : (plan : Plan ReqShape) (into source : ℕ) → refuses_merge A redraws plan.shapes into source ≡ false →
      req_merge_events redraws plan.shapes into source ≡ merge_events (req_rules {A = A}) redraws plan into source
  merge-events plan into source = grind (arith, common_steps, unless_merge_refused)

-- no update with a weight is accepted
no_weight : {X : Type 0} (A : Type 0) (weight : ℕ) (o : Option ReqShape) → not (is_some (option_and_then (λ shape. (req_rules {A = A}).updated_weighted shape weight) o)) ≡ false → X
no_weight A weight o e = grind (arith, common_steps, no)

module _ {A : Type 0} where
  same-shapes : (shapes : ℕ → Option ReqShape) (c : ReqCommand A) → is_refused req_rules shapes c ≡ false → (j : ℕ) → accepted_req_shapes shapes c j ≡ accepted_shapes req_rules shapes c j
  same-shapes shapes (New slot config) e j = ap (λ (o : Option ReqShape). changed shapes slot o j) (taken (not (may_be_k config.0)) (new_shape config.0 config.1) e)
  same-shapes shapes (Update slot x) e j = grind (arith, common_steps, unless_none, taken)
  same-shapes shapes (UpdateWeighted slot x weight) e j = no_weight A weight (shapes slot) e
  same-shapes shapes (Merge into source) e j = merge-shapes A false shapes into source e j
  same-shapes shapes (Reset slot) e j = grind (arith, common_steps, unless_refused)
  same-shapes shapes (RoundTrip slot) e j = sym (changed-own shapes slot j)
  same-shapes shapes (Redraw slot) e j = grind (arith, common_steps, unless_none, changed-own)
  same-shapes shapes (MergeRedrawn into source) e j = merge-shapes A true shapes into source e j

  -- the events are those of the rules
  same-events : (plan : Plan ReqShape) (c : ReqCommand A) → is_refused req_rules plan.shapes c ≡ false → accepted_req_events plan.shapes c ≡ accepted_events req_rules plan c
  same-events plan c e = grind (arith, common_steps, unless_none, no_weight, merge-events)

  -- what a refused command leaves true, and an accepted one makes true, is true after any command
  pub either-way : (plan : Plan ReqShape) (command : ReqCommand A) (P : Bool → (ℕ → Option ReqShape) → List (Event A) → Type 0) → P true plan.shapes [] →
      (is_refused req_rules plan.shapes command ≡ false → P false (accepted_req_shapes plan.shapes command) (accepted_req_events plan.shapes command)) →
      P (is_refused req_rules plan.shapes command) (plan_after req_rules plan command).shapes (events_of req_rules plan command)
  either-way plan command P left brought = grind (arith, common_steps, refused-or-taken, same-events)

-- What the plan of a REQ run keeps: the shape of each slot fits its level lengths, and so the next events are legal.

-- each slot's shape, or the default one if there is no sketch, fits the slot's lengths
abbrev pub AreFit : (ℕ → Option ReqShape) → World (List ℕ) → Type 0
AreFit shapes world = (i : ℕ) → FitsReq (shape_in (shapes i)) (world.slots i)

-- the k of the sketches in the slots
abbrev ks_in : (ℕ → Option ReqShape) → ℕ → ℕ
ks_in shapes slot = (shape_in (shapes slot)).k

-- a shape that fits has few levels
pub few_levels : (s : ReqShape) (lengths : List ℕ) → FitsReq s lengths → HasFewLevels s
few_levels s lengths h = grind (arith, common_steps, upper_weighs)

module _ (A : Type 0) where
  -- a plan between two commands
  pub record IsSet (plan : Plan ReqShape) : Type 0 where
    pub steady : IsSteady (req_lawful {A = A}) plan
    pub bare : AreBare plan

  -- the first plan is set
  pub set-start : IsSet start_plan
  set-start = record { steady = steady-start (req_lawful {A = A}); bare = λ q e. refl }

  -- a plan stays set after a command
  pub set-after : (plan : Plan ReqShape) → IsSet plan → (command : ReqCommand A) → IsSet (plan_after req_rules plan command)
  set-after plan h command = record {
    steady = steady-after (req_lawful {A = A}) plan h.steady command;
    bare = bare-after (req_lawful {A = A}) plan h.steady h.bare command;
  }

  set-from : (plan : Plan ReqShape) → IsSet plan → (commands : List (ReqCommand A)) → IsSet (plan_from req_rules plan commands)
  set-from plan h [] = h
  set-from plan h (command ∷ rest) = set-from (plan_after req_rules plan command) (set-after plan h command) rest

  -- its shapes fit its lengths
  pub set-fits : (plan : Plan ReqShape) → IsSet plan → AreFit plan.shapes plan.lengths
  set-fits plan h i = go (plan.shapes i) refl
    where
      go : (o : Option ReqShape) → plan.shapes i ≡ o → FitsReq (shape_in o) (plan.lengths.slots i)
      go None e = subst (FitsReq (new_shape 12 HighRank)) (sym (h.bare i e)) (new_fits 12 HighRank (record { at_least = omega arith; at_most = omega arith; even = refl }))
      go (Some s) e = h.steady.fits i s e

  -- so they do after a run
  pub run-fits : (commands : List (ReqCommand A)) → AreFit (plan_of req_rules commands).shapes (plan_of req_rules commands).lengths
  run-fits commands = set-fits (plan_of req_rules commands) (set-from start_plan set-start commands)

  -- what accepted commands keep true of the shapes, and of two states that change with them, all commands keep true
  module _ {T U : Type 0} (accepted : Plan ReqShape → T → ReqCommand A → T) (accepted' : Plan ReqShape → U → ReqCommand A → U) (P : (ℕ → Option ReqShape) → T → U → Type 0)
      (step : (plan : Plan ReqShape) → IsSet plan → (t : T) (u : U) → P plan.shapes t u → (command : ReqCommand A) → is_refused req_rules plan.shapes command ≡ false →
      P (accepted_req_shapes plan.shapes command) (accepted plan t command) (accepted' plan u command)) where
    pub kept-by : (plan : Plan ReqShape) → IsSet plan → (t : T) (u : U) → P plan.shapes t u → (commands : List (ReqCommand A)) →
        P (plan_from req_rules plan commands).shapes (after_commands req_rules accepted plan t commands) (after_commands req_rules accepted' plan u commands)
    kept-by plan set t u h [] = h
    kept-by plan set t u h (command ∷ rest) =
        let both = λ (refused : Bool) (shapes : ℕ → Option ReqShape) (events : List (Event A)).
        P shapes (if refused then t else accepted plan t command) (if refused then u else accepted' plan u command) in
        kept-by (plan_after req_rules plan command) (set-after plan set command) _ _ (either-way plan command both h (step plan set t u h command)) rest

  -- ---- legal events

  none-legal : (k : ℕ → ℕ) (world : World (List ℕ)) → sum world.scratch ≡ 0 → IsLegalFrom {A = A} k [] world
  none-legal k world z = record { scratch = z; sizes = tt }

  one-legal : (k : ℕ → ℕ) (slot : ℕ) (world : World (List ℕ)) → sum world.scratch ≡ 0 → IsLegalFrom {A = A} k (At slot Clear ∷ []) world × IsLegalFrom {A = A} k (At slot Forget ∷ []) world
  one-legal k slot world z = grind (arith, common_steps, obeys)

  merge-legal : (redraws : Bool) (shapes : ℕ → Option ReqShape) (world : World (List ℕ)) → AreFit shapes world → sum world.scratch ≡ 0 → (into source : ℕ) →
      IsLegalFrom {A = A} (ks_in shapes) (req_merge_events redraws shapes into source) world
  merge-legal redraws shapes world a z into source =
      elim ((shape_in (shapes source)).n == 0) as (λ b. IsLegalFrom {A = A} (ks_in shapes) (if b then [] else events_merged redraws (shape_in (shapes into)) (shape_in (shapes source)) into source) world) [
        | true ↦ none-legal (ks_in shapes) world z
        | false ↦ merge_legal A redraws (ks_in shapes) (shape_in (shapes into)).accuracy source into (shape_in (shapes into)).layouts (shape_in (shapes source)).layouts world (a into).legal (a into).are (a into).lengths_are (a source).lengths_are z
      ]

  accepted-legal : (shapes : ℕ → Option ReqShape) (world : World (List ℕ)) → AreFit shapes world → sum world.scratch ≡ 0 → (command : ReqCommand A) →
      IsLegalFrom (ks_in shapes) (accepted_req_events shapes command) world
  accepted-legal shapes world a z (New slot config) = (one-legal (ks_in shapes) slot world z).0
  accepted-legal shapes world a z (Update slot x) =
      update_legal A (ks_in shapes) (shape_in (shapes slot)).accuracy slot (shape_in (shapes slot)).layouts x world (a slot).legal (a slot).are (a slot).lengths_are z
  accepted-legal shapes world a z (UpdateWeighted slot x weight) = none-legal (ks_in shapes) world z
  accepted-legal shapes world a z (Merge into source) = merge-legal false shapes world a z into source
  accepted-legal shapes world a z (Reset slot) = (one-legal (ks_in shapes) slot world z).0
  accepted-legal shapes world a z (RoundTrip slot) = (one-legal (ks_in shapes) slot world z).1
  accepted-legal shapes world a z (Redraw slot) =
      let s = shape_in (shapes slot) in
      fits-legal (ks_in shapes) s.accuracy (redraw_actions s.layouts) slot (counts_of s.layouts) world (redraw-leads {A = A} s.k s.accuracy s.layouts (a slot).are).fits (a slot).lengths_are z
  accepted-legal shapes world a z (MergeRedrawn into source) = merge-legal true shapes world a z into source

  events-legal : (plan : Plan ReqShape) → IsSet plan → (command : ReqCommand A) → IsLegalFrom (ks_in plan.shapes) (events_of req_rules plan command) plan.lengths
  events-legal plan h command = either-way plan command
      (λ (refused : Bool) (shapes : ℕ → Option ReqShape) (events : List (Event A)). IsLegalFrom {A = A} (ks_in plan.shapes) events plan.lengths)
      (none-legal (ks_in plan.shapes) plan.lengths h.steady.settled) (λ e. accepted-legal plan.shapes plan.lengths (set-fits plan h) h.steady.settled command)

  -- the events of one more command, after any others, are legal
  pub run-events : (commands : List (ReqCommand A)) (command : ReqCommand A) →
      IsLegalFrom (ks_in (plan_of req_rules commands).shapes) (events_of req_rules (plan_of req_rules commands) command) (lengths_by start_lengths (trace_of req_rules commands))
  run-events commands command =
      subst (IsLegalFrom {A = A} (ks_in (plan_of req_rules commands).shapes) (events_of req_rules (plan_of req_rules commands) command)) (sym (lengths-trace (req_lawful {A = A}) start_plan commands))
      (events-legal (plan_of req_rules commands) (set-from start_plan set-start commands) command)

  -- the lengths of a slot's bag are those of its layouts
  pub run-lengths : (cmp : A → A → Ordering) (commands : List (ReqCommand A)) (word : List Bool) (slot : ℕ) →
      bag_lengths ((play cmp (trace_of req_rules commands) word start).slots slot) ≡ counts_of (shape_in ((plan_of req_rules commands).shapes slot)).layouts
  run-lengths cmp commands word slot = ap (λ (w : World (List ℕ)). w.slots slot) (the-lengths (req_lawful {A = A}) cmp commands word) ∙ (run-fits commands slot).lengths_are

-- Slots of a REQ run that took no sketch in.

-- ---- below the nominal capacities

abbrev Below : Option ReqShape → Bool → Type 0
Below shape alone = alone ≡ true → retained_of (shape_in shape).layouts < nominal_sum (shape_in shape).k (shape_in shape).layouts

abbrev AreBelowNominal : (ℕ → Option ReqShape) → (ℕ → Bool) → Type 0
AreBelowNominal shapes alone = (i : ℕ) → Below (shapes i) (alone i)

module _ {A : Type 0} where
  accepted-below : (shapes : ℕ → Option ReqShape) (world : World (List ℕ)) (alone : ℕ → Bool) → AreFit shapes world → AreBelowNominal shapes alone → (command : ReqCommand A) →
      is_refused req_rules shapes command ≡ false →
      AreBelowNominal (accepted_req_shapes shapes command) (accepted_unmerged shapes alone command)
  accepted-below shapes world alone fit h (New slot config) e = grind (arith, common_steps, changed-both, new_below, legal_k, not-false, may_be_k, allowed)
  accepted-below shapes world alone fit h (Update slot x) e = grind (arith, common_steps, accepted_req_shapes, changed-own, changed-both, update_below)
  accepted-below shapes world alone fit h (Merge into source) e = grind (arith, common_steps, req_merge_shapes, merged_in-is, changed-both, false≢true)
  accepted-below shapes world alone fit h (Reset slot) e = grind (arith, common_steps, changed-both, new_below)
  accepted-below shapes world alone fit h (MergeRedrawn into source) e = grind (arith, common_steps, req_merge_shapes, merged_in-is, changed-both, false≢true)
  accepted-below shapes world alone fit h command e = h

  -- a slot that took no sketch in stays below its nominal capacities
  pub run-below : (commands : List (ReqCommand A)) (slot : ℕ) → took_no_sketch commands slot ≡ true →
      retained_of (shape_in ((plan_of req_rules commands).shapes slot)).layouts < nominal_sum (shape_in ((plan_of req_rules commands).shapes slot)).k
      (shape_in ((plan_of req_rules commands).shapes slot)).layouts
  run-below commands slot e = kept-by A (λ plan. accepted_unmerged plan.shapes) (λ plan (u : ⊤) command. u) (λ shapes alone u. AreBelowNominal shapes alone)
      (λ plan set alone u h command taken. accepted-below plan.shapes plan.lengths alone (set-fits A plan set) h command taken)
      start_plan (set-start A) (λ s. true) tt (λ i t. new_below 12 (set-fits A start_plan (set-start A) i).legal) commands slot e

-- ---- the tail number is k

abbrev Owns : Option ReqShape → Bool → ℕ → Type 0
Owns o alone tail = (shape : ReqShape) → o ≡ Some shape → alone ≡ true → tail ≡ shape.k

abbrev AreOwn : (ℕ → Option ReqShape) → (ℕ → Bool) → (ℕ → ℕ) → Type 0
AreOwn shapes alone tails = (i : ℕ) → Owns (shapes i) (alone i) (tails i)

own-changed : (shapes : ℕ → Option ReqShape) (alone : ℕ → Bool) (tails : ℕ → ℕ) (slot : ℕ) (s : ReqShape) (b : Bool) (v : ℕ) → AreOwn shapes alone tails → (b ≡ true → v ≡ s.k) →
    AreOwn (changed shapes slot (Some s)) (changed alone slot b) (changed tails slot v)
own-changed shapes alone tails slot s b v h here i = grind (arith, common_steps)

module _ {A : Type 0} where
  accepted-own : (shapes : ℕ → Option ReqShape) (alone : ℕ → Bool) (tails : ℕ → ℕ) → AreOwn shapes alone tails → (command : ReqCommand A) →
      is_refused req_rules shapes command ≡ false → AreOwn (accepted_req_shapes shapes command) (accepted_unmerged shapes alone command) (accepted_tails shapes tails command)
  accepted-own shapes alone tails h (New slot config) e = own-changed shapes alone tails slot (new_shape config.0 config.1) true config.0 h (λ t. refl)
  accepted-own shapes alone tails h (Update slot x) e = grind (arith, common_steps, present, accepted_req_shapes, changed-own, own-changed)
  accepted-own shapes alone tails h (Merge into source) e = grind (arith, common_steps, present, req_merge_shapes, merged_in-is, own-changed, false≢true)
  accepted-own shapes alone tails h (Reset slot) e = let s = shape_in (shapes slot) in own-changed shapes alone tails slot (new_shape s.k s.accuracy) true s.k h (λ t. refl)
  accepted-own shapes alone tails h (MergeRedrawn into source) e = grind (arith, common_steps, present, req_merge_shapes, merged_in-is, own-changed, false≢true)
  accepted-own shapes alone tails h command e = h

  -- and its tail number is its k
  pub run-own : (commands : List (ReqCommand A)) (slot : ℕ) → took_no_sketch commands slot ≡ true → (shape : ReqShape) → (plan_of req_rules commands).shapes slot ≡ Some shape →
      tails_of commands slot ≡ shape.k
  run-own commands slot e shape s =
      kept-by A (λ plan. accepted_unmerged plan.shapes) (λ plan. accepted_tails plan.shapes) AreOwn (λ plan set alone tails h command taken. accepted-own plan.shapes alone tails h command taken)
      start_plan (set-start A) (λ s. true) no_tails (λ i shape e t. absurd (false≢true (ap is_some e))) commands slot shape s e
