-- The tail numbers of a REQ run: what the compactions of a slot's sketch leave, and so the exact tail. The sketches of a run summarize their
-- slots' streams with these tails. Refused commands may be left out.
use Rattle.std.proofs.Common.{arith, ◌≡◌, ℕ, Bool, List, [], ◌∷◌, ◌++◌, length, Option, refl, sym, ap, ◌∙◌, subst, append-nil, Ordering, suc, ◌+◌, ◌*◌, ◌≤◌, true, false, ◌==◌, not, min, if◌then◌else◌, Some, count_by}
use Rattle.std.proofs.lemmas.Grind.{common_steps}
use Rattle.std.specs.Prelude.{Contains}
use Rattle.std.specs.Cmp.{IsTotalOrder}
use Rattle.sketch_base.specs.Trace.{Event, Action, Compact, Redraw, Clear, At, World, changed, play, start, events_at}
use Rattle.sketch_base.proofs.plays.Picks.{Sheds, none, shed, sheds-none, sheds-append}
use Rattle.quantile_sketches.specs.Plan.{Plan, start_plan, events_of, plan_of, trace_of, is_refused, plan_after, trace_from, after_commands}
use Rattle.quantile_sketches.specs.Refused.{accepted_of, IsRefusedExactly, AreRefused}
use Rattle.quantile_sketches.specs.ReqKind.{req_kind, req_look, req_shape}
use Rattle.quantile_sketches.specs.ReqPlan.{ReqCommand, accepted_tails, tails_of, no_tails, shape_in, merged_tails}
use Rattle.quantile_sketches.specs.ReqRules.{ReqShape, req_rules}
use Rattle.quantile_sketches.proofs.plans.LeftOut.{IsLeftOut, state-more, state-left, left-more, left-refused, left-by}
use Rattle.quantile_sketches.proofs.plans.Legal.{after-append, trace-more, along-even, at_slot, changed-away, changed-both, run-legal, after_command, plan_from}
use Rattle.quantile_sketches.proofs.req.Rules.{req_kind_lawful, req_lawful}
use Rattle.std.proofs.lemmas.Bool.{and_from}
use Rattle.sketch_base.specs.declared.common.SearchCriteria.{SearchCriteria}
use Rattle.sketch_base.specs.Bag.{Taken, weighted_rank, Bag, AlikeReq, expanded}
use Rattle.sketch_base.specs.Lengths.{lengths_after, start_lengths, leaves_after, leaves_at_least, ObeysScratch, Along, TakesEven}
use Rattle.sketch_base.specs.Query.{counted, true_rank}
use Rattle.sketch_base.proofs.bags.Acts.{changed-there, changed-own}
use Rattle.sketch_base.proofs.tails.ExactTails.{high_tail, low_tail, exact-as, exact-trace}
use Rattle.sketch_req.specs.Schedule.{Layout, redraws_from, update_actions, merge_layouts}
use Rattle.sketch_base.specs.Ranks.{rank_of_trace}
use Rattle.sketch_req.specs.ScheduleLaws.{tail_side}
use Rattle.sketch_req.specs.declared.RankAccuracy.{RankAccuracy}
use Rattle.sketch_req.specs.declared.RankAccuracy.TheVariants.{HighRank, LowRank}
use Rattle.sketch_req.proofs.plays.Legal.{leaves-append, update_leaves, merge_leaves}
use Rattle.quantile_sketches.specs.declared.commands.Command.TheVariants.{New, Update, Merge, Reset, Redraw, MergeRedrawn}
use Rattle.sketch_req.specs.Relative.{off_protected_end}
use Rattle.quantile_sketches.specs.Run.{stream_of}
use Rattle.quantile_sketches.proofs.req.Shapes.{events_merged, req_merge_events, accepted_req_events, req_merge_shapes, accepted_req_shapes, refuses_merge, merge-same, either-way, AreFit, IsSet, set-start, set-after, set-fits}
use Rattle.quantile_sketches.proofs.plans.Streams.{run-ranks}
use Rattle.std.specs.Option.{option_map}
use Rattle.sketch_base.specs.Exact.{IsExactUpTo}
use Rattle.sketch_req.specs.Actions.{bag_of}
use Rattle.sketch_req.specs.Sketch.{Req}
use Rattle.quantile_sketches.specs.Outcome.{SlotMap, ArePlanned, ArePlayed, AreSound, WeighStreams, HaveExtremes}
use Rattle.quantile_sketches.specs.ReqOutcome.{TailsAreExact}
use Rattle.quantile_sketches.specs.RunSummaries.{AreSummaries}
use Rattle.sketch_req.proofs.tails.Answers.{tail-ranks}
use Rattle.sketch_req.proofs.tails.Summaries.{is_protected, spares-tail, off-is, off-rank, off-alike}

-- The accepted commands of a REQ run give the same tail numbers as all its commands, and the same trace except for some
-- round trips.

pub record IsLeftOutReq {A : Type 0} (commands fewer : List (ReqCommand A)) : Type 0 where
  pub left : IsLeftOut req_rules commands fewer
  pub tails : tails_of commands ≡ tails_of fewer
  pub trace : Sheds (trace_of req_rules commands) (trace_of req_rules fewer)

module _ {A : Type 0} {cmp : A → A → Ordering} (o : IsTotalOrder cmp) (spelling : A → Option (List ℕ)) (word : List Bool) (refused : List ℕ) where
  -- a refused command gives no event, except a round trip's Forget
  sheds-left : (before : List (ReqCommand A)) (c : ReqCommand A) (P : Type 0) → IsRefusedExactly (req_kind cmp spelling) word refused before c P → P →
      Sheds (events_of req_rules (plan_of req_rules before) c) []
  sheds-left before c P h p = grind (arith, common_steps, none, shed)

  sheds-more : (done fewer : List (ReqCommand A)) (c : ReqCommand A) (events trace : List (Event A)) → trace_of req_rules fewer ++ events ≡ trace → IsLeftOutReq done fewer →
      Sheds (events_of req_rules (plan_of req_rules done) c) events → Sheds (trace_of req_rules (done ++ c ∷ [])) trace
  sheds-more done fewer c events trace e h sheds = grind (arith, common_steps, trace, trace-more, sheds-append)

  -- all refused commands may be left out, and all that is known of REQ slots stays the same
  pub req-left-out : (commands : List (ReqCommand A)) → AreRefused (req_kind cmp spelling) word commands refused → IsLeftOutReq commands (accepted_of refused commands)
  req-left-out commands are = left-by (req_kind cmp spelling) word commands refused are IsLeftOutReq more same [] commands refl
      (record { left = record { plan = refl; streams = refl; drawn = refl; trace = λ z. refl }; tails = refl; trace = none })
    where
      more : (done fewer : List (ReqCommand A)) (c : ReqCommand A) → IsLeftOutReq done fewer → IsLeftOutReq (done ++ c ∷ []) (fewer ++ c ∷ [])
      more done fewer c h =
          let events = events_of req_rules (plan_of req_rules done) c in
          record {
            left = left-more req_rules done fewer c h.left;
            tails = state-more req_rules (λ plan. accepted_tails plan.shapes) no_tails done fewer c h.left.plan h.tails;
            trace = sheds-more done fewer c _ _ (sym (trace-more req_rules fewer c)) h (subst (Sheds events) (ap (λ (p : Plan ReqShape). events_of req_rules p c) h.left.plan) (sheds-none events));
          }

      same : (done fewer : List (ReqCommand A)) (c : ReqCommand A) → IsRefusedExactly (req_kind cmp spelling) word refused done c (Contains refused (length done)) → Contains refused (length done) →
          IsLeftOutReq done fewer → IsLeftOutReq (done ++ c ∷ []) fewer
      same done fewer c exact there h =
          let P : Type 0 = Contains refused (length done) in
          record {
            left = left-refused (req_kind_lawful o spelling) word refused done fewer c P exact there h.left;
            tails = after-append req_rules (λ plan. accepted_tails plan.shapes) start_plan no_tails done c
                ∙ (state-left (req_kind cmp spelling) word refused done (λ plan. accepted_tails plan.shapes) (λ plan tails slot. refl) (tails_of done) c P exact there ∙ h.tails);
            trace = sheds-more done fewer c [] _ (append-nil (trace_of req_rules fewer)) h (sheds-left done c P exact there);
          }

-- The tail numbers of a REQ run: what the compactions of a slot's sketch leave, and so the exact tail.

module _ {A : Type 0} where
  -- what is done to one slot leaves the others unchanged
  leaves-elsewhere : (side : Taken → Bool) (m s i : ℕ) → (i == s) ≡ false → (actions : List (Action A)) (world : World (List ℕ)) (leaves : ℕ → Bool) →
      leaves_at_least side m (events_at s actions) world leaves i ≡ leaves i
  leaves-elsewhere side m s i e [] world leaves = refl
  leaves-elsewhere side m s i e (Compact h coin taken ∷ rest) world leaves = grind (arith, common_steps, leaves-elsewhere side m s i e rest (lengths_after {A = A} (At s (Compact h coin taken)) world) (leaves_after {A = A} side m (At s (Compact h coin taken)) world leaves))
  leaves-elsewhere side m s i e (Clear ∷ rest) world leaves =
      leaves-elsewhere side m s i e rest (lengths_after {A = A} (At s Clear) world) (changed leaves s true) ∙ ap (λ (b : Bool). if b then true else leaves i) e
  leaves-elsewhere side m s i e (action ∷ rest) world leaves = leaves-elsewhere side m s i e rest (lengths_after (At s action) world) leaves

-- redrawing coins compacts nothing
leaves-redraws : (A : Type 0) (side : Taken → Bool) (m s h : ℕ) (drawn : List Layout) (world : World (List ℕ)) (leaves : ℕ → Bool) (i : ℕ) →
    leaves_at_least {A = A} side m (events_at s (redraws_from h drawn)) world leaves i ≡ leaves i
leaves-redraws A side m s h [] world leaves i = refl
leaves-redraws A side m s h (layout ∷ above) world leaves i = grind (arith, common_steps, leaves-redraws A side m s (suc h) above (lengths_after {A = A} (At s (Redraw h)) world) leaves i, leaves-redraws A side m s (suc h) above world leaves i)

-- tail numbers are at most k
abbrev Tails : Option ReqShape → ℕ → Type 0
Tails shape tail = tail ≤ (shape_in shape).k

abbrev AreTails : (ℕ → Option ReqShape) → (ℕ → ℕ) → Type 0
AreTails shapes tails = (i : ℕ) → Tails (shapes i) (tails i)

-- the tail numbers after one command, refused or not
abbrev tails_after : {A : Type 0} → Plan ReqShape → (ℕ → ℕ) → ReqCommand A → ℕ → ℕ
tails_after = after_command req_rules (λ plan. accepted_tails plan.shapes)

-- and after several
abbrev tails_from : {A : Type 0} → Plan ReqShape → (ℕ → ℕ) → List (ReqCommand A) → ℕ → ℕ
tails_from = after_commands req_rules (λ plan. accepted_tails plan.shapes)

-- if a slot has this accuracy, and at least this tail number, its compactions left enough
abbrev Keeps : RankAccuracy → ℕ → (ℕ → Option ReqShape) → (ℕ → ℕ) → (ℕ → Bool) → Type 0
Keeps a t shapes tails leaves = (i : ℕ) → (shape_in (shapes i)).accuracy ≡ a → t ≤ tails i → leaves i ≡ true

-- one slot changes, and what the compactions of the others left stays the same
keeps-slot : (a : RankAccuracy) (t : ℕ) (shapes : ℕ → Option ReqShape) (tails : ℕ → ℕ) (leaves leaves' : ℕ → Bool) (slot : ℕ) (s : ReqShape) (v : ℕ) →
    Keeps a t shapes tails leaves → ((i : ℕ) → (i == slot) ≡ false → leaves' i ≡ leaves i) → (s.accuracy ≡ a → t ≤ v → leaves' slot ≡ true) →
    Keeps a t (changed shapes slot (Some s)) (changed tails slot v) leaves'
keeps-slot a t shapes tails leaves leaves' slot s v keep others here = grind (arith, common_steps, at_slot, changed-there, changed-away)

module _ {A : Type 0} where
  accepted-tails : (shapes : ℕ → Option ReqShape) (tails : ℕ → ℕ) → AreTails shapes tails → (command : ReqCommand A) →
      AreTails (accepted_req_shapes shapes command) (accepted_tails shapes tails command)
  accepted-tails shapes tails h (New slot config) = changed-both Tails shapes tails slot _ config.0 h (omega arith)
  accepted-tails shapes tails h (Update slot x) = λ i. subst (λ (v : ℕ). v ≤ (shape_in (accepted_req_shapes {A = A} shapes (Update slot x) i)).k) (changed-own tails slot i)
      (changed-both Tails shapes tails slot _ (tails slot) h (h slot) i)
  accepted-tails shapes tails h (Merge into source) = grind (arith, common_steps, changed-both)
  accepted-tails shapes tails h (Reset slot) = changed-both Tails shapes tails slot _ _ h (omega arith)
  accepted-tails shapes tails h (MergeRedrawn into source) = grind (arith, common_steps, changed-both)
  accepted-tails shapes tails h command = h

  tails-kept : (plan : Plan ReqShape) (tails : ℕ → ℕ) → AreTails plan.shapes tails → (command : ReqCommand A) → AreTails (plan_after req_rules plan command).shapes (tails_after plan tails command)
  tails-kept plan tails h command =
      either-way plan command (λ (refused : Bool) (shapes : ℕ → Option ReqShape) (events : List (Event A)). AreTails shapes (if refused then tails else accepted_tails plan.shapes tails command))
      h (λ e. accepted-tails plan.shapes tails h command)

module _ {A : Type 0} (a : RankAccuracy) (t : ℕ) where
  -- the compactions of an update leave enough in its slot
  update-leaves-slot : (shapes : ℕ → Option ReqShape) (tails : ℕ → ℕ) (world : World (List ℕ)) (leaves : ℕ → Bool) → AreFit shapes world → AreTails shapes tails →
      Keeps a t shapes tails leaves → (slot : ℕ) (x : A) → (shape_in (shapes slot)).accuracy ≡ a → t ≤ tails slot →
      leaves_at_least (tail_side a) (3 * t) (accepted_req_events {A = A} shapes (Update slot x)) world leaves slot ≡ true
  update-leaves-slot shapes tails world leaves fit le keep slot x p q =
      let s = shape_in (shapes slot) in
      let same = update_leaves A s.k t s.accuracy slot s.layouts x world leaves (fit slot).legal (fit slot).are (fit slot).lengths_are (omega (arith, q, le slot)) in
      ap (λ (c : RankAccuracy). leaves_at_least (tail_side c) (3 * t) (events_at slot (update_actions s.k s.accuracy s.layouts x)) world leaves slot) (sym p)
      ∙ (ap (λ (f : ℕ → Bool). f slot) same ∙ keep slot p q)

module _ (A : Type 0) (redraws : Bool) (a : RankAccuracy) (t : ℕ) where
  -- those of a merge leave enough in its target, and don't concern the other slots
  merge-leaves-slot : (shapes : ℕ → Option ReqShape) (tails : ℕ → ℕ) (world : World (List ℕ)) (leaves : ℕ → Bool) → AreFit shapes world → AreTails shapes tails →
      Keeps a t shapes tails leaves → (into source : ℕ) → (shape_in (shapes into)).accuracy ≡ (shape_in (shapes source)).accuracy → (shape_in (shapes into)).accuracy ≡ a →
      t ≤ min (tails into) (tails source) →
      leaves_at_least {A = A} (tail_side a) (3 * t) (events_merged redraws (shape_in (shapes into)) (shape_in (shapes source)) into source) world leaves into ≡ true
  merge-leaves-slot shapes tails world leaves fit le keep into source r p q = grind (arith, common_steps, merge_leaves, events_merged, changed-there, and_from)

  merge-leaves-others : (side : Taken → Bool) (m : ℕ) (s other : ReqShape) (into source : ℕ) (world : World (List ℕ)) (leaves : ℕ → Bool) (i : ℕ) → (i == into) ≡ false →
      leaves_at_least {A = A} side m (events_merged redraws s other into source) world leaves i ≡ leaves i
  merge-leaves-others side m s other into source world leaves i e = grind (arith, common_steps, leaves-elsewhere)

  merge-keeps : (shapes : ℕ → Option ReqShape) (tails : ℕ → ℕ) (world : World (List ℕ)) (leaves : ℕ → Bool) → AreFit shapes world → AreTails shapes tails →
      Keeps a t shapes tails leaves → (into source : ℕ) → refuses_merge A redraws shapes into source ≡ false →
      Keeps a t (req_merge_shapes shapes into source) (merged_tails shapes tails into source) (leaves_at_least {A = A} (tail_side a) (3 * t) (req_merge_events redraws shapes into source) world leaves)
  merge-keeps shapes tails world leaves fit le keep into source e =
      let s = shape_in (shapes into) in
      let other = shape_in (shapes source) in
      elim (other.n == 0) as (λ b. Keeps a t (changed shapes into (Some
      (record { k = s.k; accuracy = s.accuracy; n = s.n + other.n; layouts = if b then s.layouts else merge_layouts s.k s.layouts other.layouts })))
      (changed tails into (if b then tails into else min (tails into) (tails source)))
      (leaves_at_least {A = A} (tail_side a) (3 * t) (if b then [] else events_merged redraws s other into source) world leaves)) [
        | true ↦ keeps-slot a t shapes tails leaves leaves into _ (tails into) keep (λ j f. refl) (keep into)
        | false ↦
            keeps-slot a t shapes tails leaves _ into _ (min (tails into) (tails source)) keep (merge-leaves-others (tail_side a) (3 * t) s other into source world leaves)
            (merge-leaves-slot shapes tails world leaves fit le keep into source (merge-same A redraws shapes into source e))
      ]

module _ {A : Type 0} (a : RankAccuracy) (t : ℕ) where
  abbrev leaves_by : ReqCommand A → (ℕ → Option ReqShape) → World (List ℕ) → (ℕ → Bool) → ℕ → Bool
  leaves_by command shapes world leaves = leaves_at_least (tail_side a) (3 * t) (accepted_req_events shapes command) world leaves

  accepted-keeps : (shapes : ℕ → Option ReqShape) (tails : ℕ → ℕ) (world : World (List ℕ)) (leaves : ℕ → Bool) → AreFit shapes world → AreTails shapes tails →
      Keeps a t shapes tails leaves → (command : ReqCommand A) → is_refused req_rules shapes command ≡ false →
      Keeps a t (accepted_req_shapes shapes command) (accepted_tails shapes tails command) (leaves_by command shapes world leaves)
  accepted-keeps shapes tails world leaves fit le keep (New slot config) e =
      keeps-slot a t shapes tails leaves (changed leaves slot true) slot _ config.0 keep (changed-away leaves slot true) (λ p q. changed-there leaves slot true)
  accepted-keeps shapes tails world leaves fit le keep (Update slot x) e = λ i p q.
      keeps-slot a t shapes tails leaves (leaves_by (Update slot x) shapes world leaves) slot _ (tails slot) keep
      (λ j f. leaves-elsewhere (tail_side a) (3 * t) slot j f (update_actions (shape_in (shapes slot)).k (shape_in (shapes slot)).accuracy (shape_in (shapes slot)).layouts x) world leaves)
      (update-leaves-slot a t shapes tails world leaves fit le keep slot x) i p (omega (arith, q, changed-own tails slot i))
  accepted-keeps shapes tails world leaves fit le keep (Merge into source) e = merge-keeps A false a t shapes tails world leaves fit le keep into source e
  accepted-keeps shapes tails world leaves fit le keep (Reset slot) e = grind (arith, common_steps, keeps-slot, changed-away, changed-there)
  accepted-keeps shapes tails world leaves fit le keep (Redraw slot) e = grind (arith, common_steps, leaves-redraws)
  accepted-keeps shapes tails world leaves fit le keep (MergeRedrawn into source) e = merge-keeps A true a t shapes tails world leaves fit le keep into source e
  accepted-keeps shapes tails world leaves fit le keep command e = keep

  keeps-after : (plan : Plan ReqShape) (tails : ℕ → ℕ) (leaves : ℕ → Bool) → AreFit plan.shapes plan.lengths → AreTails plan.shapes tails → Keeps a t plan.shapes tails leaves →
      (command : ReqCommand A) →
      Keeps a t (plan_after req_rules plan command).shapes (tails_after plan tails command) (leaves_at_least (tail_side a) (3 * t) (events_of req_rules plan command) plan.lengths leaves)
  keeps-after plan tails leaves fit le keep command = either-way plan command (λ (refused : Bool) (shapes : ℕ → Option ReqShape) (events : List (Event A)).
      Keeps a t shapes (if refused then tails else accepted_tails plan.shapes tails command) (leaves_at_least (tail_side a) (3 * t) events plan.lengths leaves))
      keep (accepted-keeps plan.shapes tails plan.lengths leaves fit le keep command)

  keeps-from : (plan : Plan ReqShape) (tails : ℕ → ℕ) (leaves : ℕ → Bool) → IsSet A plan → AreTails plan.shapes tails → Keeps a t plan.shapes tails leaves → (commands : List (ReqCommand A)) →
      Keeps a t (plan_from req_rules plan commands).shapes (tails_from plan tails commands) (leaves_at_least (tail_side a) (3 * t) (trace_from req_rules plan commands) plan.lengths leaves)
  keeps-from plan tails leaves set le keep [] = keep
  keeps-from plan tails leaves set le keep (command ∷ rest) =
      let events : List (Event A) = events_of req_rules plan command in
      let next : Plan ReqShape = plan_after req_rules plan command in
      let tails' = tails_after plan tails command in
      subst (Keeps a t (plan_from req_rules next rest).shapes (tails_from next tails' rest)) (sym (leaves-append (tail_side a) (3 * t) events (trace_from req_rules next rest) plan.lengths leaves))
      (keeps-from next tails' (leaves_at_least (tail_side a) (3 * t) events plan.lengths leaves) (set-after A plan set command) (tails-kept plan tails le command)
      (keeps-after plan tails leaves (set-fits A plan set) le keep command) rest)

module _ {A : Type 0} where
  -- the compactions of a run leave three times the tail number
  pub run-leaves : (commands : List (ReqCommand A)) (slot : ℕ) →
      leaves_at_least (tail_side (shape_in ((plan_of req_rules commands).shapes slot)).accuracy) (3 * tails_of commands slot) (trace_of req_rules commands) start_lengths (λ s. true) slot ≡ true
  run-leaves commands slot = grind (arith, common_steps, keeps-from, set-start)

  tails-along : (plan : Plan ReqShape) (tails : ℕ → ℕ) → AreTails plan.shapes tails → (commands : List (ReqCommand A)) →
      AreTails (plan_from req_rules plan commands).shapes (tails_from plan tails commands)
  tails-along plan tails le [] = le
  tails-along plan tails le (command ∷ rest) = tails-along (plan_after req_rules plan command) (tails_after plan tails command) (tails-kept plan tails le command) rest

  -- the tail number of a slot is at most its sketch's k
  pub run-tails : (commands : List (ReqCommand A)) (slot : ℕ) → tails_of commands slot ≤ (shape_in ((plan_of req_rules commands).shapes slot)).k
  run-tails commands = tails-along start_plan no_tails (λ i. omega arith) commands

-- so the tail is exact
pub run-exact : {A : Type 0} {cmp : A → A → Ordering} → IsTotalOrder cmp → (y : A) (criteria : SearchCriteria) (commands : List (ReqCommand A)) (word : List Bool) (slot : ℕ) →
    off_protected_end cmp (shape_in ((plan_of req_rules commands).shapes slot)).accuracy y criteria (stream_of req_rules commands slot) ≤ 3 * tails_of commands slot →
    weighted_rank cmp (counted cmp y criteria) ((play cmp (trace_of req_rules commands) word start).slots slot) ≡ true_rank cmp y criteria (stream_of req_rules commands slot)
run-exact {A} {cmp} order y criteria commands word slot few =
    go (shape_in ((plan_of req_rules commands).shapes slot)).accuracy (run-leaves commands slot) few ∙ ranks (counted cmp y criteria)
  where
    trace : List (Event A)
    trace = trace_of req_rules commands

    tail : ℕ
    tail = 3 * tails_of commands slot

    ranks : (test : A → Bool) → rank_of_trace test trace slot ≡ count_by test (stream_of req_rules commands slot)
    ranks test = run-ranks (req_lawful {A = A}) test commands slot

    obeys : ObeysScratch trace start_lengths
    obeys = (run-legal (req_lawful {A = A}) commands).scratch

    evens : Along TakesEven trace start_lengths
    evens = along-even (req_lawful {A = A}) trace start_lengths (run-legal (req_lawful {A = A}) commands).meets

    go : (a : RankAccuracy) → leaves_at_least (tail_side a) tail trace start_lengths (λ s. true) slot ≡ true → off_protected_end cmp a y criteria (stream_of req_rules commands slot) ≤ tail →
        weighted_rank cmp (counted cmp y criteria) ((play cmp trace word start).slots slot) ≡ rank_of_trace (counted cmp y criteria) trace slot
    go HighRank l f = high_tail order y criteria trace word slot tail obeys evens l (omega (arith, f, ranks (λ x. not (counted cmp y criteria x))))
    go LowRank l f = low_tail order y criteria trace word slot tail obeys evens l (omega (arith, f, ranks (counted cmp y criteria)))

-- The sketches of a run summarize their slots' streams, with the tail numbers as tails.

module _ {A : Type 0} {cmp : A → A → Ordering} (o : IsTotalOrder cmp) where
  -- a sketch of the planned shape that is alike to its slot's bag in the play of the commands counts the accurate side exactly up to the tail
  alike-counts : (commands : List (ReqCommand A)) (word : List Bool) (slot : ℕ) (s : Req A) → (plan_of req_rules commands).shapes slot ≡ Some (req_shape s) →
      AlikeReq cmp ((play cmp (trace_of req_rules commands) word start).slots slot) (bag_of s.levels) → (y : A) (criteria : SearchCriteria) →
      IsExactUpTo (3 * tails_of commands slot) (off_protected_end cmp s.accuracy y criteria (stream_of req_rules commands slot))
      (off_protected_end cmp s.accuracy y criteria (expanded cmp (bag_of s.levels)))
  alike-counts commands word slot s shape alike y criteria =
      let test : A → Bool = is_protected cmp s.accuracy y criteria in
      let bag : Bag A = (play cmp (trace_of req_rules commands) word start).slots slot in
      let legal = run-legal (req_lawful {A = A}) commands in
      let exact = exact-trace cmp test (3 * tails_of commands slot) (tail_side s.accuracy) (spares-tail o s.accuracy y criteria) (trace_of req_rules commands) word slot legal.scratch
      (along-even (req_lawful {A = A}) (trace_of req_rules commands) start_lengths legal.meets) (rw (ap (λ (p : Option ReqShape). (shape_in p).accuracy) shape) at (run-leaves commands slot)) in
      exact-as (3 * tails_of commands slot) _ _ _ _ (run-ranks (req_lawful {A = A}) test commands slot ∙ sym (off-is cmp s.accuracy y criteria (stream_of req_rules commands slot)))
      (sym (off-rank cmp s.accuracy y criteria bag) ∙ off-alike o s.accuracy y criteria bag (bag_of s.levels) alike.levels) exact

  module _ (spelling : A → Option (List ℕ)) (commands : List (ReqCommand A)) (slots : SlotMap (Req A)) (word : List Bool) (refused : List ℕ) where
    pub run-summaries : AreRefused (req_kind cmp spelling) word commands refused → ArePlanned (req_look cmp) commands slots →
        ArePlayed (req_look cmp) (accepted_of refused commands) word slots → WeighStreams (req_look cmp) commands slots →
        HaveExtremes (req_look cmp) commands slots → AreSummaries cmp commands slots
    run-summaries are planned played weighs extremes slot s held =
        let shape : (plan_of req_rules commands).shapes slot ≡ Some (req_shape s) = sym (planned slot) ∙ ap (option_map req_shape) held in
        let fewer = accepted_of refused commands in
        let out = req-left-out o spelling word refused commands are in
        let own : (plan_of req_rules fewer).shapes slot ≡ Some (req_shape s) = sym (ap (λ p. p.shapes slot) out.left.plan) ∙ shape in
        let streams : stream_of req_rules commands slot ≡ stream_of req_rules fewer slot = ap (λ (f : ℕ → List A). f slot) out.left.streams in
        record {
          tail_fits = subst (λ (p : Option ReqShape). tails_of commands slot ≤ (shape_in p).k) shape (run-tails commands slot);
          length_is = (weighs slot s held).0;
          least = (extremes slot s held).0;
          greatest = (extremes slot s held).1;
          exact = λ y criteria. rw (streams, ap (λ (f : ℕ → ℕ). f slot) out.tails) (alike-counts fewer word slot s own (played slot s held) y criteria);
        }

  -- so each sketch is exact on its tail
  pub summaries-tails : (spelling : A → Option (List ℕ)) (commands : List (ReqCommand A)) (slots : SlotMap (Req A)) → AreSound (req_kind cmp spelling) slots →
      AreSummaries cmp commands slots → TailsAreExact cmp commands slots
  summaries-tails spelling commands slots sound is slot s held y criteria =
      tail-ranks cmp s (stream_of req_rules commands slot) (tails_of commands slot) y criteria (sound slot s held) (is slot s held)
