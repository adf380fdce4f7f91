-- The trace of any list of commands is legal, and its level lengths are the plan's. A plan is made command by command, and each command's
-- events obey the scratch rule.
use Rattle.std.specs.Prelude.{ℕ, Bool, ◌==◌, if◌then◌else◌, List, fold, Option}
use Rattle.std.specs.List.{list_any}
use Rattle.sketch_base.specs.Trace.{changed, Action, Put, Redraw, Clear, Event, Snap, At, World, play, start, coins, event_draws, events_at}
use Rattle.quantile_sketches.specs.declared.commands.Command.{Command}
use Rattle.quantile_sketches.specs.Plan.{Plan, slot_of, shape_after, is_refused, plan_after, after_commands, start_plan, actions_on, count_of, shape_merged, merge_events, accepted_events, events_of, trace_from, trace_of, plan_of}
use Rattle.quantile_sketches.specs.Rules.{Rules}
use Rattle.quantile_sketches.specs.Run.{accepted_streams}
use Rattle.std.proofs.Common.{rules, ◌≡◌, ◌+◌, ◌<◌, true, false, not, [], ◌∷◌, ◌++◌, sum, None, Some, is_some, refl, sym, ap, ◌∙◌, subst, arith, eqb-true, append_assoc, append-nil, cond, ◌≤◌, Ordering}
use Rattle.std.proofs.lemmas.Grind.{common_steps}
use Rattle.std.proofs.lemmas.Bool.{cases_Bool, eqb-false, false≢true}
use Rattle.std.proofs.lemmas.List.Sums.{sum_by-append}
use Rattle.std.specs.Option.{option_and_then, option_map}
use Rattle.sketch_base.specs.Lengths.{lengths_after, start_lengths, world_lengths, Along, TakesEven}
use Rattle.sketch_base.specs.Ranks.{true_ranks}
use Rattle.sketch_base.proofs.bags.Acts.{changed-there, changed-own, lengths_by-append, obeys, trace-settles}
use Rattle.sketch_base.proofs.plays.Plays.{lengths-play}
use Rattle.quantile_sketches.specs.declared.commands.Command.TheVariants.{New, Update, UpdateWeighted, Merge, Reset, RoundTrip, Redraw, MergeRedrawn}
use Rattle.quantile_sketches.specs.RuleLaws.{lengths_by, IsLegalBy, DoWell, AreLawful}

-- Words for what commands do step by step, from any plan on.

-- whether a number is in a list
abbrev pub is_among : ℕ → List ℕ → Bool
is_among number numbers = list_any (λ n. number == n) numbers

module _ {A C Shape : Type 0} (rules : Rules A C Shape) where
  -- the shapes in all slots after an accepted command
  abbrev pub accepted_shapes : (ℕ → Option Shape) → Command A C → ℕ → Option Shape
  accepted_shapes shapes command = changed shapes (slot_of command) (shape_after rules shapes command)

  -- the plan after commands
  abbrev pub plan_from : Plan Shape → List (Command A C) → Plan Shape
  plan_from = fold (plan_after rules)

  -- what a command does to something that accepted ones change
  abbrev pub after_command : {T : Type 0} → (accepted : Plan Shape → T → Command A C → T) → Plan Shape → T → Command A C → T
  after_command accepted plan state command = if is_refused rules plan.shapes command then state else accepted plan state command

  -- the streams after commands
  abbrev pub streams_from : Plan Shape → (ℕ → List A) → List (Command A C) → ℕ → List A
  streams_from = after_commands rules (λ plan. accepted_streams)

-- The trace of any list of commands is legal, and its level lengths are the plan's.

-- how many items of each slot's stream pass a test after an accepted command, given the counts before it
abbrev pub counts_after : {A C : Type 0} → (A → Bool) → Command A C → (ℕ → ℕ) → ℕ → ℕ
counts_after test (New slot config) counts = changed counts slot 0
counts_after test (Update slot x) counts = changed counts slot (counts slot + (if test x then 1 else 0))
counts_after test (UpdateWeighted slot x weight) counts = changed counts slot (counts slot + (if test x then weight else 0))
counts_after test (Merge into source) counts = changed counts into (counts into + counts source)
counts_after test (Reset slot) counts = changed counts slot 0
counts_after test (RoundTrip slot) counts = counts
counts_after test (Redraw slot) counts = counts
counts_after test (MergeRedrawn into source) counts = changed counts into (counts into + counts source)

-- ---- slots and options

-- what holds of two functions at an index still holds there after both are changed at one index
pub changed-at : {B C : Type 0} (R : B → C → Type 0) (f : ℕ → B) (g : ℕ → C) (s : ℕ) (u : B) (v : C) (j : ℕ) → R (f j) (g j) → R u v → R (changed f s u j) (changed g s v j)
changed-at R f g s u v j h r = grind (arith, common_steps)

-- and at every index
pub changed-both : {B C : Type 0} (R : B → C → Type 0) (f : ℕ → B) (g : ℕ → C) (s : ℕ) (u : B) (v : C) → ((j : ℕ) → R (f j) (g j)) → R u v → (j : ℕ) → R (changed f s u j) (changed g s v j)
changed-both R f g s u v h r j = changed-at R f g s u v j (h j) r

-- at any other index the function is unchanged
pub changed-away : {B : Type 0} (f : ℕ → B) (s : ℕ) (value : B) (j : ℕ) → (j == s) ≡ false → changed f s value j ≡ f j
changed-away f s value j e = ap (λ (b : Bool). if b then value else f j) e

-- what holds at a slot and at all others holds at every slot
pub at_slot : (s : ℕ) (Q : ℕ → Type 0) → Q s → ((j : ℕ) → (j == s) ≡ false → Q j) → (j : ℕ) → Q j
at_slot s Q here there j = grind (arith, common_steps, cases_Bool, eqb-true)

-- options that are equal hold equal values
pub some-one : {X : Type 0} (x y : X) → Some x ≡ Some y → x ≡ y
some-one x y e = cc

-- None isn't Some
pub not-none : {X : Type 0} (x : X) → None ≡ Some x → ⊥
not-none x e = cc

-- an option that is not None has a value
pub some-there : {X : Type 0} (o : Option X) → not (is_some o) ≡ false → (x : X) × (o ≡ Some x)
some-there o e = grind (arith, common_steps, false≢true)

-- what `option_and_then` gave came from a value
pub then-there : {X Y : Type 0} (f : X → Option Y) (o : Option X) (y : Y) → option_and_then f o ≡ Some y → (x : X) × (o ≡ Some x) × (f x ≡ Some y)
then-there f o y e = grind (arith, common_steps, not-none)

-- what a mapped option holds came from a value
pub map-there : {X Y : Type 0} (f : X → Y) (o : Option X) (y : Y) → option_map f o ≡ Some y → (x : X) × (o ≡ Some x) × (f x ≡ y)
map-there f o y e = grind (arith, common_steps, not-none, some-one)

-- what a refused command leaves true, and an accepted one makes true, is true after any command
pub refused-or-taken : {A C Shape : Type 0} (rules : Rules A C Shape) (plan : Plan Shape) (command : Command A C)
    (P : Bool → (ℕ → Option Shape) → List (Event A) → Type 0) → P true plan.shapes [] →
    (is_refused rules plan.shapes command ≡ false → P false (accepted_shapes rules plan.shapes command) (accepted_events rules plan command)) →
    P (is_refused rules plan.shapes command) (plan_after rules plan command).shapes (events_of rules plan command)
refused-or-taken rules plan command P left taken = grind (arith, common_steps, accepted_shapes)

-- what holds of the events of a merge: of an empty sketch, and of one that holds items
pub merge-either : {A C Shape : Type 0} (rules : Rules A C Shape) (redraws : Bool) (plan : Plan Shape) (into source : ℕ) (t : Shape) → shape_merged rules redraws plan.shapes into source ≡ Some t →
    (P : Bool → List (Event A) → Type 0) →
    ((s other : Shape) → plan.shapes into ≡ Some s → plan.shapes source ≡ Some other → rules.merged redraws s other ≡ Some t → rules.count other ≡ 0 → P true []) →
    ((s other : Shape) → plan.shapes into ≡ Some s → plan.shapes source ≡ Some other → rules.merged redraws s other ≡ Some t → 0 < rules.count other →
    P false (Snap source into ∷ events_at into (rules.merge_actions redraws s other (record { bag = plan.lengths.slots into; scratch = plan.lengths.slots source })))) →
    P (count_of rules (plan.shapes source) == 0) (merge_events rules redraws plan into source)
merge-either {A} {Shape = Shape} rules redraws plan into source t e P empty full = grind (arith, common_steps, then-there, cases_Bool, eqb-true, eqb-false)

module _ {A : Type 0} where
  -- what is done to one slot leaves the others unchanged
  pub lengths-elsewhere : (s j : ℕ) → (j == s) ≡ false → (actions : List (Action A)) (world : World (List ℕ)) → (lengths_by world (events_at s actions)).slots j ≡ world.slots j
  lengths-elsewhere s j e [] world = refl
  lengths-elsewhere s j e (action ∷ rest) world = lengths-elsewhere s j e rest (lengths_after (At s action) world) ∙ changed-away world.slots s _ j e

  ranks-elsewhere : (test : A → Bool) (s j : ℕ) → (j == s) ≡ false → (actions : List (Action A)) (ranks : ℕ → ℕ) → true_ranks test (events_at s actions) ranks j ≡ ranks j
  ranks-elsewhere test s j e [] ranks = refl
  ranks-elsewhere test s j e (Put h x ∷ rest) ranks = ranks-elsewhere test s j e rest _ ∙ changed-away ranks s _ j e
  ranks-elsewhere test s j e (Clear ∷ rest) ranks = ranks-elsewhere test s j e rest _ ∙ changed-away ranks s _ j e
  ranks-elsewhere test s j e (action ∷ rest) ranks = ranks-elsewhere test s j e rest ranks

-- a slot that holds no sketch is one empty level
abbrev pub AreBare : {Shape : Type 0} → Plan Shape → Type 0
AreBare plan = (q : ℕ) → plan.shapes q ≡ None → plan.lengths.slots q ≡ 0 ∷ []

module _ {A C Shape : Type 0} {rules : Rules A C Shape} {Meets : Event A → World (List ℕ) → Type 0} {Fits : Shape → List ℕ → Type 0} (laws : AreLawful rules Meets Fits) where
  -- ---- steady plans

  -- nothing is in the scratch, and each sketch's lengths fit its shape
  pub record IsSteady (plan : Plan Shape) : Type 0 where
    pub settled : sum plan.lengths.scratch ≡ 0
    pub fits : (q : ℕ) (s : Shape) → plan.shapes q ≡ Some s → Fits s (plan.lengths.slots q)

  -- the first plan is steady
  pub steady-start : IsSteady start_plan
  steady-start = record { settled = refl; fits = λ q s e. absurd (not-none s e) }

  -- events that change a slot go well: they give its sketch this shape, and change the true ranks as `counts` says
  pub record GoesWell (plan : Plan Shape) (slot : ℕ) (counts : (A → Bool) → (ℕ → ℕ) → ℕ → ℕ) (shape : Shape) (events : List (Event A)) : Type 0 where
    pub legal : IsLegalBy Meets Fits events plan.lengths
    pub fits : Fits shape ((lengths_by plan.lengths events).slots slot)
    pub elsewhere : (j : ℕ) → (j == slot) ≡ false → (lengths_by plan.lengths events).slots j ≡ plan.lengths.slots j
    pub ranks : (test : A → Bool) (ranks : ℕ → ℕ) → ((q : ℕ) → count_of rules (plan.shapes q) ≡ 0 → ranks q ≡ 0) → (j : ℕ) → true_ranks test events ranks j ≡ counts test ranks j

  -- so do the events of an accepted command
  abbrev CommandGoesWell : Plan Shape → Command A C → Shape → List (Event A) → Type 0
  CommandGoesWell plan command = GoesWell plan (slot_of command) (λ test ranks. counts_after test command ranks)

  none-legal : (world : World (List ℕ)) → sum world.scratch ≡ 0 → IsLegalBy Meets Fits [] world
  none-legal world z = record { scratch = z; meets = tt }

  -- actions on a slot that add to its true ranks
  acted : (plan : Plan Shape) (command : Command A C) (shape : Shape) (actions : List (Action A)) (adds : (A → Bool) → ℕ) → DoWell Meets Fits (slot_of command) actions plan.lengths shape adds →
      ((test : A → Bool) (ranks : ℕ → ℕ) (j : ℕ) → changed ranks (slot_of command) (ranks (slot_of command) + adds test) j ≡ counts_after test command ranks j) →
      CommandGoesWell plan command shape (events_at (slot_of command) actions)
  acted plan command shape actions adds well counts = grind (arith, common_steps, lengths-elsewhere, at_slot, changed-there, ranks-elsewhere, changed-away)

  cleared : (plan : Plan Shape) → IsSteady plan → (command : Command A C) (shape : Shape) → Fits shape (0 ∷ []) →
      ((test : A → Bool) (ranks : ℕ → ℕ) (j : ℕ) → changed ranks (slot_of command) 0 j ≡ counts_after test command ranks j) → CommandGoesWell plan command shape (At (slot_of command) Clear ∷ [])
  cleared plan st command shape f counts = grind (arith, common_steps, changed-there, changed-away)

  own_ranks : (ranks : ℕ → ℕ) (slot n j : ℕ) → n ≡ ranks slot → changed ranks slot n j ≡ ranks j
  own_ranks ranks slot n j e = ap (λ (m : ℕ). changed ranks slot m j) e ∙ changed-own ranks slot j

  merged-well : (redraws : Bool) (plan : Plan Shape) → IsSteady plan → (into source : ℕ) (t : Shape) → shape_merged rules redraws plan.shapes into source ≡ Some t →
      GoesWell plan into (λ test ranks. changed ranks into (ranks into + ranks source)) t (merge_events rules redraws plan into source)
  merged-well redraws plan st into source t e = merge-either rules redraws plan into source t e (λ b. GoesWell plan into (λ test ranks. changed ranks into (ranks into + ranks source)) t)
      (λ s other held held_other m none. record {
        legal = none-legal plan.lengths st.settled;
        fits = laws.merge_none redraws s other t m none (plan.lengths.slots into) (st.fits into s held);
        elsewhere = λ j f. refl;
        ranks = λ test ranks nothing j. sym (own_ranks ranks into (ranks into + ranks source) j (omega (arith, nothing source (ap (count_of rules) held_other ∙ none))));
      }) (λ s other held held_other m some.
      let actions : List (Action A) = rules.merge_actions redraws s other (record { bag = plan.lengths.slots into; scratch = plan.lengths.slots source }) in
      let well = laws.merge_well redraws s other t m into source plan.lengths (st.fits into s held) (st.fits source other held_other) st.settled some in
      record {
        legal = record { scratch = (obeys (sum plan.lengths.scratch) _ st.settled, well.legal.scratch); meets = (laws.snaps source into plan.lengths, well.legal.meets) };
        fits = well.fits;
        elsewhere = λ j f. lengths-elsewhere into j f actions (lengths_after {A = A} (Snap source into) plan.lengths);
        ranks = λ test ranks nothing j.
            let snapped : ℕ → ℕ = changed ranks into (ranks into + ranks source) in
            (grind (arith, common_steps, at_slot, changed-there, ranks-elsewhere, changed-away, well.ranks test snapped)) ∙ own_ranks snapped into (snapped into + 0) j (omega arith);
      })

  pub accepted-well : (plan : Plan Shape) → IsSteady plan → (command : Command A C) (t : Shape) → shape_after rules plan.shapes command ≡ Some t →
      CommandGoesWell plan command t (accepted_events rules plan command)
  accepted-well plan st (New slot config) t e = cleared plan st (New slot config) t (laws.made config t e).1 (λ test ranks j. refl)
  accepted-well plan st (Update slot x) t e =
      let (s, held, u) = then-there rules.updated (plan.shapes slot) t e in
      subst (λ (o : Option Shape). CommandGoesWell plan (Update slot x) t (events_at slot (actions_on o (λ shape. rules.update_actions shape (plan.lengths.slots slot) x)))) (sym held)
      (acted plan (Update slot x) t _ _ (laws.update_well s t u slot x plan.lengths (st.fits slot s held) st.settled) (λ test ranks j. refl))
  accepted-well plan st (UpdateWeighted slot x weight) t e =
      let (s, held, u) = then-there (λ shape. rules.updated_weighted shape weight) (plan.shapes slot) t e in
      subst (λ (o : Option Shape). CommandGoesWell plan (UpdateWeighted slot x weight) t
      (events_at slot (actions_on o (λ shape. rules.weighted_actions shape (plan.lengths.slots slot) x weight)))) (sym held)
      (acted plan (UpdateWeighted slot x weight) t _ _ (laws.weighted_well s t weight u slot x plan.lengths (st.fits slot s held) st.settled) (λ test ranks j. refl))
  accepted-well plan st (Merge into source) t e = merged-well false plan st into source t e
  accepted-well plan st (Reset slot) t e =
      let (s, held, u) = map-there rules.emptied (plan.shapes slot) t e in
      cleared plan st (Reset slot) t (subst (λ (shape : Shape). Fits shape (0 ∷ [])) u (laws.emptied_fits s (plan.lengths.slots slot) (st.fits slot s held))) (λ test ranks j. refl)
  accepted-well plan st (RoundTrip slot) t e = acted plan (RoundTrip slot) t rules.read_back_actions (λ test. 0) (laws.read_well t slot plan.lengths (st.fits slot t e) st.settled)
      (λ test ranks j. own_ranks ranks slot (ranks slot + 0) j (omega arith))
  accepted-well plan st (Redraw slot) t e =
      let (s, held, u) = then-there rules.redrawn (plan.shapes slot) t e in
      subst (λ (o : Option Shape). CommandGoesWell plan (Redraw slot) t (events_at slot (actions_on o rules.redraw_actions))) (sym held)
      (acted plan (Redraw slot) t (rules.redraw_actions s) (λ test. 0) (laws.redraw_well s t u slot plan.lengths (st.fits slot s held) st.settled)
      (λ test ranks j. own_ranks ranks slot (ranks slot + 0) j (omega arith)))
  accepted-well plan st (MergeRedrawn into source) t e = merged-well true plan st into source t e

  -- the events of a command are legal
  pub events-legal : (plan : Plan Shape) → IsSteady plan → (command : Command A C) → IsLegalBy Meets Fits (events_of rules plan command) plan.lengths
  events-legal plan st command = refused-or-taken rules plan command (λ (refused : Bool) (shapes : ℕ → Option Shape) (events : List (Event A)). IsLegalBy Meets Fits events plan.lengths)
      (none-legal plan.lengths st.settled) (λ e. let (t, f) = some-there (shape_after rules plan.shapes command) e in (accepted-well plan st command t f).legal)

  -- what holds of each slot, and of lengths that fit a shape, holds of each slot after a command
  each-after : (plan : Plan Shape) → IsSteady plan → (command : Command A C) (Q : Option Shape → List ℕ → Type 0) → ((t : Shape) (lengths : List ℕ) → Fits t lengths → Q (Some t) lengths) →
      ((q : ℕ) → Q (plan.shapes q) (plan.lengths.slots q)) → (q : ℕ) → Q ((plan_after rules plan command).shapes q) ((plan_after rules plan command).lengths.slots q)
  each-after plan st command Q fit all = refused-or-taken rules plan command
      (λ (refused : Bool) (shapes : ℕ → Option Shape) (events : List (Event A)). (q : ℕ) → Q (shapes q) ((lengths_by plan.lengths events).slots q)) all (λ e.
      let (t, made) = some-there (shape_after rules plan.shapes command) e in
      let well = accepted-well plan st command t made in
      let lengths = (lengths_by plan.lengths (accepted_events rules plan command)).slots in
      at_slot (slot_of command) (λ q. Q (accepted_shapes rules plan.shapes command q) (lengths q))
      (subst (λ (o : Option Shape). Q o (lengths (slot_of command))) (sym (changed-there plan.shapes (slot_of command) _ ∙ made)) (fit t _ well.fits)) (λ q other.
      subst (λ (o : Option Shape). Q o (lengths q)) (sym (changed-away plan.shapes (slot_of command) _ q other)) (subst (Q (plan.shapes q)) (sym (well.elsewhere q other)) (all q))))

  -- a plan stays steady after a command
  pub steady-after : (plan : Plan Shape) → IsSteady plan → (command : Command A C) → IsSteady (plan_after rules plan command)
  steady-after plan st command = record {
    settled = trace-settles (events_of rules plan command) plan.lengths (events-legal plan st command).scratch;
    fits = each-after plan st command (λ o lengths. (s : Shape) → o ≡ Some s → Fits s lengths) (λ t lengths f s e. subst (λ (s : Shape). Fits s lengths) (some-one t s e) f) st.fits;
  }

  -- a slot without a sketch is empty after a command
  pub bare-after : (plan : Plan Shape) → IsSteady plan → AreBare plan → (command : Command A C) → AreBare (plan_after rules plan command)
  bare-after plan st bare command = each-after plan st command (λ o lengths. o ≡ None → lengths ≡ 0 ∷ []) (λ t lengths f e. absurd (not-none t (sym e))) bare

  -- after any commands
  pub steady-from : (plan : Plan Shape) → IsSteady plan → (commands : List (Command A C)) → IsSteady (plan_from rules plan commands)
  steady-from plan st [] = st
  steady-from plan st (command ∷ rest) = steady-from (plan_after rules plan command) (steady-after plan st command) rest

  -- a legal trace after a legal one is legal
  legal-append : (xs ys : List (Event A)) (world : World (List ℕ)) → IsLegalBy Meets Fits xs world → IsLegalBy Meets Fits ys (lengths_by world xs) → IsLegalBy Meets Fits (xs ++ ys) world
  legal-append [] ys world f g = g
  legal-append (e ∷ xs) ys world f g = grind (arith, common_steps, legal-append xs ys (lengths_after e world) (record { scratch = f.scratch.1; meets = f.meets.1 }) g)

  trace-legal : (plan : Plan Shape) → IsSteady plan → (commands : List (Command A C)) → IsLegalBy Meets Fits (trace_from rules plan commands) plan.lengths
  trace-legal plan st [] = none-legal plan.lengths st.settled
  trace-legal plan st (command ∷ rest) = legal-append (events_of rules plan command) (trace_from rules (plan_after rules plan command) rest) plan.lengths (events-legal plan st command)
      (trace-legal (plan_after rules plan command) (steady-after plan st command) rest)

  -- ---- traces of runs

  -- so the trace of a run is legal
  pub run-legal : (commands : List (Command A C)) → IsLegalBy Meets Fits (trace_of rules commands) start_lengths
  run-legal commands = trace-legal start_plan steady-start commands

  -- each compaction takes an even number
  pub along-even : (trace : List (Event A)) (world : World (List ℕ)) → Along Meets trace world → Along TakesEven trace world
  along-even [] world f = tt
  along-even (e ∷ rest) world f = (laws.even e world f.0, along-even rest (lengths_after e world) f.1)

  pub lengths-trace : (plan : Plan Shape) (commands : List (Command A C)) → lengths_by plan.lengths (trace_from rules plan commands) ≡ (plan_from rules plan commands).lengths
  lengths-trace plan [] = refl
  lengths-trace plan (command ∷ rest) = grind (arith, common_steps, lengths_by-append, lengths-trace (plan_after rules plan command) rest)

  -- the lengths of the slots are the plan's
  pub run-lengths : (cmp : A → A → Ordering) (commands : List (Command A C)) (word : List Bool) → world_lengths (play cmp (trace_of rules commands) word start) ≡ (plan_of rules commands).lengths
  run-lengths cmp commands word = lengths-play cmp (trace_of rules commands) word start (along-even (trace_of rules commands) start_lengths (run-legal commands).meets)
      ∙ lengths-trace start_plan commands

module _ {A C Shape : Type 0} (rules : Rules A C Shape) where
  -- one more command
  pub plan-append : (plan : Plan Shape) (commands : List (Command A C)) (command : Command A C) →
      plan_from rules plan (commands ++ command ∷ []) ≡ plan_after rules (plan_from rules plan commands) command
  plan-append plan [] command = refl
  plan-append plan (c ∷ rest) command = plan-append (plan_after rules plan c) rest command

  pub after-append : {T : Type 0} (accepted : Plan Shape → T → Command A C → T) (plan : Plan Shape) (state : T) (commands : List (Command A C)) (command : Command A C) →
      after_commands rules accepted plan state (commands ++ command ∷ []) ≡ after_command rules accepted (plan_from rules plan commands) (after_commands rules accepted plan state commands) command
  after-append accepted plan state [] command = refl
  after-append accepted plan state (c ∷ rest) command = after-append accepted (plan_after rules plan c) (after_command rules accepted plan state c) rest command

  trace-append : (plan : Plan Shape) (xs : List (Command A C)) (ys : List (Command A C)) → trace_from rules plan (xs ++ ys) ≡ trace_from rules plan xs ++ trace_from rules (plan_from rules plan xs) ys
  trace-append plan [] ys = refl
  trace-append plan (c ∷ xs) ys = grind (arith, common_steps, append_assoc, plan_from, trace-append (plan_after rules plan c) xs ys)

  pub trace-more : (xs : List (Command A C)) (c : Command A C) → trace_of rules (xs ++ c ∷ []) ≡ trace_of rules xs ++ events_of rules (plan_of rules xs) c
  trace-more xs c = trace-append start_plan xs (c ∷ []) ∙ ap (λ l. trace_of rules xs ++ l) (append-nil (events_of rules (plan_of rules xs) c))

  coins-append : (xs ys : List (Event A)) → coins (xs ++ ys) ≡ coins xs + coins ys
  coins-append xs ys = sum_by-append (λ e. cond (event_draws e) 1 0) xs ys

  -- and the coins with it
  pub coins-more : (xs : List (Command A C)) (c : Command A C) → coins (trace_of rules (xs ++ c ∷ [])) ≡ coins (trace_of rules xs) + coins (events_of rules (plan_of rules xs) c)
  coins-more xs c = ap coins (trace-more xs c) ∙ coins-append (trace_of rules xs) (events_of rules (plan_of rules xs) c)

  -- the coins of the first commands are at most those of all
  pub coins-within : (xs ys : List (Command A C)) → coins (trace_of rules xs) ≤ coins (trace_of rules (xs ++ ys))
  coins-within xs ys = omega (arith, ap coins (trace-append start_plan xs ys), coins-append (trace_of rules xs) (trace_from rules (plan_of rules xs) ys))
