-- What commands do to level lengths, coins and shapes depends on no item: items stand in Puts alone. So all words give the same lengths.
use Rattle.std.proofs.Common.{arith, rules, ◌≡◌, ℕ, zero, suc, Bool, not, if◌then◌else◌, List, [], ◌∷◌, ◌++◌, map, Option, is_some, refl, ap, ◌∙◌, sym, Ordering}
use Rattle.std.proofs.lemmas.Grind.{common_steps}
use Rattle.std.proofs.lemmas.List.{map-append}
use Rattle.std.proofs.lemmas.List.Sums.{sum_by-cons}
use Rattle.sketch_base.specs.Lengths.{acts_on_lengths}
use Rattle.sketch_base.specs.Trace.{Action, Put, Pull, Join, Compact, Forget, Redraw, Clear, Event, Snap, At, Work, World, coins, event_draws, joins_actions, events_at}
use Rattle.quantile_sketches.specs.declared.commands.Command.{Command}
use Rattle.quantile_sketches.specs.declared.commands.Command.TheVariants.{Redraw}
use Rattle.quantile_sketches.specs.RuleLaws.{lengths_by, AreLawful}
use Rattle.quantile_sketches.specs.Plan.{Plan, start_plan, slot_of, actions_on, count_of, shape_after, is_refused, merge_events, accepted_events, events_of, plan_after, trace_from, plan_of, trace_of}
use Rattle.quantile_sketches.specs.Rules.{Rules}
use Rattle.quantile_sketches.specs.Run.{bare, LengthsHangOnNoItem}
use Rattle.quantile_sketches.proofs.plans.Legal.{plan_from, run-lengths}

-- What commands do to level lengths, coins and shapes depends on no item.

-- an action and an event without their item
abbrev pub bare_action : {A : Type 0} → Action A → Action Unit
bare_action (Put h x) = Put h tt
bare_action Pull = Pull
bare_action (Join h) = Join h
bare_action (Compact h coin taken) = Compact h coin taken
bare_action Forget = Forget
bare_action (Redraw h) = Redraw h
bare_action Clear = Clear

abbrev pub bare_event : {A : Type 0} → Event A → Event Unit
bare_event (At s action) = At s (bare_action action)
bare_event (Snap s t) = Snap s t

-- joins hold no item
pub bare-joins : (A : Type 0) (more level : ℕ) → map bare_action (joins_actions {A = A} more level) ≡ joins_actions more level
bare-joins A zero level = refl
bare-joins A (suc more) level = ap (λ (l : List (Action Unit)). Join level ∷ l) (bare-joins A more (suc level))

module _ {A : Type 0} where
  -- one list of actions after another
  pub bare-append : (xs ys : List (Action A)) {xs' ys' : List (Action Unit)} → map bare_action xs ≡ xs' → map bare_action ys ≡ ys' → map bare_action (xs ++ ys) ≡ xs' ++ ys'
  bare-append xs ys e f = cc (map-append bare_action xs ys)

  -- some actions if a test holds, and others if not
  pub bare-if : (b : Bool) (xs ys : List (Action A)) {xs' ys' : List (Action Unit)} → map bare_action xs ≡ xs' → map bare_action ys ≡ ys' →
      map bare_action (if b then xs else ys) ≡ (if b then xs' else ys')
  bare-if b xs ys e f = grind (arith, common_steps)

  events-unless : (b : Bool) (es : List (Event A)) {es' : List (Event Unit)} → map bare_event es ≡ es' → map bare_event (if b then [] else es) ≡ (if b then [] else es')
  events-unless b es e = grind (arith, common_steps)

  -- actions make the same lengths without their items
  pub acts-bare : (actions : List (Action A)) (work : Work (List ℕ)) → acts_on_lengths (map bare_action actions) work ≡ acts_on_lengths actions work
  acts-bare [] work = refl
  acts-bare (Put h x ∷ rest) work = acts-bare rest _
  acts-bare (action ∷ rest) work = acts-bare rest _

  lengths-bare : (trace : List (Event A)) (world : World (List ℕ)) → lengths_by world (map bare_event trace) ≡ lengths_by world trace
  lengths-bare [] world = refl
  lengths-bare (At s (Put h x) ∷ rest) world = lengths-bare rest _
  lengths-bare (e ∷ rest) world = lengths-bare rest _

  draws-bare : (e : Event A) → event_draws (bare_event e) ≡ event_draws e
  draws-bare e = grind (arith, common_steps)

  coins-bare : (trace : List (Event A)) → coins (map bare_event trace) ≡ coins trace
  coins-bare [] = refl
  coins-bare (e ∷ rest) = grind (arith, common_steps, sum_by-cons, draws-bare, coins-bare rest)

  events-at : (slot : ℕ) (actions : List (Action A)) → map bare_event (events_at slot actions) ≡ events_at slot (map bare_action actions)
  events-at slot [] = refl
  events-at slot (action ∷ rest) = ap (λ (l : List (Event Unit)). At slot (bare_action action) ∷ l) (events-at slot rest)

-- rules for commands without items, with the decisions of other rules
abbrev decided : {A C Shape : Type 0} → Rules A C Shape → Rules Unit C Shape → Rules Unit C Shape
decided rules bare_rules = record bare_rules {
  count = rules.count;
  made = rules.made;
  emptied = rules.emptied;
  updated = rules.updated;
  updated_weighted = rules.updated_weighted;
  redrawn = rules.redrawn;
  merged = rules.merged;
}

-- the same rules for commands without items
pub record AreBare {A C Shape : Type 0} (rules : Rules A C Shape) (bare_rules : Rules Unit C Shape) : Type 0 where
  pub decide : decided rules bare_rules ≡ bare_rules
  pub update : (s : Shape) (lengths : List ℕ) (x : A) → map bare_action (rules.update_actions s lengths x) ≡ bare_rules.update_actions s lengths tt
  pub weighted : (s : Shape) (lengths : List ℕ) (x : A) (weight : ℕ) → map bare_action (rules.weighted_actions s lengths x weight) ≡ bare_rules.weighted_actions s lengths tt weight
  pub redraw : (s : Shape) → map bare_action (rules.redraw_actions s) ≡ bare_rules.redraw_actions s
  pub merge : (redraws : Bool) (s other : Shape) (work : Work (List ℕ)) → map bare_action (rules.merge_actions redraws s other work) ≡ bare_rules.merge_actions redraws s other work
  pub read_back : map bare_action rules.read_back_actions ≡ bare_rules.read_back_actions

module _ {A C Shape : Type 0} {rules : Rules A C Shape} {bare_rules : Rules Unit C Shape} (are : AreBare rules bare_rules) where
  shape-bare : (shapes : ℕ → Option Shape) (c : Command A C) → shape_after rules shapes c ≡ shape_after bare_rules shapes (bare c)
  shape-bare shapes c = go c ∙ ap (λ (r : Rules Unit C Shape). shape_after r shapes (bare c)) are.decide
    where
      go : (c : Command A C) → shape_after rules shapes c ≡ shape_after (decided rules bare_rules) shapes (bare c)
      go c = grind (arith, common_steps)

  slot-bare : (c : Command A C) → slot_of c ≡ slot_of (bare c)
  slot-bare c = grind (arith, common_steps)

  refused-bare : (shapes : ℕ → Option Shape) (c : Command A C) → is_refused rules shapes c ≡ is_refused bare_rules shapes (bare c)
  refused-bare shapes c = ap (λ (o : Option Shape). not (is_some o)) (shape-bare shapes c)

  actions-on : (o : Option Shape) (f : Shape → List (Action A)) {g : Shape → List (Action Unit)} → ((s : Shape) → map bare_action (f s) ≡ g s) → map bare_action (actions_on o f) ≡ actions_on o g
  actions-on o f h = grind (arith, common_steps)

  -- actions in a slot, if it holds a sketch
  acts-at : (slot : ℕ) (o : Option Shape) (f : Shape → List (Action A)) {g : Shape → List (Action Unit)} → ((s : Shape) → map bare_action (f s) ≡ g s) →
      map bare_event (events_at slot (actions_on o f)) ≡ events_at slot (actions_on o g)
  acts-at slot o f h = events-at slot _ ∙ ap (events_at slot) (actions-on o f h)

  count-bare : (o : Option Shape) → count_of rules o ≡ count_of bare_rules o
  count-bare o = grind (arith, common_steps)

  merge-bare : (redraws : Bool) (plan : Plan Shape) (into source : ℕ) → map bare_event (merge_events rules redraws plan into source) ≡ merge_events bare_rules redraws plan into source
  merge-bare redraws plan into source =
      let work : Work (List ℕ) = record { bag = plan.lengths.slots into; scratch = plan.lengths.slots source } in
      rw (count-bare (plan.shapes source)) (events-unless _ _ (ap (λ (l : List (Event Unit)). Snap source into ∷ l)
      (acts-at into (plan.shapes into) _ (λ s. actions-on (plan.shapes source) _ (λ other. are.merge redraws s other work)))))

  accepted-bare : (plan : Plan Shape) (c : Command A C) → map bare_event (accepted_events rules plan c) ≡ accepted_events bare_rules plan (bare c)
  accepted-bare plan c = grind (arith, common_steps, acts-at, merge-bare, events-at)

  events-bare : (plan : Plan Shape) (c : Command A C) → map bare_event (events_of rules plan c) ≡ events_of bare_rules plan (bare c)
  events-bare plan c = rw (refused-bare plan.shapes c) (events-unless (is_refused bare_rules plan.shapes (bare c)) _ (accepted-bare plan c))

  plan-bare : (plan : Plan Shape) (c : Command A C) → plan_after rules plan c ≡ plan_after bare_rules plan (bare c)
  plan-bare plan c = cc (refused-bare plan.shapes c, slot-bare c, shape-bare plan.shapes c, lengths-bare (events_of rules plan c) plan.lengths, events-bare plan c)

  plan_from-bare : (plan : Plan Shape) (commands : List (Command A C)) → plan_from rules plan commands ≡ plan_from bare_rules plan (map bare commands)
  plan_from-bare plan [] = refl
  plan_from-bare plan (c ∷ rest) = cc (plan_from-bare (plan_after rules plan c) rest, plan-bare plan c)

  trace-bare : (plan : Plan Shape) (commands : List (Command A C)) → map bare_event (trace_from rules plan commands) ≡ trace_from bare_rules plan (map bare commands)
  trace-bare plan [] = refl
  trace-bare plan (c ∷ rest) = grind (arith, common_steps, map-append, events-bare, plan-bare, trace-bare (plan_after rules plan c) rest)

  -- two lists of commands that differ only in their items have the same plan
  pub same-plan : (commands commands' : List (Command A C)) → map bare commands ≡ map bare commands' → plan_of rules commands ≡ plan_of rules commands'
  same-plan commands commands' e = cc (plan_from-bare start_plan commands, plan_from-bare start_plan commands')

  -- and they take the same number of coins
  pub same-coins : (commands commands' : List (Command A C)) → map bare commands ≡ map bare commands' → coins (trace_of rules commands) ≡ coins (trace_of rules commands')
  same-coins commands commands' e = cc (coins-bare (trace_of rules commands), coins-bare (trace_of rules commands'), trace-bare start_plan commands, trace-bare start_plan commands')

-- The level lengths and the coins of runs depend on no item and no bit.

-- the lengths and the coins depend on no item
pub hangs-on-none : {A C Shape : Type 0} {rules : Rules A C Shape} {Meets : Event A → World (List ℕ) → Type 0} {Fits : Shape → List ℕ → Type 0} → AreLawful rules Meets Fits →
    {bare_rules : Rules Unit C Shape} → AreBare rules bare_rules → (cmp : A → A → Ordering) → LengthsHangOnNoItem rules cmp
hangs-on-none {Shape = Shape} laws are cmp commands commands' same = (
  same-coins are commands commands' same,
  λ word word' slot. ap (λ (w : World (List ℕ)). w.slots slot)
      (run-lengths laws cmp commands word ∙ (ap (λ (p : Plan Shape). p.lengths) (same-plan are commands commands' same) ∙ sym (run-lengths laws cmp commands' word'))),
)
