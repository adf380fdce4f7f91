-- A slot of a REQ run that stays fair by its commands is fair, and so unbiased. It holds the same items whatever round trips are left out.
use Rattle.std.proofs.lemmas.Grind.{common_steps}
use Rattle.std.proofs.Common.{◌≡◌, ℕ, Bool, true, false, not, ◌&&◌, ◌||◌, ◌==◌, if◌then◌else◌, List, [], ◌∷◌, ◌++◌, length, map, sum, take, drop, refl, sym, ap, ap₂, ◌∙◌, subst, arith, eqb-true, ⊎_elim, Ordering, ◌*◌, ◌^◌, Option, Some}
use Rattle.std.proofs.lemmas.Bool.{and_parts, or_cases, or_left, or_right, false≢true, eq-eqb}
use Rattle.std.proofs.lemmas.List.Sums.{sum_by-cons}
use Rattle.sketch_base.specs.Bag.{Bag, Taken, level_at, with_level, compaction}
use Rattle.sketch_base.specs.Fair.{reaches, is_fair, none_drawn}
use Rattle.sketch_base.specs.Lengths.{ObeysScratch, Along, TakesEven, lengths_after, world_lengths, start_lengths}
use Rattle.sketch_base.specs.Trace.{Action, Put, Pull, Join, Compact, Forget, Redraw, Clear, Fresh, Turned, Event, Snap, At, Work, World, changed, act, happens, is_req, next_bit, play, start}
use Rattle.sketch_base.proofs.bags.Acts.{changed-there, changed-itself, changed-own, changed-through}
use Rattle.sketch_base.proofs.plays.Plays.{lengths-happens}
use Rattle.sketch_base.proofs.plays.Picks.{Sheds, none, kept, shed}
use Rattle.quantile_sketches.proofs.plans.Legal.{at_slot, changed-away, run-legal, along-even, after_command}
use Rattle.sketch_base.proofs.unbiased.Fair.{fair_is_unbiased}
use Rattle.quantile_sketches.specs.Plan.{trace_of, Plan, start_plan, events_of, plan_after, trace_from, after_commands}
use Rattle.quantile_sketches.specs.ReqFair.{is_fair_slot}
use Rattle.quantile_sketches.specs.ReqPlan.{ReqCommand, shape_in}
use Rattle.quantile_sketches.specs.ReqRules.{req_rules, ReqShape}
use Rattle.quantile_sketches.specs.Run.{AreUnbiasedWhere, WithEnoughBits}
use Rattle.quantile_sketches.proofs.req.Rules.{req_lawful, merged_as}
use Rattle.quantile_sketches.proofs.plans.Streams.{run-ranks}
use Rattle.sketch_req.specs.Schedule.{Layout, merge_layouts}
use Rattle.sketch_req.proofs.unbiased.Fair.{none_drawn as new-drawn, Stands, stands-end, stands-same, stands-clear, stands-forget, stands-redraw, stands-update, stands-merge, stands-merge_redrawn}
use Rattle.quantile_sketches.specs.declared.commands.Command.TheVariants.{New, Update, UpdateWeighted, Merge, Reset, RoundTrip, Redraw, MergeRedrawn}
use Rattle.quantile_sketches.specs.ReqReady.{Fairness, new_fairness, updated_fairness, with_ready, merged_fairness, fairness_in, accepted_fairness, stays_fair}
use Rattle.quantile_sketches.proofs.req.Shapes.{updated_shape, events_merged, req_merge_events, accepted_req_events, req_merge_shapes, accepted_req_shapes, either-way}

-- A slot to which a REQ trace is fair holds the same items whatever round trips of the trace are left out.

module _ {A : Type 0} where
  -- bags that differ only in kept bits, and in none that was drawn
  pub record AreSame (drawn : ℕ → Bool) (bag bag' : Bag A) : Type 0 where
    pub levels : bag.levels ≡ bag'.levels
    pub sorted : bag.is_sorted ≡ bag'.is_sorted
    pub kept : (h : ℕ) → drawn h ≡ true → bag.kept h ≡ bag'.kept h

  -- one slot's bags replaced by such bags
  one-same : (drawn : ℕ → ℕ → Bool) (slots slots' : ℕ → Bag A) (reach reach' : ℕ → Bool) → ((i : ℕ) → reach i ≡ true → AreSame (drawn i) (slots i) (slots' i)) →
      (s : ℕ) (row : ℕ → Bool) (bag bag' : Bag A) → ((i : ℕ) → (i == s) ≡ false → reach' i ≡ true → reach i ≡ true) → (reach' s ≡ true → AreSame row bag bag') →
      (i : ℕ) → reach' i ≡ true → AreSame (changed drawn s row i) (changed slots s bag i) (changed slots' s bag' i)
  one-same drawn slots slots' reach reach' all s row bag bag' back here = grind (arith, common_steps, at_slot, changed-there, changed-away)

  -- levels without items are the same if there are equally many of them
  no-items : (levels levels' : List (List A)) → map length levels ≡ map length levels' → sum (map length levels) ≡ 0 → levels ≡ levels'
  no-items [] [] e zero_sum = refl
  no-items [] (level' ∷ above') e zero_sum = cc
  no-items (level ∷ above) [] e zero_sum = cc
  no-items (level ∷ above) (level' ∷ above') e zero_sum =
      let first : length level ≡ length level' = cc in
      let rest : map length above ≡ map length above' = cc in
      let total = sum_by-cons (λ n. n) (length level) (map length above) in
      ap₂ (λ (l : List A) (ls : List (List A)). l ∷ ls) (empty level level' first (omega (arith, total, zero_sum))) (no-items above above' rest (omega (arith, total, zero_sum)))
    where
      empty : (level level' : List A) → length level ≡ length level' → length level ≡ 0 → level ≡ level'
      empty [] [] e z = refl
      empty [] (x ∷ xs) e z = absurd (omega (arith, e))
      empty (x ∷ xs) level' e z = absurd (omega (arith, z))

-- one kept bit changes in both bags
kept-changed : (row bits bits' : ℕ → Bool) (h : ℕ) (bit bit' : Bool) → bit ≡ bit' → ((j : ℕ) → (j == h) ≡ false → row j ≡ true → bits j ≡ bits' j) →
    (j : ℕ) → row j ≡ true → changed bits h bit j ≡ changed bits' h bit' j
kept-changed row bits bits' h bit bit' same others = grind (arith, common_steps, at_slot, changed-there, changed-away)

-- marking one level as drawn doesn't mark others
drawn-others : (drawn : ℕ → Bool) (h j : ℕ) → (j == h) ≡ false → changed drawn h true j ≡ true → drawn j ≡ true
drawn-others drawn h j e d = sym (ap (λ (b : Bool). if b then true else drawn j) e) ∙ d

module _ {A : Type 0} (cmp : A → A → Ordering) (slot : ℕ) where
  -- ---- two worlds

  -- two worlds of the same level lengths that agree in this sense on all that may get into the asked slot
  pub record Agree (es : List (Event A)) (drawn : ℕ → ℕ → Bool) (lengths : World (List ℕ)) (world world' : World (Bag A)) : Type 0 where
    pub lengths_are : world_lengths world ≡ lengths
    pub lengths_are' : world_lengths world' ≡ lengths
    pub slots : (i : ℕ) → reaches es slot i ≡ true → AreSame (drawn i) (world.slots i) (world'.slots i)
    pub scratch : reaches es slot lengths.target ≡ true → world.scratch.levels ≡ world'.scratch.levels

  module _ (es : List (Event A)) (drawn : ℕ → ℕ → Bool) (lengths : World (List ℕ)) (world world' : World (Bag A)) where
    -- the bags after an action on a slot
    abbrev acted : ℕ → Action A → Bool → World (Bag A) → Work (Bag A)
    acted s action bit w = act cmp action bit (record { bag = w.slots s; scratch = w.scratch })

    -- they still agree after an action on a slot that leaves its bags and the scratches in agreement
    at-slot : (s : ℕ) (action : Action A) (row : ℕ → Bool) (bit : Bool) → TakesEven (At s action) lengths → Agree (At s action ∷ es) drawn lengths world world' →
        ((i : ℕ) → (i == s) ≡ false → reaches es slot i ≡ true → reaches (At s action ∷ es) slot i ≡ true) →
        (reaches es slot s ≡ true → AreSame row (acted s action bit world).bag (acted s action bit world').bag) →
        (reaches es slot lengths.target ≡ true → (acted s action bit world).scratch.levels ≡ (acted s action bit world').scratch.levels) →
        Agree es (changed drawn s row) (lengths_after (At s action) lengths) (happens (act cmp) (At s action) bit world) (happens (act cmp) (At s action) bit world')
    at-slot s action row bit even agree back here scratch = record {
      lengths_are = lengths-happens cmp (At s action) bit world (subst (TakesEven (At s action)) (sym agree.lengths_are) even) ∙ ap (lengths_after (At s action)) agree.lengths_are;
      lengths_are' = lengths-happens cmp (At s action) bit world' (subst (TakesEven (At s action)) (sym agree.lengths_are') even) ∙ ap (lengths_after (At s action)) agree.lengths_are';
      slots = one-same drawn world.slots world'.slots (reaches (At s action ∷ es) slot) (reaches es slot) agree.slots s row (acted s action bit world).bag (acted s action bit world').bag back here;
      scratch = scratch;
    }

    -- the same for an action that doesn't change which bits were drawn
    at-own : (s : ℕ) (action : Action A) (bit : Bool) → TakesEven (At s action) lengths → Agree (At s action ∷ es) drawn lengths world world' →
        ((i : ℕ) → (i == s) ≡ false → reaches es slot i ≡ true → reaches (At s action ∷ es) slot i ≡ true) →
        (reaches es slot s ≡ true → AreSame (drawn s) (acted s action bit world).bag (acted s action bit world').bag) →
        (reaches es slot lengths.target ≡ true → (acted s action bit world).scratch.levels ≡ (acted s action bit world').scratch.levels) →
        Agree es drawn (lengths_after (At s action) lengths) (happens (act cmp) (At s action) bit world) (happens (act cmp) (At s action) bit world')
    at-own s action bit even agree back here scratch =
        subst (λ (d : ℕ → ℕ → Bool). Agree es d (lengths_after (At s action) lengths) (happens (act cmp) (At s action) bit world) (happens (act cmp) (At s action) bit world'))
        (changed-itself drawn s) (at-slot s action (drawn s) bit even agree back here scratch)

    -- if they agree before an event, they agree after it
    abbrev Goes : Event A → Bool → (ℕ → ℕ → Bool) → Type 0
    Goes e bit drawn' = Agree (e ∷ es) drawn lengths world world' → Agree es drawn' (lengths_after e lengths) (happens (act cmp) e bit world) (happens (act cmp) e bit world')

    -- empty scratches are the same
    no-scratch : {e : Event A} → Agree (e ∷ es) drawn lengths world world' → sum lengths.scratch ≡ 0 → world.scratch.levels ≡ world'.scratch.levels
    no-scratch agree empty =
        let own = ap (λ (w : World (List ℕ)). w.scratch) agree.lengths_are in
        no-items world.scratch.levels world'.scratch.levels (own ∙ sym (ap (λ (w : World (List ℕ)). w.scratch) agree.lengths_are')) (ap (λ (l : List ℕ). sum l) own ∙ empty)

    -- the scratches are the same if they are empty or are for the slot that is acted on
    own-scratch : (s : ℕ) {e : Event A} → Agree (e ∷ es) drawn lengths world world' → (reaches es slot lengths.target ≡ true → reaches (e ∷ es) slot lengths.target ≡ true) →
        (sum lengths.scratch == 0 || s == lengths.target) ≡ true → reaches es slot s ≡ true → world.scratch.levels ≡ world'.scratch.levels
    own-scratch s agree back obeys reached =
        ⊎_elim (λ empty. no-scratch agree (eqb-true (sum lengths.scratch) 0 empty)) (λ here. agree.scratch (back (ap (reaches es slot) (sym (eqb-true s lengths.target here)) ∙ reached)))
        (or_cases (sum lengths.scratch == 0) (s == lengths.target) obeys)

    agree-snap : (s t : ℕ) → Goes (Snap s t) false drawn
    agree-snap s t agree = record {
      lengths_are = ap (lengths_after {A = A} (Snap s t)) agree.lengths_are;
      lengths_are' = ap (lengths_after {A = A} (Snap s t)) agree.lengths_are';
      slots = λ i reached. agree.slots i (or_left _ _ reached);
      scratch = λ reached. (agree.slots s (or_right (reaches es slot s) _ (ap₂ (λ (b c : Bool). b && c) (eq-eqb s s refl) reached))).levels;
    }

    agree-put : (s h : ℕ) (x : A) (bit : Bool) → Goes (At s (Put h x)) bit drawn
    agree-put s h x bit agree = at-own s (Put h x) bit tt agree (λ i e reached. reached) (λ reached. let same = agree.slots s reached in record {
      levels = ap (with_level [] h (λ level. level ++ x ∷ [])) same.levels;
      sorted = ap (λ (b : Bool). b && not (h == 0)) same.sorted;
      kept = same.kept;
    })
        agree.scratch

    agree-pull : (s : ℕ) (bit : Bool) → (sum lengths.scratch == 0 || s == lengths.target) ≡ true → Goes (At s Pull) bit drawn
    agree-pull s bit obeys agree = at-own s Pull bit tt agree (λ i e reached. reached) (λ reached. let same = agree.slots s reached in record {
      levels = ap₂ (λ (ls from : List (List A)). with_level [] 0 (λ level. level ++ take 1 (level_at from 0)) ls) same.levels (own-scratch s agree (λ r. r) obeys reached);
      sorted = refl;
      kept = same.kept;
    }) (λ reached. ap (λ (from : List (List A)). with_level [] 0 (λ level. drop 1 (level_at from 0)) from) (agree.scratch reached))

    agree-join : (s h : ℕ) (bit : Bool) → (sum lengths.scratch == 0 || s == lengths.target) ≡ true → Goes (At s (Join h)) bit drawn
    agree-join s h bit obeys agree = at-own s (Join h) bit tt agree (λ i e reached. reached) (λ reached. let same = agree.slots s reached in record {
      levels = ap₂ (λ (ls from : List (List A)). with_level [] h (λ level. level ++ level_at from h) ls) same.levels (own-scratch s agree (λ r. r) obeys reached);
      sorted = same.sorted;
      kept = same.kept;
    }) (λ reached. ap (with_level [] h (λ level. [])) (agree.scratch reached))

    agree-forget : (s : ℕ) (bit : Bool) → Goes (At s Forget) bit (changed drawn s (λ h. false))
    agree-forget s bit agree = at-slot s Forget (λ h. false) bit tt agree (λ i e reached. reached)
        (λ reached. let same = agree.slots s reached in record { levels = same.levels; sorted = same.sorted; kept = λ h e. absurd (false≢true e) })
        agree.scratch

    agree-redraw : (s h : ℕ) (bit : Bool) → Goes (At s (Redraw h)) bit (changed drawn s (changed (drawn s) h true))
    agree-redraw s h bit agree = at-slot s (Redraw h) (changed (drawn s) h true) bit tt agree (λ i e reached. reached) (λ reached. let same = agree.slots s reached in record {
      levels = same.levels;
      sorted = same.sorted;
      kept = kept-changed (changed (drawn s) h true) (world.slots s).kept (world'.slots s).kept h bit bit refl (λ j e d. same.kept j (drawn-others (drawn s) h j e d));
    })
        agree.scratch

    agree-clear : (s : ℕ) (bit : Bool) → (sum lengths.scratch == 0 || false) ≡ true → Goes (At s Clear) bit (changed drawn s (λ h. false))
    agree-clear s bit obeys agree = at-slot s Clear (λ h. false) bit tt agree (λ i e reached. ap₂ (λ (b c : Bool). not b && c) e reached)
        (λ reached. record { levels = refl; sorted = refl; kept = λ h e. absurd (false≢true e) })
        (λ reached. ⊎_elim (λ empty. no-scratch agree (eqb-true (sum lengths.scratch) 0 empty)) (λ e. absurd (false≢true e)) (or_cases (sum lengths.scratch == 0) false obeys))

    -- the bags still agree after compactions by the same bit
    same-compacted : (s h : ℕ) (taken : Taken) (row : ℕ → Bool) (bit bit' : Bool) → bit ≡ bit' → AreSame (drawn s) (world.slots s) (world'.slots s) →
        ((j : ℕ) → (j == h) ≡ false → row j ≡ true → drawn s j ≡ true) →
        AreSame row (record (compaction cmp h taken bit (world.slots s)) { kept = changed (world.slots s).kept h bit })
        (record (compaction cmp h taken bit' (world'.slots s)) { kept = changed (world'.slots s).kept h bit' })
    same-compacted s h taken row bit bit' bits same others = record {
      levels = ap₂ (λ (ls : List (List A)) (b : Bool). after ls b bit) same.levels same.sorted ∙ ap (after (world'.slots s).levels (world'.slots s).is_sorted) bits;
      sorted = same.sorted;
      kept = kept-changed row (world.slots s).kept (world'.slots s).kept h bit bit' bits (λ j e d. same.kept j (others j e d));
    }
      where
        after : List (List A) → Bool → Bool → List (List A)
        after levels sorted bit = (compaction cmp h taken bit (record { levels = levels; is_sorted = sorted; kept = λ h. false })).levels

    agree-draw : (s h : ℕ) (taken : Taken) (bit : Bool) → TakesEven {A = A} (At s (Compact h Fresh taken)) lengths →
        Goes (At s (Compact h Fresh taken)) bit (changed drawn s (changed (drawn s) h true))
    agree-draw s h taken bit even agree = at-slot s (Compact h Fresh taken) (changed (drawn s) h true) bit even agree (λ i e reached. reached)
        (λ reached. same-compacted s h taken (changed (drawn s) h true) bit bit refl (agree.slots s reached) (drawn-others (drawn s) h))
        agree.scratch

    agree-turn : (s h : ℕ) (taken : Taken) (bit : Bool) → TakesEven {A = A} (At s (Compact h Turned taken)) lengths → (drawn s h || not (reaches es slot s)) ≡ true →
        Goes (At s (Compact h Turned taken)) bit drawn
    agree-turn s h taken bit even fair agree = at-own s (Compact h Turned taken) bit even agree (λ i e reached. reached) (λ reached.
        let was_drawn : drawn s h ≡ true = ⊎_elim (λ d. d) (λ misses. absurd (false≢true (sym (ap not reached) ∙ misses))) (or_cases (drawn s h) (not (reaches es slot s)) fair) in
        same-compacted s h taken (drawn s) (not ((world.slots s).kept h)) (not ((world'.slots s).kept h)) (ap not ((agree.slots s reached).kept h was_drawn)) (agree.slots s reached) (λ j e d. d))
        agree.scratch

    -- a Forget in one world only
    agree-shed : (s : ℕ) (bit : Bool) → Agree (At s Forget ∷ es) drawn lengths world world' →
        Agree es (changed drawn s (λ h. false)) (lengths_after {A = A} (At s Forget) lengths) (happens (act cmp) (At s Forget) bit world) world'
    agree-shed s bit agree = record {
      lengths_are = (agree-forget s bit agree).lengths_are;
      lengths_are' = agree.lengths_are'
          ∙ sym (ap (λ (f : ℕ → List ℕ). let w : World (List ℕ) = record { slots = f; scratch = lengths.scratch; target = lengths.target } in w) (changed-itself lengths.slots s));
      slots = at_slot s (λ i. reaches es slot i ≡ true → AreSame (changed drawn s (λ h. false) i) (changed world.slots s (acted s Forget bit world).bag i) (world'.slots i)) (λ reached.
          rw (changed-there drawn s (λ h. false), changed-there world.slots s (acted s Forget bit world).bag)
          (record { levels = (agree.slots s reached).levels; sorted = (agree.slots s reached).sorted; kept = λ h d. absurd (false≢true d) }))
          (λ i e reached. rw (changed-away drawn s (λ h. false) i e, changed-away world.slots s (acted s Forget bit world).bag i e) (agree.slots i reached));
      scratch = agree.scratch;
    }

  -- so the slot holds the same items in the end
  pub shed-same : (es es' : List (Event A)) → Sheds es es' → (drawn : ℕ → ℕ → Bool) (lengths : World (List ℕ)) → is_fair es slot drawn ≡ true → ObeysScratch es lengths → Along TakesEven es lengths →
      (word : List Bool) (world world' : World (Bag A)) → Agree es drawn lengths world world' → ((play cmp es word world).slots slot).levels ≡ ((play cmp es' word world').slots slot).levels
  shed-same _ _ none drawn lengths fair obeys even word world world' agree = (agree.slots slot (eq-eqb slot slot refl)).levels
  shed-same _ _ (shed s es es' sheds) drawn lengths fair obeys even word world world' agree =
      shed-same es es' sheds _ _ fair obeys.1 even.1 word _ world' (agree-shed es drawn lengths world world' s (next_bit word) agree)
  shed-same _ _ (kept (Snap s t) es es' sheds) drawn lengths fair obeys even word world world' agree =
      shed-same es es' sheds _ _ fair obeys.1 even.1 word _ _ (agree-snap es drawn lengths world world' s t agree)
  shed-same _ _ (kept (At s (Put h x)) es es' sheds) drawn lengths fair obeys even word world world' agree =
      shed-same es es' sheds _ _ fair obeys.1 even.1 word _ _ (agree-put es drawn lengths world world' s h x (next_bit word) agree)
  shed-same _ _ (kept (At s Pull) es es' sheds) drawn lengths fair obeys even word world world' agree =
      shed-same es es' sheds _ _ fair obeys.1 even.1 word _ _ (agree-pull es drawn lengths world world' s (next_bit word) obeys.0 agree)
  shed-same _ _ (kept (At s (Join h)) es es' sheds) drawn lengths fair obeys even word world world' agree =
      shed-same es es' sheds _ _ fair obeys.1 even.1 word _ _ (agree-join es drawn lengths world world' s h (next_bit word) obeys.0 agree)
  shed-same _ _ (kept (At s Forget) es es' sheds) drawn lengths fair obeys even word world world' agree =
      shed-same es es' sheds _ _ fair obeys.1 even.1 word _ _ (agree-forget es drawn lengths world world' s (next_bit word) agree)
  shed-same _ _ (kept (At s (Redraw h)) es es' sheds) drawn lengths fair obeys even word world world' agree =
      shed-same es es' sheds _ _ fair obeys.1 even.1 (drop 1 word) _ _ (agree-redraw es drawn lengths world world' s h (next_bit word) agree)
  shed-same _ _ (kept (At s Clear) es es' sheds) drawn lengths fair obeys even word world world' agree =
      shed-same es es' sheds _ _ fair obeys.1 even.1 word _ _ (agree-clear es drawn lengths world world' s (next_bit word) obeys.0 agree)
  shed-same _ _ (kept (At s (Compact h Fresh taken)) es es' sheds) drawn lengths fair obeys even word world world' agree =
      shed-same es es' sheds _ _ (and_parts (is_req taken) _ fair).1 obeys.1 even.1 (drop 1 word) _ _ (agree-draw es drawn lengths world world' s h taken (next_bit word) even.0 agree)
  shed-same _ _ (kept (At s (Compact h Turned taken)) es es' sheds) drawn lengths fair obeys even word world world' agree =
      let turned = and_parts (drawn s h || not (reaches es slot s)) _ (and_parts (is_req taken) _ fair).1 in
      shed-same es es' sheds _ _ turned.1 obeys.1 even.1 word _ _ (agree-turn es drawn lengths world world' s h taken (next_bit word) even.0 turned.0 agree)

-- A slot of a REQ run to which its commands are fair is unbiased, and holds the same items whatever round trips are left out.

module _ {A : Type 0} (cmp : A → A → Ordering) where
  -- for every list of commands
  pub run-unbiased_where_fair : WithEnoughBits (req_rules {A = A}) (AreUnbiasedWhere req_rules cmp is_fair_slot)
  run-unbiased_where_fair commands length enough slot test fair =
      let legal = run-legal (req_lawful {A = A}) commands in
      fair_is_unbiased cmp test (trace_of req_rules commands) length slot legal.scratch (along-even (req_lawful {A = A}) (trace_of req_rules commands) start_lengths legal.meets) fair enough
      ∙ ap (λ n. 2 ^ length * n) (run-ranks (req_lawful {A = A}) test commands slot)

  -- its items are the same whatever round trips are left out
  pub fair-shed : (commands : List (ReqCommand A)) (slot : ℕ) → is_fair_slot commands slot ≡ true → (fewer : List (Event A)) → Sheds (trace_of req_rules commands) fewer → (word : List Bool) →
      ((play cmp (trace_of req_rules commands) word start).slots slot).levels ≡ ((play cmp fewer word start).slots slot).levels
  fair-shed commands slot fair fewer sheds word =
      let legal = run-legal (req_lawful {A = A}) commands in
      shed-same cmp slot (trace_of req_rules commands) fewer sheds none_drawn start_lengths fair legal.scratch (along-even (req_lawful {A = A}) (trace_of req_rules commands) start_lengths legal.meets) word start start
      (record { lengths_are = refl; lengths_are' = refl; slots = λ i reached. record { levels = refl; sorted = refl; kept = λ h drawn. refl }; scratch = λ reached. refl })

-- A slot of a REQ run that stays fair by its commands is fair, and so unbiased.

-- the fairness of all slots after one command, refused or not
abbrev fairness_after : {A : Type 0} → Plan ReqShape → (ℕ → Fairness) → ReqCommand A → ℕ → Fairness
fairness_after = after_command req_rules (λ plan. accepted_fairness plan.shapes)

abbrev layouts_in : (ℕ → Option ReqShape) → ℕ → List Layout
layouts_in shapes j = (shape_in (shapes j)).layouts

module _ {A : Type 0} (slot : ℕ) where
  -- the events that come after are fair to the asked slot, by what the commands before them show about all slots
  abbrev Stand : (ℕ → Option ReqShape) → (ℕ → Fairness) → List (Event A) → Type 0
  Stand shapes fairs rest = Stands slot (layouts_in shapes) (λ j. (fairs j).is_ready) (λ j. (fairs j).is_fair) rest

  -- if one slot changes
  at-one : (shapes : ℕ → Option ReqShape) (fairs : ℕ → Fairness) (s : ℕ) (shape : ReqShape) (f : Fairness) (rest : List (Event A)) →
      Stand (changed shapes s (Some shape)) (changed fairs s f) rest →
      Stands slot (changed (layouts_in shapes) s shape.layouts) (changed (λ j. (fairs j).is_ready) s f.is_ready) (changed (λ j. (fairs j).is_fair) s f.is_fair) rest
  at-one shapes fairs s shape f rest n = grind (arith, common_steps, stands-same, changed-through)

  -- if one slot becomes ready, or not ready
  ready-one : (shapes : ℕ → Option ReqShape) (fairs : ℕ → Fairness) (s : ℕ) (b : Bool) (rest : List (Event A)) → Stand shapes (changed fairs s (with_ready (fairs s) b)) rest →
      Stands slot (layouts_in shapes) (changed (λ j. (fairs j).is_ready) s b) (λ j. (fairs j).is_fair) rest
  ready-one shapes fairs s b rest n = grind (arith, common_steps, stands-same, changed-through, changed-own)

  -- a merge, with coins redrawn or not
  merge-stands : (redraws : Bool) (shapes : ℕ → Option ReqShape) (fairs : ℕ → Fairness) (into source : ℕ) (rest : List (Event A)) →
      Stand (req_merge_shapes shapes into source) (fairness_in redraws shapes fairs into source) rest → Stand shapes fairs (req_merge_events redraws shapes into source ++ rest)
  merge-stands redraws shapes fairs into source rest = go ((shape_in (shapes source)).n == 0)
    where
      s : ReqShape
      s = shape_in (shapes into)

      other : ReqShape
      other = shape_in (shapes source)

      taken : (redraws : Bool) → Stand (changed shapes into (Some (merged_as s other (merge_layouts s.k s.layouts other.layouts))))
          (changed fairs into (merged_fairness redraws s other (fairs into) (fairs source))) rest →
          Stand shapes fairs (events_merged redraws s other into source ++ rest)
      taken true n = stands-merge_redrawn slot s.k s.accuracy source into (layouts_in shapes) (λ j. (fairs j).is_ready) (λ j. (fairs j).is_fair) rest
          (at-one shapes fairs into _ (merged_fairness true s other (fairs into) (fairs source)) rest n)
      taken false n = stands-merge slot s.k s.accuracy source into (layouts_in shapes) (λ j. (fairs j).is_ready) (λ j. (fairs j).is_fair) rest
          (at-one shapes fairs into _ (merged_fairness false s other (fairs into) (fairs source)) rest n)

      go : (b : Bool) → Stand (changed shapes into (Some (merged_as s other (if b then s.layouts else merge_layouts s.k s.layouts other.layouts))))
          (if b then fairs else changed fairs into (merged_fairness redraws s other (fairs into) (fairs source))) rest →
          Stand shapes fairs ((if b then [] else events_merged redraws s other into source) ++ rest)
      go true n = stands-same slot _ _ _ _ _ _ rest
          (λ j. changed-through shapes (λ (o : Option ReqShape). (shape_in o).layouts) into (Some (merged_as s other s.layouts)) j ∙ changed-own (layouts_in shapes) into j)
          (λ j. refl) (λ j. refl) n
      go false n = taken redraws n

  accepted-stands : (shapes : ℕ → Option ReqShape) (fairs : ℕ → Fairness) (command : ReqCommand A) (rest : List (Event A)) →
      Stand (accepted_req_shapes shapes command) (accepted_fairness shapes fairs command) rest → Stand shapes fairs (accepted_req_events shapes command ++ rest)
  accepted-stands shapes fairs (New s config) rest n = grind (arith, common_steps, stands-clear, at-one)
  accepted-stands shapes fairs (Update s x) rest n =
      stands-update slot (shape_in (shapes s)).k (shape_in (shapes s)).accuracy s x (layouts_in shapes) (λ j. (fairs j).is_ready) (λ j. (fairs j).is_fair) rest
      (stands-same slot _ _ _ _ _ _ rest (λ j. refl) (changed-own (λ i. (fairs i).is_ready) s) (λ j. refl)
      (at-one shapes fairs s (updated_shape (shape_in (shapes s))) (updated_fairness (fairs s)) rest n))
  accepted-stands shapes fairs (UpdateWeighted s x weight) rest n = n
  accepted-stands shapes fairs (Merge into source) rest n = merge-stands false shapes fairs into source rest n
  accepted-stands shapes fairs (Reset s) rest n = grind (arith, common_steps, stands-clear, at-one)
  accepted-stands shapes fairs (RoundTrip s) rest n = stands-forget slot s (layouts_in shapes) (λ j. (fairs j).is_ready) (λ j. (fairs j).is_fair) rest (ready-one shapes fairs s false rest n)
  accepted-stands shapes fairs (Redraw s) rest n = stands-redraw slot s (layouts_in shapes) (λ j. (fairs j).is_ready) (λ j. (fairs j).is_fair) rest (ready-one shapes fairs s true rest n)
  accepted-stands shapes fairs (MergeRedrawn into source) rest n = merge-stands true shapes fairs into source rest n

  stands-before : (plan : Plan ReqShape) (fairs : ℕ → Fairness) (command : ReqCommand A) (rest : List (Event A)) →
      Stand (plan_after req_rules plan command).shapes (fairness_after plan fairs command) rest → Stand plan.shapes fairs (events_of req_rules plan command ++ rest)
  stands-before plan fairs command rest = either-way plan command (λ (refused : Bool) (shapes : ℕ → Option ReqShape) (events : List (Event A)).
      Stand shapes (if refused then fairs else accepted_fairness plan.shapes fairs command) rest → Stand plan.shapes fairs (events ++ rest))
      (λ n. n) (λ e. accepted-stands plan.shapes fairs command rest)

  stands-from : (plan : Plan ReqShape) (fairs : ℕ → Fairness) (commands : List (ReqCommand A)) → (after_commands req_rules (λ plan. accepted_fairness plan.shapes) plan fairs commands slot).is_fair ≡ true →
      Stand plan.shapes fairs (trace_from req_rules plan commands)
  stands-from plan fairs [] e = stands-end slot (layouts_in plan.shapes) (λ j. (fairs j).is_ready) (λ j. (fairs j).is_fair) e
  stands-from plan fairs (command ∷ rest) e =
      let next = plan_after req_rules plan command in
      stands-before plan fairs command (trace_from req_rules next rest) (stands-from next (fairness_after plan fairs command) rest e)

module _ {A : Type 0} where
  -- a slot that stays fair is fair
  pub run-stays_fair : (commands : List (ReqCommand A)) (slot : ℕ) → stays_fair commands slot ≡ true → is_fair_slot commands slot ≡ true
  run-stays_fair commands slot e = (stands-from slot start_plan (λ s. new_fairness) commands e).fairs none_drawn (λ j r. new-drawn (none_drawn j))

  -- so it is unbiased
  pub run-unbiased_where_redrawn : (cmp : A → A → Ordering) → WithEnoughBits (req_rules {A = A}) (AreUnbiasedWhere req_rules cmp stays_fair)
  run-unbiased_where_redrawn cmp commands bits enough slot test fair = run-unbiased_where_fair cmp commands bits enough slot test (run-stays_fair commands slot fair)
