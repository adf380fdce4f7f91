-- The refused commands of a run may as well be left out: the accepted ones alone give the same plan, streams and coins.
use Rattle.std.proofs.lemmas.Grind.{common_steps}
use Rattle.std.proofs.Common.{◌≡◌, ℕ, suc, ◌+◌, ◌<◌, ◌≤◌, Bool, true, false, ◌==◌, not, if◌then◌else◌, List, [], ◌∷◌, ◌++◌, length, get_or, Option, None, Some, refl, sym, ap, ◌∙◌, ◌⊎◌, subst, arith, append_assoc, append-nil, zero-add, length-append, fold, ap₂, eqb-true}
use Rattle.std.specs.Prelude.{MatchOption, All, Contains, ◌↔◌}
use Rattle.std.proofs.Math.Bool.{or-false}
use Rattle.std.proofs.lemmas.Bool.{false≢true, cases_lt, eq-eqb, ne_eqb, or_right}
use Rattle.std.proofs.lemmas.List.{same_from_push, length_push, get_or_push, get_or_append_left}
use Rattle.std.proofs.lemmas.List.Elements.{All-push, All-contains, Contains-push, Contains-append_left, Contains-push_cases}
use Rattle.std.proofs.lemmas.List.Folds.{list_any-append, list_any_none}
use Rattle.std.specs.List.Sorted.{IsStrictlyIncreasing}
use Rattle.quantile_sketches.specs.declared.commands.Command.{Command}
use Rattle.quantile_sketches.specs.declared.commands.Command.TheVariants.{RoundTrip}
use Rattle.quantile_sketches.specs.Outcome.{shapes_in}
use Rattle.quantile_sketches.specs.Plan.{plan_of, Plan, start_plan, accepted_events, events_of, plan_after, after_commands, trace_of}
use Rattle.quantile_sketches.specs.Rules.{Kind, Rules}
use Rattle.quantile_sketches.specs.Refused.{without, accepted_of, word_bit, word_next, AreExecuted, LeadTo, IsRefusedExactly, AreRefused}
use Rattle.quantile_sketches.specs.RunSteps.{Sketches, IsDecided, IsExecuted}
use Rattle.quantile_sketches.proofs.plans.Legal.{is_among, accepted_shapes, after_command, plan-append, after-append, trace-more, coins-more}
use Rattle.std.proofs.lemmas.Map.Views.{Contains-from_any}
use Rattle.sketch_base.specs.Lengths.{lengths_after}
use Rattle.sketch_base.specs.Trace.{Event, coins}
use Rattle.sketch_base.proofs.plays.Plays.{coins-at}
use Rattle.sketch_base.proofs.bags.Acts.{changed-own}
use Rattle.quantile_sketches.specs.RuleLaws.{IsLawful}
use Rattle.quantile_sketches.specs.Run.{accepted_streams, stream_of}

-- The numbers of the refused commands, after one more command.

-- a list is empty or ends in its last element
pub data Ends {X : Type 0} : List X → Type 0 where
  empty : Ends []
  last : (front : List X) (x : X) → Ends (front ++ x ∷ [])

ends-cons : {X : Type 0} (x : X) (xs : List X) → Ends xs → Ends (x ∷ xs)
ends-cons x _ empty = last [] x
ends-cons x _ (last front y) = last (x ∷ front) y

-- every list is empty or has a last element
ends : {X : Type 0} (xs : List X) → Ends xs
ends [] = empty
ends (x ∷ xs) = ends-cons x xs (ends xs)

-- one more number, above all others
rising-push : (xs : List ℕ) (n : ℕ) → IsStrictlyIncreasing xs → All (λ x. x < n) xs → IsStrictlyIncreasing (xs ++ n ∷ [])
rising-push xs n h below k inside = grind (arith, common_steps, cases_lt, get_or_append_left, length_push, get_or_push)

not-false : (a b : Bool) → a ≡ not b → (a ≡ false) ↔ (b ≡ true)
not-false a b e = grind (arith, common_steps, false≢true)

among-last : (n : ℕ) (numbers : List ℕ) → is_among n (numbers ++ n ∷ []) ≡ true
among-last n numbers = grind (arith, common_steps, list_any-append, is_among, eq-eqb, or_right)

-- which commands are accepted depends only on the refused numbers below the number of commands
without-same : {A C : Type 0} (r r' : List ℕ) (n : ℕ) → ((m : ℕ) → m < n → is_among m r ≡ is_among m r') →
    (k : ℕ) (commands : List (Command A C)) → k + length commands ≤ n → without r k commands ≡ without r' k commands
without-same r r' n same k [] within = refl
without-same r r' n same k (c ∷ rest) within = rw (same k (omega (arith, within)), without-same r r' n same (suc k) rest (omega (arith, within)))

-- the commands that remain, with one more
pub without-more : {A C : Type 0} (r : List ℕ) (k n : ℕ) (commands : List (Command A C)) (c : Command A C) → k + length commands ≡ n →
    without r k (commands ++ c ∷ []) ≡ without r k commands ++ (if is_among n r then [] else c ∷ [])
without-more r k n [] c e = let at : k ≡ n = omega (arith, e) in rw at (append-nil (if is_among n r then [] else c ∷ []))
without-more r k n (x ∷ rest) c e = grind (arith, common_steps, append_assoc, is_among, without-more r (suc k) n rest c (omega (arith, e)))

module _ {A C Shape S Source : Type 0} (kind : Kind A C Shape S) (bit : Source → Bool) (next : Source → Source) where
  -- so does what is carried out
  executed-same : (r r' : List ℕ) (n : ℕ) → ((m : ℕ) → m < n → is_among m r ≡ is_among m r') →
      (k : ℕ) (commands : List (Command A C)) → k + length commands ≤ n → (slots : Sketches S) (source : Source) (slots' : Sketches S) (source' : Source) →
      AreExecuted kind bit next r k commands slots source slots' source' → AreExecuted kind bit next r' k commands slots source slots' source'
  executed-same r r' n same k [] within slots source slots' source' x = x
  executed-same r r' n same k (c ∷ rest) within slots source slots' source' (between, left, x, more) = grind (arith, common_steps, executed-same r r' n same (suc k) rest (omega (arith, within)) between left slots' source' more)

  -- one more command is executed
  pub executed-more : (r : List ℕ) (k n : ℕ) (commands : List (Command A C)) → k + length commands ≡ n →
      (slots : Sketches S) (source : Source) (between : Sketches S) (left : Source) → AreExecuted kind bit next r k commands slots source between left →
      (c : Command A C) (slots' : Sketches S) (source' : Source) → IsExecuted kind bit next c between left (not (is_among n r)) slots' source' →
      AreExecuted kind bit next r k (commands ++ c ∷ []) slots source slots' source'
  executed-more r k n [] e slots source between left same c slots' source' x = grind (arith, common_steps)
  executed-more r k n (y ∷ rest) e slots source between left (first, after, y_is, more) c slots' source' x =
      (first, after, y_is, executed-more r (suc k) n rest (omega (arith, e)) first after between left more c slots' source' x)

  -- one more command, accepted or refused
  pub executed-next : (r r' : List ℕ) (done : List (Command A C)) (accepted : Bool) → All (λ number. number < length done) r → r' ≡ (if accepted then r else r ++ length done ∷ []) →
      (slots : Sketches S) (source : Source) (between : Sketches S) (left : Source) → AreExecuted kind bit next r 0 done slots source between left →
      (c : Command A C) (slots' : Sketches S) (source' : Source) → IsExecuted kind bit next c between left accepted slots' source' →
      AreExecuted kind bit next r' 0 (done ++ c ∷ []) slots source slots' source'
  executed-next r r' done true below e slots source between left x c slots' source' step =
      rw e (executed-more r 0 (length done) done (zero-add (length done)) slots source between left x c slots' source' (rw (list_any_none (λ m. (length done) == m) r (λ k d inside. ne_eqb (length done) (get_or r k d) (λ e. let less = below k d inside in omega (arith, less, e)))) step))
  executed-next r r' done false below e slots source between left x c slots' source' step = rw e
      (executed-more (r ++ length done ∷ []) 0 (length done) done (zero-add (length done)) slots source between left
      (executed-same r (r ++ length done ∷ []) (length done) (λ m less. sym (grind (arith, common_steps, list_any-append, is_among, ne_eqb, or-false))) 0 done (omega arith) slots source between left x) c slots' source'
      (rw (among-last (length done) r) step))

-- the accepted commands, with one more command
pub accepted-next : {A C : Type 0} (r r' : List ℕ) (done : List (Command A C)) (c : Command A C) (accepted : Bool) → All (λ number. number < length done) r →
    r' ≡ (if accepted then r else r ++ length done ∷ []) →
    accepted_of r' (done ++ c ∷ []) ≡ (if accepted then accepted_of r done ++ c ∷ [] else accepted_of r done)
accepted-next r r' done c true below e = rw (e, without-more r 0 (length done) done c (zero-add (length done)), (list_any_none (λ m. (length done) == m) r (λ k d inside. ne_eqb (length done) (get_or r k d) (λ e. let less = below k d inside in omega (arith, less, e)))))
accepted-next r r' done c false below e =
    rw (e, without-more (r ++ length done ∷ []) 0 (length done) done c (zero-add (length done)), among-last (length done) r, append-nil (without (r ++ length done ∷ []) 0 done))
    (without-same (r ++ length done ∷ []) r (length done) (λ m less. (grind (arith, common_steps, list_any-append, is_among, ne_eqb, or-false))) 0 done (omega arith))

module _ {A C Shape S : Type 0} (kind : Kind A C Shape S) (word : List Bool) where
  -- `IsRefusedExactly` also holds for an equivalent statement, and for numbers that agree with the first ones
  refused-same : (r r' : List ℕ) (n : ℕ) → ((m : ℕ) → m < n → is_among m r ≡ is_among m r') → (before : List (Command A C)) → length before ≤ n →
      (command : Command A C) (P Q : Type 0) → P ↔ Q → IsRefusedExactly kind word r before command P → IsRefusedExactly kind word r' before command Q
  refused-same r r' n same before within (RoundTrip slot) P Q e (slots, (left, x), h) =
      (slots, (left, executed-same kind word_bit word_next r r' n same 0 before (omega (arith, within)) _ _ slots left x), go (slots slot) h)
    where
      go : (o : Option S) → MatchOption o P (λ s. P ↔ ¬ kind.HasImage s) → MatchOption o Q (λ s. Q ↔ ¬ kind.HasImage s)
      go None h = e.0 h
      go (Some s) h = (λ q. h.0 (e.1 q), λ r. e.0 (h.1 r))
  refused-same r r' n same before within command P Q e h = (λ q. h.0 (e.1 q), λ r. e.0 (h.1 r))

  -- no command
  pub refused-none : AreRefused kind word [] []
  refused-none = record {
    in_order = λ k inside. absurd (omega (arith, inside));
    numbers = λ k d inside. absurd (omega (arith, inside));
    exact = λ before after command at. absurd (omega (arith, ap length at, length-append before (command ∷ after)));
  }

  -- one more command, refused or not
  pub refused-more : (done : List (Command A C)) (refused : List ℕ) → AreRefused kind word done refused →
      (c : Command A C) (accepted : Bool) (refused' : List ℕ) → IsRefusedExactly kind word refused done c (accepted ≡ false) →
      refused' ≡ (if accepted then refused else refused ++ length done ∷ []) → AreRefused kind word (done ++ c ∷ []) refused'
  refused-more done refused r c accepted refused' decided e = subst (AreRefused kind word (done ++ c ∷ [])) (sym e) (go accepted decided)
    where
      wider : All (λ number. number < length (done ++ c ∷ [])) refused
      wider k d inside = let h : get_or refused k d < length done = r.numbers k d inside in omega (arith, h, length_push done c)

      exact : (numbers : List ℕ) → ((m : ℕ) → m < length done → is_among m refused ≡ is_among m numbers) → ((n : ℕ) → n < length done → Contains refused n ↔ Contains numbers n) →
          IsRefusedExactly kind word numbers done c (Contains numbers (length done)) →
          (before after : List (Command A C)) (command : Command A C) → Ends after → done ++ c ∷ [] ≡ before ++ command ∷ after →
          IsRefusedExactly kind word numbers before command (Contains numbers (length before))
      exact numbers agree same own before _ command empty at =
          let e = same_from_push done before c command at in
          rw (sym e.0, sym e.1) own
      exact numbers agree same own before _ command (last front x) at =
          let e = same_from_push done (before ++ command ∷ front) c x (at ∙ sym (append_assoc before (command ∷ front) (x ∷ []))) in
          let less : length before < length done = omega (arith, ap length e.0, length-append before (command ∷ front)) in
          refused-same refused numbers (length done) agree before (omega (arith, less)) command (Contains refused (length before)) (Contains numbers (length before))
          (same (length before) less) (r.exact before front command e.0)

      go : (accepted : Bool) → IsRefusedExactly kind word refused done c (accepted ≡ false) → AreRefused kind word (done ++ c ∷ []) (if accepted then refused else refused ++ length done ∷ [])
      go true d = record {
        in_order = r.in_order;
        numbers = wider;
        exact = λ before after command. exact refused (λ m less. refl) (λ n less. (λ h. h, λ h. h))
            (refused-same refused refused (length done) (λ m less. refl) done (omega arith) c (true ≡ false) (Contains refused (length done))
            (λ f. absurd (false≢true (sym f)), λ h. absurd (let b : length done < length done = All-contains (λ x. x < length done) refused (length done) r.numbers h in omega (arith, b))) d)
            before after command (ends after);
      }
      go false d =
          let agree = λ (m : ℕ) (less : m < length done). sym (grind (arith, common_steps, list_any-append, is_among, ne_eqb, or-false)) in
          record {
            in_order = rising-push refused (length done) r.in_order r.numbers;
            numbers = All-push (λ number. number < length (done ++ c ∷ [])) refused (length done) wider (omega (arith, length_push done c));
            exact = λ before after command. exact (refused ++ length done ∷ []) agree
                (λ n less. (λ h. Contains-append_left refused (length done ∷ []) n h, λ h. earlier n less (Contains-push_cases refused (length done) n h)))
                (refused-same refused (refused ++ length done ∷ []) (length done) agree done (omega arith) c (false ≡ false) (Contains (refused ++ length done ∷ []) (length done))
                (λ f. Contains-push refused (length done), λ h. refl) d)
                before after command (ends after);
          }
        where
          earlier : (n : ℕ) → n < length done → Contains refused n ⊎ (length done ≡ n) → Contains refused n
          earlier n less h2 = grind (arith, common_steps)

  -- a command is refused exactly if the sketches in the slots decide so
  pub decided-exactly : (done : List (Command A C)) (refused : List ℕ) (slots : Sketches S) → LeadTo kind word done refused slots →
      ((q : ℕ) → shapes_in kind.look.shape slots q ≡ (plan_of kind.look.rules done).shapes q) →
      (c : Command A C) (accepted : Bool) → IsDecided kind c slots accepted → IsRefusedExactly kind word refused done c (accepted ≡ false)
  decided-exactly done refused slots lead shapes c accepted d = grind (arith, common_steps, not-false, false≢true)

-- The accepted commands of a run give the same plan, streams and coins as all its commands.

-- what stays the same if only refused commands are left out; so does the trace if a round trip has no actions
pub record IsLeftOut {A C Shape : Type 0} (rules : Rules A C Shape) (commands fewer : List (Command A C)) : Type 0 where
  pub plan : plan_of rules commands ≡ plan_of rules fewer
  pub streams : stream_of rules commands ≡ stream_of rules fewer
  pub drawn : coins (trace_of rules commands) ≡ coins (trace_of rules fewer)
  pub trace : rules.read_back_actions ≡ [] → trace_of rules commands ≡ trace_of rules fewer

module _ {A C Shape : Type 0} (rules : Rules A C Shape) where
  -- the plan after a command that is refused if b says so
  abbrev pub plan_by : Plan Shape → Command A C → Bool → Plan Shape
  plan_by plan command b = record {
    shapes = if b then plan.shapes else accepted_shapes rules plan.shapes command;
    lengths = fold (λ world e. lengths_after e world) plan.lengths (if b then [] else accepted_events rules plan command);
  }

  -- one more command
  pub state-more : {T : Type 0} (accepted : Plan Shape → T → Command A C → T) (start : T) (done fewer : List (Command A C)) (c : Command A C) → plan_of rules done ≡ plan_of rules fewer →
      after_commands rules accepted start_plan start done ≡ after_commands rules accepted start_plan start fewer →
      after_commands rules accepted start_plan start (done ++ c ∷ []) ≡ after_commands rules accepted start_plan start (fewer ++ c ∷ [])
  state-more {T} accepted start done fewer c plan state = grind (arith, common_steps, after-append, after_command, plan)

  -- what may be left out may still be left out after one more command
  pub left-more : (done fewer : List (Command A C)) (c : Command A C) → IsLeftOut rules done fewer → IsLeftOut rules (done ++ c ∷ []) (fewer ++ c ∷ [])
  left-more done fewer c h = record {
    plan = plan-append rules start_plan done c ∙ (ap (λ (p : Plan Shape). plan_after rules p c) h.plan ∙ sym (plan-append rules start_plan fewer c));
    streams = state-more (λ plan. accepted_streams) (λ q. []) done fewer c h.plan h.streams;
    drawn = omega (arith, coins-more rules done c, coins-more rules fewer c, h.drawn, ap (λ (p : Plan Shape). coins (events_of rules p c)) h.plan);
    trace = λ z. trace-more rules done c ∙ (ap₂ (λ (t : List (Event A)) (p : Plan Shape). t ++ events_of rules p c) (h.trace z) h.plan ∙ sym (trace-more rules fewer c));
  }

-- what a round trip leaves unchanged, it leaves unchanged whether it is refused or not
state-trip : {T : Type 0} (b : Bool) (x y : T) → y ≡ x → ((if b then x else y) ≡ x) × ((if b then x else y) ≡ y)
state-trip b x y e = grind (arith, common_steps)

taken : (b : Bool) (P : Type 0) → P ↔ (b ≡ true) → ¬ P → b ≡ false
taken b P h n = grind (arith, common_steps)

module _ {A C Shape S T : Type 0} (kind : Kind A C Shape S) (word : List Bool) (refused : List ℕ) (before : List (Command A C))
    (accepted : Plan Shape → T → Command A C → T) (trips : (plan : Plan Shape) (state : T) (slot : ℕ) → accepted plan state (RoundTrip slot) ≡ state) (state : T) where
  -- a refused command leaves unchanged what a round trip leaves unchanged
  pub state-left : (command : Command A C) (P : Type 0) → IsRefusedExactly kind word refused before command P → P → after_command kind.look.rules accepted (plan_of kind.look.rules before) state command ≡ state
  state-left command P h p = grind (arith, common_steps, state-trip)

  -- and an accepted one changes it as `accepted` does
  pub state-taken : (command : Command A C) (P : Type 0) → IsRefusedExactly kind word refused before command P → ¬ P →
      after_command kind.look.rules accepted (plan_of kind.look.rules before) state command ≡ accepted (plan_of kind.look.rules before) state command
  state-taken command P h n = grind (arith, common_steps, state-trip, taken)

-- a relation that still holds if a refused command is left out holds between a run's commands and its accepted ones
module _ {A C Shape S : Type 0} (kind : Kind A C Shape S) (word : List Bool) (commands : List (Command A C)) (refused : List ℕ) (are : AreRefused kind word commands refused)
    (R : List (Command A C) → List (Command A C) → Type 0) (more : (done fewer : List (Command A C)) (c : Command A C) → R done fewer → R (done ++ c ∷ []) (fewer ++ c ∷ []))
    (same : (done fewer : List (Command A C)) (c : Command A C) →
    IsRefusedExactly kind word refused done c (Contains refused (length done)) → Contains refused (length done) → R done fewer → R (done ++ c ∷ []) fewer) where
  pub left-by : (done rest : List (Command A C)) → commands ≡ done ++ rest → R done (accepted_of refused done) → R commands (accepted_of refused commands)
  left-by done [] at h = subst (λ (l : List (Command A C)). R l (accepted_of refused l)) (sym (at ∙ append-nil done)) h
  left-by done (c ∷ rest) at h = left-by (done ++ c ∷ []) rest (at ∙ sym (append_assoc done (c ∷ []) rest))
      (subst (R (done ++ c ∷ [])) (sym (without-more refused 0 (length done) done c (zero-add (length done)))) (add (is_among (length done) refused) refl))
    where
      add : (b : Bool) → is_among (length done) refused ≡ b → R (done ++ c ∷ []) (accepted_of refused done ++ (if b then [] else c ∷ []))
      add true among =
          let there : Contains refused (length done) = Contains-from_any {eq = λ (n m : ℕ). n == m} (λ n m e. eqb-true n m e) (length done) refused among in
          subst (R (done ++ c ∷ [])) (sym (append-nil (accepted_of refused done))) (same done (accepted_of refused done) c (are.exact done rest c at) there h)
      add false among = more done (accepted_of refused done) c h

module _ {A C Shape S : Type 0} {kind : Kind A C Shape S} (lawful : IsLawful kind) where
  -- a refused command changes nothing that is planned
  leaves : (word : List Bool) (refused : List ℕ) (before : List (Command A C)) (command : Command A C) (P : Type 0) → IsRefusedExactly kind word refused before command P → P →
      let rules = kind.look.rules in let plan = plan_of rules before in
      (plan_after rules plan command ≡ plan) × (coins (events_of rules plan command) ≡ 0) × (rules.read_back_actions ≡ [] → events_of rules plan command ≡ [])
  leaves word refused before command P h p = grind (arith, common_steps, changed-own, coins-at)

  -- a command that is refused may be left out
  pub left-refused : (word : List Bool) (refused : List ℕ) (done fewer : List (Command A C)) (command : Command A C) (P : Type 0) → IsRefusedExactly kind word refused done command P → P →
      IsLeftOut kind.look.rules done fewer → IsLeftOut kind.look.rules (done ++ command ∷ []) fewer
  left-refused word refused done fewer command P h p l =
      let rules = kind.look.rules in
      let same = leaves word refused done command P h p in
      let streams = state-left kind word refused done (λ plan. accepted_streams) (λ plan streams slot. refl) (stream_of rules done) command P h p in
      record {
        plan = plan-append rules start_plan done command ∙ (same.0 ∙ l.plan);
        streams = after-append rules (λ plan. accepted_streams) start_plan (λ q. []) done command ∙ (streams ∙ l.streams);
        drawn = omega (arith, coins-more rules done command, same.1, l.drawn);
        trace = λ z. trace-more rules done command ∙ (ap (λ (t : List (Event A)). trace_of rules done ++ t) (same.2 z) ∙ (append-nil (trace_of rules done) ∙ l.trace z));
      }

  -- all refused commands may be left out
  pub left-out : (word : List Bool) (commands : List (Command A C)) (refused : List ℕ) → AreRefused kind word commands refused → IsLeftOut kind.look.rules commands (accepted_of refused commands)
  left-out word commands refused are = left-by kind word commands refused are (IsLeftOut kind.look.rules) (left-more kind.look.rules)
      (λ done fewer command. left-refused word refused done fewer command (Contains refused (length done))) [] commands refl (record { plan = refl; streams = refl; drawn = refl; trace = λ z. refl })
