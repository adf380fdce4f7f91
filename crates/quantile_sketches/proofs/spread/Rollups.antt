-- Slots that took each coin in once, and each item by itself, have a small spread, whatever merges made them, and so errors that are
-- rarely large.
use Rattle.std.proofs.lemmas.Grind.{common_steps}
use Rattle.std.proofs.Common.{◌≡◌, ℕ, ◌+◌, ◌^◌, ◌-◌, ◌<◌, ◌≤◌, Bool, true, false, ◌&&◌, ◌||◌, ◌==◌, nat_lt, min, if◌then◌else◌, List, [], ◌∷◌, length, map, Option, None, Some, refl, sym, ap, ◌∙◌, subst, arith, inl, inr, IsTrue, eqb-true, ltb-false, ◌*◌, zero, suc, mul-le-mul, mul-le-mul_left, mul-le-mul_right, mul-pos, le_of_mul-le-mul_right}
use Rattle.std.specs.Prelude.{⊤}
use Rattle.std.proofs.lemmas.Bool.{cases_Bool, and_parts, or_parts, eqb-false, eq-eqb, ne_eqb, false≢true}
use Rattle.std.proofs.Math.Nat.{min-le_left, min-le_right, one-le-pow, pow-le-pow_left}
use Rattle.std.specs.Option.{option_map}
use Rattle.sketch_base.specs.Shares.{shares_after, all_shares, spread, share_no_coin, takes_once, took_once}
use Rattle.sketch_base.specs.Trace.{Action, Clear, Event, Snap, At, Work, World, changed, events_at}
use Rattle.sketch_base.specs.Lengths.{acts_on_lengths, lengths_after}
use Rattle.sketch_base.proofs.bags.Acts.{changed-there, changed-own}
use Rattle.sketch_base.proofs.spread.Squares.{AreAsMany, as_many-all, squared, squared-cleared, squared-elsewhere, all_shares-append, takes_once-append, once-elsewhere}
use Rattle.sketch_kll.specs.Merge.{merge_actions}
use Rattle.sketch_kll.specs.Schedule.{actions_if_full, update_actions, updated_lengths}
use Rattle.sketch_kll.specs.Spread.{IsLittle}
use Rattle.sketch_kll.specs.Weighted.{weighted_actions}
use Rattle.sketch_kll.proofs.layout.Alike.{update_full, update_spare}
use Rattle.sketch_kll.proofs.spread.Rolled.{IsRolled, rolled-little}
use Rattle.sketch_kll.proofs.spread.Calls.{cost, rolled-flat, rolled-merge, rolled-update, update-costs, update-once, merge-costs, merge-once, weighted-once}
use Rattle.sketch_kll.proofs.weights.Weighted.{weight_one}
use Rattle.quantile_sketches.specs.declared.commands.Command.{Command}
use Rattle.quantile_sketches.specs.declared.commands.Command.TheVariants.{New, Update, UpdateWeighted, Merge, Reset, RoundTrip, Redraw, MergeRedrawn}
use Rattle.quantile_sketches.specs.KllRules.{KllShape, updated_shape, weighted_shape, merged_shape, kll_rules}
use Rattle.quantile_sketches.specs.Rules.{none_if}
use Rattle.quantile_sketches.specs.Rollup.{SlotRollsUp, accepted_alone, took_alone}
use Rattle.quantile_sketches.specs.RuleLaws.{lengths_by}
use Rattle.quantile_sketches.specs.Plan.{Plan, start_plan, actions_on, shape_after, accepted_events, events_of, plan_after, after_commands, trace_from, trace_of, plan_of}
use Rattle.quantile_sketches.proofs.plans.Legal.{accepted_shapes, plan_from, changed-away, at_slot, lengths-elsewhere, not-none, some-there, then-there, map-there, merge-either, IsSteady, steady-start, steady-after, refused-or-taken, some-one}
use Rattle.quantile_sketches.proofs.kll.Rules.{unless-there, kll_lawful, lengths-at}
use Rattle.std.proofs.lemmas.Nat.{mul-pow, pow-add}
use Rattle.sketch_base.specs.Moments.{odd_product}

-- Slots that took each coin in once, and each item by itself, have a small spread, whatever merges made them.

-- ---- what holds of a slot

record RollsIn (shape : KllShape) (lengths : List ℕ) (spread : ℕ) : Type 0 where
  least : shape.min_k ≤ shape.k
  rolled : IsRolled shape.min_k lengths [] shape.n spread

-- what updates and merges keep for a slot whose sketch took each coin in once
abbrev Rolls : Option KllShape → Bool → List ℕ → ℕ → Type 0
Rolls None once lengths spread = ⊤
Rolls (Some shape) false lengths spread = ⊤
Rolls (Some shape) true lengths spread = RollsIn shape lengths spread

rolls-same : (shape shape' : Option KllShape) (b b' : Bool) (ns ns' : List ℕ) (s s' : ℕ) → shape' ≡ shape → b' ≡ b → ns' ≡ ns → s' ≡ s → Rolls shape b ns s → Rolls shape' b' ns' s'
rolls-same shape shape' b b' ns ns' s s' e f g h i = rw (e, f, g, h) i

-- it says nothing about other slots
rolls-others : (shape : Option KllShape) (ns : List ℕ) (s : ℕ) → Rolls shape false ns s
rolls-others shape ns s = grind (arith, common_steps)

rolls-in : (o : Option KllShape) (shape : KllShape) (b : Bool) (ns : List ℕ) (s : ℕ) → o ≡ Some shape → b ≡ true → Rolls o b ns s → RollsIn shape ns s
rolls-in o shape b ns s e f i = rolls-same o (Some shape) b true ns ns s s (sym e) (sym f) refl refl i

rolls-bound : (o : Option KllShape) (shape : KllShape) (b : Bool) (ns : List ℕ) (s : ℕ) → o ≡ Some shape → IsTrue b → Rolls o b ns s → IsLittle shape.min_k shape.n s
rolls-bound o shape b ns s e t i = let r = rolls-in o shape b ns s e t i in rolled-little shape.min_k ns shape.n s r.rolled

module _ (A : Type 0) where
  -- it holds after an update
  updated-in : (s : KllShape) (b : Bool) (ns : List ℕ) (p : ℕ) (x : A) → 0 < length ns → Rolls (Some s) b ns p →
      Rolls (Some (updated_shape s)) b (updated_lengths s.k ns x) (p + cost {A = A} (actions_if_full s.k ns))
  updated-in s b ns p x some i = grind (arith, common_steps, rolled-update)

  -- and after one with the weight 1
  weighted-in : (s : KllShape) (b : Bool) (ns : List ℕ) (p : ℕ) (x : A) → 0 < length ns → Rolls (Some s) b ns p →
      Rolls (Some (weighted_shape s 1)) b (updated_lengths s.k ns x) (p + cost {A = A} (actions_if_full s.k ns))
  weighted-in s b ns p x some i = grind (arith, common_steps, rolled-update)

  -- and after a merge of a sketch that shares no coin; a sketch of one level leaves `min_k` unchanged
  merged-in : (s other : KllShape) (ns os : List ℕ) (p q : ℕ) → 0 < length ns → os ≡ other.lengths → RollsIn s ns p → RollsIn other os q →
      (let work : Work (List ℕ) = record { bag = ns; scratch = os } in
      RollsIn (merged_shape s other) (acts_on_lengths {A = A} (merge_actions s.k work) work).bag (p + q + cost {A = A} (merge_actions s.k work)))
  merged-in s other ns os p q some same mine its = elim (cases_Bool (nat_lt 1 (length other.lengths))) [
    | inl e ↦
        let low : min s.min_k other.min_k ≤ s.k = omega (arith, min-le_left s.min_k other.min_k, mine.least) in
        record {
          least = rw e low;
          rolled = rw e (rolled-merge A (min s.min_k other.min_k) s.min_k other.min_k s.k ns os s.n p other.n q
              (min-le_left s.min_k other.min_k) (min-le_right s.min_k other.min_k) low some mine.rolled its.rolled);
        }
    | inr e ↦
        let one : length os ≤ 1 = omega (arith, ltb-false 1 (length other.lengths) e, ap length same) in
        record {
          least = rw e mine.least;
          rolled = rw e (rolled-merge A s.min_k s.min_k s.min_k s.k ns os s.n p other.n q
              (omega arith) (omega arith) mine.least some mine.rolled (rolled-flat other.min_k s.min_k os other.n q its.rolled one));
        }
  ]

-- the weights that an update accepts
accepts-weight : (weight n : ℕ) → (weight == 0 || nat_lt (2 ^ 61 - 1) weight || nat_lt (2 ^ 64 - 1) (n + weight)) ≡ false → (0 < weight) × (weight < 2 ^ 61)
accepts-weight weight n e = grind (arith, common_steps, or_parts, eqb-false, ltb-false)

-- ---- what commands keep

-- the shape that an accepted call makes
becomes : (b : Bool) (v t : KllShape) (o : Option KllShape) → none_if b v ≡ Some t → o ≡ Some t → o ≡ Some v
becomes b v t o u e = e ∙ ap Some (sym (unless-there b v t u).1)

module _ {A : Type 0} where
  -- the level lengths after an update
  lengths-update : (s k : ℕ) (x : A) (world : World (List ℕ)) → (lengths_by world (map (λ action. At s action) (update_actions k (world.slots s) x))).slots s ≡ updated_lengths k (world.slots s) x
  lengths-update s k x world = grind (arith, common_steps, cases_Bool, update_full, changed-there, update_spare)

-- this holds for each slot
abbrev AreRolled : (ℕ → Option KllShape) → (ℕ → Bool) → World (List ℕ) → (ℕ → List ℕ) → Type 0
AreRolled shapes once world shares = (j : ℕ) → Rolls (shapes j) (once j) (world.slots j) (squared (shares j))

-- it holds after some events that give the slots these shapes
abbrev RolledBy : {A : Type 0} → (ℕ → Option KllShape) → (ℕ → Bool) → World (List ℕ) → (ℕ → List ℕ) → List (Event A) → Type 0
RolledBy shapes once world shares events = AreRolled shapes (takes_once events shares once) (lengths_by world events) (all_shares events shares)

module _ (A : Type 0) where
  -- a slot that is cleared
  rolled-clear : (shapes : ℕ → Option KllShape) (once : ℕ → Bool) (world : World (List ℕ)) (shares : ℕ → List ℕ) (s : ℕ) (shape : Option KllShape) →
      AreRolled shapes once world shares → Rolls shape true (0 ∷ []) 0 →
      AreRolled (changed shapes s shape) (changed once s true) (lengths_by {A = A} world (At s Clear ∷ [])) (all_shares {A = A} (At s Clear ∷ []) shares)
  rolled-clear shapes once world shares s shape i new =
      let clear : List (Action A) = Clear ∷ [] in
      let events : List (Event A) = At s Clear ∷ [] in
      at_slot s (λ j. Rolls (changed shapes s shape j) (changed once s true j) ((lengths_by world events).slots j) (squared (all_shares events shares j)))
      (rolls-same _ _ _ _ _ _ _ _ (changed-there shapes s shape) (changed-there once s true) (changed-there world.slots s (0 ∷ []))
      (ap squared (changed-there shares s (map (λ share. 0) (shares s))) ∙ squared-cleared (shares s)) new)
      (λ j e. rolls-same _ _ _ _ _ _ _ _ (changed-away shapes s shape j e) (changed-away once s true j e) (lengths-elsewhere s j e clear world) (squared-elsewhere s j e clear shares) (i j))

  -- a slot that takes an item
  rolled-item : (shapes : ℕ → Option KllShape) (once : ℕ → Bool) (world : World (List ℕ)) (shares : ℕ → List ℕ) (s k : ℕ) (x : A) (shape : Option KllShape) →
      AreRolled shapes once world shares → 0 < length (world.slots s) →
      Rolls shape (once s) (updated_lengths k (world.slots s) x) (squared (shares s) + cost {A = A} (actions_if_full k (world.slots s))) →
      RolledBy (changed shapes s shape) once world shares (events_at s (update_actions k (world.slots s) x))
  rolled-item shapes once world shares s k x shape i some new = grind (arith, common_steps, at_slot, squared, rolls-same, changed-there, update-once, lengths-update, update-costs, changed-away, lengths-elsewhere, squared-elsewhere)

  -- a slot that didn't take each coin in once, after some actions
  rolled-ended : (shapes : ℕ → Option KllShape) (once : ℕ → Bool) (world : World (List ℕ)) (shares : ℕ → List ℕ) (s : ℕ) (shape : Option KllShape) (actions : List (Action A)) →
      AreRolled shapes once world shares →
      takes_once (events_at s actions) shares once s ≡ false →
      RolledBy (changed shapes s shape) once world shares (events_at s actions)
  rolled-ended shapes once world shares s shape actions i ends = grind (arith, common_steps, at_slot, squared, rolls-same, changed-there, rolls-others, changed-away, once-elsewhere, lengths-elsewhere, squared-elsewhere)

  -- a slot that takes a sketch in
  module _ (shapes : ℕ → Option KllShape) (once : ℕ → Bool) (world : World (List ℕ)) (shares : ℕ → List ℕ) (many : AreAsMany shares) (i : AreRolled shapes once world shares)
      (into source : ℕ) (s other : KllShape) (held : shapes into ≡ Some s) (held_other : shapes source ≡ Some other)
      (some : 0 < length (world.slots into)) (same : world.slots source ≡ other.lengths) (shape : Option KllShape) (is : shape ≡ Some (merged_shape s other)) where
    abbrev work : Work (List ℕ)
    work = record { bag = world.slots into; scratch = world.slots source }

    abbrev merging : List (Action A)
    merging = merge_actions s.k work

    abbrev snap : Event A
    snap = Snap source into

    abbrev kept : Bool
    kept = once into && (once source && share_no_coin (shares into) (shares source))

    merged-here : (b : Bool) → kept ≡ b → Rolls shape b (acts_on_lengths merging work).bag (squared (all_shares (snap ∷ events_at into merging) shares into))
    merged-here false e = rolls-others shape _ _
    merged-here true e =
        let a = and_parts (once into) (once source && share_no_coin (shares into) (shares source)) e in
        let b = and_parts (once source) (share_no_coin (shares into) (shares source)) a.1 in
        let its = rolls-in (shapes source) other (once source) _ _ held_other b.0 (i source) in
        rolls-same _ _ _ _ _ _ _ _ is refl refl (merge-costs A source into s.k work shares some many b.1)
        (merged-in A s other (world.slots into) (world.slots source) (squared (shares into)) (squared (shares source)) some same (rolls-in (shapes into) s (once into) _ _ held a.0 (i into)) its)

    rolled-merged : RolledBy (changed shapes into shape) once world shares (snap ∷ events_at into merging)
    rolled-merged =
        let events : List (Event A) = snap ∷ events_at into merging in
        let taken : takes_once events shares once ≡ changed once into kept = merge-once A source into s.k work shares once some in
        at_slot into (λ j. Rolls (changed shapes into shape j) (takes_once events shares once j) ((lengths_by world events).slots j) (squared (all_shares events shares j)))
        (rolls-same _ _ _ _ _ _ _ _ (changed-there shapes into shape) (ap (λ (f : ℕ → Bool). f into) taken ∙ changed-there once into kept)
        (lengths-at into merging (lengths_after snap world)) refl (merged-here kept refl))
        (λ j g. rolls-same _ _ _ _ _ _ _ _ (changed-away shapes into shape j g) (ap (λ (f : ℕ → Bool). f j) taken ∙ changed-away once into kept j g)
        (lengths-elsewhere into j g merging (lengths_after snap world)) (squared-elsewhere into j g merging (shares_after snap shares) ∙ ap squared (changed-away shares into _ j g)) (i j))

-- what accepted commands keep true of shapes, lengths, coins taken in, and a state that changes with them, all commands keep true
module _ {A T : Type 0} (accepted : Plan KllShape → T → Command A ℕ → T) (P : (ℕ → Option KllShape) → World (List ℕ) → T → (ℕ → Bool) → (ℕ → List ℕ) → Type 0)
    (step : (plan : Plan KllShape) → IsSteady (kll_lawful {A = A}) plan → (state : T) (once : ℕ → Bool) (shares : ℕ → List ℕ) → AreAsMany shares → P plan.shapes plan.lengths state once shares →
    (command : Command A ℕ) (t : KllShape) → shape_after kll_rules plan.shapes command ≡ Some t → let events = accepted_events kll_rules plan command in
    P (accepted_shapes kll_rules plan.shapes command) (lengths_by plan.lengths events) (accepted plan state command) (takes_once events shares once) (all_shares events shares)) where
  pub coins-from : (plan : Plan KllShape) → IsSteady (kll_lawful {A = A}) plan → (state : T) (once : ℕ → Bool) (shares : ℕ → List ℕ) → AreAsMany shares → P plan.shapes plan.lengths state once shares →
      (commands : List (Command A ℕ)) → let trace = trace_from kll_rules plan commands in let last = plan_from kll_rules plan commands in
      P last.shapes last.lengths (after_commands kll_rules accepted plan state commands) (takes_once trace shares once) (all_shares trace shares)
  coins-from plan st state once shares many i [] = i
  coins-from plan st state once shares many i (command ∷ rest) =
      let next = plan_after kll_rules plan command in
      let events : List (Event A) = events_of kll_rules plan command in
      let others : List (Event A) = trace_from kll_rules next rest in
      rw (takes_once-append events others shares once, all_shares-append events others shares)
      (coins-from next (steady-after kll_lawful plan st command) _ (takes_once events shares once) (all_shares events shares) (as_many-all events shares many)
      (refused-or-taken kll_rules plan command
      (λ refused shapes events. P shapes (lengths_by plan.lengths events) (if refused then state else accepted plan state command) (takes_once events shares once) (all_shares events shares)) i
      (λ e. let (t, f) = some-there (shape_after kll_rules plan.shapes command) e in step plan st state once shares many i command t f)) rest)

module _ {A : Type 0} where
  -- an accepted command
  accepted-rolled : (plan : Plan KllShape) → IsSteady (kll_lawful {A = A}) plan → (once : ℕ → Bool) (shares : ℕ → List ℕ) → AreAsMany shares → AreRolled plan.shapes once plan.lengths shares →
      (command : Command A ℕ) (t : KllShape) → shape_after kll_rules plan.shapes command ≡ Some t →
      RolledBy (accepted_shapes kll_rules plan.shapes command) once plan.lengths shares (accepted_events kll_rules plan command)
  accepted-rolled plan st once shares many i (New slot k) t e = rolled-clear A plan.shapes once plan.lengths shares slot _ i (grind (arith, common_steps, becomes (nat_lt k 8) _ t _ e e))
  accepted-rolled plan st once shares many i (Reset slot) t e =
      let (s, held, u) = map-there (kll_rules {A = A}).emptied (plan.shapes slot) t e in
      rolled-clear A plan.shapes once plan.lengths shares slot _ i (grind (arith, common_steps, ap (option_map (kll_rules {A = A}).emptied) held))
  accepted-rolled plan st once shares many i (RoundTrip slot) t e = λ j.
      subst (λ (o : Option KllShape). Rolls o (once j) (plan.lengths.slots j) (squared (shares j))) (sym (changed-own plan.shapes slot j)) (i j)
  accepted-rolled plan st once shares many i (Update slot x) t e =
      let ns = plan.lengths.slots slot in
      let (s, held, u) = then-there (kll_rules {A = A}).updated (plan.shapes slot) t e in
      let is = becomes (s.n == 2 ^ 64 - 1) _ t _ u u in
      let some = (st.fits slot s held).0 in
      let mine = rw held at (i slot) in
      rw held
      (rolled-item A plan.shapes once plan.lengths shares slot s.k x _ i some (rolls-same _ _ _ _ _ _ _ _ is refl refl refl (updated-in A s (once slot) ns (squared (shares slot)) x some mine)))
  accepted-rolled plan st once shares many i (UpdateWeighted slot x weight) t e =
      let shapes = plan.shapes in
      let ns = plan.lengths.slots slot in
      let (s, held, u) = then-there (λ shape. (kll_rules {A = A}).updated_weighted shape weight) (shapes slot) t e in
      let shape : Option KllShape = shape_after (kll_rules {A = A}) shapes (UpdateWeighted slot x weight) in
      let is : shape ≡ Some (weighted_shape s weight) = becomes (weight == 0 || nat_lt (2 ^ 61 - 1) weight || nat_lt (2 ^ 64 - 1) (s.n + weight)) _ t shape u e in
      let (some_weight, few) = accepts-weight weight s.n (unless-there (weight == 0 || nat_lt (2 ^ 61 - 1) weight || nat_lt (2 ^ 64 - 1) (s.n + weight)) _ t u).0 in
      let mine : Rolls (Some s) (once slot) ns (squared (shares slot)) = subst (λ (o : Option KllShape). Rolls o (once slot) ns (squared (shares slot))) held (i slot) in
      let P : List (Action A) → Type 0 = λ (actions : List (Action A)). RolledBy (changed shapes slot shape) once plan.lengths shares (events_at slot actions) in
      subst (λ (o : Option KllShape). P (actions_on o (λ shape. weighted_actions shape.k ns x weight))) (sym held) (elim (cases_Bool (weight == 1)) [
        | inl f ↦
            subst (λ (w : ℕ). P (weighted_actions s.k ns x w)) (sym (eqb-true weight 1 f)) (subst P (sym (weight_one s.k ns x))
            (rolled-item A shapes once plan.lengths shares slot s.k x shape i ((st.fits slot s held).0)
            (rolls-same _ _ _ _ _ _ _ _ (is ∙ ap (λ (w : ℕ). Some (weighted_shape s w)) (eqb-true weight 1 f)) refl refl refl (weighted-in A s (once slot) ns (squared (shares slot)) x ((st.fits slot s held).0) mine))))
        | inr f ↦
            rolled-ended A shapes once plan.lengths shares slot shape (weighted_actions s.k ns x weight) i
            (weighted-once slot s.k weight ns x shares once (grind (arith, common_steps, eqb-false weight 1 f)) few)
      ])
  accepted-rolled plan st once shares many i (Merge into source) t e =
      let shape : Option KllShape = shape_after (kll_rules {A = A}) plan.shapes (Merge into source) in
      let either : KllShape → KllShape → Bool → Option KllShape = λ s other b. Some (if b then s else merged_shape s other) in
      merge-either kll_rules false plan into source t e (λ b. RolledBy (changed plan.shapes into shape) once plan.lengths shares) (λ s other held held_other m none j.
      let is : shape ≡ Some s = becomes (nat_lt (2 ^ 64 - 1) (s.n + other.n)) _ t shape m e ∙ ap (either s other) (eq-eqb other.n 0 none) in
      rolls-same _ _ _ _ _ _ _ _ (ap (λ (o : Option KllShape). changed plan.shapes into o j) (is ∙ sym held) ∙ changed-own plan.shapes into j) refl refl refl (i j))
      (λ s other held held_other m some.
      let merged : shape ≡ Some (merged_shape s other) = becomes (nat_lt (2 ^ 64 - 1) (s.n + other.n)) _ t shape m e ∙ ap (either s other) (ne_eqb other.n 0 (λ z. omega (arith, some, z))) in
      rolled-merged A plan.shapes once plan.lengths shares many i into source s other held held_other (st.fits into s held).0 (st.fits source other held_other).1 shape merged)
  accepted-rolled plan st once shares many i (Redraw slot) t e =
      let (s, held, none) = then-there (kll_rules {A = A}).redrawn (plan.shapes slot) t e in absurd (not-none t none)
  accepted-rolled plan st once shares many i (MergeRedrawn into source) t e = grind (arith, common_steps, then-there, not-none)

  -- so a run's slots roll up
  pub run-rolls_up : (commands : List (Command A ℕ)) (slot : ℕ) → SlotRollsUp commands slot
  run-rolls_up commands slot shape e once = rolls-bound ((plan_of kll_rules commands).shapes slot) shape (took_once (trace_of kll_rules commands) slot)
      ((plan_of kll_rules commands).lengths.slots slot) (spread (trace_of kll_rules commands) slot) e once
      (coins-from (λ plan (u : ⊤) command. u) (λ shapes world u once shares. AreRolled shapes once world shares) (λ plan st u. accepted-rolled plan st)
      start_plan (steady-start kll_lawful) tt (λ s. true) (λ s. []) (λ i j. refl) (λ j. tt) commands slot)

-- A KLL slot that took neither another sketch nor an item with a weight took each coin in once, and its least k is its own.

-- a sketch's least k is its own
abbrev HasOwn : KllShape → Type 0
HasOwn shape = shape.min_k ≡ shape.k

-- such slots took each coin in once, and their sketches have their own k as their least
abbrev IsAlone : Bool → Bool → Option KllShape → Type 0
IsAlone alone once shape = alone ≡ true → (once ≡ true) × ((s : KllShape) → shape ≡ Some s → HasOwn s)

abbrev AreAlone : (ℕ → Option KllShape) → (ℕ → Bool) → (ℕ → Bool) → Type 0
AreAlone shapes alone once = (j : ℕ) → IsAlone (alone j) (once j) (shapes j)

-- one slot changes
alone-changed : (shapes : ℕ → Option KllShape) (alone alone' once once' : ℕ → Bool) (slot : ℕ) (o : Option KllShape) (t : KllShape) → AreAlone shapes alone once → o ≡ Some t →
    (alone' slot ≡ true → (once' slot ≡ true) × HasOwn t) → ((j : ℕ) → (j == slot) ≡ false → alone' j ≡ alone j) → ((j : ℕ) → (j == slot) ≡ false → once' j ≡ once j) →
    AreAlone (changed shapes slot o) alone' once'
alone-changed shapes alone alone' once once' slot o t all e here others onces = grind (arith, common_steps, at_slot, some-one, changed-there, changed-away)

-- a slot that isn't alone
not-alone : {B : Type 0} (alone : ℕ → Bool) (slot : ℕ) → changed alone slot false slot ≡ true → B
not-alone alone slot a = absurd (false≢true (sym (changed-there alone slot false) ∙ a))

module _ {A : Type 0} where
  -- an accepted command
  accepted-alone : (plan : Plan KllShape) → IsSteady (kll_lawful {A = A}) plan → (alone once : ℕ → Bool) (shares : ℕ → List ℕ) → AreAsMany shares → AreAlone plan.shapes alone once →
      (command : Command A ℕ) (t : KllShape) → shape_after kll_rules plan.shapes command ≡ Some t →
      AreAlone (accepted_shapes kll_rules plan.shapes command) (accepted_alone plan.shapes alone command) (takes_once (accepted_events kll_rules plan command) shares once)
  accepted-alone plan st alone once shares many all (New slot k) t e = grind (arith, common_steps, alone-changed, changed-there, unless-there, changed-away)
  accepted-alone plan st alone once shares many all (Reset slot) t e = grind (arith, common_steps, map-there, alone-changed, changed-there, changed-away)
  accepted-alone plan st alone once shares many all (RoundTrip slot) t e =
      alone-changed plan.shapes alone alone once once slot _ t all e (λ a. let (taken, own) = all slot a in (taken, own t e)) (λ j n. refl) (λ j n. refl)
  accepted-alone plan st alone once shares many all (Update slot x) t e = grind (arith, common_steps, then-there, update-once, accepted_shapes, alone-changed, unless-there)
  accepted-alone plan st alone once shares many all (UpdateWeighted slot x weight) t e = grind (arith, common_steps, alone-changed, not-alone, changed-away, once-elsewhere)
  accepted-alone plan st alone once shares many all (Merge into source) t e =
      let shapes' = accepted_shapes (kll_rules {A = A}) plan.shapes (Merge into source) in
      merge-either kll_rules false plan into source t e
      (λ (b : Bool) (events : List (Event A)). AreAlone shapes' (if b then alone else changed alone into false) (takes_once events shares once)) (λ s other held held_other m none.
      let same : s ≡ t = ap (λ (b : Bool). if b then s else merged_shape s other) (sym (eq-eqb other.n 0 none)) ∙ (unless-there _ _ t m).1 in
      alone-changed plan.shapes alone alone once once into _ t all e (λ a. let (taken, own) = all into a in (taken, subst HasOwn same (own s held))) (λ j n. refl) (λ j n. refl))
      (λ s other held held_other m some.
      let work : Work (List ℕ) = record { bag = plan.lengths.slots into; scratch = plan.lengths.slots source } in
      alone-changed plan.shapes alone (changed alone into false) once _ into _ t all e (not-alone alone into) (changed-away alone into false)
      (λ j n. ap (λ (f : ℕ → Bool). f j) (merge-once A source into s.k work shares once (st.fits into s held).0) ∙ changed-away once into _ j n))
  accepted-alone plan st alone once shares many all (Redraw slot) t e =
      let (s, held, none) = then-there (kll_rules {A = A}).redrawn (plan.shapes slot) t e in absurd (not-none t none)
  accepted-alone plan st alone once shares many all (MergeRedrawn into source) t e = grind (arith, common_steps, then-there, not-none)

  -- so their spread is small for their own k
  pub run-alone : (commands : List (Command A ℕ)) (slot : ℕ) (shape : KllShape) → (plan_of kll_rules commands).shapes slot ≡ Some shape → took_alone commands slot ≡ true →
      4 * shape.k * spread (trace_of kll_rules commands) slot ≤ shape.n * shape.n
  run-alone commands slot shape e alone =
      let (once, own) = coins-from (λ plan. accepted_alone plan.shapes) (λ shapes world alone once shares. AreAlone shapes alone once) accepted-alone
      start_plan (steady-start kll_lawful) (λ s. true) (λ s. true) (λ s. []) (λ i j. refl) (λ j a. (refl, λ s f. absurd (not-none s f))) commands slot alone in
      subst (λ (k : ℕ). 4 * k * spread (trace_of kll_rules commands) slot ≤ shape.n * shape.n) (own shape e) (run-rolls_up commands slot shape e once).plain

-- How rarely a rollup's rank is far off, from its moments and its small spread.

odd_product-pos : (m : ℕ) → 0 < odd_product m
odd_product-pos zero = omega arith
odd_product-pos (suc m) = let more : 0 < 2 * m + 1 = omega arith in mul-pos more (odd_product-pos m)

pub one-pow : (m : ℕ) → 1 ^ m ≡ 1
one-pow zero = refl
one-pow (suc m) = omega (arith, one-pow m)

-- the arithmetic of powers: of n, k, t and the spread
share_of_words : (one_in count words odds fives n k t spread : ℕ) → one_in * (odds * fives) * n ≤ k * t → count * t ≤ words * (odds * spread) → k * spread ≤ fives * n →
    0 < odds * fives * n → one_in * count ≤ words
share_of_words one_in count words odds fives n k t spread shows few little some = le_of_mul-le-mul_right {k = odds * fives * n}
    (omega (arith, mul-le-mul_left count shows, mul-le-mul_left k few, mul-le-mul_left (words * odds) little)) some

-- at most one word in `one_in` is so far off, if the spread is at most a / b (n / k)^2
pub rare_words : (a b times one_in m n k t spread count words : ℕ) → one_in * (odd_product m * a ^ m) ≤ b ^ m * times ^ (2 * m) → 0 < a → 0 < n →
    times * n ≤ k * t → b * (k * k) * spread ≤ a * (n * n) → count * t ^ (2 * m) ≤ words * (odd_product m * spread ^ m) → one_in * count ≤ words
rare_words a b times one_in m n k t spread count words shows positive some far little few =
    let squares : times * times * (n * n) ≤ k * k * (t * t) = omega (arith, mul-le-mul far far) in
    let powers = mul-le-mul_left (b ^ m) (pow-le-pow_left squares m) in
    share_of_words one_in count words (odd_product m) (a ^ m) ((n * n) ^ m) (b ^ m * (k * k) ^ m) ((t * t) ^ m) (spread ^ m) (omega (
      arith,
      mul-le-mul_right ((n * n) ^ m) shows,
      ap (λ (p : ℕ). b ^ m * p * (n * n) ^ m) (let twice : 2 * m ≡ m + m = omega arith in ap (λ (k : ℕ). times ^ k) twice ∙ (pow-add times m m ∙ sym (mul-pow times times m))),
      powers,
      ap (λ (p : ℕ). b ^ m * p) (mul-pow (times * times) (n * n) m),
      ap (λ (p : ℕ). b ^ m * p) (mul-pow (k * k) (t * t) m),
    )) (omega (arith, few, ap (λ (p : ℕ). count * p) (let twice : 2 * m ≡ m + m = omega arith in ap (λ (k : ℕ). t ^ k) twice ∙ (pow-add t m m ∙ sym (mul-pow t t m)))))
    (omega (arith, pow-le-pow_left little m, mul-pow (b * (k * k)) spread m, ap (λ (p : ℕ). p * spread ^ m) (mul-pow b (k * k) m), mul-pow a (n * n) m))
    (mul-pos (mul-pos (odd_product-pos m) (one-le-pow m a positive)) (one-le-pow m (n * n) (mul-pos some some)))
