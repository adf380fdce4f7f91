-- What each compaction keeps holds along walks and updates. Their events obey the scratch rule, leave tails, and legal layouts stay legal.
use Rattle.std.proofs.Common.{arith, ◌≡◌, ℕ, zero, suc, ◌-◌, Bool, true, cond, if◌then◌else◌, List, [], ◌∷◌, ◌++◌, length, inl, inr, ◌+◌, ◌*◌, ◌/◌, slice_index, refl, sym, ap, ◌∙◌, subst, ◌%◌, ◌≤◌, min, false, ◌&&◌, sum, ap₂, le-leb, Ordering}
use Rattle.std.proofs.lemmas.Grind.{common_steps}
use Rattle.std.proofs.lemmas.Bool.{cases_Bool, cond_both, eq-eqb, or_right}
use Rattle.std.proofs.lemmas.List.{append-nil}
use Rattle.sketch_base.specs.Trace.{Action, Put, Compact, Redraw, Join, Event, Snap, At, Work, World, changed, acts, bag_after, alone, joins_actions, events_at}
use Rattle.sketch_req.specs.Level.{turns_coin, taken_side}
use Rattle.sketch_req.specs.Schedule.{Layout, layout_at, is_full, taken, compact_level, compacted_at, step_layouts, steps_actions, steps_layouts, are_full, actions_if_full, layouts_if_full, put_layouts, update_layouts, counts_of, redraws_from, new_layout, filled, redraw_actions, update_actions, joined_layouts, merge_actions_by, merge_layouts}
use Rattle.sketch_req.specs.ScheduleLaws.{updates_actions, updates_layouts, AreLayouts, tail_side, merge_events, IsLegalFrom}
use Rattle.sketch_req.specs.declared.RankAccuracy.{RankAccuracy}
use Rattle.sketch_req.proofs.relative.Moves.{Move, Gives, Compacts}
use Rattle.std.specs.Prelude.{⊤}
use Rattle.sketch_base.specs.Bag.{Taken, with_level, Bag, AllButLeftover, Lowest, Greatest}
use Rattle.sketch_base.specs.Lengths.{takes, acts_on_lengths, TakesFew, act_on_lengths, lengths_after, bag_lengths, world_lengths, Along, TakesEven, LeavesTail, leaves_after, leaves_at_least}
use Rattle.sketch_req.specs.Sections.{IsLegalK}
use Rattle.sketch_req.proofs.layouts.Layouts.{gives, count-layout_at, layout_is, compacted_are, counts-compacted, counts-with_level, filled_are, joined_are}
use Rattle.std.proofs.lemmas.List.Sums.{sum_by-cons}
use Rattle.sketch_base.proofs.bags.Acts.{changed-there, changed-itself, changed-twice, lengths_by, obeys, acts_on-append}
use Rattle.sketch_base.proofs.plays.Plays.{lengths-play, play-at}

-- What each compaction keeps holds along walks and updates: of the actions that they give,
-- and of the moves of a query's items that these actions are.

-- the move that a compaction of level h gives
abbrev pub move_at : ℕ → ℕ → List Layout → Move
move_at k h ls =
    let l = layout_at ls h in
    Compacts h (l.count - taken k l) (turns_coin l.state)

-- the moves of the steps of a walk
abbrev pub steps_moves : ℕ → ℕ → ℕ → List Layout → List Move
steps_moves k zero h ls = []
steps_moves k (suc more) h ls = (if is_full k (layout_at ls h) then move_at k h ls ∷ [] else []) ++ steps_moves k more (suc h) (step_layouts k h ls)

-- the moves of a walk, if the levels are full together
abbrev pub room_moves : ℕ → List Layout → List Move
room_moves k ls = if are_full k ls then steps_moves k (length ls) 0 ls else []

-- the moves of some updates, for the items that pass a test
abbrev pub updates_moves : {A : Type 0} → ℕ → (A → Bool) → List Layout → List A → List Move
updates_moves k test ls [] = []
updates_moves k test ls (x ∷ xs) = Gives (cond (test x) 1 0) ∷ (room_moves k (put_layouts ls) ++ updates_moves k test (update_layouts k ls) xs)

-- `Holds` is about layouts, the actions and the moves from there on, and the layouts at the end;
-- it holds before a compaction if it holds after it
module _ {A : Type 0} (k : ℕ) (accuracy : RankAccuracy) (Fits : List Layout → Type 0) (fits-compacted : (h : ℕ) (ls : List Layout) → Fits ls → Fits (compacted_at k h ls))
    (Holds : List Layout → List (Action A) → List Move → List Layout → Type 0)
    (compact : (h : ℕ) (ls after : List Layout) (actions : List (Action A)) (moves : List Move) → Fits ls → is_full k (layout_at ls h) ≡ true →
    Holds (compacted_at k h ls) actions moves after → Holds ls (compact_level k accuracy h ls ∷ actions) (move_at k h ls ∷ moves) after) where
  holds-steps : (more h : ℕ) (ls after : List Layout) (actions : List (Action A)) (moves : List Move) → Fits ls →
      (Fits (steps_layouts k more h ls) → Holds (steps_layouts k more h ls) actions moves after) → Holds ls (steps_actions k accuracy more h ls ++ actions) (steps_moves k more h ls ++ moves) after
  holds-steps zero h ls after actions moves fits go = go fits
  holds-steps (suc more) h ls after actions moves fits go =
      elim (cases_Bool (is_full k (layout_at ls h))) [
        | inl full ↦ rw full (compact h ls after _ _ fits full (holds-steps more (suc h) (compacted_at k h ls) after actions moves (fits-compacted h ls fits) (rw full at go)))
        | inr not_full ↦ rw not_full (holds-steps more (suc h) ls after actions moves fits (rw not_full at go))
      ]

  -- along a walk, if the levels are full together
  pub holds-room : (ls after : List Layout) (actions : List (Action A)) (moves : List Move) → Fits ls →
      (Fits (layouts_if_full k ls) → Holds (layouts_if_full k ls) actions moves after) → Holds ls (actions_if_full k accuracy ls ++ actions) (room_moves k ls ++ moves) after
  holds-room ls after actions moves fits go = grind (arith, common_steps, cases_Bool, holds-steps)

  -- along a walk with nothing after it
  pub holds-walk : ((ls : List Layout) → Fits ls → Holds ls [] [] ls) → (ls : List Layout) → Fits ls → Holds ls (actions_if_full k accuracy ls) (room_moves k ls) (layouts_if_full k ls)
  holds-walk done ls fits = simp append-nil at (holds-room ls (layouts_if_full k ls) [] [] fits (done (layouts_if_full k ls)))

  -- along updates, if it holds before an item comes whenever it holds after it
  pub holds-updates : (test : A → Bool) → ((ls : List Layout) → Fits ls → Fits (put_layouts ls)) →
      ((x : A) (ls after : List Layout) (actions : List (Action A)) (moves : List Move) → Holds (put_layouts ls) actions moves after →
      Holds ls (Put 0 x ∷ actions) (Gives (cond (test x) 1 0) ∷ moves) after) → ((ls : List Layout) → Holds ls [] [] ls) →
      (ls : List Layout) (items : List A) → Fits ls → Holds ls (updates_actions k accuracy ls items) (updates_moves k test ls items) (updates_layouts k ls items)
  holds-updates test fits-put put done ls [] fits = done ls
  holds-updates test fits-put put done ls (x ∷ xs) fits =
      put x ls _ _ _ (holds-room (put_layouts ls) _ _ _ (fits-put ls fits) (λ fits'. holds-updates test fits-put put done (update_layouts k ls) xs fits'))

-- A walk: its compactions take few items, its lengths are the layouts', and legal layouts stay legal.

-- the lengths after a compaction
abbrev pub lengths_after_compact : ℕ → Taken → List ℕ → List ℕ
lengths_after_compact h taken lengths =
    let n = takes taken (slice_index lengths h) in
    with_level 0 (suc h) (λ m. m + n / 2) (with_level 0 h (λ m. slice_index lengths h - n) lengths)

module _ {A : Type 0} (k : ℕ) (accuracy : RankAccuracy) where
  -- compactions, each of few items from the side away from the accurate one, and redraws of coins
  abbrev pub Fits : List (Action A) → List ℕ → Type 0
  Fits [] lengths = ⊤
  Fits (Compact h coin taken ∷ rest) lengths =
      (tail_side accuracy taken ≡ true) × TakesFew (3 * k) taken (slice_index lengths h) × Fits rest (lengths_after_compact h taken lengths)
  Fits (Redraw h ∷ rest) lengths = Fits rest lengths
  Fits (other ∷ rest) lengths = ⊥

  -- actions that fit the lengths of these layouts and turn them into the lengths of other, legal layouts
  pub record Leads (ls : List Layout) (actions : List (Action A)) (after : List Layout) : Type 0 where
    pub fits : Fits actions (counts_of ls)
    pub lengths : (scratch : List ℕ) → acts_on_lengths actions (record { bag = counts_of ls; scratch = scratch }) ≡ record { bag = counts_of after; scratch = scratch }
    pub legal : AreLayouts k after

  pub leads-none : (ls : List Layout) → AreLayouts k ls → Leads ls [] ls
  leads-none ls a = record { fits = tt; lengths = λ scratch. refl; legal = a }

  -- redraws don't change where actions lead
  pub leads-redraws : (h : ℕ) (drawn ls after : List Layout) (rest : List (Action A)) → Leads ls rest after → Leads ls (redraws_from h drawn ++ rest) after
  leads-redraws h [] ls after rest r = r
  leads-redraws h (layout ∷ above) ls after rest r = grind (arith, common_steps, leads-redraws (suc h) above ls after rest r)

  leads-compact : IsLegalK k → (h : ℕ) (ls after : List Layout) (rest : List (Action A)) → AreLayouts k ls → is_full k (layout_at ls h) ≡ true →
      Leads (compacted_at k h ls) rest after → Leads ls (compact_level k accuracy h ls ∷ rest) after
  leads-compact legal h ls after rest a e r =
      let l = layout_at ls h in
      let side = taken_side accuracy (taken k l) in
      let g = gives k legal accuracy l (layout_is k legal h ls a) e in
      let c = counts-compacted k legal A accuracy h ls in
      record {
        fits = (g.side, subst (λ (n : ℕ). TakesFew (3 * k) side n) (sym (count-layout_at h ls)) g.few, subst (Fits rest) (sym (c [] a e)) r.fits);
        lengths = λ scratch.
            ap (λ (bag : List ℕ). acts_on_lengths rest (record { bag = bag; scratch = scratch })) (c scratch a e) ∙ r.lengths scratch;
        legal = r.legal;
      }

  -- a walk, if the levels are full together, leads to its layouts
  pub room_leads : IsLegalK k → (ls : List Layout) → AreLayouts k ls → Leads ls (actions_if_full k accuracy ls) (layouts_if_full k ls)
  room_leads legal =
      holds-walk k accuracy (AreLayouts k) (compacted_are k legal) (λ ls actions _ after. Leads ls actions after)
      (λ h ls after actions _ a full r. leads-compact legal h ls after actions a full r) leads-none

-- The events of updates and merges in a world of level lengths: they obey the scratch rule, leave tails,
-- and lead to the layouts' lengths.

-- the world with other lengths in a slot and in the scratch
abbrev pub put_in : World (List ℕ) → ℕ → Work (List ℕ) → World (List ℕ)
put_in world s work = record { slots = changed world.slots s work.bag; scratch = work.scratch; target = world.target }

-- if few items are taken, their number is even, and at least `stay` items stay
pub takes-few : (stay : ℕ) (taken : Taken) (n : ℕ) → TakesFew stay taken n → (takes taken n % 2 ≡ 0) × (stay + takes taken n ≤ n)
takes-few stay AllButLeftover n few = absurd few
takes-few stay (Lowest count) n few = let e : min count n ≡ count = omega (arith, few.2) in rw e (few.1, few.2)
takes-few stay (Greatest count) n few = let e : min count n ≡ count = omega (arith, few.2) in rw e (few.1, few.2)

and-true : (a b c : Bool) → b ≡ true → c ≡ true → (a && (b && c)) ≡ a
and-true true b c e f = ap₂ (λ (x y : Bool). x && y) e f
and-true false b c e f = refl

module _ {A : Type 0} where
  pub lengths_at : (actions : List (Action A)) (world : World (List ℕ)) (s : ℕ) →
      lengths_by world (events_at s actions) ≡ put_in world s (acts_on_lengths actions (record { bag = world.slots s; scratch = world.scratch }))
  lengths_at [] world s = ap (λ (slots : ℕ → List ℕ). let w : World (List ℕ) = record { slots = slots; scratch = world.scratch; target = world.target } in w) (sym (changed-itself world.slots s))
  lengths_at (action ∷ rest) world s =
      let next : Work (List ℕ) = act_on_lengths action (record { bag = world.slots s; scratch = world.scratch }) in
      rw (changed-there world.slots s next.bag, changed-twice world.slots s next.bag (acts_on_lengths rest next).bag) at (lengths_at rest (put_in world s next) s)

  -- the events of two lists of actions
  pub at-append : (s : ℕ) (xs ys : List (Action A)) → events_at s (xs ++ ys) ≡ events_at s xs ++ events_at s ys
  at-append s [] ys = refl
  at-append s (x ∷ xs) ys = ap (λ (l : List (Event A)). At s x ∷ l) (at-append s xs ys)

  -- one trace after another
  pub legal-append : (k : ℕ → ℕ) (xs ys : List (Event A)) (world : World (List ℕ)) → IsLegalFrom k xs world → IsLegalFrom k ys (lengths_by world xs) → IsLegalFrom k (xs ++ ys) world
  legal-append k [] ys world f g = g
  legal-append k (e ∷ xs) ys world f g = grind (arith, common_steps, legal-append k xs ys (lengths_after e world) (record { scratch = f.scratch.1; sizes = f.sizes.1 }) g)

  pub leaves-append : (side : Taken → Bool) (m : ℕ) (xs ys : List (Event A)) (world : World (List ℕ)) (leaves : ℕ → Bool) →
      leaves_at_least side m (xs ++ ys) world leaves ≡ leaves_at_least side m ys (lengths_by world xs) (leaves_at_least side m xs world leaves)
  leaves-append side m [] ys world leaves = refl
  leaves-append side m (e ∷ xs) ys world leaves = leaves-append side m xs ys (lengths_after e world) (leaves_after side m e world leaves)

  even-leaves : (k : ℕ → ℕ) (e : Event A) (world : World (List ℕ)) → LeavesTail k e world → TakesEven e world
  even-leaves k (At s (Compact h coin taken)) world f = (takes-few (3 * k s) taken (slice_index (world.slots s) h) f).0
  even-leaves k other world f = tt

  -- what follows for each event follows along a trace
  along-each : {P Q : Event A → World (List ℕ) → Type 0} → ((e : Event A) (world : World (List ℕ)) → P e world → Q e world) →
      (trace : List (Event A)) (world : World (List ℕ)) → Along P trace world → Along Q trace world
  along-each each [] world f = tt
  along-each each (e ∷ es) world f = (each e world f.0, along-each each es (lengths_after e world) f.1)

  -- so a trace that leaves tails takes even numbers
  pub along-even : (k : ℕ → ℕ) (trace : List (Event A)) (world : World (List ℕ)) → Along (LeavesTail k) trace world → Along TakesEven trace world
  along-even k = along-each (even-leaves k)

  -- actions that fit the lengths of a slot are legal in any world whose slot has these lengths
  pub fits-legal : (k : ℕ → ℕ) (accuracy : RankAccuracy) (actions : List (Action A)) (s : ℕ) (lengths : List ℕ) (world : World (List ℕ)) → Fits (k s) accuracy actions lengths →
      world.slots s ≡ lengths → sum world.scratch ≡ 0 → IsLegalFrom k (events_at s actions) world
  fits-legal k accuracy [] s lengths world f e z = record { scratch = z; sizes = tt }
  fits-legal k accuracy (Compact h coin taken ∷ rest) s lengths world f e z =
      let e' = changed-there world.slots s _ ∙ ap (lengths_after_compact h taken) e in
      let r = fits-legal k accuracy rest s (lengths_after_compact h taken lengths) (lengths_after {A = A} (At s (Compact h coin taken)) world) f.2 e' z in
      record { scratch = (obeys (sum world.scratch) _ z, r.scratch); sizes = (rw e f.1, r.sizes) }
  fits-legal k accuracy (Redraw h ∷ rest) s lengths world f e z = grind (arith, common_steps, changed-there, obeys, fits-legal k accuracy rest s lengths (lengths_after {A = A} (At s (Redraw h)) world) f (changed-there world.slots s _ ∙ e) z)
  fits-legal k accuracy (other ∷ rest) s lengths world f e z = absurd f

  fits-leaves : (k t : ℕ) (accuracy : RankAccuracy) (actions : List (Action A)) (s : ℕ) (lengths : List ℕ) (world : World (List ℕ)) (leaves : ℕ → Bool) → t ≤ k →
      Fits k accuracy actions lengths → world.slots s ≡ lengths → leaves_at_least (tail_side accuracy) (3 * t) (events_at s actions) world leaves ≡ leaves
  fits-leaves k t accuracy [] s lengths world leaves le f e = refl
  fits-leaves k t accuracy (Compact h coin taken ∷ rest) s lengths world leaves le f e =
      let after = lengths_after {A = A} (At s (Compact h coin taken)) world in
      let e' = changed-there world.slots s _ ∙ ap (lengths_after_compact h taken) e in
      let n : ℕ = slice_index (world.slots s) h in
      let few = takes-few (3 * k) taken n (rw e f.1) in
      let same : leaves_after {A = A} (tail_side accuracy) (3 * t) (At s (Compact h coin taken)) world leaves ≡ leaves =
      ap (changed leaves s) (and-true (leaves s) _ _ f.0 (le-leb (3 * t + takes taken n) n (omega (arith, few, le)))) ∙ changed-itself leaves s in
      ap (leaves_at_least (tail_side accuracy) (3 * t) (events_at s rest) after) same ∙ fits-leaves k t accuracy rest s (lengths_after_compact h taken lengths) after leaves le f.2 e'
  fits-leaves k t accuracy (Redraw h ∷ rest) s lengths world leaves le f e =
      fits-leaves k t accuracy rest s lengths (lengths_after {A = A} (At s (Redraw h)) world) leaves le f (changed-there world.slots s _ ∙ e)
  fits-leaves k t accuracy (other ∷ rest) s lengths world leaves le f e = absurd f

-- ---- joins

module _ (A : Type 0) where
  abbrev joined_by : ℕ → ℕ → List ℕ → List ℕ → Work (List ℕ)
  joined_by more h bag scratch = acts_on_lengths {A = A} (joins_actions more h) (record { bag = bag; scratch = scratch })

  joins-shift : (more h b m : ℕ) (bag scratch : List ℕ) → joined_by more (suc h) (b ∷ bag) (m ∷ scratch)
      ≡ record { bag = b ∷ (joined_by more h bag scratch).bag; scratch = m ∷ (joined_by more h bag scratch).scratch }
  joins-shift zero h b m bag scratch = refl
  joins-shift (suc more) h b m bag scratch =
      let next : Work (List ℕ) = act_on_lengths {A = A} (Join h) (record { bag = bag; scratch = scratch }) in
      joins-shift more (suc h) b m next.bag next.scratch

  pub record JoinsAre (k : ℕ) (ls others : List Layout) (after : Work (List ℕ)) : Type 0 where
    pub bag : after.bag ≡ counts_of (joined_layouts k ls others)
    pub empty : sum after.scratch ≡ 0

  -- after the first join
  joins_next : (k : ℕ) (l : Layout) (ls : List Layout) (m : Layout) (ms : List Layout) → JoinsAre k ls ms (joined_by (length ms) 0 (counts_of ls) (counts_of ms)) →
      let after = joined_by (length ms) 1 ((l.count + m.count) ∷ counts_of ls) (0 ∷ counts_of ms) in
      (after.bag ≡ counts_of (joined_layouts k (l ∷ ls) (m ∷ ms))) × (sum after.scratch ≡ 0)
  joins_next k l ls m ms are = grind (arith, common_steps, joins-shift, sum_by-cons)

  joins_are : (k : ℕ) (ls others : List Layout) → JoinsAre k ls others (joined_by (length others) 0 (counts_of ls) (counts_of others))
  joins_are k ls [] = record { bag = refl; empty = refl }
  joins_are k [] (m ∷ ms) = let next = joins_next k new_layout [] m ms (joins_are k [] ms) in record { bag = next.0; empty = next.1 }
  joins_are k (l ∷ ls) (m ∷ ms) = let next = joins_next k l ls m ms (joins_are k ls ms) in record { bag = next.0; empty = next.1 }

  joins-legal : (k : ℕ → ℕ) (more h s : ℕ) (world : World (List ℕ)) → world.target ≡ s → sum (joined_by more h (world.slots s) world.scratch).scratch ≡ 0 →
      IsLegalFrom {A = A} k (events_at s (joins_actions more h)) world
  joins-legal k zero h s world t z = record { scratch = z; sizes = tt }
  joins-legal k (suc more) h s world t z =
      let next : Work (List ℕ) = act_on_lengths {A = A} (Join h) (record { bag = world.slots s; scratch = world.scratch }) in
      let z' : sum (joined_by more (suc h) (changed world.slots s next.bag s) next.scratch).scratch ≡ 0 =
      ap (λ (b : List ℕ). sum (joined_by more (suc h) b next.scratch).scratch) (changed-there world.slots s next.bag) ∙ z in
      let r = joins-legal k more (suc h) s (put_in world s next) t z' in
      record { scratch = (or_right _ _ (eq-eqb s world.target (sym t)), r.scratch); sizes = (tt, r.sizes) }

  joins-leave : (side : Taken → Bool) (m more h s : ℕ) (world : World (List ℕ)) (leaves : ℕ → Bool) → leaves_at_least {A = A} side m (events_at s (joins_actions more h)) world leaves ≡ leaves
  joins-leave side m zero h s world leaves = refl
  joins-leave side m (suc more) h s world leaves =
      joins-leave side m more (suc h) s (put_in world s (act_on_lengths {A = A} (Join h) (record { bag = world.slots s; scratch = world.scratch }))) leaves

  -- the world after the Joins of a merge
  pub record JoinedAre (k : ℕ) (ls others : List Layout) (s : ℕ) (world : World (List ℕ)) : Type 0 where
    pub slot : world.slots s ≡ counts_of (joined_layouts k ls others)
    pub empty : sum world.scratch ≡ 0

  joined_world : (k : ℕ) (ls others : List Layout) (s : ℕ) (world : World (List ℕ)) → world.slots s ≡ counts_of ls → world.scratch ≡ counts_of others →
      JoinsAre k ls others (joined_by (length others) 0 (world.slots s) world.scratch)
  joined_world k ls others s world e c = rw (e, c) (joins_are k ls others)

  joined_after : (k : ℕ) (ls others : List Layout) (s : ℕ) (world : World (List ℕ)) → world.slots s ≡ counts_of ls → world.scratch ≡ counts_of others →
      JoinedAre k ls others s (lengths_by {A = A} world (events_at s (joins_actions (length others) 0)))
  joined_after k ls others s world e c =
      let j = joined_world k ls others s world e c in
      rw (lengths_at {A = A} (joins_actions (length others) 0) world s) (record { slot = changed-there world.slots s _ ∙ j.bag; empty = j.empty })

  -- ---- updates and merges

  put-counts : (ls : List Layout) → with_level 0 0 (λ m. m + 1) (counts_of ls) ≡ counts_of (put_layouts ls)
  put-counts ls = sym (counts-with_level 0 (filled 1) (λ m. m + 1) ls refl)

  -- the events of an update are legal
  pub update_legal : (k : ℕ → ℕ) (accuracy : RankAccuracy) (slot : ℕ) (ls : List Layout) (x : A) (world : World (List ℕ)) → IsLegalK (k slot) → AreLayouts (k slot) ls →
      world.slots slot ≡ counts_of ls → sum world.scratch ≡ 0 → IsLegalFrom k (events_at slot (update_actions (k slot) accuracy ls x)) world
  update_legal k accuracy slot ls x world l a e z =
      let r = room_leads {A = A} (k slot) accuracy l (put_layouts ls) (filled_are (k slot) l 0 1 ls a) in
      let e' = changed-there world.slots slot _ ∙ (ap (with_level 0 0 (λ m. m + 1)) e ∙ put-counts ls) in
      let f = fits-legal k accuracy (actions_if_full (k slot) accuracy (put_layouts ls)) slot (counts_of (put_layouts ls)) (lengths_after (At slot (Put 0 x)) world) r.fits e' z in
      record { scratch = (obeys (sum world.scratch) _ z, f.scratch); sizes = (tt, f.sizes) }

  -- they leave the tail alone
  pub update_leaves : (k t : ℕ) (accuracy : RankAccuracy) (slot : ℕ) (ls : List Layout) (x : A) (world : World (List ℕ)) (leaves : ℕ → Bool) → IsLegalK k → AreLayouts k ls →
      world.slots slot ≡ counts_of ls → t ≤ k →
      leaves_at_least (tail_side accuracy) (3 * t) (events_at slot (update_actions k accuracy ls x)) world leaves ≡ leaves
  update_leaves k t accuracy slot ls x world leaves l a e le =
      let r = room_leads {A = A} k accuracy l (put_layouts ls) (filled_are k l 0 1 ls a) in
      let e' = changed-there world.slots slot _ ∙ (ap (with_level 0 0 (λ m. m + 1)) e ∙ put-counts ls) in
      fits-leaves k t accuracy (actions_if_full k accuracy (put_layouts ls)) slot (counts_of (put_layouts ls)) (lengths_after (At slot (Put 0 x)) world) leaves le r.fits e'

  -- what an update does to lengths
  pub update_lengths : (k : ℕ) (accuracy : RankAccuracy) (ls : List Layout) (x : A) (scratch : List ℕ) → IsLegalK k → AreLayouts k ls →
      acts_on_lengths (update_actions k accuracy ls x) (record { bag = counts_of ls; scratch = scratch }) ≡ record { bag = counts_of (update_layouts k ls); scratch = scratch }
  update_lengths k accuracy ls x scratch l a =
      let r = room_leads {A = A} k accuracy l (put_layouts ls) (filled_are k l 0 1 ls a) in
      ap (λ (bag : List ℕ). acts_on_lengths (actions_if_full {A = A} k accuracy (put_layouts ls)) (record { bag = bag; scratch = scratch })) (put-counts ls) ∙ r.lengths scratch

  -- the Joins of a merge, and then actions that lead on from the joined layouts
  abbrev pub joined_events : (source target : ℕ) → List Layout → List (Action A) → List (Event A)
  joined_events source target others rest = Snap source target ∷ events_at target (joins_actions (length others) 0 ++ rest)

  pub joined_legal : (k : ℕ → ℕ) (accuracy : RankAccuracy) (source target : ℕ) (ls others : List Layout) (rest : List (Action A)) (after : List Layout) (world : World (List ℕ)) →
      Leads (k target) accuracy (joined_layouts (k target) ls others) rest after →
      world.slots target ≡ counts_of ls → world.slots source ≡ counts_of others → sum world.scratch ≡ 0 → IsLegalFrom k (joined_events source target others rest) world
  joined_legal k accuracy source target ls others rest after world r e c z =
      let snapped : World (List ℕ) = lengths_after {A = A} (Snap source target) world in
      let joins : List (Action A) = joins_actions (length others) 0 in
      let j = joined_world (k target) ls others target snapped e c in
      let w = joined_after (k target) ls others target snapped e c in
      let all : IsLegalFrom k (events_at target (joins ++ rest)) snapped =
      rw (at-append target joins rest) (legal-append k (events_at target joins) (events_at target rest) snapped
      (joins-legal k (length others) 0 target snapped refl j.empty)
      (fits-legal k accuracy rest target (counts_of (joined_layouts (k target) ls others)) (lengths_by snapped (events_at target joins)) r.fits w.slot w.empty)) in
      record { scratch = (obeys (sum world.scratch) _ z, all.scratch); sizes = (tt, all.sizes) }

  -- what comes after the joins of a merge
  abbrev behind : (redraws : Bool) → ℕ → RankAccuracy → List Layout → List (Action A)
  behind redraws k accuracy joined = if redraws then redraw_actions joined ++ actions_if_full k accuracy joined else actions_if_full k accuracy joined

  -- a merge joins levels and goes on from them
  merge_is : (redraws : Bool) (k : ℕ) (accuracy : RankAccuracy) (ls others : List Layout) → merge_actions_by {A = A} redraws k accuracy ls others ≡
      joins_actions (length others) 0 ++ behind redraws k accuracy (joined_layouts k ls others)
  merge_is true k accuracy ls others = refl
  merge_is false k accuracy ls others = refl

  -- redraws after the joins, if there are any, and the walk lead to the layouts of a merge
  merge-leads : (redraws : Bool) (k : ℕ) (accuracy : RankAccuracy) (ls others : List Layout) → IsLegalK k → AreLayouts k ls →
      Leads k accuracy (joined_layouts k ls others) (behind redraws k accuracy (joined_layouts k ls others)) (merge_layouts k ls others)
  merge-leads redraws k accuracy ls others l a =
      let joined = joined_layouts k ls others in
      let room = room_leads {A = A} k accuracy l joined (joined_are k l ls others a) in
      cond_both redraws _ _ (λ (actions : List (Action A)). Leads k accuracy joined actions (merge_layouts k ls others))
      (λ e. leads-redraws k accuracy 0 joined joined (merge_layouts k ls others) (actions_if_full k accuracy joined) room) (λ e. room)

  -- the events of a merge are legal
  pub merge_legal : (redraws : Bool) (k : ℕ → ℕ) (accuracy : RankAccuracy) (source target : ℕ) (ls others : List Layout) (world : World (List ℕ)) → IsLegalK (k target) → AreLayouts (k target) ls →
      world.slots target ≡ counts_of ls → world.slots source ≡ counts_of others → sum world.scratch ≡ 0 → IsLegalFrom {A = A} k (merge_events redraws (k target) accuracy source target ls others) world
  merge_legal redraws k accuracy source target ls others world l a e c z =
      rw (merge_is redraws (k target) accuracy ls others) (joined_legal k accuracy source target ls others _ _ world (merge-leads redraws (k target) accuracy ls others l a) e c z)

  pub joined_leaves : (k t : ℕ) (accuracy : RankAccuracy) (source target : ℕ) (ls others : List Layout) (rest : List (Action A)) (after : List Layout) (world : World (List ℕ)) (leaves : ℕ → Bool) →
      Leads k accuracy (joined_layouts k ls others) rest after → world.slots target ≡ counts_of ls → world.slots source ≡ counts_of others → t ≤ k →
      leaves_at_least (tail_side accuracy) (3 * t) (joined_events source target others rest) world leaves ≡ changed leaves target (leaves target && leaves source)
  joined_leaves k t accuracy source target ls others rest after world leaves r e c le = grind (arith, common_steps, joined_after, at-append, leaves-append, lengths_by, joins-leave, fits-leaves)

  -- the merged slot leaves its tail if both slots did
  pub merge_leaves : (redraws : Bool) (k t : ℕ) (accuracy : RankAccuracy) (source target : ℕ) (ls others : List Layout) (world : World (List ℕ)) (leaves : ℕ → Bool) → IsLegalK k → AreLayouts k ls →
      world.slots target ≡ counts_of ls → world.slots source ≡ counts_of others → t ≤ k →
      leaves_at_least {A = A} (tail_side accuracy) (3 * t) (merge_events redraws k accuracy source target ls others) world leaves ≡ changed leaves target (leaves target && leaves source)
  merge_leaves redraws k t accuracy source target ls others world leaves l a e c le =
      rw (merge_is redraws k accuracy ls others) (joined_leaves k t accuracy source target ls others _ _ world leaves (merge-leads redraws k accuracy ls others l a) e c le)

  pub joined_lengths : (k : ℕ) (accuracy : RankAccuracy) (ls others : List Layout) (rest : List (Action A)) (after : List Layout) → Leads k accuracy (joined_layouts k ls others) rest after →
      (acts_on_lengths (joins_actions (length others) 0 ++ rest) (record { bag = counts_of ls; scratch = counts_of others })).bag ≡ counts_of after
  joined_lengths k accuracy ls others rest after r = grind (arith, common_steps, joins_are, acts_on-append)

  -- the lengths of the levels after the joins of a merge, and after the whole of it
  pub merge_lengths : (redraws : Bool) (k : ℕ) (accuracy : RankAccuracy) (ls others : List Layout) → IsLegalK k → AreLayouts k ls → JoinsAre k ls others (joined_by (length others) 0 (counts_of ls) (counts_of others))
      × ((acts_on_lengths {A = A} (merge_actions_by redraws k accuracy ls others) (record { bag = counts_of ls; scratch = counts_of others })).bag ≡ counts_of (merge_layouts k ls others))
  merge_lengths redraws k accuracy ls others l a = (
    joins_are k ls others,
    rw (merge_is redraws k accuracy ls others) (joined_lengths k accuracy ls others _ _ (merge-leads redraws k accuracy ls others l a)),
  )

-- ---- the lengths of bags

module _ {A : Type 0} (cmp : A → A → Ordering) where
  -- the work on slot 0
  abbrev work_at : World (Bag A) → Work (Bag A)
  work_at world = record { bag = world.slots 0; scratch = world.scratch }

  -- the lengths of a bag after actions whose compactions take an even number
  lengths-acted : (actions : List (Action A)) (word : List Bool) (world : World (Bag A)) → Along TakesEven (events_at 0 actions) (world_lengths world) →
      bag_lengths (acts cmp actions word (work_at world)).bag ≡ (acts_on_lengths actions (record { bag = bag_lengths (world.slots 0); scratch = bag_lengths world.scratch })).bag
  lengths-acted actions word world evens =
      let played = ap (λ (w : World (Bag A)). bag_lengths (w.slots 0)) (play-at cmp actions word world 0) in
      let counted = ap (λ (w : World (List ℕ)). w.slots 0) (lengths-play cmp (events_at 0 actions) word world evens) in
      let acted = ap (λ (w : World (List ℕ)). w.slots 0) (lengths_at actions (world_lengths world) 0) in
      sym played ∙ (counted ∙ acted)

  -- the lengths of a bag after an update
  pub update_bag_lengths : (k : ℕ) (accuracy : RankAccuracy) (ls : List Layout) (x : A) (word : List Bool) (bag : Bag A) → IsLegalK k → AreLayouts k ls → bag_lengths bag ≡ counts_of ls →
      bag_lengths (bag_after cmp (update_actions k accuracy ls x) word bag) ≡ counts_of (update_layouts k ls)
  update_bag_lengths k accuracy ls x word bag l a e =
      let world : World (Bag A) = record { slots = λ s. bag; scratch = (alone bag).scratch; target = 0 } in
      let legal = update_legal A (λ s. k) accuracy 0 ls x (world_lengths world) l a e refl in
      lengths-acted (update_actions k accuracy ls x) word world (along-even (λ s. k) (events_at 0 (update_actions k accuracy ls x)) (world_lengths world) legal.sizes)
      ∙ (ap (λ (ns : List ℕ). (acts_on_lengths (update_actions k accuracy ls x) (record { bag = ns; scratch = bag_lengths world.scratch })).bag) e
      ∙ ap (λ (w : Work (List ℕ)). w.bag) (update_lengths A k accuracy ls x (bag_lengths world.scratch) l a))

  -- the lengths of a bag after a merge
  pub merge_bag_lengths : (redraws : Bool) (k : ℕ) (accuracy : RankAccuracy) (ls others : List Layout) (word : List Bool) (work : Work (Bag A)) → IsLegalK k → AreLayouts k ls →
      bag_lengths work.bag ≡ counts_of ls → bag_lengths work.scratch ≡ counts_of others →
      bag_lengths (acts cmp (merge_actions_by redraws k accuracy ls others) word work).bag ≡ counts_of (merge_layouts k ls others)
  merge_bag_lengths redraws k accuracy ls others word work l a e c =
      let slots : ℕ → Bag A = changed (λ s. work.bag) 1 work.scratch in
      let before : World (Bag A) = record { slots = slots; scratch = (alone work.bag).scratch; target = 0 } in
      let world : World (Bag A) = record { slots = slots; scratch = work.scratch; target = 0 } in
      let legal = merge_legal A redraws (λ s. k) accuracy 1 0 ls others (world_lengths before) l a e c refl in
      let actions : List (Action A) = merge_actions_by redraws k accuracy ls others in
      lengths-acted actions word world (along-even (λ s. k) (events_at 0 actions) (world_lengths world) legal.sizes.1)
      ∙ (ap₂ (λ (ns ms : List ℕ). (acts_on_lengths actions (record { bag = ns; scratch = ms })).bag) e c
      ∙ (merge_lengths A redraws k accuracy ls others l a).1)
