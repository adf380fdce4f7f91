-- If each level at an odd state has drawn a coin, walks turn only drawn coins, and leave it so.
use Rattle.std.proofs.Common.{arith, ◌≡◌, ◌≢◌, ℕ, suc, ◌/◌, ◌%◌, Bool, true, false, not, ◌==◌, if◌then◌else◌, List, ◌∷◌, ◌++◌, refl, sym, ap, ◌∙◌, inl, inr, zero, ◌+◌, [], length}
use Rattle.std.proofs.lemmas.Grind.{common_steps}
use Rattle.std.specs.Prelude.{⊤}
use Rattle.std.proofs.lemmas.Bool.{cases_Bool, cases_eq, false≢true, or_right}
use Rattle.sketch_base.specs.Bag.{Taken, with_level}
use Rattle.sketch_base.specs.Trace.{Put, Compact, Fresh, Turned, Event, At, changed, is_req, events_at, Action, Redraw, joins_actions}
use Rattle.sketch_base.proofs.bags.Acts.{changed-there, changed-other}
use Rattle.sketch_req.specs.Level.{taken_side, turns_coin}
use Rattle.sketch_req.specs.Schedule.{Layout, new_layout, layout_at, taken, compacted, filled, compact_level, compacted_at, actions_if_full, layouts_if_full, put_layouts, update_actions, update_layouts, joined_layouts, redraws_from, redraw_actions, merge_redrawn_actions, merge_layouts}
use Rattle.sketch_req.specs.ScheduleLaws.{AreDrawn}
use Rattle.sketch_req.specs.declared.RankAccuracy.{RankAccuracy}
use Rattle.sketch_req.specs.declared.RankAccuracy.TheVariants.{HighRank, LowRank}
use Rattle.sketch_req.proofs.layouts.Layouts.{layout-other, empty-layout}
use Rattle.sketch_req.proofs.walks.Walks.{layout-same}
use Rattle.sketch_req.proofs.plays.Legal.{holds-walk}
use Rattle.std.proofs.lemmas.List.{append-nil}
use Rattle.sketch_base.specs.Fair.{reaches, is_fair}
use Rattle.sketch_req.specs.Walk.{AreOwn}

-- If each level at an odd state has drawn a coin, walks turn only drawn coins, and leave it so.

-- ---- states

-- a level without its items: its state and its doublings
abbrev pub emptied : Layout → Layout
emptied l = record l { count = 0 }

-- a level that is filled keeps both
pub emptied-filled : (h n : ℕ) (ls : List Layout) (j : ℕ) → emptied (layout_at (with_level new_layout h (filled n) ls) j) ≡ emptied (layout_at ls j)
emptied-filled h n ls j = grind (arith, common_steps, cases_eq, layout-same, layout-other)

-- so does each level except the one that is compacted
pub emptied-other : (k h : ℕ) (ls : List Layout) (j : ℕ) → j ≢ h → emptied (layout_at (compacted_at k h ls) j) ≡ emptied (layout_at ls j)
emptied-other k h ls j other =
    emptied-filled (suc h) (taken k (layout_at ls h) / 2) (with_level new_layout h (compacted k) ls) j ∙ ap emptied (layout-other h j (compacted k) ls other)

-- if the compacted level has drawn a coin, each level that turns its coin has still drawn one
drawn_compacted : (k h : ℕ) (ls : List Layout) (drawn : ℕ → Bool) → AreDrawn ls drawn → drawn h ≡ true → AreDrawn (compacted_at k h ls) drawn
drawn_compacted k h ls drawn a e j p = grind (arith, common_steps, cases_eq, emptied-other)

drawn_put : (ls : List Layout) (drawn : ℕ → Bool) → AreDrawn ls drawn → AreDrawn (put_layouts ls) drawn
drawn_put ls drawn a j p = a j (ap (λ (l : Layout). turns_coin l.state) (sym (emptied-filled 0 1 ls j)) ∙ p)

-- ---- traces

-- what was drawn stays drawn
abbrev pub Rises : (ℕ → ℕ → Bool) → (ℕ → ℕ → Bool) → Type 0
Rises drawn more = (s h : ℕ) → drawn s h ≡ true → more s h ≡ true

-- one more level has drawn a coin
abbrev pub with_drawn : (ℕ → ℕ → Bool) → ℕ → ℕ → ℕ → ℕ → Bool
with_drawn drawn s h = changed drawn s (changed (drawn s) h true)

if-true : (b c : Bool) → c ≡ true → (if b then true else c) ≡ true
if-true true c e = refl
if-true false c e = e

-- what was drawn before stays drawn
pub rises-with : (drawn : ℕ → ℕ → Bool) (s h : ℕ) → Rises drawn (with_drawn drawn s h)
rises-with drawn s h t j e = grind (arith, common_steps, cases_eq, changed-there, if-true, changed-other)

-- that level has drawn one
pub drawn-there : (drawn : ℕ → ℕ → Bool) (s h : ℕ) → with_drawn drawn s h s h ≡ true
drawn-there drawn s h = ap (λ (f : ℕ → Bool). f h) (changed-there drawn s (changed (drawn s) h true)) ∙ changed-there (drawn s) h true

-- the side that is taken is REQ's
pub takes_req : (accuracy : RankAccuracy) (n : ℕ) → is_req (taken_side accuracy n) ≡ true
takes_req HighRank n = refl
takes_req LowRank n = refl

-- a property of traces, given what was drawn before them, that stays when an action of an update on the slot is put in front:
-- a put, a compaction by a coin that it draws, or one that turns a coin that was drawn
pub record HoldsByDrawn {A : Type 0} (s : ℕ) (Holds : List (Event A) → (ℕ → ℕ → Bool) → Type 0) : Type 0 where
  pub put : (x : A) (es : List (Event A)) (drawn : ℕ → ℕ → Bool) → Holds es drawn → Holds (At s (Put 0 x) ∷ es) drawn
  pub fresh : (h : ℕ) (taken : Taken) (es : List (Event A)) (drawn : ℕ → ℕ → Bool) → is_req taken ≡ true → Holds es (with_drawn drawn s h) → Holds (At s (Compact h Fresh taken) ∷ es) drawn
  pub turned : (h : ℕ) (taken : Taken) (es : List (Event A)) (drawn : ℕ → ℕ → Bool) → is_req taken ≡ true → drawn s h ≡ true → Holds es drawn → Holds (At s (Compact h Turned taken) ∷ es) drawn

module _ {A : Type 0} (Holds : List (Event A) → (ℕ → ℕ → Bool) → Type 0) (k : ℕ) (accuracy : RankAccuracy) (s : ℕ) (by_drawn : HoldsByDrawn s Holds) (rest : List (Event A)) where
  -- it holds of what comes after, whatever was drawn since
  abbrev pub Goes : List Layout → (ℕ → ℕ → Bool) → Type 0
  Goes after drawn = (more : ℕ → ℕ → Bool) → Rises drawn more → AreDrawn after (more s) → Holds rest more

  by-compact : (h : ℕ) (ls : List Layout) (drawn : ℕ → ℕ → Bool) (events : List (Event A)) → AreDrawn ls (drawn s) →
      ((more : ℕ → ℕ → Bool) → Rises drawn more → AreDrawn (compacted_at k h ls) (more s) → Holds events more) →
      Holds (At s (compact_level k accuracy h ls) ∷ events) drawn
  by-compact h ls drawn events a go =
      let l = layout_at ls h in
      let side = taken_side accuracy (taken k l) in
      elim (cases_Bool (l.state % 2 == 0)) [
        | inl even ↦
            let more = with_drawn drawn s h in
            let rises = rises-with drawn s h in
            rw even (by_drawn.fresh h side events drawn (takes_req accuracy (taken k l)) (go more rises (drawn_compacted k h ls (more s) (λ j p. rises s j (a j p)) (drawn-there drawn s h))))
        | inr odd ↦
            let there : drawn s h ≡ true = a h (ap not odd) in
            rw odd (by_drawn.turned h side events drawn (takes_req accuracy (taken k l)) there (go drawn (λ t j q. q) (drawn_compacted k h ls (drawn s) a there)))
      ]

  -- it holds of a walk and what comes after
  pub by-room : (ls : List Layout) (drawn : ℕ → ℕ → Bool) → AreDrawn ls (drawn s) → Goes (layouts_if_full k ls) drawn → Holds (events_at s (actions_if_full k accuracy ls) ++ rest) drawn
  by-room ls =
      holds-walk k accuracy (λ _. ⊤) (λ _ _ _. tt)
      (λ ls actions _ after. (drawn : ℕ → ℕ → Bool) → AreDrawn ls (drawn s) → Goes after drawn → Holds (events_at s actions ++ rest) drawn)
      (λ h ls _ actions _ _ _ go drawn a goes.
      by-compact h ls drawn (events_at s actions ++ rest) a (λ drawn' up a'. go drawn' a' (λ more up' a''. goes more (λ t j q. up' t j (up t j q)) a'')))
      (λ _ _ drawn a goes. goes drawn (λ t j q. q) a) ls tt

  -- and of an update and what comes after
  pub by-update : (ls : List Layout) (x : A) (drawn : ℕ → ℕ → Bool) → AreDrawn ls (drawn s) → Goes (update_layouts k ls) drawn → Holds (events_at s (update_actions k accuracy ls x) ++ rest) drawn
  by-update ls x drawn a go =
      by_drawn.put x (events_at s (actions_if_full k accuracy (put_layouts ls)) ++ rest) drawn (by-room (put_layouts ls) drawn (drawn_put ls (drawn s) a) go)

-- What updates, redraws and merges add to fair traces: they turn only drawn coins, if each level whose next compaction
-- turns its coin has drawn one.

module _ (A : Type 0) where
  -- a walk leaves the scratch alone
  pub own-room : (k : ℕ) (accuracy : RankAccuracy) (ls : List Layout) → AreOwn {A = A} (actions_if_full k accuracy ls)
  own-room k accuracy ls =
      holds-walk k accuracy (λ _. ⊤) (λ _ _ _. tt) (λ _ actions _ _. AreOwn actions) (λ h ls _ _ _ _ _ rest. (takes_req accuracy (taken k (layout_at ls h)), rest)) (λ _ _. tt) ls tt

  -- so does an update
  pub own-update : (k : ℕ) (accuracy : RankAccuracy) (ls : List Layout) (x : A) → AreOwn (update_actions k accuracy ls x)
  own-update k accuracy ls x = (refl, own-room k accuracy (put_layouts ls))

module _ {A : Type 0} (slot : ℕ) where
  -- the events are fair to the slot, given what was drawn before them
  abbrev pub IsFair : List (Event A) → (ℕ → ℕ → Bool) → Type 0
  IsFair es drawn = is_fair es slot drawn ≡ true

  are_fair : (s : ℕ) → HoldsByDrawn s IsFair
  are_fair s = grind (arith, common_steps)

  -- what comes after is fair, whatever was drawn since
  abbrev pub GoesFair : (s : ℕ) (rest : List (Event A)) → List Layout → (ℕ → ℕ → Bool) → Type 0
  GoesFair s rest after drawn = (more : ℕ → ℕ → Bool) → Rises drawn more → AreDrawn after (more s) → IsFair rest more

  -- an update
  pub fair-update : (k : ℕ) (accuracy : RankAccuracy) (s : ℕ) (rest : List (Event A)) (ls : List Layout) (x : A) (drawn : ℕ → ℕ → Bool) → AreDrawn ls (drawn s) →
      GoesFair s rest (update_layouts k ls) drawn → IsFair (events_at s (update_actions k accuracy ls x) ++ rest) drawn
  fair-update k accuracy s rest ls x drawn a go = by-update IsFair k accuracy s (are_fair s) rest ls x drawn a go

  -- Joins
  pub fair-joins : (s more h : ℕ) (actions : List (Action A)) (rest : List (Event A)) (drawn : ℕ → ℕ → Bool) →
      is_fair (events_at s (joins_actions more h ++ actions) ++ rest) slot drawn ≡ is_fair (events_at s actions ++ rest) slot drawn
  fair-joins s zero h actions rest drawn = refl
  fair-joins s (suc more) h actions rest drawn = fair-joins s more (suc h) actions rest drawn

  -- after redraws each level that turns its coin has drawn one, whatever was drawn before
  fair-redraws : (s h : ℕ) (ls : List Layout) (actions : List (Action A)) (rest : List (Event A)) (drawn : ℕ → ℕ → Bool) →
      ((more : ℕ → ℕ → Bool) → Rises drawn more → ((j : ℕ) → turns_coin (layout_at ls j).state ≡ true → more s (h + j) ≡ true) → IsFair (events_at s actions ++ rest) more) →
      IsFair (events_at s (redraws_from h ls ++ actions) ++ rest) drawn
  fair-redraws s h [] actions rest drawn go = go drawn (λ t j e. e) (λ j e. absurd (false≢true (ap (λ (l : Layout). turns_coin l.state) (sym (empty-layout j)) ∙ e)))
  fair-redraws s h (l ∷ ls) actions rest drawn go =
      elim (cases_Bool (turns_coin l.state)) [
        | inl e ↦
            rw e (fair-redraws s (suc h) ls actions rest (with_drawn drawn s h)
            (λ more up above. go more (λ t j d. up t j (rises-with drawn s h t j d)) (all more above (λ _. up s h (drawn-there drawn s h)))))
        | inr e ↦ rw e (fair-redraws s (suc h) ls actions rest drawn (λ more up above. go more up (all more above (λ turns. absurd (false≢true (sym e ∙ turns))))))
      ]
    where
      all : (more : ℕ → ℕ → Bool) → ((j : ℕ) → turns_coin (layout_at ls j).state ≡ true → more s (suc h + j) ≡ true) → (turns_coin l.state ≡ true → more s h ≡ true) →
          (j : ℕ) → turns_coin (layout_at (l ∷ ls) j).state ≡ true → more s (h + j) ≡ true
      all more above own zero e = let place : h + 0 ≡ h = omega arith in rw place (own e)
      all more above own (suc j) e = let place : h + suc j ≡ suc h + j = omega arith in rw place (above j e)

  fair-redrawn : (s : ℕ) (ls : List Layout) (actions : List (Action A)) (rest : List (Event A)) (drawn : ℕ → ℕ → Bool) →
      ((more : ℕ → ℕ → Bool) → Rises drawn more → AreDrawn ls (more s) → IsFair (events_at s actions ++ rest) more) →
      IsFair (events_at s (redraw_actions ls ++ actions) ++ rest) drawn
  fair-redrawn s ls actions rest drawn go = grind (arith, common_steps, fair-redraws)

  -- a redraw alone
  pub fair-redraw : (s : ℕ) (rest : List (Event A)) (ls : List Layout) (drawn : ℕ → ℕ → Bool) → GoesFair s rest ls drawn → IsFair (events_at s (redraw_actions ls) ++ rest) drawn
  fair-redraw s rest ls drawn go =
      rw (append-nil (redraw_actions ls)) at (fair-redrawn s ls [] rest drawn go)

  -- a merge that redraws coins, whatever was drawn before
  pub fair-merge_redrawn : (k : ℕ) (accuracy : RankAccuracy) (s : ℕ) (rest : List (Event A)) (ls others : List Layout) (drawn : ℕ → ℕ → Bool) →
      GoesFair s rest (merge_layouts k ls others) drawn → IsFair (events_at s (merge_redrawn_actions k accuracy ls others) ++ rest) drawn
  fair-merge_redrawn k accuracy s rest ls others drawn go =
      let joined = joined_layouts k ls others in
      let room : List (Action A) = actions_if_full k accuracy joined in
      fair-joins s (length others) 0 (redraw_actions joined ++ room) rest drawn
      ∙ fair-redrawn s joined room rest drawn
      (λ more up a. by-room IsFair k accuracy s (are_fair s) rest joined more a (λ m up' a'. go m (λ t j d. up' t j (up t j d)) a'))

  -- ---- what gets into the asked slot

  -- what is done to a slot lets no other slot in
  pub reaches-own : (s i : ℕ) (actions : List (Action A)) (rest : List (Event A)) → AreOwn actions → reaches (events_at s actions ++ rest) slot i ≡ reaches rest slot i
  reaches-own s i [] rest o = refl
  reaches-own s i (Put h x ∷ more) rest o = reaches-own s i more rest o.1
  reaches-own s i (Compact h coin taken ∷ more) rest o = reaches-own s i more rest o.1
  reaches-own s i (Redraw h ∷ more) rest o = reaches-own s i more rest o.1
  reaches-own s i (other ∷ more) rest o = absurd (false≢true o.0)

  -- joins don't change which slots get in
  pub reaches-joins : (s i more h : ℕ) (actions : List (Action A)) (rest : List (Event A)) →
      reaches (events_at s (joins_actions more h ++ actions) ++ rest) slot i ≡ reaches (events_at s actions ++ rest) slot i
  reaches-joins s i zero h actions rest = refl
  reaches-joins s i (suc more) h actions rest = reaches-joins s i more (suc h) actions rest

  -- what is done to a slot that does not get into the asked one is fair, whatever it turns
  pub fair-apart : (s : ℕ) (actions : List (Action A)) (rest : List (Event A)) (drawn : ℕ → ℕ → Bool) → AreOwn actions → reaches rest slot s ≡ false →
      ((more : ℕ → ℕ → Bool) → Rises drawn more → IsFair rest more) → IsFair (events_at s actions ++ rest) drawn
  fair-apart s [] rest drawn o apart go = go drawn (λ t j e. e)
  fair-apart s (Put h x ∷ more) rest drawn o apart go = fair-apart s more rest drawn o.1 apart go
  fair-apart s (Compact h Fresh taken ∷ more) rest drawn o apart go = grind (arith, common_steps, with_drawn, rises-with, fair-apart s more rest (with_drawn drawn s h) o.1 apart (λ m up. go m (λ t j d. up t j (rises-with drawn s h t j d))))
  fair-apart s (Compact h Turned taken ∷ more) rest drawn o apart go = grind (arith, common_steps, reaches-own, or_right, fair-apart s more rest drawn o.1 apart go)
  fair-apart s (Redraw h ∷ more) rest drawn o apart go = grind (arith, common_steps, with_drawn, rises-with, fair-apart s more rest (with_drawn drawn s h) o.1 apart (λ m up. go m (λ t j d. up t j (rises-with drawn s h t j d))))
  fair-apart s (other ∷ more) rest drawn o apart go = absurd (false≢true o.0)
