-- REQ traces that are fair to a slot: each coin that is complemented in what gets into the slot was drawn before.
use Rattle.std.specs.Prelude.{◌≡◌, ℕ, ◌*◌, ◌^◌, ◌≤◌, ◌==◌, Bool, true, false, not, ◌&&◌, ◌||◌, IsTrue, List, [], ◌∷◌, ⊤}
use Rattle.std.specs.declared.cmp.Ordering.{Ordering}
use Rattle.sketch_base.specs.Bag.{weighted_rank}
use Rattle.sketch_base.specs.Trace.{Put, Pull, Join, Compact, Forget, Redraw, Clear, Fresh, Turned, Event, Snap, At, changed, is_req, play, start, coins}
use Rattle.sketch_base.specs.Lengths.{start_lengths, ObeysScratch, Along, TakesEven}
use Rattle.sketch_base.specs.Ranks.{rank_of_trace}
use Rattle.sketch_base.specs.Words.{sum_over_words}

-- a REQ trace of updates alone: only Puts, Clears and compactions, and each turned coin complements a coin that was drawn for
-- that level of the slot since its last Clear
abbrev pub IsByUpdates : {A : Type 0} → List (Event A) → (ℕ → ℕ → Bool) → Type 0
IsByUpdates [] drawn = ⊤
IsByUpdates (At s (Put h x) ∷ es) drawn = IsByUpdates es drawn
IsByUpdates (At s Clear ∷ es) drawn = IsByUpdates es (changed drawn s (λ h. false))
IsByUpdates (At s (Compact h Fresh taken) ∷ es) drawn =
    IsTrue (is_req taken) × IsByUpdates es (changed drawn s (changed (drawn s) h true))
IsByUpdates (At s (Compact h Turned taken) ∷ es) drawn =
    IsTrue (is_req taken) × IsTrue (drawn s h) × IsByUpdates es drawn
IsByUpdates (At s Pull ∷ es) drawn = ⊥
IsByUpdates (At s (Join h) ∷ es) drawn = ⊥
IsByUpdates (At s Forget ∷ es) drawn = ⊥
IsByUpdates (At s (Redraw h) ∷ es) drawn = ⊥
IsByUpdates (Snap s t ∷ es) drawn = ⊥

-- whether what slot s holds before the events may end up in `slot`
abbrev pub reaches : {A : Type 0} → List (Event A) → (slot s : ℕ) → Bool
reaches [] slot s = s == slot
reaches (Snap source target ∷ es) slot s = reaches es slot s || (s == source && reaches es slot target)
reaches (At i Clear ∷ es) slot s = not (s == i) && reaches es slot s
reaches (At i (Put h x) ∷ es) slot s = reaches es slot s
reaches (At i Pull ∷ es) slot s = reaches es slot s
reaches (At i (Join h) ∷ es) slot s = reaches es slot s
reaches (At i (Compact h coin taken) ∷ es) slot s = reaches es slot s
reaches (At i Forget ∷ es) slot s = reaches es slot s
reaches (At i (Redraw h) ∷ es) slot s = reaches es slot s

-- whether a REQ trace is fair to the slot: each turned coin of a slot that may get into it complements a coin that was drawn
-- for that level of that slot since its last Clear or Forget; `drawn` says for which levels one was drawn before the events
abbrev pub is_fair : {A : Type 0} → List (Event A) → (slot : ℕ) → (drawn : ℕ → ℕ → Bool) → Bool
is_fair [] slot drawn = true
is_fair (Snap source target ∷ es) slot drawn = is_fair es slot drawn
is_fair (At s (Put h x) ∷ es) slot drawn = is_fair es slot drawn
is_fair (At s Pull ∷ es) slot drawn = is_fair es slot drawn
is_fair (At s (Join h) ∷ es) slot drawn = is_fair es slot drawn
is_fair (At s Forget ∷ es) slot drawn = is_fair es slot (changed drawn s (λ h. false))
is_fair (At s (Redraw h) ∷ es) slot drawn = is_fair es slot (changed drawn s (changed (drawn s) h true))
is_fair (At s Clear ∷ es) slot drawn = is_fair es slot (changed drawn s (λ h. false))
is_fair (At s (Compact h Fresh taken) ∷ es) slot drawn =
    is_req taken && is_fair es slot (changed drawn s (changed (drawn s) h true))
is_fair (At s (Compact h Turned taken) ∷ es) slot drawn =
    is_req taken && ((drawn s h || not (reaches es slot s)) && is_fair es slot drawn)

-- at a run's start no coin was drawn
abbrev pub none_drawn : ℕ → ℕ → Bool
none_drawn s h = false

-- if a trace is fair to a slot, the slot is unbiased, even after merges and round trips: its weighted ranks, summed over all
-- words, are the number of words times its true rank
abbrev pub FairIsUnbiased : {A : Type 0} → (A → A → Ordering) → Type 0
FairIsUnbiased {A} cmp = (test : A → Bool) (trace : List (Event A)) (length slot : ℕ) →
    ObeysScratch trace start_lengths → Along TakesEven trace start_lengths →
    IsTrue (is_fair trace slot none_drawn) → coins trace ≤ length →
    sum_over_words length (λ word. weighted_rank cmp test ((play cmp trace word start).slots slot)) ≡
    2 ^ length * rank_of_trace test trace slot
