-- Compactions with turned coins: at an odd state a level turns its kept coin instead of drawing one. A slot is unbiased all the same if each
-- turned coin complements one that was drawn for the same level, as it does in a REQ sketch that is made by updates alone.
use Rattle.std.proofs.lemmas.Grind.{common_steps}
use Rattle.std.proofs.Common.{◌≡◌, ◌≢◌, ℕ, zero, suc, ◌+◌, ◌*◌, ◌≤◌, ◌<◌, Bool, true, false, cond, not, ◌||◌, ◌==◌, ◌⊎◌, List, [], ◌∷◌, refl, sym, ap, arith, if◌then◌else◌, ⊎_elim, subst, eqb-true, Ordering, rules, ◌^◌, ◌∙◌, sum}
use Rattle.std.proofs.lemmas.List.Sums.{sum_by-cons}
use Rattle.std.proofs.lemmas.Bool.{and_parts, cases_eq, not-true, or_cases, false≢true, and_from, eq-eqb, or_left}
use Rattle.sketch_base.specs.Bag.{Bag, Taken, weighted_rank}
use Rattle.sketch_base.specs.Trace.{Put, Pull, Join, Compact, Forget, Redraw, Clear, Fresh, Turned, Event, Snap, At, World, changed, is_req, event_draws, coins, happens, act, start, play}
use Rattle.sketch_base.specs.Words.{sum_over_words}
use Rattle.sketch_base.proofs.unbiased.Average.{sum_over_words-add, sum_over_words-same, sum_over_words-const, gained, lost, ScratchGoesOn, scratch_obeys, all_gained, all_lost, top_of, below_top, accounted}
use Rattle.sketch_base.proofs.bags.Acts.{up, down, both_up, sum_below, rank, sum_by-expanded}
use Rattle.sketch_base.proofs.unbiased.Mirrored.{draw_pairs, turn_pairs, turned_up, MirroredWorlds, compacted_at, still_drawn, mirrored-snap, mirrored-put, mirrored-pull, mirrored-join, mirrored-forget, mirrored-redraw, mirrored-clear, mirrored-draw, mirrored-turn}
use Rattle.sketch_base.specs.Fair.{reaches, is_fair, none_drawn, FairIsUnbiased, IsByUpdates}
use Rattle.sketch_base.proofs.plays.Plays.{counts_in, counts-none, counts-both, one, held, true_ranks-same, held-settled}
use Rattle.sketch_base.specs.Ranks.{true_ranks, rank_of_trace}
use Rattle.sketch_base.specs.Lengths.{bag_lengths}

-- Over all words one level's compactions gain what they lose, if the turned coins of a trace are fair.

module _ {A : Type 0} (es : List (Event A)) (slot s : ℕ) where
  -- what c in slot s counts in the slot in the end; 0 for other levels
  abbrev counts_if : Bool → ℕ → ℕ
  counts_if here c = if here then counts_in es slot s c else 0

  -- the two bits of a drawn coin together gain what they lose
  draw_counts : (here : Bool) (u v d : ℕ) → u + v ≡ 2 * d → counts_if here u + counts_if here v ≡ counts_if here d + counts_if here d
  draw_counts here u v d e = grind (arith, counts-both es slot s u v d d)

  -- so do a turned coin and its complement; if slot s doesn't get into the slot, nothing counts
  turn_counts : (here : Bool) (u v d d' : ℕ) → (here ≡ true → (u + v ≡ d + d') ⊎ (reaches es slot s ≡ false)) → counts_if here u + counts_if here v ≡ counts_if here d + counts_if here d'
  turn_counts here u v d d' e = grind (arith, counts-both es slot s u v d d', counts-none es slot s)

module _ {A : Type 0} (cmp : A → A → Ordering) (f : A → ℕ) where
  -- the gains of level g, and its losses, summed over all words
  abbrev gained_over : ℕ → List (Event A) → ℕ → ℕ → World (Bag A) → ℕ
  gained_over g es n slot world = sum_over_words n (λ w. gained cmp f g es slot w world)

  abbrev lost_over : ℕ → List (Event A) → ℕ → ℕ → World (Bag A) → ℕ
  lost_over g es n slot world = sum_over_words n (λ w. lost cmp f g es slot w world)

  -- from two worlds together the gains equal the losses
  abbrev pub IsEven : ℕ → List (Event A) → ℕ → ℕ → World (Bag A) → World (Bag A) → Type 0
  IsEven g es n slot world world' = gained_over g es n slot world + gained_over g es n slot world' ≡ lost_over g es n slot world + lost_over g es n slot world'

  -- so it is from any two mirrored worlds
  abbrev GoesOn : ℕ → List (Event A) → ℕ → ℕ → (ℕ → ℕ → Bool) → Type 0
  GoesOn g es n slot drawn = (world world' : World (Bag A)) → MirroredWorlds cmp f g drawn world world' → IsEven g es n slot world world'

  -- the same from four worlds together: from each of two, after either bit
  abbrev AreEven : ℕ → List (Event A) → ℕ → ℕ → (a b c d : World (Bag A)) → Type 0
  AreEven g es n slot a b c d = gained_over g es n slot a + gained_over g es n slot b + (gained_over g es n slot c + gained_over g es n slot d) ≡
      lost_over g es n slot a + lost_over g es n slot b + (lost_over g es n slot c + lost_over g es n slot d)

  -- so it is if the four are mirrored in pairs: after unlike bits if level g draws, else after the same bit
  even-bits : (g h : ℕ) (es : List (Event A)) (n slot : ℕ) (drawn : ℕ → ℕ → Bool) (next next' : Bool → World (Bag A)) →
      ((bit bit' : Bool) → (h < g → bit ≡ bit') → (h ≡ g → bit' ≡ not bit) → MirroredWorlds cmp f g drawn (next bit) (next' bit')) →
      GoesOn g es n slot drawn → AreEven g es n slot (next false) (next true) (next' false) (next' true)
  even-bits g h es n slot drawn next next' mirrored rest = ⊎_elim
      (λ (e : h ≡ g). let pair = λ (bit : Bool). rest (next bit) (next' (not bit)) (mirrored bit (not bit) (λ lt. absurd (omega (arith, e, lt))) (λ _. refl)) in omega (arith, pair false, pair true))
      (λ (ne : h ≢ g). let pair = λ (bit : Bool). rest (next bit) (next' bit) (mirrored bit bit (λ lt. refl) (λ e. absurd (ne e))) in omega (arith, pair false, pair true)) (cases_eq h g)

  -- a Redraw is even if the rest is even from all worlds that are mirrored after it
  even-redraw : (g h s : ℕ) (es : List (Event A)) (n slot : ℕ) (drawn : ℕ → ℕ → Bool) (world world' : World (Bag A)) →
      MirroredWorlds cmp f g drawn world world' → GoesOn g es n slot (changed drawn s (changed (drawn s) h true)) →
      IsEven g (At s (Redraw h) ∷ es) (suc n) slot world world'
  even-redraw g h s es n slot drawn world world' m rest =
      let next = λ (bit : Bool). happens (act cmp) (At s (Redraw h)) bit world in
      let next' = λ (bit : Bool). happens (act cmp) (At s (Redraw h)) bit world' in
      let gains = λ (a b : World (Bag A)). sum_over_words-add n (λ w. gained cmp f g es slot w a) (λ w. gained cmp f g es slot w b) in
      let losses = λ (a b : World (Bag A)). sum_over_words-add n (λ w. lost cmp f g es slot w a) (λ w. lost cmp f g es slot w b) in
      omega (
        arith,
        even-bits g h es n slot (changed drawn s (changed (drawn s) h true)) next next' (mirrored-redraw cmp f g drawn world world' m s h) rest,
        gains (next false) (next true),
        gains (next' false) (next' true),
        losses (next false) (next true),
        losses (next' false) (next' true),
      )

  -- a compaction by a fresh coin is even if the rest is even from all worlds that are mirrored after it
  even-draw : (g h s : ℕ) (taken : Taken) (es : List (Event A)) (n slot : ℕ) (drawn : ℕ → ℕ → Bool) (world world' : World (Bag A)) →
      is_req taken ≡ true → MirroredWorlds cmp f g drawn world world' → GoesOn g es n slot (changed drawn s (changed (drawn s) h true)) →
      IsEven g (At s (Compact h Fresh taken) ∷ es) (suc n) slot world world'
  even-draw g h s taken es n slot drawn world world' req m rest =
      let bag = world.slots s in
      let bag' = world'.slots s in
      draw_pairs cmp f n _ _ _ _ _ _ _ _ _ _ _ _ _ _
      (draw_counts es slot s (h == g) (up cmp f h taken false bag) (up cmp f h taken true bag) (down cmp f h taken bag) (both_up cmp f h taken bag))
      (draw_counts es slot s (h == g) (up cmp f h taken false bag') (up cmp f h taken true bag') (down cmp f h taken bag') (both_up cmp f h taken bag'))
      (even-bits g h es n slot (changed drawn s (changed (drawn s) h true)) (λ bit. compacted_at cmp f s h taken bit world) (λ bit. compacted_at cmp f s h taken bit world')
      (λ bit bit' low here. mirrored-draw cmp f g drawn world world' m s h taken (changed (drawn s) h true) bit bit' req low (λ e d. here e) (still_drawn (drawn s) g h)) rest)

  -- so is one by a turned coin that is fair, or whose slot doesn't get into the slot asked for
  even-turn : (g h s : ℕ) (taken : Taken) (es : List (Event A)) (n slot : ℕ) (drawn : ℕ → ℕ → Bool) (world world' : World (Bag A)) →
      is_req taken ≡ true → (drawn s h || not (reaches es slot s)) ≡ true → MirroredWorlds cmp f g drawn world world' → GoesOn g es n slot drawn →
      IsEven g (At s (Compact h Turned taken) ∷ es) n slot world world'
  even-turn g h s taken es n slot drawn world world' req fair m rest =
      let bag = world.slots s in
      let bag' = world'.slots s in
      let bit = not (bag.kept h) in
      let bit' = not (bag'.kept h) in
      let other : h ≡ g → drawn s g ≡ true → bag'.kept h ≡ not (bag.kept h) = λ e d. subst (λ j. bag'.kept j ≡ not (bag.kept j)) (sym e) ((m.slots s).turned d) in
      let by_rule : h ≡ g → (up cmp f h taken bit bag + up cmp f h taken bit' bag' ≡ down cmp f h taken bag + down cmp f h taken bag') ⊎ (reaches es slot s ≡ false) = λ e. grind (arith, common_steps, turned_up, not-true, or_cases) in
      turn_pairs cmp f n _ _ _ _ _ _ _ _ (turn_counts es slot s (h == g) _ _ _ _ (λ here. by_rule (eqb-true h g here)))
      (rest (compacted_at cmp f s h taken bit world) (compacted_at cmp f s h taken bit' world')
      (mirrored-turn cmp f g drawn world world' m s h taken bit bit' req (λ lt. ap not ((m.slots s).below h lt)) (λ e d. ap not (other e d))))

  -- from mirrored worlds the gains and losses of each level are equal over all words
  pub evens : (g : ℕ) (es : List (Event A)) (n slot : ℕ) (drawn : ℕ → ℕ → Bool) (world world' : World (Bag A)) →
      coins es ≤ n → is_fair es slot drawn ≡ true → MirroredWorlds cmp f g drawn world world' → IsEven g es n slot world world'
  evens g [] n slot drawn world world' enough fair m = refl
  evens g (Snap s t ∷ es) n slot drawn world world' enough fair m = evens g es n slot drawn _ _ enough fair (mirrored-snap cmp f g drawn world world' m s t)
  evens g (At s (Put h x) ∷ es) n slot drawn world world' enough fair m = evens g es n slot drawn _ _ enough fair (mirrored-put cmp f g drawn world world' m s h x)
  evens g (At s Pull ∷ es) n slot drawn world world' enough fair m = evens g es n slot drawn _ _ enough fair (mirrored-pull cmp f g drawn world world' m s)
  evens g (At s (Join h) ∷ es) n slot drawn world world' enough fair m = evens g es n slot drawn _ _ enough fair (mirrored-join cmp f g drawn world world' m s h)
  evens g (At s Forget ∷ es) n slot drawn world world' enough fair m = evens g es n slot _ _ _ enough fair (mirrored-forget cmp f g drawn world world' m s)
  evens g (At s (Redraw h) ∷ es) zero slot drawn world world' enough fair m = absurd (omega (arith, sum_by-cons (λ (e : Event A). cond (event_draws e) 1 0) (At s (Redraw h)) es, enough))
  evens g (At s (Redraw h) ∷ es) (suc n) slot drawn world world' enough fair m =
      let less : coins es ≤ n = omega (arith, sum_by-cons (λ (e : Event A). cond (event_draws e) 1 0) (At s (Redraw h)) es, enough) in
      even-redraw g h s es n slot drawn world world' m (λ next next' m'. evens g es n slot _ next next' less fair m')
  evens g (At s Clear ∷ es) n slot drawn world world' enough fair m = evens g es n slot _ _ _ enough fair (mirrored-clear cmp f g drawn world world' m s)
  evens g (At s (Compact h Fresh taken) ∷ es) zero slot drawn world world' enough fair m =
      absurd (omega (arith, sum_by-cons (λ (e : Event A). cond (event_draws e) 1 0) (At s (Compact h Fresh taken)) es, enough))
  evens g (At s (Compact h Fresh taken) ∷ es) (suc n) slot drawn world world' enough fair m =
      let less : coins es ≤ n = omega (arith, sum_by-cons (λ (e : Event A). cond (event_draws e) 1 0) (At s (Compact h Fresh taken)) es, enough) in
      let parts = and_parts (is_req taken) _ fair in
      even-draw g h s taken es n slot drawn world world' parts.0 m (λ next next' m'. evens g es n slot _ next next' less parts.1 m')
  evens g (At s (Compact h Turned taken) ∷ es) n slot drawn world world' enough fair m =
      let parts = and_parts (is_req taken) _ fair in
      let rest = and_parts (drawn s h || not (reaches es slot s)) _ parts.1 in
      even-turn g h s taken es n slot drawn world world' parts.0 rest.0 m (λ next next' m'. evens g es n slot drawn next next' enough rest.1 m')

-- A REQ slot is unbiased if each turned coin of what gets into it complements a drawn one.

-- sums over levels and words are equal if those of each level are
equal_below : (top n : ℕ) (f g : ℕ → List Bool → ℕ) → ((i : ℕ) → sum_over_words n (f i) ≡ sum_over_words n (g i)) →
    sum_over_words n (λ w. sum_below top (λ i. f i w)) ≡ sum_over_words n (λ w. sum_below top (λ i. g i w))
equal_below zero n f g h = refl
equal_below (suc top) n f g h = omega (
  arith,
  sum_over_words-add n (λ w. sum_below top (λ i. f i w)) (f top),
  sum_over_words-add n (λ w. sum_below top (λ i. g i w)) (g top),
  equal_below top n f g h,
  h top,
)

module _ {A : Type 0} (cmp : A → A → Ordering) (test : A → Bool) where
  pub fair_unbiased : (trace : List (Event A)) (n slot : ℕ) → ((word : List Bool) → ScratchGoesOn cmp test trace word start) → is_fair trace slot none_drawn ≡ true → coins trace ≤ n →
      sum_over_words n (λ word. weighted_rank cmp test ((play cmp trace word start).slots slot)) ≡ 2 ^ n * rank_of_trace test trace slot
  fair_unbiased trace n slot rules fair enough =
      let top = top_of trace in
      let gains = λ (w : List Bool). all_gained cmp test top trace slot w start in
      let losses = λ (w : List Bool). all_lost cmp test top trace slot w start in
      let ranks = λ (w : List Bool). rank (one test) ((play cmp trace w start).slots slot) in
      let truth = true_ranks test trace (held test start) slot in
      let level = λ (g : ℕ). evens cmp (one test) g trace n slot none_drawn start start enough fair (record { slots = λ s. record { levels = λ i le. refl; below = λ i lt. refl; turned = λ e. absurd (false≢true e) }; scratch = λ i le. refl }) in
      let balanced : sum_over_words n gains ≡ sum_over_words n losses =
      equal_below top n (λ g w. gained cmp (one test) g trace slot w start) (λ g w. lost cmp (one test) g trace slot w start) (λ g. omega (arith, level g)) in
      let summed = sum_over_words-same n (λ w. ranks w + losses w) (λ w. truth + gains w) (λ w. accounted cmp test top trace slot w start (rules w) (below_top trace)) in
      sum_over_words-same n _ ranks (λ w. sum_by-expanded (one test) cmp ((play cmp trace w start).slots slot)) ∙
      (grind (arith, common_steps, sum_over_words-add n ranks losses, sum_over_words-add n (λ w. truth) gains, sum_over_words-const n truth, true_ranks-same test trace (held test start) (λ s. 0) (held-settled test start refl) slot))

-- the law: fair traces are unbiased
pub fair_is_unbiased : {A : Type 0} (cmp : A → A → Ordering) → FairIsUnbiased cmp
fair_is_unbiased cmp test trace n slot obeys even fair enough = fair_unbiased cmp test trace n slot (λ word. scratch_obeys cmp test trace word start obeys even) fair enough

-- REQ is unbiased if the sketches are made by updates alone: such traces are fair.

module _ {A : Type 0} where
  -- a trace of updates alone is fair: each turned coin complements a drawn one
  updates-fair : (trace : List (Event A)) (slot : ℕ) (drawn : ℕ → ℕ → Bool) → IsByUpdates trace drawn → is_fair trace slot drawn ≡ true
  updates-fair [] slot drawn updates = refl
  updates-fair (At s (Put h x) ∷ es) slot drawn updates = updates-fair es slot drawn updates
  updates-fair (At s Clear ∷ es) slot drawn updates = updates-fair es slot _ updates
  updates-fair (At s (Compact h Fresh taken) ∷ es) slot drawn updates = and_from (is_req taken) _ updates.0 (updates-fair es slot _ updates.1)
  updates-fair (At s (Compact h Turned taken) ∷ es) slot drawn updates = and_from (is_req taken) _ updates.0 (and_from _ _ (or_left (drawn s h) _ updates.1) (updates-fair es slot drawn updates.2))
  updates-fair (_ ∷ es) slot drawn updates = absurd updates

module _ {A : Type 0} (cmp : A → A → Ordering) (test : A → Bool) where
  -- nothing gets into the scratch
  updates-scratch : (trace : List (Event A)) (drawn : ℕ → ℕ → Bool) (word : List Bool) (world : World (Bag A)) → IsByUpdates trace drawn →
      sum (bag_lengths world.scratch) ≡ 0 → ScratchGoesOn cmp test trace word world
  updates-scratch [] drawn word world updates none = none
  updates-scratch (At s (Put h x) ∷ es) drawn word world updates none = (or_left _ _ (eq-eqb _ 0 none), updates-scratch es drawn _ _ updates none)
  updates-scratch (At s Clear ∷ es) drawn word world updates none = (or_left _ _ (eq-eqb _ 0 none), updates-scratch es _ _ _ updates none)
  updates-scratch (At s (Compact h Fresh taken) ∷ es) drawn word world updates none = (or_left _ _ (eq-eqb _ 0 none), updates-scratch es _ _ _ updates.1 none)
  updates-scratch (At s (Compact h Turned taken) ∷ es) drawn word world updates none = (or_left _ _ (eq-eqb _ 0 none), updates-scratch es drawn _ _ updates.2 none)
  updates-scratch (_ ∷ es) drawn word world updates none = absurd updates

  -- the ranks over all words sum to the number of words times the true rank
  pub unbiased_by_updates : (trace : List (Event A)) (n slot : ℕ) → IsByUpdates trace none_drawn → coins trace ≤ n →
      sum_over_words n (λ word. weighted_rank cmp test ((play cmp trace word start).slots slot)) ≡ 2 ^ n * rank_of_trace test trace slot
  unbiased_by_updates trace n slot updates enough =
      fair_unbiased cmp test trace n slot (λ word. updates-scratch trace none_drawn word start updates refl) (updates-fair trace slot none_drawn updates) enough
