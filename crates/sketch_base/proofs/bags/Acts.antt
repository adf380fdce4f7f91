-- What compactions and other actions do to bags, and to the sums over them. A compaction takes items of one level and sends up half,
-- each of which then weighs twice as much. A sum over a bag, such as a rank, is a sum over its levels, so only two terms change.
use Rattle.std.proofs.lemmas.Grind.{common_steps}
use Rattle.std.proofs.Common.{◌≡◌, ℕ, suc, ◌+◌, ◌*◌, ◌^◌, true, false, List, [], ◌∷◌, replicate, flat_map, sum_by, refl, sym, ap, ◌∙◌, arith, Ordering, zero, ◌≤◌, Bool, not, ◌&&◌, ◌==◌, ◌++◌, length, zero-add, add-zero, ◌≢◌, if◌then◌else◌, eqb-true, ◌<◌, ◌||◌, eqb, sum, fold, ◌⊎◌, IsTrue, take, drop, inl, inr, ⊎_elim}
use Rattle.std.proofs.lemmas.List.Sums.{sum_by-cons, sum_by-append, sum_by-take-drop, fold-append, sum-map}
use Rattle.std.proofs.lemmas.List.Folds.{sum_by-replicate}
use Rattle.sketch_base.specs.Bag.{Bag, insert_in_order, sort, weigh, repeated, expanded, half, Taken, AllButLeftover, cut, parity_up, level_at, with_level, compaction, empty_bag}
use Rattle.sketch_base.specs.Trace.{Work, moved, changed, Action, Event, World, Put, Pull, Join, Compact, Forget, Redraw, Clear, Snap, At, act, happens}
use mathlib.Core.Path.{fun_ext}
use Rattle.std.proofs.lemmas.Bool.{eq-eqb, ne_eqb, or_cases, false≢true}
use Rattle.sketch_base.specs.Lengths.{act_on_lengths, acts_on_lengths, lengths_after, ObeysScratch, bag_lengths, goes_on}
use Rattle.std.proofs.lemmas.List.{append-nil, take-append-drop}

-- Sums over sorted lists, halves and levels.

module _ {A : Type 0} (f : A → ℕ) where
  -- inserting an item adds it to the sum
  pub sum_by-insert_in_order : (cmp : A → A → Ordering) (x : A) (xs : List A) → sum_by f (insert_in_order cmp x xs) ≡ f x + sum_by f xs
  sum_by-insert_in_order cmp x [] = omega arith
  sum_by-insert_in_order cmp x (y ∷ ys) = grind (arith, sum_by-cons f y (insert_in_order cmp x ys), sum_by-cons f y ys, sum_by-cons f x (y ∷ ys), sum_by-insert_in_order cmp x ys)

  -- sorting keeps the sum
  pub sum_by-sort : (cmp : A → A → Ordering) (xs : List A) → sum_by f (sort cmp xs) ≡ sum_by f xs
  sum_by-sort cmp [] = refl
  sum_by-sort cmp (x ∷ xs) = sum_by-insert_in_order cmp x (sort cmp xs) ∙ (ap (λ n. f x + n) (sum_by-sort cmp xs) ∙ sym (sum_by-cons f x xs))

  -- the sums of the two halves add up to the sum
  pub sum_by-halves : (xs : List A) → sum_by f (half false xs) + sum_by f (half true xs) ≡ sum_by f xs
  sum_by-halves [] = omega arith
  sum_by-halves (x ∷ xs) = omega (arith, sum_by-cons f x (half true xs), sum_by-cons f x xs, sum_by-halves xs)

  sum_by-copies : (h : ℕ) (xs : List A) → sum_by f (flat_map (λ x. replicate (2 ^ h) x) xs) ≡ 2 ^ h * sum_by f xs
  sum_by-copies h [] = omega arith
  sum_by-copies h (x ∷ xs) = sum_by-append f (replicate (2 ^ h) x) (flat_map (λ x. replicate (2 ^ h) x) xs) ∙
      omega (arith, sum_by-replicate f (2 ^ h) x, sum_by-copies h xs, ap (λ n. 2 ^ h * n) (sum_by-cons f x xs))

  -- the sum over repeated items counts each level by its weight
  sum_by-repeated : (h : ℕ) (levels : List (List A)) → sum_by f (repeated h levels) ≡ weigh (sum_by f) h levels
  sum_by-repeated h [] = refl
  sum_by-repeated h (level ∷ above) = grind (arith, common_steps, sum_by-append, sum_by-copies, sum_by-repeated (suc h) above)

  -- the sum over the expanded list, level by level
  pub sum_by-expanded : (cmp : A → A → Ordering) (bag : Bag A) → sum_by f (expanded cmp bag) ≡ weigh (sum_by f) 0 bag.levels
  sum_by-expanded cmp bag = sum_by-sort cmp (repeated 0 bag.levels) ∙ sum_by-repeated 0 bag.levels

-- What an action does to the sum of a bag: the sum of f over the items, each times its weight.

-- the arithmetic of a compaction: w is the weight of an item of the level, w2 that of an item of the level above
average : (w w2 heads tails rest old left taken level up up' : ℕ) → w2 ≡ 2 * w → heads ≡ rest + w2 * up → tails ≡ rest + w2 * up' → rest + w * level ≡ old + w * left →
    left + taken ≡ level → up + up' ≡ taken → heads + tails ≡ 2 * old
average w w2 heads tails rest old left taken level up up' e a b c d g = omega (arith, ap (λ n. n * up) e, ap (λ n. n * up') e, ap (λ n. w * n) d, ap (λ n. w * n) g)

module _ {A : Type 0} (f : A → ℕ) where
  -- the sum of a bag
  abbrev pub rank : Bag A → ℕ
  rank bag = weigh (sum_by f) 0 bag.levels

  weigh-with_level : (h k : ℕ) (change : List A → List A) (levels : List (List A)) → weigh (sum_by f) k (with_level [] h change levels)
      + 2 ^ (h + k) * sum_by f (level_at levels h) ≡ weigh (sum_by f) k levels + 2 ^ (h + k) * sum_by f (change (level_at levels h))
  weigh-with_level zero k change [] = rw zero-add (omega arith)
  weigh-with_level zero k change (level ∷ above) = rw zero-add (omega arith)
  weigh-with_level (suc h) k change [] = grind (arith, common_steps, weigh-with_level h (suc k) change)
  weigh-with_level (suc h) k change (level ∷ above) = grind (arith, common_steps, weigh-with_level h (suc k) change above)

  -- items added at the end of a level
  pub weigh-added : (h : ℕ) (items : List A) (levels : List (List A)) → weigh (sum_by f) 0 (with_level [] h (λ level. level ++ items) levels) ≡ weigh (sum_by f) 0 levels + 2 ^ h * sum_by f items
  weigh-added h items levels =
      omega (arith, weigh-with_level h 0 (λ level. level ++ items) levels, ap (λ n. 2 ^ (h + 0) * n) (sum_by-append f (level_at levels h) items), ap (λ n. 2 ^ n * sum_by f items) (add-zero h))

  -- a level replaced
  pub weigh-replaced : (h : ℕ) (items : List A) (levels : List (List A)) →
      weigh (sum_by f) 0 (with_level [] h (λ level. items) levels) + 2 ^ h * sum_by f (level_at levels h) ≡ weigh (sum_by f) 0 levels + 2 ^ h * sum_by f items
  weigh-replaced h items levels = rw add-zero at (weigh-with_level h 0 (λ level. items) levels)

  -- a move keeps the sum of the bag and the scratch together, and doesn't increase that of the scratch
  pub moved-keeps : (h : ℕ) (front rest : List A) (work : Work (Bag A)) → front ++ rest ≡ level_at work.scratch.levels h →
      (rank (moved h front rest work).bag + rank (moved h front rest work).scratch ≡ rank work.bag + rank work.scratch) × (rank (moved h front rest work).scratch ≤ rank work.scratch)
  moved-keeps h front rest work e = grind (arith, common_steps, sum_by-append, weigh-added, weigh-replaced)

  -- the sums of the two parts of a cut add up to the level's sum
  pub sum_by-cut : (cmp : A → A → Ordering) (taken : Taken) (in_list_order : Bool) (level : List A) →
      sum_by f (cut cmp taken in_list_order level).0 + sum_by f (cut cmp taken in_list_order level).1 ≡ sum_by f level
  sum_by-cut cmp taken in_list_order level = grind (arith, common_steps, sum_by-take-drop, sum_by-sort)

  -- the halves that the two bits send up have sums that add up to the sum of the items
  pub sum_by-both_bits : (taken : Taken) (above items : List A) → sum_by f (half (parity_up taken false above) items) + sum_by f (half (parity_up taken true above) items) ≡ sum_by f items
  sum_by-both_bits AllButLeftover [] items = omega (arith, sum_by-halves f items)
  sum_by-both_bits _ _ items = sum_by-halves f items

  -- the sums after a compaction by either bit average to the sum before it
  pub compaction-averages : (cmp : A → A → Ordering) (h : ℕ) (taken : Taken) (bag : Bag A) → rank (compaction cmp h taken false bag) + rank (compaction cmp h taken true bag) ≡ 2 * rank bag
  compaction-averages cmp h taken bag =
      let level = level_at bag.levels h in
      let parts = cut cmp taken (h == 0 && not bag.is_sorted) level in
      let rest = with_level [] h (λ level. parts.0) bag.levels in
      average (2 ^ h) (2 ^ suc h) _ _ _ _ _ _ _ _ _ (omega arith) (weigh-added (suc h) (half (parity_up taken false (level_at bag.levels (suc h))) parts.1) rest)
      (weigh-added (suc h) (half (parity_up taken true (level_at bag.levels (suc h))) parts.1) rest) (weigh-replaced h parts.0 bag.levels)
      (sum_by-cut cmp taken (h == 0 && not bag.is_sorted) level) (sum_by-both_bits taken (level_at bag.levels (suc h)) parts.1)

  -- a bag that retains no items has the sum 0
  pub weigh-empty : (h : ℕ) (levels : List (List A)) → sum_by length levels ≡ 0 → weigh (sum_by f) h levels ≡ 0
  weigh-empty h [] e = refl
  weigh-empty h ([] ∷ above) e = omega (arith, weigh-empty (suc h) above e)
  weigh-empty h ((x ∷ level) ∷ above) e = absurd (omega (arith, sum_by-cons length (x ∷ level) above, e))

-- A function with another value at one place.

module _ {B : Type 0} (f : ℕ → B) where
  -- the new value is at the place, and the other values stay
  pub changed-there : (s : ℕ) (value : B) → changed f s value s ≡ value
  changed-there s value = ap (λ (b : Bool). if b then value else f s) (eq-eqb s s refl)

  pub changed-other : (s : ℕ) (value : B) (j : ℕ) → j ≢ s → changed f s value j ≡ f j
  changed-other s value j ne = ap (λ (b : Bool). if b then value else f j) (ne_eqb j s ne)

  -- a change to the value that is already there changes nothing
  pub changed-own : (s j : ℕ) → changed f s (f s) j ≡ f j
  changed-own s j = grind (arith, eqb-true, ap f)

  pub changed-itself : (s : ℕ) → changed f s (f s) ≡ f
  changed-itself s = fun_ext (λ j. changed-own s j)

  -- of two changes at one place the later one remains
  pub changed-twice : (s : ℕ) (first second : B) → changed (changed f s first) s second ≡ changed f s second
  changed-twice s first second = fun_ext (λ j. grind arith)

  -- applying g to the values commutes with a change
  pub changed-through : {C : Type 0} (g : B → C) (s : ℕ) (value : B) (j : ℕ) → g (changed f s value j) ≡ changed (λ k. g (f k)) s (g value) j
  changed-through g s value j = grind arith

-- a relation of three functions still holds after a change of each at one place, if it holds of the new values
pub changed-all : (P : ℕ → ℕ → ℕ → Type 0) (a b c : ℕ → ℕ) (s u v w : ℕ) → ((j : ℕ) → P (a j) (b j) (c j)) → P u v w → (j : ℕ) → P (changed a s u j) (changed b s v j) (changed c s w j)
changed-all P a b c s u v w all here j = grind (arith, common_steps)

-- What a compaction takes from a bag and what it sends up, and sums over the levels below a given one.

-- the sum of a function over the numbers below n
abbrev pub sum_below : ℕ → (ℕ → ℕ) → ℕ
sum_below zero f = 0
sum_below (suc n) f = sum_below n f + f n

-- the sum of sums, and a sum whose only nonzero term isn't below n
pub sum_below-add : (n : ℕ) (f g : ℕ → ℕ) → sum_below n (λ i. f i + g i) ≡ sum_below n f + sum_below n g
sum_below-add zero f g = refl
sum_below-add (suc n) f g = omega (arith, sum_below-add n f g)

sum_below-none : (n h x : ℕ) → n ≤ h → sum_below n (λ i. if h == i then x else 0) ≡ 0
sum_below-none zero h x le = refl
sum_below-none (suc n) h x le = grind (arith, sum_below-none n h x (omega arith), eqb-true)

-- a sum with only one nonzero term
pub sum_below-pick : (n h x : ℕ) → h < n → sum_below n (λ i. if h == i then x else 0) ≡ x
sum_below-pick zero h x lt = absurd (omega arith)
sum_below-pick (suc n) h x lt = grind (arith, sum_below-none n h x, sum_below-pick n h x, eqb-true)

module _ {A : Type 0} (cmp : A → A → Ordering) (f : A → ℕ) where
  -- a bag after a compaction, with the bit that is kept
  abbrev pub compacted : ℕ → Taken → Bool → Bag A → Bag A
  compacted h taken bit bag = record (compaction cmp h taken bit bag) { kept = changed bag.kept h bit }

  -- the items that a compaction takes
  abbrev pub part : ℕ → Taken → Bag A → List A
  part h taken bag = (cut cmp taken (h == 0 && not bag.is_sorted) (level_at bag.levels h)).1

  -- the weighted sum of the items that a compaction takes, and of those that it sends up
  abbrev pub down : ℕ → Taken → Bag A → ℕ
  down h taken bag = 2 ^ h * sum_by f (part h taken bag)

  abbrev pub up : ℕ → Taken → Bool → Bag A → ℕ
  up h taken bit bag = 2 ^ suc h * sum_by f (half (parity_up taken bit (level_at bag.levels (suc h))) (part h taken bag))

  -- a compaction lowers the sum of a bag by what it takes, and raises it by what goes up
  pub compacted-moves : (h : ℕ) (taken : Taken) (bit : Bool) (bag : Bag A) → rank f (compacted h taken bit bag) + down h taken bag ≡ rank f bag + up h taken bit bag
  compacted-moves h taken bit bag =
      let parts = cut cmp taken (h == 0 && not bag.is_sorted) (level_at bag.levels h) in
      moves (2 ^ h) _ _ _ _ _ _ _ (weigh-added f (suc h) (half (parity_up taken bit (level_at bag.levels (suc h))) parts.1) (with_level [] h (λ level. parts.0) bag.levels))
      (weigh-replaced f h parts.0 bag.levels) (sum_by-cut f cmp taken (h == 0 && not bag.is_sorted) (level_at bag.levels h))
    where
      moves : (w new rest old up left level taken : ℕ) → new ≡ rest + up → rest + w * level ≡ old + w * left → left + taken ≡ level → new + w * taken ≡ old + up
      moves w new rest old up left level taken a b c = omega (arith, a, b, ap (λ n. w * n) c)

  -- what goes up by the two bits is together twice what is taken
  pub both_up : (h : ℕ) (taken : Taken) (bag : Bag A) → up h taken false bag + up h taken true bag ≡ 2 * down h taken bag
  both_up h taken bag = scaled (2 ^ h) (2 ^ suc h) _ _ _ (omega arith) (sum_by-both_bits f taken (level_at bag.levels (suc h)) (part h taken bag))
    where
      scaled : (w w2 a b c : ℕ) → w2 ≡ 2 * w → a + b ≡ c → w2 * a + w2 * b ≡ 2 * (w * c)
      scaled w w2 a b c e h = rw (e, ← h) (omega arith)

-- Level lengths after two traces, or two lists of actions, in turn, and what a trace leaves in the scratch.

-- the level lengths after some events
abbrev pub lengths_by : {A : Type 0} → World (List ℕ) → List (Event A) → World (List ℕ)
lengths_by world trace = fold (λ w e. lengths_after e w) world trace

-- an event that finds nothing in the scratch obeys the scratch rule
pub obeys : (n : ℕ) (b : Bool) → n ≡ 0 → (eqb n 0 || b) ≡ true
obeys n b e = ap (λ m. eqb m 0 || b) e

module _ {A : Type 0} where
  -- the level lengths after two traces in turn, and after two lists of actions
  pub lengths_by-append : (xs ys : List (Event A)) (world : World (List ℕ)) → lengths_by world (xs ++ ys) ≡ lengths_by (lengths_by world xs) ys
  lengths_by-append xs ys world = fold-append (λ w e. lengths_after e w) world xs ys

  pub acts_on-append : (xs ys : List (Action A)) (work : Work (List ℕ)) → acts_on_lengths (xs ++ ys) work ≡ acts_on_lengths ys (acts_on_lengths xs work)
  acts_on-append [] ys work = refl
  acts_on-append (x ∷ xs) ys work = acts_on-append xs ys (act_on_lengths x work)

  -- a trace that obeys the scratch rule leaves nothing in the scratch
  pub trace-settles : (trace : List (Event A)) (world : World (List ℕ)) → ObeysScratch trace world → sum (lengths_by world trace).scratch ≡ 0
  trace-settles [] world f = f
  trace-settles (e ∷ rest) world f = trace-settles rest (lengths_after e world) f.1

-- Measures of levels, such as what they count or their load: the measure of a slot and of the scratch that is worked into it,
-- and what an event does to it.

-- levels without items measure 0, and a move from the scratch to the bag takes from the one what it adds to the other
pub record IsMeasure {A : Type 0} (measure : List (List A) → ℕ) : Type 0 where
  pub none : (levels : List (List A)) → sum_by length levels ≡ 0 → measure levels ≡ 0
  pub moves : (h : ℕ) (front rest : List A) (work : Work (Bag A)) → front ++ rest ≡ level_at work.scratch.levels h →
      (measure (moved h front rest work).bag.levels + measure (moved h front rest work).scratch.levels ≡ measure work.bag.levels + measure work.scratch.levels)
      × (measure (moved h front rest work).scratch.levels ≤ measure work.scratch.levels)

-- whether an event compacts
abbrev pub compacts : {A : Type 0} → Event A → Bool
compacts (At s (Compact h coin taken)) = true
compacts _ = false

-- what an event makes of a number for each slot, given what a Put adds
abbrev pub after_event : {A : Type 0} → (ℕ → A → ℕ) → Event A → (ℕ → ℕ) → ℕ → ℕ
after_event puts (Snap s t) f = changed f t (f t + f s)
after_event puts (At s (Put h x)) f = changed f s (f s + puts h x)
after_event puts (At s Clear) f = changed f s 0
after_event puts _ f = f

-- the measure of a slot, with that of the scratch if the slot is its target
abbrev pub with_scratch : {A : Type 0} → (List (List A) → ℕ) → World (Bag A) → ℕ → ℕ
with_scratch measure world i = measure (world.slots i).levels + (if i == world.target then measure world.scratch.levels else 0)

module _ {A : Type 0} {measure : List (List A) → ℕ} (is : IsMeasure measure) where
  -- if the scratch measures 0, it is the measure of the slot alone
  pub settled : (world : World (Bag A)) → measure world.scratch.levels ≡ 0 → (i : ℕ) → with_scratch measure world i ≡ measure (world.slots i).levels
  settled world e i = grind arith

  -- a bag without items measures 0
  pub scratch-none : (bag : Bag A) → sum (bag_lengths bag) ≡ 0 → measure bag.levels ≡ 0
  scratch-none bag e = is.none bag.levels (sym (sum-map length bag.levels) ∙ e)

  -- by the scratch rule the scratch measures 0, or the event goes on with it
  by_rule : (world : World (Bag A)) (goes : Bool) → (sum (bag_lengths world.scratch) == 0 || goes) ≡ true → (measure world.scratch.levels ≡ 0) ⊎ (goes ≡ true)
  by_rule world goes h = ⊎_elim (λ e. inl (scratch-none world.scratch (eqb-true _ _ e))) (λ e. inr e) (or_cases (sum (bag_lengths world.scratch) == 0) goes h)

  -- a change of one slot, while the scratch measures 0
  with-slot : (world : World (Bag A)) (s more : ℕ) (bag : Bag A) → measure world.scratch.levels ≡ 0 → measure bag.levels ≡ more → (i : ℕ) →
      with_scratch measure (record { slots = changed world.slots s bag; scratch = world.scratch; target = world.target }) i ≡ changed (with_scratch measure world) s more i
  with-slot world s more bag e r i = grind (arith, common_steps, settled, changed-through, changed-all)

  with-moved : (world : World (Bag A)) (s h : ℕ) (front rest : List A) → front ++ rest ≡ level_at world.scratch.levels h →
      (sum (bag_lengths world.scratch) == 0 || s == world.target) ≡ true → (i : ℕ) →
      let after = moved h front rest (record { bag = world.slots s; scratch = world.scratch }) in
      with_scratch measure (record { slots = changed world.slots s after.bag; scratch = after.scratch; target = world.target }) i ≡ with_scratch measure world i
  with-moved world s h front rest all rule i =
      let work : Work (Bag A) = record { bag = world.slots s; scratch = world.scratch } in
      let keeps = is.moves h front rest work all in
      ap (λ n. n + (if i == world.target then measure (moved h front rest work).scratch.levels else 0)) (changed-through world.slots (λ (b : Bag A). measure b.levels) s (moved h front rest work).bag i) ∙
      (grind (arith, eqb-true, ap (λ j. measure (world.slots j).levels), keeps.0, keeps.1, ⊎_elim (λ e. inl e) (λ e. inr (eqb-true _ _ e)) (by_rule world _ rule)))

  -- each event but a compaction changes the measures of the slots as `after_event` changes numbers,
  -- if a Put adds to the measure of a bag what it adds to a number
  pub with-event : (cmp : A → A → Ordering) (puts : ℕ → A → ℕ) → ((h : ℕ) (x : A) (levels : List (List A)) → measure (with_level [] h (λ level. level ++ x ∷ []) levels) ≡ measure levels + puts h x) →
      (e : Event A) (next : Bool) (world : World (Bag A)) → compacts e ≡ false → IsTrue (sum (bag_lengths world.scratch) == 0 || goes_on e world.target) →
      (i : ℕ) → with_scratch measure (happens (act cmp) e next world) i ≡ after_event puts e (with_scratch measure world) i
  with-event cmp puts adds (Snap s t) next world still rule i = grind (arith, common_steps, eqb-true, settled)
  with-event cmp puts adds (At s (Put h x)) next world still rule i = grind (arith, common_steps, with-slot, settled)
  with-event cmp puts adds (At s Clear) next world still rule i = with-slot world s 0 empty_bag (⊎_elim (λ e. e) (λ e. absurd (false≢true e)) (by_rule world false rule)) (is.none empty_bag.levels refl) i
  with-event cmp puts adds (At s Pull) next world still rule i =
      let level = level_at world.scratch.levels 0 in
      let work : Work (Bag A) = record { bag = world.slots s; scratch = world.scratch } in
      let after = moved 0 (take 1 level) (drop 1 level) work in
      let of_bag = λ (b : Bag A). measure b.levels in
      ap (λ n. n + (if i == world.target then measure after.scratch.levels else 0))
      (changed-through world.slots of_bag s (act cmp Pull next work).bag i ∙ sym (changed-through world.slots of_bag s after.bag i)) ∙
      with-moved world s 0 (take 1 level) (drop 1 level) (take-append-drop 1 level) rule i
  with-event cmp puts adds (At s (Join h)) next world still rule i = with-moved world s h (level_at world.scratch.levels h) [] (append-nil (level_at world.scratch.levels h)) rule i
  with-event cmp puts adds (At s Forget) next world still rule i = grind (arith, common_steps, changed-through, changed-own)
  with-event cmp puts adds (At s (Redraw h)) next world still rule i = grind (arith, common_steps, changed-through, changed-own)
  with-event cmp puts adds (At s (Compact h coin taken)) next world still rule i = absurd (false≢true (sym still))
