-- The load bounds the error: a compaction of level h that takes n items moves the rank by at most 2^h, and 2^h n is load that leaves the level.
-- So the squares of all compactions sum to at most a share of n^2.
use Rattle.std.proofs.lemmas.Grind.{common_steps}
use Rattle.std.proofs.Common.{◌≡◌, ℕ, zero, suc, ◌+◌, ◌*◌, ◌/◌, ◌%◌, ◌^◌, ◌≤◌, Bool, true, false, not, ◌&&◌, ◌||◌, ◌==◌, IsTrue, List, [], ◌∷◌, ◌++◌, length, drop, sum, sum_by, slice_index, refl, sym, ap, subst, ◌∙◌, arith, if◌then◌else◌, ⊎_elim, eqb-true, add-zero, zero-add, mul-le-mul_left, length-append, Ordering}
use Rattle.std.specs.Prelude.{⊤}
use Rattle.std.specs.Cmp.{IsTotalOrder}
use Rattle.std.proofs.lemmas.List.Sums.{sum_by-cons}
use Rattle.std.proofs.lemmas.Bool.{false≢true, cases_lt}
use Rattle.sketch_base.specs.declared.common.SearchCriteria.{SearchCriteria}
use Rattle.sketch_base.specs.Query.{counted}
use Rattle.sketch_base.specs.Bag.{Bag, Taken, sort, half, cut, parity_up, level_at, with_level, compaction, weigh, weighted_rank, load_from, load}
use Rattle.sketch_base.specs.Trace.{Compact, Coin, Event, At, World, act, bit_of, happens, event_draws, next_bit, play, start, is_kll, IsKll}
use Rattle.sketch_base.specs.Ranks.{ranks_after, true_ranks, rank_of_trace}
use Rattle.sketch_base.specs.Words.{distance}
use Rattle.sketch_base.specs.Lengths.{takes, TakesEven, MeetsEight, LeavesTail, TakesFew, Along, bag_lengths, lengths_after, world_lengths, start_lengths, ObeysScratch, goes_on, IsLegalKll, IsLegalReq}
use Rattle.sketch_base.proofs.bags.Acts.{sum_by-expanded, rank, compaction-averages, IsMeasure, with_scratch, settled, scratch-none, with-event}
use Rattle.sketch_base.proofs.plays.Plays.{one, held, held-settled, held-ended, held-event, related-after, lengths-happens, length-level_at, length-left, length-taken, length-half, even-kll}
use Rattle.sketch_base.proofs.order.Order.{Falling, IsNear, compaction-near, counted-falls}

-- the arithmetic of a move
moved_load : (h w b b' s s' front rest level : ℕ) → b' ≡ b + h * (w * front) → s' + h * (w * level) ≡ s + h * (w * rest) → front + rest ≡ level → (b' + s' ≡ b + s) × (s' ≤ s)
moved_load h w b b' s s' front rest level p q e = grind (arith, common_steps)

-- the arithmetic of a compaction of level h: w is the weight of an item of the level, w2 that of an item of the level above
compacted_load : (h w w2 new rest old level left taken up : ℕ) → w2 ≡ 2 * w → new ≡ rest + suc h * (w2 * up) → rest + h * (w * level) ≡ old + h * (w * left) →
    left + taken ≡ level → taken ≡ 2 * up → new ≡ old + w * taken
compacted_load h w w2 new rest old level left taken up e p q a b = rw b (omega (arith, rw e at p, rw (← a, b) at q))

-- each legal REQ compaction takes an even number of items, at least 4
takes-few : (stay : ℕ) (taken : Taken) (n : ℕ) → TakesFew stay taken n → (takes taken n % 2 ≡ 0) × (4 ≤ takes taken n)
takes-few stay taken n few = grind (arith, common_steps)

module _ {A : Type 0} where
  load-with_level : (h k : ℕ) (change : List A → List A) (levels : List (List A)) → load_from k (with_level [] h change levels)
      + (h + k) * (2 ^ (h + k) * length (level_at levels h)) ≡ load_from k levels + (h + k) * (2 ^ (h + k) * length (change (level_at levels h)))
  load-with_level zero k change [] = rw zero-add (omega arith)
  load-with_level zero k change (level ∷ above) = rw zero-add (omega arith)
  load-with_level (suc h) k change [] = grind (arith, common_steps, load-with_level h (suc k) change)
  load-with_level (suc h) k change (level ∷ above) = grind (arith, common_steps, load-with_level h (suc k) change above)

  -- items added at the end of a level
  load-added : (h : ℕ) (items : List A) (levels : List (List A)) → load_from 0 (with_level [] h (λ level. level ++ items) levels) ≡ load_from 0 levels + h * (2 ^ h * length items)
  load-added h items levels = omega (arith, rw add-zero at (load-with_level h 0 (λ level. level ++ items) levels), ap (λ n. h * (2 ^ h * n)) (length-append (level_at levels h) items))

  -- a level replaced
  load-replaced : (h : ℕ) (items : List A) (levels : List (List A)) → load_from 0 (with_level [] h (λ level. items) levels)
      + h * (2 ^ h * length (level_at levels h)) ≡ load_from 0 levels + h * (2 ^ h * length items)
  load-replaced h items levels = rw add-zero at (load-with_level h 0 (λ level. items) levels)

  -- a bag that retains no items has the load 0
  load-empty : (h : ℕ) (levels : List (List A)) → sum_by length levels ≡ 0 → load_from h levels ≡ 0
  load-empty h [] e = refl
  load-empty h ([] ∷ above) e = omega (arith, load-empty (suc h) above e)
  load-empty h ((x ∷ level) ∷ above) e = absurd (omega (arith, sum_by-cons length (x ∷ level) above, e))

  load_is_measure : IsMeasure {A = A} (load_from 0)
  load_is_measure = record {
    none = load-empty 0;
    moves = λ h front rest work e. moved_load h (2 ^ h) _ _ _ _ (length front) (length rest) _ (load-added h front work.bag.levels) (load-replaced h rest work.scratch.levels)
        (sym (length-append front rest) ∙ ap length e);
  }

  -- the load of a slot, with the scratch's load if the slot is its target
  abbrev loaded : World (Bag A) → ℕ → ℕ
  loaded = with_scratch (load_from 0)

  -- a compaction of an even number of items raises the load by their weight
  compaction-loads : (cmp : A → A → Ordering) (h : ℕ) (taken : Taken) (bit : Bool) (bag : Bag A) → takes taken (length (level_at bag.levels h)) % 2 ≡ 0 →
      load (compaction cmp h taken bit bag) ≡ load bag + 2 ^ h * takes taken (length (level_at bag.levels h))
  compaction-loads cmp h taken bit bag evens =
      let level = level_at bag.levels h in
      let in_list_order = h == 0 && not bag.is_sorted in
      let parts = cut cmp taken in_list_order level in
      let n = takes taken (length level) in
      let fewer : n ≤ length level = grind arith in
      let parity = parity_up taken bit (level_at bag.levels (suc h)) in
      let long : length parts.1 ≡ n = length-taken cmp taken in_list_order level in
      compacted_load h (2 ^ h) (2 ^ suc h) _ _ _ (length level) (length parts.0) n (length (half parity parts.1)) (omega arith)
      (load-added (suc h) (half parity parts.1) (with_level [] h (λ level. parts.0) bag.levels)) (load-replaced h parts.0 bag.levels)
      (omega (arith, length-left cmp taken in_list_order level, fewer)) (omega (arith, length-half parity (n / 2) parts.1 (omega (arith, long, evens)), evens))

  -- a compaction takes at least c items
  abbrev TakesMany : ℕ → Event A → World (List ℕ) → Type 0
  TakesMany c (At s (Compact h coin taken)) world = c ≤ takes taken (slice_index (world.slots s) h)
  TakesMany c _ world = ⊤

  -- a compaction takes an even number of items, at least c
  abbrev TakesEvenMany : ℕ → Event A → World (List ℕ) → Type 0
  TakesEvenMany c e world = TakesEven e world × TakesMany c e world

  -- each KLL compaction of a level of at least 8 items takes at least 8
  takes-eight : (e : Event A) (world : World (List ℕ)) → is_kll e ≡ true → MeetsEight e world → TakesMany 8 e world
  takes-eight e world kll meets = grind (arith, common_steps, false≢true)

  along-eight : (trace : List (Event A)) (world : World (List ℕ)) → IsKll trace → Along MeetsEight trace world → Along (TakesEvenMany 8) trace world
  along-eight [] world kll meets = tt
  along-eight (e ∷ es) world kll meets = ((even-kll e world kll.0, takes-eight e world kll.0 meets.0), along-eight es (lengths_after e world) kll.1 meets.1)

  takes-four : (k : ℕ → ℕ) (e : Event A) (world : World (List ℕ)) → LeavesTail k e world → TakesEvenMany 4 e world
  takes-four k e world leaves = grind (arith, common_steps, takes-few)

  along-four : (k : ℕ → ℕ) (trace : List (Event A)) (world : World (List ℕ)) → Along (LeavesTail k) trace world → Along (TakesEvenMany 4) trace world
  along-four k [] world leaves = tt
  along-four k (e ∷ es) world leaves = (takes-four k e world leaves.0, along-four k es (lengths_after e world) leaves.1)

-- two numbers whose average is m and that are at most 2 * c apart are at most c from m
near_middle : (a b m c : ℕ) → a + b ≡ 2 * m → IsNear a b (2 * c) → IsNear a m c × IsNear b m c
near_middle a b m c e near = ((omega (arith, e, near.0, near.1), omega (arith, e, near.0, near.1)), (omega (arith, e, near.0, near.1), omega (arith, e, near.0, near.1)))

-- the arithmetic of a compaction: the rank moves by at most w while the load grows by w * n, for c at most n
near_compacted : (c n w new old rest ranks load load' more : ℕ) → IsNear new old w → load' ≡ load + w * n → c ≤ n → IsNear (c * (old + rest)) (c * ranks) (load + more) →
    IsNear (c * (new + rest)) (c * ranks) (load' + more)
near_compacted c n w new old rest ranks load load' more near e le h =
    (omega (arith, mul-le-mul_left c near.0, mul-le-mul_left c near.1, mul-le-mul_left w le, e, h.0, h.1), omega (arith, mul-le-mul_left c near.0, mul-le-mul_left c near.1, mul-le-mul_left w le, e, h.0, h.1))

-- c times the distance of two numbers, if c times one is near c times the other
scaled_gap : (c x a b d : ℕ) → b ≡ a + x → c * b ≤ c * a + d → c * x ≤ d
scaled_gap c x a b d e le = omega (arith, ap (λ n. c * n) e, le)

near_distance : (c a a' b d : ℕ) → a' ≡ a → IsNear (c * a) (c * b) d → c * distance a' b ≤ d
near_distance c a a' b d e near = ⊎_elim (λ lt. scaled_gap c (distance a' b) a b d (omega arith) near.1) (λ le. scaled_gap c (distance a' b) b a d (omega arith) near.0) (cases_lt a b)

module _ {A : Type 0} (cmp : A → A → Ordering) (test : A → Bool) (falls : (xs : List A) → Falling test (sort cmp xs)) where
  -- a compaction moves the rank by at most the weight of one item
  compaction-moves : (h : ℕ) (taken : Taken) (bit : Bool) (bag : Bag A) → IsNear (rank (one test) (compaction cmp h taken bit bag)) (rank (one test) bag) (2 ^ h)
  compaction-moves h taken bit bag =
      let both = near_middle _ _ _ _ (compaction-averages (one test) cmp h taken bag) (compaction-near test cmp falls h taken bag) in
      elim bit as (λ (b : Bool). IsNear (rank (one test) (compaction cmp h taken b bag)) (rank (one test) bag) (2 ^ h)) [ false ↦ both.0 | true ↦ both.1 ]

  module _ (c : ℕ) where
    -- c times the error of what each slot holds is at most its load
    abbrev IsWithin : World (Bag A) → (ℕ → ℕ) → Type 0
    IsWithin world ranks = (i : ℕ) → IsNear (c * held test world i) (c * ranks i) (loaded world i)

    within-compact : (s h : ℕ) (coin : Coin) (taken : Taken) (next : Bool) (world : World (Bag A)) (ranks : ℕ → ℕ) →
        TakesEvenMany {A = A} c (At s (Compact h coin taken)) (world_lengths world) → IsWithin world ranks → IsWithin (happens (act cmp) (At s (Compact h coin taken)) next world) ranks
    within-compact s h coin taken next world ranks takes_many inv i =
        let old = world.slots s in
        let rest = λ (measure : List (List A) → ℕ). if i == world.target then measure world.scratch.levels else 0 in
        let is_near = λ (bag : Bag A). IsNear (c * (rank (one test) bag + rest (weigh (sum_by (one test)) 0))) (c * ranks i) (load bag + rest (load_from 0)) in
        (elim (i == s) as (λ (b : Bool). (i == s) ≡ b → is_near (if b then ((act cmp (Compact h coin taken) next (record { bag = old; scratch = world.scratch })).bag) else world.slots i)) [
          | true ↦ λ e. near_compacted c _ (2 ^ h) _ (rank (one test) old) _ _ (load old) _ _
              (compaction-moves h taken (bit_of coin h next old) old)
              (compaction-loads cmp h taken (bit_of coin h next old) old (subst (λ n. takes taken n % 2 ≡ 0) (length-level_at h old.levels) takes_many.0))
              (subst (λ n. c ≤ takes taken n) (length-level_at h old.levels) takes_many.1) (subst is_near (ap world.slots (eqb-true i s e)) (inv i))
          | false ↦ λ e. inv i
        ]) refl

    within-after : (e : Event A) (next : Bool) (world : World (Bag A)) (ranks : ℕ → ℕ) → IsTrue (sum (bag_lengths world.scratch) == 0 || goes_on e world.target) →
        TakesEvenMany c e (world_lengths world) → IsWithin world ranks → IsWithin (happens (act cmp) e next world) (ranks_after test e ranks)
    within-after (At s (Compact h coin taken)) next world ranks rule takes_many inv i = within-compact s h coin taken next world ranks takes_many inv i
    within-after e next world ranks rule takes_many inv i =
        rw ((held-event test cmp e next world refl rule i), (with-event load_is_measure cmp adds (λ h x levels. load-added h (x ∷ []) levels) e next world refl rule i)) (related-after (λ a b d. IsNear (c * a) (c * b) d) (omega arith, omega arith) (λ a b d a' b' d' near near'. (omega (arith, near, near'), omega (arith, near, near'))) counts counts adds (λ h x. (omega arith, omega arith)) e (held test world) ranks (loaded world) inv i)
      where
        -- what a Put of an item adds to the rank, and to the load
        counts : ℕ → A → ℕ
        counts h x = if test x then 2 ^ h else 0

        adds : ℕ → A → ℕ
        adds h x = h * (2 ^ h * 1)

    -- this stays so along a trace
    within_from : (trace : List (Event A)) (word : List Bool) (world : World (Bag A)) (ranks : ℕ → ℕ) → ObeysScratch trace (world_lengths world) →
        Along (TakesEvenMany c) trace (world_lengths world) → IsWithin world ranks → (i : ℕ) →
        IsNear (c * rank (one test) ((play cmp trace word world).slots i)) (c * true_ranks test trace ranks i) (load ((play cmp trace word world).slots i))
    within_from [] word world ranks obeys takes_many inv i =
        rw ((sym (held-ended test world obeys i)), (sym (settled load_is_measure world (scratch-none load_is_measure world.scratch obeys) i))) (inv i)
    within_from (e ∷ es) word world ranks obeys takes_many inv i =
        let same = lengths-happens cmp e (next_bit word) world takes_many.0.0 in
        within_from es (if event_draws e then drop 1 word else word) (happens (act cmp) e (next_bit word) world) (ranks_after test e ranks)
        (subst (λ w. ObeysScratch es w) (sym same) obeys.1) (subst (λ w. Along (TakesEvenMany c) es w) (sym same) takes_many.1)
        (within-after e (next_bit word) world ranks obeys.0 takes_many.0 inv) i

    -- so it is after a trace from a run's start
    within_load : (trace : List (Event A)) (word : List Bool) (slot : ℕ) → ObeysScratch trace start_lengths → Along (TakesEvenMany c) trace start_lengths →
        c * distance (weighted_rank cmp test ((play cmp trace word start).slots slot)) (rank_of_trace test trace slot) ≤ load ((play cmp trace word start).slots slot)
    within_load trace word slot obeys takes_many = near_distance c _ _ _ _ (sum_by-expanded (one test) cmp ((play cmp trace word start).slots slot))
        (within_from trace word start (λ s. 0) obeys takes_many (λ i. let e = held-settled test start refl i in (rw e (omega arith), omega arith)) slot)

module _ {A : Type 0} {cmp : A → A → Ordering} (order : IsTotalOrder cmp) where
  -- 8 times KLL's error, and 4 times REQ's, is at most the load
  pub kll_within_load : (y : A) (criteria : SearchCriteria) (trace : List (Event A)) (word : List Bool) (slot : ℕ) → IsLegalKll trace →
      8 * distance (weighted_rank cmp (counted cmp y criteria) ((play cmp trace word start).slots slot)) (rank_of_trace (counted cmp y criteria) trace slot) ≤ load
      ((play cmp trace word start).slots slot)
  kll_within_load y criteria trace word slot legal =
      within_load cmp (counted cmp y criteria) (counted-falls order y criteria) 8 trace word slot legal.scratch (along-eight trace start_lengths legal.kll legal.sizes)

  pub req_within_load : (k : ℕ → ℕ) (y : A) (criteria : SearchCriteria) (trace : List (Event A)) (word : List Bool) (slot : ℕ) → IsLegalReq k trace →
      4 * distance (weighted_rank cmp (counted cmp y criteria) ((play cmp trace word start).slots slot)) (rank_of_trace (counted cmp y criteria) trace slot) ≤ load
      ((play cmp trace word start).slots slot)
  req_within_load k y criteria trace word slot legal =
      within_load cmp (counted cmp y criteria) (counted-falls order y criteria) 4 trace word slot legal.scratch (along-four k trace start_lengths legal.sizes)
