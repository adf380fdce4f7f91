-- What no compaction reached is exact. Along a trace whose compactions leave at least m items of their level on one side, every count of
-- at most m items from that side is the true one, and a bag weighs what its stream is long.
use Rattle.std.proofs.lemmas.Grind.{common_steps}
use Rattle.std.proofs.Common.{◌≡◌, ◌≢◌, ℕ, zero, suc, ◌+◌, ◌-◌, ◌*◌, ◌^◌, ◌≤◌, Bool, true, false, not, ◌&&◌, ◌||◌, ◌==◌, nat_le, ◌⊎◌, inl, inr, ⊎_elim, IsTrue, if◌then◌else◌, List, [], ◌∷◌, length, take, drop, sum, sum_by, count_by, slice_index, refl, sym, ap, ◌∙◌, subst, arith, eqb-true, leb-true, length-take, mul-le-mul_right, pow_pos, Ordering, ◌/◌, ◌%◌}
use Rattle.std.proofs.lemmas.Bool.{and_parts, eqb-false, false≢true}
use Rattle.std.proofs.lemmas.List.Sums.{sum_by-cons, sum_by-take-drop, count_by-le-length}
use Rattle.sketch_base.specs.Bag.{Bag, Taken, Lowest, Greatest, weigh, sort, half, cut, parity_up, level_at, with_level, weighted_rank}
use Rattle.sketch_base.specs.Exact.{IsExactUpTo}
use Rattle.sketch_base.specs.Lengths.{takes, TakesEven, Along, bag_lengths, world_lengths, start_lengths, ObeysScratch, goes_on, leaves_after, leaves_at_least}
use Rattle.sketch_base.specs.Ranks.{ranks_after, true_ranks, rank_of_trace}
use Rattle.sketch_base.specs.Trace.{Put, Compact, Clear, Coin, Event, Snap, At, World, changed, act, bit_of, happens, event_draws, next_bit, play, start, is_lowest, is_greatest}
use Rattle.sketch_base.proofs.bags.Acts.{rank, weigh-added, sum_by-cut, changed-there, changed-other, compacted, compacted-moves, part, up, sum_by-halves, sum_by-expanded}
use Rattle.sketch_base.proofs.unbiased.Mirrored.{level_at-same}
use Rattle.sketch_base.proofs.order.Order.{Falling, counted-falls}
use Rattle.sketch_base.proofs.plays.Plays.{lengths-happens, length-level_at, length-left, length-sort, length-taken, length-half, one, held, held-settled, held-ended, held-event, held-unchanged, true_ranks-related, true_ranks-same}
use Rattle.std.specs.Cmp.{IsTotalOrder}
use Rattle.sketch_base.specs.declared.common.SearchCriteria.{SearchCriteria}
use Rattle.sketch_base.specs.Query.{counted}
use Rattle.sketch_base.proofs.views.Entries.{sum-ones}

-- Counts of what compactions spare: along a trace whose compactions leave at least m items of their levels, they are exact up to m.

module _ {A : Type 0} (test : A → Bool) where
  -- the count of what passes and the count of what doesn't add up to the length
  pub both_counts : (xs : List A) → count_by test xs + count_by (λ x. not (test x)) xs ≡ length xs
  both_counts [] = omega arith
  both_counts (x ∷ xs) = grind (arith, both_counts xs, sum_by-cons (one test) x xs, sum_by-cons (one (λ x. not (test x))) x xs)

  -- if the test is falling on a list, either no item after the first n passes or n items before them do
  pub end_or_front : (n : ℕ) (xs : List A) → Falling test xs → (count_by test (drop n xs) ≡ 0) ⊎ (n ≤ count_by test (take n xs))
  end_or_front zero xs h = inr (omega arith)
  end_or_front (suc n) [] h = inl refl
  end_or_front (suc n) (x ∷ xs) h = grind (arith, end_or_front n xs h.1, h.0, sum_by-cons (one test) x (take n xs), sum_by-take-drop (one test) xs n)

  -- and either none of the first n items fails or no item after them passes
  pub front_or_end : (n : ℕ) (xs : List A) → Falling test xs → (count_by (λ x. not (test x)) (take n xs) ≡ 0) ⊎ (count_by test (drop n xs) ≡ 0)
  front_or_end (suc n) (x ∷ xs) h = grind (arith, front_or_end n xs h.1, h.0, sum_by-cons (one (λ x. not (test x))) x (take n xs), sum_by-take-drop (one test) xs n)
  front_or_end _ _ h = inl refl

-- ---- counts that are exact up to a number

pub exact-as : (most c c' w w' : ℕ) → c ≡ c' → w ≡ w' → IsExactUpTo most c w → IsExactUpTo most c' w'
exact-as most c c' w w' e f h = subst (λ (n : ℕ). IsExactUpTo most n w') e (subst (λ (n : ℕ). IsExactUpTo most c n) f h)

pub exact-more : (most c w d : ℕ) → IsExactUpTo most c w → IsExactUpTo most (c + d) (w + d)
exact-more most c w d h = record {
  same = λ le. omega (arith, h.same (omega (arith, le)));
  enough = omega (arith, h.enough);
}

pub exact-both : (m c c' w w' : ℕ) → IsExactUpTo m c w → IsExactUpTo m c' w' → IsExactUpTo m (c + c') (w + w')
exact-both m c c' w w' h h' = record {
  same = λ le. omega (arith, h.same (omega (arith, le)), h'.same (omega (arith, le)));
  enough = omega (arith, h.enough, h'.enough);
}

-- ---- compactions

module _ {A : Type 0} (cmp : A → A → Ordering) where
  -- a cut takes nothing that passes, or leaves nothing but what passes
  abbrev pub SparesOrFills : (A → Bool) → Taken → Type 0
  SparesOrFills test taken = (flag : Bool) (level : List A) →
      (count_by test (cut cmp taken flag level).1 ≡ 0) ⊎ (count_by test (cut cmp taken flag level).0 ≡ length (cut cmp taken flag level).0)

  -- a cut of the lowest items, if what fails passes a falling test
  pub spares-lowest : (test : A → Bool) → ((xs : List A) → Falling test (sort cmp xs)) → (n : ℕ) → SparesOrFills (λ x. not (test x)) (Lowest n)
  spares-lowest test falls n flag level =
      ⊎_elim (λ none. inl none) (λ none. inr (omega (arith, none, both_counts test (drop n (sort cmp level))))) (front_or_end test n (sort cmp level) (falls level))

  -- a cut of the greatest items, if a falling test passes
  pub spares-greatest : (test : A → Bool) → ((xs : List A) → Falling test (sort cmp xs)) → (n : ℕ) → SparesOrFills test (Greatest n)
  spares-greatest test falls n flag level = ⊎_elim (λ none. inl none)
      (λ all. inr (omega (arith, all, count_by-le-length test (take (length level - n) (sort cmp level)), length-take (length level - n) (sort cmp level), length-sort cmp level)))
      (end_or_front test (length level - n) (sort cmp level) (falls level))

module _ {A : Type 0} (cmp : A → A → Ordering) (test : A → Bool) where
  pub half_none : (parity : Bool) (xs : List A) → count_by test xs ≡ 0 → count_by test (half parity xs) ≡ 0
  half_none parity xs e = grind (arith, sum_by-halves (one test) xs)

  -- a test counts no more in a level than in its bag
  pub level-le-rank : (h k : ℕ) (levels : List (List A)) → count_by test (level_at levels h) ≤ weigh (sum_by (one test)) k levels
  level-le-rank zero k (level ∷ above) = omega (arith, mul-le-mul_right (count_by test level) (pow_pos k))
  level-le-rank (suc h) k (level ∷ above) = omega (arith, level-le-rank h (suc k) above)
  level-le-rank _ k [] = omega arith

  same-exact : (most count m n : ℕ) → m ≡ n → IsExactUpTo most count n → IsExactUpTo most count m
  same-exact most count m n e h = subst (λ (w : ℕ). IsExactUpTo most count w) (sym e) h

  -- a compaction that leaves at least `most` items keeps a count that is exact up to `most`, beside what else is counted
  pub exact-beside : (most count extra h : ℕ) (taken : Taken) (bit : Bool) (bag : Bag A) → SparesOrFills cmp test taken →
      most + takes taken (length (level_at bag.levels h)) ≤ length (level_at bag.levels h) →
      IsExactUpTo most count (rank (one test) bag + extra) → IsExactUpTo most count (rank (one test) (compacted cmp (one test) h taken bit bag) + extra)
  exact-beside most count extra h taken bit bag spares room exact =
      let parts = cut cmp taken (h == 0 && not bag.is_sorted) (level_at bag.levels h) in
      let parity = parity_up taken bit (level_at bag.levels (suc h)) in
      let new = rank (one test) (compacted cmp (one test) h taken bit bag) in
      let none : count_by test parts.1 ≡ 0 → IsExactUpTo most count (new + extra) = λ none.
      same-exact most count (new + extra) (rank (one test) bag + extra)
      (ap (λ n. n + extra) (omega (arith, (compacted-moves cmp (one test) h taken bit bag), ap (λ n. (2 ^ h) * n) none, ap (λ n. (2 ^ suc h) * n) (half_none parity parts.1 none)))) exact in
      ⊎_elim none (λ all. go (count_by test parts.1) refl all none) (spares (h == 0 && not bag.is_sorted) (level_at bag.levels h))
    where
      go : (n : ℕ) → count_by test (cut cmp taken (h == 0 && not bag.is_sorted) (level_at bag.levels h)).1 ≡ n →
          count_by test (cut cmp taken (h == 0 && not bag.is_sorted) (level_at bag.levels h)).0 ≡ length (cut cmp taken (h == 0 && not bag.is_sorted) (level_at bag.levels h)).0 →
          (count_by test (cut cmp taken (h == 0 && not bag.is_sorted) (level_at bag.levels h)).1 ≡ 0 → IsExactUpTo most count (rank (one test) (compacted cmp (one test) h taken bit bag) + extra)) →
          IsExactUpTo most count (rank (one test) (compacted cmp (one test) h taken bit bag) + extra)
      go zero e all none = none e
      go (suc n) e all none =
          let parts = cut cmp taken (h == 0 && not bag.is_sorted) (level_at bag.levels h) in
          let left : List (List A) = with_level [] h (λ l. parts.0) bag.levels in
          let stay : most ≤ count_by test parts.0 = omega (arith, all, length-left cmp taken (h == 0 && not bag.is_sorted) (level_at bag.levels h), room) in
          let many : suc most ≤ rank (one test) bag = omega (arith, stay, e, sum_by-cut (one test) cmp taken (h == 0 && not bag.is_sorted) (level_at bag.levels h), level-le-rank h 0 bag.levels) in
          let here : count_by test parts.0 ≤ weigh (sum_by (one test)) 0 left =
          subst (λ (l : List A). count_by test l ≤ weigh (sum_by (one test)) 0 left) (level_at-same h (λ m. parts.0) bag.levels) (level-le-rank h 0 left) in
          let more : most ≤ rank (one test) (compacted cmp (one test) h taken bit bag) =
          omega (arith, stay, here, weigh-added (one test) (suc h) (half (parity_up taken bit (level_at bag.levels (suc h))) parts.1) left) in
          record {
            same = λ le. absurd (omega (arith, le, exact.same le, many));
            enough = omega (arith, more);
          }

-- ---- traces

module _ {A : Type 0} (cmp : A → A → Ordering) (test : A → Bool) (m : ℕ) (side : Taken → Bool) (spares : (taken : Taken) → side taken ≡ true → SparesOrFills cmp test taken) where
  -- counts that are exact up to m stay so after a change of one slot
  exact-changed : (f g : ℕ → ℕ) (leaves leaves' : ℕ → Bool) (s u v : ℕ) → ((i : ℕ) → leaves i ≡ true → IsExactUpTo m (g i) (f i)) → ((i : ℕ) → i ≢ s → leaves' i ≡ true → leaves i ≡ true) →
      (leaves' s ≡ true → IsExactUpTo m v u) → (i : ℕ) → leaves' i ≡ true → IsExactUpTo m (changed g s v i) (changed f s u i)
  exact-changed f g leaves leaves' s u v inv same at i left = go (i == s) refl
    where
      go : (b : Bool) → (i == s) ≡ b → IsExactUpTo m (if b then v else g i) (if b then u else f i)
      go b e = grind (arith, common_steps, eqb-true, eqb-false)

  -- what a slot holds is exact up to m, if its compactions left at least m items
  abbrev AreExact : World (Bag A) → (ℕ → ℕ) → (ℕ → Bool) → Type 0
  AreExact world ranks leaves = (i : ℕ) → leaves i ≡ true → IsExactUpTo m (ranks i) (held test world i)

  -- after a compaction of the slot
  exact-here : (s h : ℕ) (coin : Coin) (taken : Taken) (next : Bool) (world : World (Bag A)) (count : ℕ) → side taken ≡ true →
      m + takes taken (slice_index (bag_lengths (world.slots s)) h) ≤ slice_index (bag_lengths (world.slots s)) h → IsExactUpTo m count (held test world s) →
      IsExactUpTo m count (held test (happens (act cmp) (At s (Compact h coin taken)) next world) s)
  exact-here s h coin taken next world count on_side room exact =
      let bag = world.slots s in
      let here : m + takes taken (length (level_at bag.levels h)) ≤ length (level_at bag.levels h) = subst (λ n. m + takes taken n ≤ n) (length-level_at h bag.levels) room in
      let extra : ℕ = if s == world.target then rank (one test) world.scratch else 0 in
      let new : Bag A = (act cmp (Compact h coin taken) next (record { bag = bag; scratch = world.scratch })).bag in
      let beside : IsExactUpTo m count (rank (one test) new + extra) = exact-beside cmp test m count extra h taken (bit_of coin h next bag) bag (spares taken on_side) here exact in
      subst (λ (b : Bag A). IsExactUpTo m count (rank (one test) b + extra)) (sym (changed-there world.slots s new)) beside

  exact-event : (e : Event A) (next : Bool) (world : World (Bag A)) (ranks : ℕ → ℕ) (leaves : ℕ → Bool) →
      IsTrue (sum (bag_lengths world.scratch) == 0 || goes_on e world.target) → AreExact world ranks leaves →
      AreExact (happens (act cmp) e next world) (ranks_after test e ranks) (leaves_after side m e (world_lengths world) leaves)
  exact-event (Snap s t) next world ranks leaves rule inv i left = exact-as m _ _ _ _ refl (sym (held-event test cmp (Snap s t) next world refl rule i))
      (grind (arith, common_steps, exact-changed, held, changed-other, and_parts, changed-there, exact-both))
  exact-event (At s (Put h x)) next world ranks leaves rule inv i left = exact-as m _ _ _ _ refl (sym (held-event test cmp (At s (Put h x)) next world refl rule i))
      (exact-changed (held test world) ranks leaves leaves s _ _ inv (λ j ne l. l) (λ l. exact-more m _ _ _ (inv s l)) i left)
  exact-event (At s Clear) next world ranks leaves rule inv i left = exact-as m _ _ _ _ refl (sym (held-event test cmp (At s Clear) next world refl rule i))
      (grind (arith, common_steps, exact-changed, held, changed-other))
  exact-event (At s (Compact h coin taken)) next world ranks leaves rule inv i left = go (i == s) refl
    where
      n : ℕ
      n = slice_index (bag_lengths (world.slots s)) h

      fits : Bool
      fits = side taken && nat_le (m + takes taken n) n

      go : (b : Bool) → (i == s) ≡ b → IsExactUpTo m (ranks i) (held test (happens (act cmp) (At s (Compact h coin taken)) next world) i)
      go true e =
          let own = and_parts (leaves s) (side taken && nat_le (m + takes taken (slice_index (bag_lengths (world.slots s)) h)) (slice_index (bag_lengths (world.slots s)) h))
          (sym (changed-there leaves s _) ∙ subst (λ j. leaves_after {A = A} side m (At s (Compact h coin taken)) (world_lengths world) leaves j ≡ true) (eqb-true i s e) left) in
          let room = and_parts (side taken) (nat_le (m + takes taken (slice_index (bag_lengths (world.slots s)) h)) (slice_index (bag_lengths (world.slots s)) h)) own.1 in
          subst (λ j. IsExactUpTo m (ranks j) (held test (happens (act cmp) (At s (Compact h coin taken)) next world) j)) (sym (eqb-true i s e))
          (exact-here s h coin taken next world (ranks s) room.0 (leb-true _ _ room.1) (inv s own.0))
      go false e = exact-as m _ _ _ _ refl (sym (held-unchanged test cmp s h coin taken next world i (λ p. absurd ((eqb-false i s e) p))))
          (inv i (sym (changed-other leaves s _ i (eqb-false i s e)) ∙ left))
  exact-event e next world ranks leaves rule inv i left = exact-as m _ _ _ _ refl (sym (held-event test cmp e next world refl rule i)) (inv i left)

  exact-along : (trace : List (Event A)) (word : List Bool) (world : World (Bag A)) (ranks : ℕ → ℕ) (leaves : ℕ → Bool) → ObeysScratch trace (world_lengths world) →
      Along TakesEven trace (world_lengths world) → AreExact world ranks leaves → (i : ℕ) → leaves_at_least side m trace (world_lengths world) leaves i ≡ true →
      IsExactUpTo m (true_ranks test trace ranks i) (rank (one test) ((play cmp trace word world).slots i))
  exact-along [] word world ranks leaves obeys evens inv i left = exact-as m _ _ _ _ refl (held-ended test world obeys i) (inv i left)
  exact-along (e ∷ es) word world ranks leaves obeys evens inv i left =
      let same = lengths-happens cmp e (next_bit word) world evens.0 in
      exact-along es (if event_draws e then drop 1 word else word) (happens (act cmp) e (next_bit word) world) (ranks_after test e ranks) (leaves_after side m e (world_lengths world) leaves)
      (subst (λ w. ObeysScratch es w) (sym same) obeys.1) (subst (λ w. Along TakesEven es w) (sym same) evens.1) (exact-event e (next_bit word) world ranks leaves obeys.0 inv)
      i (subst (λ w. leaves_at_least side m es w (leaves_after side m e (world_lengths world) leaves) i ≡ true) (sym same) left)

  -- from a run's start
  pub exact-trace : (trace : List (Event A)) (word : List Bool) (slot : ℕ) → ObeysScratch trace start_lengths → Along TakesEven trace start_lengths →
      leaves_at_least side m trace start_lengths (λ s. true) slot ≡ true → IsExactUpTo m (rank_of_trace test trace slot) (rank (one test) ((play cmp trace word start).slots slot))
  exact-trace trace word slot obeys evens leaves = exact-along trace word start (λ s. 0) (λ s. true) obeys evens
      (λ i l. exact-as m _ _ _ _ refl (sym (held-settled test start refl i)) (record { same = λ le. refl; enough = omega arith })) slot leaves

-- The weight of a slot is the length of its stream, and its tail is exact if its compactions left that many items.

-- the weight: the rank if every item counts
module _ {A : Type 0} (cmp : A → A → Ordering) where
  weight_kept : (w w2 new old n up len : ℕ) → new + w * n ≡ old + w2 * up → w2 ≡ 2 * w → n ≡ 2 * up → new ≡ old
  weight_kept w w2 new old n up len e p q = omega (arith, e, ap (λ k. k * up) p, ap (λ k. w * k) q)

  -- a compaction of an even number of items keeps the weight
  compacted-weight : (h : ℕ) (taken : Taken) (bit : Bool) (bag : Bag A) → takes taken (length (level_at bag.levels h)) % 2 ≡ 0 →
      rank (one (λ (x : A). true)) (compacted cmp (one (λ (x : A). true)) h taken bit bag) ≡ rank (one (λ (x : A). true)) bag
  compacted-weight h taken bit bag evens =
      let items = part cmp (one (λ (x : A). true)) h taken bag in
      let parity = parity_up taken bit (level_at bag.levels (suc h)) in
      let n = takes taken (length (level_at bag.levels h)) in
      let long : length items ≡ n = length-taken cmp taken (h == 0 && not bag.is_sorted) (level_at bag.levels h) in
      weight_kept (2 ^ h) (2 ^ suc h) _ _ _ _ 0 (compacted-moves cmp (one (λ (x : A). true)) h taken bit bag) (omega arith)
      (omega (arith, sum-ones items, sum-ones (half parity items), long, length-half parity (n / 2) items (omega (arith, long, evens)), evens))

  held-weight : (s h : ℕ) (coin : Coin) (taken : Taken) (next : Bool) (world : World (Bag A)) → takes taken (slice_index (bag_lengths (world.slots s)) h) % 2 ≡ 0 → (i : ℕ) →
      held (λ (x : A). true) (happens (act cmp) (At s (Compact h coin taken)) next world) i ≡ held (λ (x : A). true) world i
  held-weight s h coin taken next world evens i =
      let bag = world.slots s in
      held-unchanged (λ x. true) cmp s h coin taken next world i (λ _. compacted-weight h taken (bit_of coin h next bag) bag (subst (λ n. takes taken n % 2 ≡ 0) (length-level_at h bag.levels) evens))

  weight_from : (trace : List (Event A)) (word : List Bool) (world : World (Bag A)) → ObeysScratch trace (world_lengths world) → Along TakesEven trace (world_lengths world) →
      (i : ℕ) → rank (one (λ (x : A). true)) ((play cmp trace word world).slots i) ≡ true_ranks (λ x. true) trace (held (λ x. true) world) i
  weight_from [] word world obeys evens i = sym (held-ended (λ x. true) world obeys i)
  weight_from (e ∷ es) word world obeys evens i =
      let next = next_bit word in
      let same = lengths-happens cmp e next world evens.0 in
      weight_from es (if event_draws e then drop 1 word else word) (happens (act cmp) e next world) (subst (λ w. ObeysScratch es w) (sym same) obeys.1)
      (subst (λ w. Along TakesEven es w) (sym same) evens.1) i ∙
      true_ranks-same (λ x. true) es (held (λ x. true) (happens (act cmp) e next world)) (ranks_after (λ x. true) e (held (λ x. true) world)) (one_event e next world obeys.0 evens.0) i
    where
      one_event : (e : Event A) (next : Bool) (world : World (Bag A)) → IsTrue (sum (bag_lengths world.scratch) == 0 || goes_on e world.target) →
          TakesEven e (world_lengths world) → (i : ℕ) → held (λ x. true) (happens (act cmp) e next world) i ≡ ranks_after (λ x. true) e (held (λ x. true) world) i
      one_event (At s (Compact h coin taken)) next world rule even = held-weight s h coin taken next world even
      one_event e next world rule even = held-event (λ x. true) cmp e next world refl rule

-- what passes a test and what doesn't add up, along a trace and over levels
module _ {A : Type 0} (test : A → Bool) where
  both_ranks : (trace : List (Event A)) (a b c : ℕ → ℕ) → ((j : ℕ) → a j + b j ≡ c j) → (slot : ℕ) →
      true_ranks test trace a slot + true_ranks (λ x. not (test x)) trace b slot ≡ true_ranks (λ x. true) trace c slot
  both_ranks = true_ranks-related (λ a b c. a + b ≡ c) (omega arith) (λ a b c a' b' c' e e'. omega (arith, e, e')) test (λ x. not (test x)) (λ x. true) (λ h x. grind arith)

  both_weighs : (h : ℕ) (levels : List (List A)) → weigh (sum_by (one test)) h levels + weigh (sum_by (one (λ x. not (test x)))) h levels ≡ weigh (sum_by (one (λ (x : A). true))) h levels
  both_weighs h [] = refl
  both_weighs h (level ∷ above) = omega (arith, ap (λ n. 2 ^ h * n) (both_counts test level ∙ sym (sum-ones level)), both_weighs (suc h) above)

module _ {A : Type 0} {cmp : A → A → Ordering} (order : IsTotalOrder cmp) where
  -- the weight of a slot is the length of its stream
  pub weight_is : (trace : List (Event A)) (word : List Bool) (slot : ℕ) → ObeysScratch trace start_lengths → Along TakesEven trace start_lengths →
      weighted_rank cmp (λ x. true) ((play cmp trace word start).slots slot) ≡ rank_of_trace (λ x. true) trace slot
  weight_is trace word slot obeys evens =
      let any : A → Bool = λ x. true in
      sum_by-expanded (one any) cmp ((play cmp trace word start).slots slot) ∙
      (weight_from cmp trace word start obeys evens slot ∙ true_ranks-same any trace (held any start) (λ s. 0) (held-settled any start refl) slot)

  spared-by_lowest : (y : A) (criteria : SearchCriteria) (taken : Taken) → is_lowest taken ≡ true → SparesOrFills cmp (λ x. not (counted cmp y criteria x)) taken
  spared-by_lowest y criteria (Lowest n) e = spares-lowest cmp (counted cmp y criteria) (counted-falls order y criteria) n
  spared-by_lowest y criteria _ e = absurd (false≢true e)

  spared-by_greatest : (y : A) (criteria : SearchCriteria) (taken : Taken) → is_greatest taken ≡ true → SparesOrFills cmp (counted cmp y criteria) taken
  spared-by_greatest y criteria (Greatest n) e = spares-greatest cmp (counted cmp y criteria) (counted-falls order y criteria) n
  spared-by_greatest y criteria _ e = absurd (false≢true e)

  -- the tail is exact, for low ranks and for high ranks
  pub low_tail : (y : A) (criteria : SearchCriteria) (trace : List (Event A)) (word : List Bool) (slot m : ℕ) → ObeysScratch trace start_lengths →
      Along TakesEven trace start_lengths → leaves_at_least is_greatest m trace start_lengths (λ s. true) slot ≡ true → rank_of_trace (counted cmp y criteria) trace slot ≤ m →
      weighted_rank cmp (counted cmp y criteria) ((play cmp trace word start).slots slot) ≡ rank_of_trace (counted cmp y criteria) trace slot
  low_tail y criteria trace word slot m obeys evens leaves few = sum_by-expanded (one (counted cmp y criteria)) cmp ((play cmp trace word start).slots slot) ∙
      (exact-trace cmp (counted cmp y criteria) m is_greatest (spared-by_greatest y criteria) trace word slot obeys evens leaves).same few

  pub high_tail : (y : A) (criteria : SearchCriteria) (trace : List (Event A)) (word : List Bool) (slot m : ℕ) → ObeysScratch trace start_lengths →
      Along TakesEven trace start_lengths → leaves_at_least is_lowest m trace start_lengths (λ s. true) slot ≡ true →
      rank_of_trace (λ x. not (counted cmp y criteria x)) trace slot ≤ m →
      weighted_rank cmp (counted cmp y criteria) ((play cmp trace word start).slots slot) ≡ rank_of_trace (counted cmp y criteria) trace slot
  high_tail y criteria trace word slot m obeys evens leaves few =
      let test = counted cmp y criteria in
      let bag = (play cmp trace word start).slots slot in
      let exact = (exact-trace cmp (λ x. not (counted cmp y criteria x)) m is_lowest (spared-by_lowest y criteria) trace word slot obeys evens leaves).same few in
      let all = sym (sum_by-expanded (one (λ x. true)) cmp bag) ∙ weight_is trace word slot obeys evens in
      omega (arith, sum_by-expanded (one test) cmp bag, exact, all, both_weighs test 0 bag.levels, both_ranks test trace (λ s. 0) (λ s. 0) (λ s. 0) (λ j. refl) slot)
