-- The error of a list's sketch is relative to the number of items on the query's accurate side: its mean is none, and its mean square is at most
-- a share of the square of that number.
use Rattle.std.proofs.Common.{◌≡◌, ℕ, zero, suc, ◌+◌, ◌*◌, ◌^◌, ◌<◌, ◌≤◌, Bool, not, List, [], ◌∷◌, length, map, drop, slice_index, sum_by, refl, sym, ap, ap₂, ◌∙◌, subst, arith, Ordering}
use Rattle.std.specs.Cmp.{IsTotalOrder}
use Rattle.std.proofs.Math.Nat.{pow-succ'}
use Rattle.std.proofs.lemmas.List.{length-map}
use Rattle.sketch_base.specs.declared.common.SearchCriteria.{SearchCriteria}
use Rattle.sketch_base.specs.Bag.{Bag, empty_bag, weigh, weighted_rank}
use Rattle.sketch_base.specs.Lengths.{bag_lengths}
use Rattle.sketch_base.specs.Query.{counted, true_rank}
use Rattle.sketch_base.specs.Trace.{bag_after, coins, start}
use Rattle.sketch_base.specs.Words.{sum_over_words, distance, square}
use Rattle.sketch_base.proofs.unbiased.Average.{sum_over_words-same}
use Rattle.sketch_base.proofs.plays.Plays.{coins-at, play-at, one}
use Rattle.sketch_base.proofs.bags.Acts.{changed-there, sum_by-expanded}
use Rattle.sketch_base.proofs.order.Order.{counted-falls}
use Rattle.sketch_base.proofs.tails.ExactTails.{both_counts}
use Rattle.sketch_req.specs.Relative.{off_protected_end, IsRelative, Reaches, updates_compacted, updates_rank, updates_squares, UpdatesAreRelative, UpdatesAreRelativeToCounts}
use Rattle.sketch_req.specs.Schedule.{Layout, new_layout, layout_at, counts_of, weight_of, put_layouts, update_layouts}
use Rattle.sketch_req.specs.ScheduleLaws.{AreLayouts, updates_actions, updates_layouts, updates_trace}
use Rattle.sketch_req.specs.Sections.{IsLegalK}
use Rattle.sketch_req.specs.declared.RankAccuracy.{RankAccuracy}
use Rattle.sketch_req.specs.declared.RankAccuracy.TheVariants.{HighRank, LowRank}
use Rattle.sketch_req.proofs.layouts.Capacities.{update_weighs}
use Rattle.sketch_req.proofs.layouts.Layouts.{empty-layout, new_are, filled_are}
use Rattle.sketch_req.proofs.plays.Legal.{room_leads, updates_moves}
use Rattle.sketch_req.proofs.relative.Moves.{Move, Tally, ups_of, no_tally, worth, total, keeps, ObeysSections, tally}
use Rattle.sketch_req.proofs.relative.Charges.{paid, alternates}
use Rattle.sketch_req.proofs.relative.Peels.{ArePaid, AreScheduled, all-within, reached-within, scattered}
use Rattle.sketch_req.proofs.relative.Counted.{IsInOrder, moves-total, moves-draws, moves-below, moves-gives, in_order, side_of, halves_of, side-counted, rank-worth}

abbrev one_level : List Layout
one_level = new_layout ∷ []

-- ---- what a list's moves are

module _ {A : Type 0} (k : ℕ) (legal : IsLegalK k) (test : A → Bool) (items : List A) (few : length items < 2 ^ 64) where
  abbrev moves : List Move
  moves = updates_moves k test one_level items

  order : (h : ℕ) → IsInOrder k h 0 one_level moves
  order h = in_order k legal test 0 one_level items h (new_are k legal) (omega arith) (omega (arith, few))

  obeys : (h : ℕ) → ObeysSections k 0 0 (keeps h moves)
  obeys h = subst (λ (l : Layout). ObeysSections k l.state l.doublings (keeps h moves)) (new h) (order h).obeys
    where
      new : (h : ℕ) → layout_at one_level h ≡ new_layout
      new zero = refl
      new (suc h) = empty-layout h

  short : (h : ℕ) → length (keeps h moves) < 2 ^ 64
  short h = omega (arith, (order h).few, moves-gives k legal test one_level items, few)

  are_paid : (top : ℕ) → ArePaid k top moves
  are_paid top = λ h lt fs e.
      paid k fs legal (subst (ObeysSections k 0 0) (sym e) (obeys h)) (subst (λ (ks : List (Bool × ℕ)). length ks < 2 ^ 64) (sym e) (short h))

-- ---- weights

updates-weigh : {A : Type 0} (k : ℕ) → IsLegalK k → (ls : List Layout) (items : List A) → AreLayouts k ls → weight_of (updates_layouts k ls items) ≡ weight_of ls + length items
updates-weigh k legal ls [] a = omega arith
updates-weigh {A} k legal ls (x ∷ xs) a =
    let a' = (room_leads {A = A} k HighRank legal (put_layouts ls) (filled_are k legal 0 1 ls a)).legal in
    omega (arith, updates-weigh k legal (update_layouts k ls) xs a', update_weighs k legal ls a)

-- items that pass and items that fail have together the weight of the layouts
both_weigh : {A : Type 0} (test : A → Bool) (i : ℕ) (levels : List (List A)) (ls : List Layout) → map length levels ≡ counts_of ls →
    weigh (sum_by (one test)) i levels + weigh (sum_by (one (λ x. not (test x)))) i levels ≡ 2 ^ i * weight_of ls
both_weigh test i [] [] e = omega arith
both_weigh test i (level ∷ above) (l ∷ ls) e =
    let here : length level ≡ l.count = ap (λ (ns : List ℕ). slice_index ns 0) e in
    let rest : map length above ≡ counts_of ls = ap (λ (ns : List ℕ). drop 1 ns) e in
    let both = both_counts test level in
    let twice : 2 ^ suc i * weight_of ls ≡ 2 * 2 ^ i * weight_of ls = ap (λ n. n * weight_of ls) (pow-succ' 2 i) in
    omega (arith, both_weigh test (suc i) above ls rest, ap (λ n. 2 ^ i * n) (both ∙ here), twice)
both_weigh test i levels ls e = absurd (omega (arith, ap (λ (ns : List ℕ). length ns) e))

-- if a + x and b + y are equal, a and b are as far apart as x and y
apart : (a b x y n : ℕ) → a + x ≡ n → b + y ≡ n → distance a b ≡ distance x y
apart a b x y n e f = omega (arith, e, f)

-- ---- the errors

module _ {A : Type 0} {cmp : A → A → Ordering} (order : IsTotalOrder cmp) (y : A) (criteria : SearchCriteria)
    (slot k bits : ℕ) (items : List A) (legal : IsLegalK k) (few : length items < 2 ^ 64) where
  abbrev test : A → Bool
  test = counted cmp y criteria

  abbrev top : ℕ
  top = updates_compacted k items

  abbrev rank : RankAccuracy → List Bool → ℕ
  rank accuracy word = updates_rank cmp y criteria slot k accuracy items word

  abbrev truth : ℕ
  truth = true_rank cmp y criteria items

  -- the moves of the items on the accurate side, how many these items are, and what they come to under a word
  abbrev of_side : RankAccuracy → List Move
  of_side accuracy = updates_moves k (side_of accuracy test) one_level items

  abbrev came : RankAccuracy → ℕ
  came accuracy = total (of_side accuracy)

  abbrev moved : RankAccuracy → List Bool → ℕ
  moved accuracy word = worth top (tally (ups_of accuracy) (of_side accuracy) word no_tally).counts

  -- the bag after the updates
  bag_of_word : RankAccuracy → List Bool → Bag A
  bag_of_word accuracy word = bag_after cmp (updates_actions k accuracy one_level items) word empty_bag

  rank_is : (accuracy : RankAccuracy) (word : List Bool) → rank accuracy word ≡ weigh (sum_by (one test)) 0 (bag_of_word accuracy word).levels
  unfolding bag_of_word
  rank_is accuracy word =
      let actions = updates_actions k accuracy one_level items in
      let bag = bag_after cmp actions word empty_bag in
      ap (λ w. weighted_rank cmp test (w.slots slot)) (play-at cmp actions word start slot)
      ∙ (ap (weighted_rank cmp test) (changed-there (start {A = A}).slots slot bag) ∙ sum_by-expanded (one test) cmp bag)

  lengths_of : (accuracy : RankAccuracy) (word : List Bool) → bag_lengths (bag_of_word accuracy word) ≡ counts_of (updates_layouts k one_level items)
  unfolding bag_of_word
  lengths_of accuracy word = (side-counted cmp test (counted-falls order y criteria) k legal accuracy items word).1

  -- what the accurate side weighs
  side_weighs : (accuracy : RankAccuracy) (word : List Bool) → weigh (sum_by (one (side_of accuracy test))) 0 (bag_of_word accuracy word).levels ≡ moved accuracy word
  unfolding bag_of_word
  side_weighs accuracy word =
      let bag = bag_of_word accuracy word in
      let held = length-map bag.levels (λ (xs : List A). length xs) in
      let laid = length-map (updates_layouts k one_level items) (λ (l : Layout). l.count) in
      rank-worth (side_of accuracy test) top bag (omega (arith, ap (λ (ns : List ℕ). length ns) (lengths_of accuracy word), held, laid))
      ∙ ap (λ (t : Tally). worth top t.counts) (side-counted cmp test (counted-falls order y criteria) k legal accuracy items word).0

  -- a rank is as far from the true rank as what the moves come to is from the number of these items
  same : (accuracy : RankAccuracy) (word : List Bool) → distance (rank accuracy word) truth ≡ distance (moved accuracy word) (came accuracy)
  same HighRank word =
      let both = both_weigh test 0 (bag_of_word HighRank word).levels (updates_layouts k one_level items) (lengths_of HighRank word) in
      let weight = updates-weigh k legal one_level items (new_are k legal) in
      let all = both_counts test items in
      let count = moves-total k legal (λ x. not (test x)) one_level items in
      apart _ _ _ _ (length items) (omega (arith, rank_is HighRank word, side_weighs HighRank word, both, weight)) (omega (arith, all, count))
  same LowRank word = ap₂ distance (rank_is LowRank word ∙ side_weighs LowRank word) (sym (moves-total k legal test one_level items))

  came_is : (accuracy : RankAccuracy) → came accuracy ≡ off_protected_end cmp accuracy y criteria items
  came_is HighRank = moves-total k legal (λ x. not (test x)) one_level items
  came_is LowRank = moves-total k legal test one_level items

  -- so a bound on what the moves come to is a bound on the ranks
  relative : (accuracy : RankAccuracy) (levels : ℕ) → IsRelative k levels bits (sum_over_words bits (λ word. square (distance (moved accuracy word) (came accuracy)))) (came accuracy) →
      IsRelative k levels bits (updates_squares cmp y criteria slot k accuracy items bits) (off_protected_end cmp accuracy y criteria items)
  relative accuracy levels bound =
      subst (IsRelative k levels bits (updates_squares cmp y criteria slot k accuracy items bits)) (came_is accuracy)
      (subst (λ (squares : ℕ). IsRelative k levels bits squares (came accuracy)) (sym (sum_over_words-same bits _ _ (λ word. ap square (same accuracy word)))) bound)

  scheduled : (accuracy : RankAccuracy) → coins (updates_trace slot k accuracy items) ≤ bits → AreScheduled top (of_side accuracy) bits
  scheduled accuracy enough = record {
    below = moves-below k legal (side_of accuracy test) one_level items (omega arith);
    turns = λ h lt. alternates k 0 0 (keeps h (of_side accuracy)) (obeys k legal (side_of accuracy test) items few h);
    enough = omega (arith, moves-draws k legal (side_of accuracy test) accuracy one_level items, coins-at slot (updates_actions k accuracy one_level items), enough);
  }

  within_levels : (accuracy : RankAccuracy) → coins (updates_trace slot k accuracy items) ≤ bits →
      IsRelative k top bits (updates_squares cmp y criteria slot k accuracy items bits) (off_protected_end cmp accuracy y criteria items)
  within_levels accuracy enough =
      let within = all-within (ups_of accuracy) (halves_of accuracy) k top (of_side accuracy) bits (scheduled accuracy enough) (are_paid k legal (side_of accuracy test) items few top) in
      relative accuracy top (scattered (ups_of accuracy) (halves_of accuracy) k top top (of_side accuracy) bits (scheduled accuracy enough) within)

  within_count : (accuracy : RankAccuracy) (levels : ℕ) → 24 ≤ k → coins (updates_trace slot k accuracy items) ≤ bits → Reaches k (off_protected_end cmp accuracy y criteria items) levels →
      IsRelative k levels bits (updates_squares cmp y criteria slot k accuracy items bits) (off_protected_end cmp accuracy y criteria items)
  within_count accuracy levels great enough reached =
      let within = reached-within (ups_of accuracy) (halves_of accuracy) k levels top (of_side accuracy) bits great (scheduled accuracy enough)
      (are_paid k legal (side_of accuracy test) items few top) (subst (λ (count : ℕ). Reaches k count levels) (sym (came_is accuracy)) reached) in
      relative accuracy levels (scattered (ups_of accuracy) (halves_of accuracy) k levels top (of_side accuracy) bits (scheduled accuracy enough) within)

-- the law of specs/Relative
pub updates_relative : {A : Type 0} {cmp : A → A → Ordering} → IsTotalOrder cmp → UpdatesAreRelative cmp
updates_relative order = λ y criteria slot k bits accuracy items legal few enough. within_levels order y criteria slot k bits items legal few accuracy enough

-- the same with any number of levels that the count on the accurate side reaches
pub updates_relative_to_counts : {A : Type 0} {cmp : A → A → Ordering} → IsTotalOrder cmp → UpdatesAreRelativeToCounts cmp
updates_relative_to_counts order = λ y criteria slot k bits levels accuracy items legal great few enough reached.
    within_count order y criteria slot k bits items legal few accuracy levels great enough reached
