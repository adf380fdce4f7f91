-- A sketch that takes updates holds as many of a query's items on each level as the moves say.
use Rattle.std.proofs.Common.{◌≡◌, ℕ, zero, suc, ◌+◌, ◌-◌, ◌*◌, ◌/◌, ◌%◌, ◌^◌, ◌≤◌, ◌==◌, ◌&&◌, Bool, true, false, not, cond, List, [], ◌∷◌, ◌++◌, length, take, drop, count_by, sum_by, slice_index, refl, sym, ap, ◌∙◌, arith, ◌⊎◌, inl, inr, length-drop, length-take, Ordering, ◌≢◌, ◌<◌, subst}
use Rattle.std.proofs.Math.Nat.{pow-succ'}
use Rattle.std.proofs.lemmas.Bool.{cases_Bool, cases_eq, eq-eqb, ne_eqb}
use Rattle.std.proofs.lemmas.List.Sums.{sum_by-cons, sum_by-append, sum_by-take-drop}
use Rattle.sketch_base.specs.Bag.{Bag, empty_bag, Taken, Lowest, Greatest, sort, half, cut, level_at, weigh, compaction, with_level}
use Rattle.sketch_base.specs.Trace.{Action, Put, Compact, Fresh, At, World, changed, act, alone, bag_after, next_bit, draws_of, draws as draws_action}
use Rattle.sketch_base.specs.Lengths.{bag_lengths, TakesEven, act_on_lengths, world_lengths}
use Rattle.sketch_base.proofs.bags.Acts.{rank, changed-there, changed-other, sum_by-sort, sum_by-halves}
use Rattle.sketch_base.proofs.order.Order.{Falling, Falling-cut, halves-near}
use Rattle.sketch_base.proofs.plays.Plays.{length-half, length-sort, length-level_at, lengths-happens, one}
use Rattle.sketch_base.proofs.unbiased.Mirrored.{level-up, level-own, level-else, level_at-same, level_at-other, level_at-none}
use Rattle.sketch_base.proofs.tails.ExactTails.{both_counts, front_or_end, end_or_front}
use Rattle.sketch_req.specs.Level.{taken_side, state_after, turns_coin}
use Rattle.sketch_req.specs.Sections.{IsLegalK, size_of, kept_at_least}
use Rattle.sketch_req.specs.Schedule.{Layout, new_layout, layout_at, counts_of, is_full, taken, filled, compact_level, compacted_at, put_layouts, compacted, update_layouts, retained_of}
use Rattle.sketch_req.specs.ScheduleLaws.{AreLayouts, updates_actions, updates_layouts}
use Rattle.sketch_req.specs.declared.RankAccuracy.{RankAccuracy}
use Rattle.sketch_req.specs.declared.RankAccuracy.TheVariants.{HighRank, LowRank}
use Rattle.sketch_req.proofs.unbiased.Drawn.{takes_req, emptied, emptied-filled, emptied-other}
use Rattle.sketch_req.proofs.layouts.Layouts.{gives, layout_is, new_are, compacted_are, filled_are, count-layout_at, counts-with_level, counts-compacted, sum-with, retained-with}
use Rattle.sketch_req.proofs.relative.Moves.{Move, Gives, IsHalving, ups_of, Tally, no_tally, tally-same, worth, kept_at, moved, tally, Compacts, total, keeps, ObeysSections, AreBelowNominal, own_draws, other_draws}
use Rattle.sketch_req.proofs.plays.Legal.{move_at, updates_moves, holds-updates, room_moves, holds-room}
use Rattle.std.proofs.lemmas.Grind.{common_steps}
use Rattle.std.specs.Prelude.{⊤}
use Rattle.sketch_req.specs.Actions.{coin_kind}
use Rattle.sketch_req.proofs.walks.Walks.{layout-same}

-- A sketch that takes updates holds as many of a query's items on each level as the moves say.

-- the items on the accurate side: for high ranks those that fail a test, for low ranks those that pass
abbrev pub side_of : {A : Type 0} → RankAccuracy → (A → Bool) → (A → Bool)
side_of HighRank test = λ x. not (test x)
side_of LowRank test = test

-- what goes up of them is a halving
pub halves_of : (accuracy : RankAccuracy) → IsHalving (ups_of accuracy)
halves_of HighRank = record { more = true; both = λ t. omega arith; least = λ t. omega arith; near = λ t. omega arith }
halves_of LowRank = record { more = false; both = λ t. omega arith; least = λ t. omega arith; near = λ t. omega arith }

-- ---- what a compaction leaves and sends up of the items that pass a test

-- the sizes of two parts, if the second is empty or the first is full
two_parts : (all first second most : ℕ) → first + second ≡ all → first ≤ most → (second ≡ 0) ⊎ (most ≤ first) → (first ≡ all - (all - most)) × (second ≡ all - most)
two_parts all first second most sum le (inl none) = (omega (arith, sum, le, none), omega (arith, sum, le, none))
two_parts all first second most sum le (inr full) = (omega (arith, sum, le, full), omega (arith, sum, le, full))

module _ {A : Type 0} (cmp : A → A → Ordering) where
  -- of the items that pass, it leaves those that fit into what it keeps, and half of the others goes up
  record IsSplit (test : A → Bool) (taken : ℕ → Taken) (ups : Bool → ℕ → ℕ) : Type 0 where
    left : (flag : Bool) (n : ℕ) (level : List A) → n ≤ length level → count_by test (cut cmp (taken n) flag level).0 ≡ count_by test level - (count_by test level - (length level - n))
    up : (flag bit : Bool) (n : ℕ) (level : List A) → n ≤ length level → n % 2 ≡ 0 → count_by test (half bit (cut cmp (taken n) flag level).1) ≡ ups bit (count_by test level - (length level - n))

  module _ (test : A → Bool) (falls : (xs : List A) → Falling test (sort cmp xs)) where
    high_parts : (n : ℕ) (level : List A) → n ≤ length level →
        let side : A → Bool = λ x. not (test x) in
        (count_by side (drop n (sort cmp level)) ≡ count_by side level - (count_by side level - (length level - n)))
        × (count_by side (take n (sort cmp level)) ≡ count_by side level - (length level - n))
    high_parts n level le =
        let side : A → Bool = λ x. not (test x) in
        let s = sort cmp level in
        let long : length (drop n s) ≡ length level - n = length-drop n s ∙ omega (arith, length-sort cmp level) in
        let both = both_counts test (drop n s) in
        two_parts (count_by side level) (count_by side (drop n s)) (count_by side (take n s)) (length level - n)
        (omega (arith, sum_by-take-drop (one side) s n, sum_by-sort (one side) cmp level)) (omega (arith, long, both))
        (elim (front_or_end test n s (falls level)) [
          | inl none ↦ inl none
          | inr none ↦ inr (omega (arith, none, long, both))
        ])

    low_parts : (n : ℕ) (level : List A) → n ≤ length level →
        let rest = length level - n in
        (count_by test (take rest (sort cmp level)) ≡ count_by test level - (count_by test level - rest)) × (count_by test (drop rest (sort cmp level)) ≡ count_by test level - rest)
    low_parts n level le =
        let s = sort cmp level in
        let rest = length level - n in
        let long : length (take rest s) ≡ rest = length-take rest s ∙ omega (arith, length-sort cmp level, le) in
        two_parts (count_by test level) (count_by test (take rest s)) (count_by test (drop rest s)) rest
        (omega (arith, sum_by-take-drop (one test) s rest, sum_by-sort (one test) cmp level)) (omega (arith, long, both_counts test (take rest s))) (end_or_front test rest s (falls level))

    -- of an even number of sorted items
    high_half : (bit : Bool) (m : ℕ) (items : List A) → Falling test items → length items ≡ 2 * m →
        count_by (λ x. not (test x)) (half bit items) ≡ ups_of HighRank bit (count_by (λ x. not (test x)) items)
    high_half bit m items falling even =
        let near = halves-near test items falling in
        let no = both_counts test (half false items) in
        let yes = both_counts test (half true items) in
        let first = length-half false m items even in
        let second = length-half true m items even in
        let sum = sum_by-halves (one (λ x. not (test x))) items in
        elim bit as (λ b. count_by (λ x. not (test x)) (half b items) ≡ ups_of HighRank b (count_by (λ x. not (test x)) items)) [
          | true ↦ omega (arith, near.0, near.1, no, yes, first, second, sum)
          | false ↦ omega (arith, near.0, near.1, no, yes, first, second, sum)
        ]

    low_half : (bit : Bool) (items : List A) → Falling test items → count_by test (half bit items) ≡ ups_of LowRank bit (count_by test items)
    low_half bit items falling =
        let near = halves-near test items falling in
        let sum = sum_by-halves (one test) items in
        elim bit as (λ b. count_by test (half b items) ≡ ups_of LowRank b (count_by test items)) [
          | true ↦ omega (arith, near.0, near.1, sum)
          | false ↦ omega (arith, near.0, near.1, sum)
        ]

    split_of : (accuracy : RankAccuracy) → IsSplit (side_of accuracy test) (taken_side accuracy) (ups_of accuracy)
    split_of HighRank = record {
      left = λ flag n level le. (high_parts n level le).0;
      up = λ flag bit n level le even.
          let long : length (take n (sort cmp level)) ≡ 2 * (n / 2) = length-take n (sort cmp level) ∙ omega (arith, length-sort cmp level, le, even) in
          high_half bit (n / 2) (take n (sort cmp level)) (Falling-cut test cmp falls (Lowest n) flag level) long ∙ ap (ups_of HighRank bit) (high_parts n level le).1;
    }
    split_of LowRank = record {
      left = λ flag n level le. (low_parts n level le).0;
      up = λ flag bit n level le even.
          low_half bit (drop (length level - n) (sort cmp level)) (Falling-cut test cmp falls (Greatest n) flag level) ∙ ap (ups_of LowRank bit) (low_parts n level le).1;
    }

-- how many items that pass the test each level of a bag holds, and the kept bits
abbrev pub tally_of : {A : Type 0} → (A → Bool) → Bag A → Tally
tally_of test bag = record { counts = λ h. count_by test (level_at bag.levels h); kept = bag.kept }

module _
    {A : Type 0} (cmp : A → A → Ordering) (test : A → Bool) (k : ℕ) (legal : IsLegalK k) (accuracy : RankAccuracy) (ups : Bool → ℕ → ℕ) (split : IsSplit cmp test (taken_side accuracy) ups)
  where
    -- ---- one compaction

    -- the level lengths of a bag after an action are what the action makes of the lengths before
    lengths-act : (action : Action A) (next : Bool) (bag : Bag A) (lengths : List ℕ) → let world : World (Bag A) = record { slots = λ s. bag; scratch = (alone bag).scratch; target = 0 } in
        TakesEven (At 0 action) (world_lengths world) → bag_lengths bag ≡ lengths →
        bag_lengths (act cmp action next (alone bag)).bag ≡ (act_on_lengths action (record { bag = lengths; scratch = bag_lengths (alone bag).scratch })).bag
    lengths-act action next bag lengths evens e =
        let world : World (Bag A) = record { slots = λ s. bag; scratch = (alone bag).scratch; target = 0 } in
        rw e at (ap (λ (w : World (List ℕ)). w.slots 0) (lengths-happens cmp (At 0 action) next world evens))

    lengths-compact : (h : ℕ) (ls : List Layout) (next : Bool) (bag : Bag A) → AreLayouts k ls → is_full k (layout_at ls h) ≡ true → bag_lengths bag ≡ counts_of ls →
        bag_lengths (record (compaction cmp h (taken_side accuracy (taken k (layout_at ls h))) next bag) { kept = changed bag.kept h next }) ≡ counts_of (compacted_at k h ls)
    lengths-compact h ls next bag a e lengths =
        let side = taken_side accuracy (taken k (layout_at ls h)) in
        let g = gives k legal accuracy (layout_at ls h) (layout_is k legal h ls a) e in
        let met : slice_index (bag_lengths bag) h ≡ (layout_at ls h).count = rw lengths (count-layout_at h ls) in
        lengths-act (Compact h Fresh side) next bag (counts_of ls) (rw (met, g.takes_it) g.even) lengths ∙ counts-compacted k legal A accuracy h ls (bag_lengths (alone bag).scratch) a e

    tallied-compact : (h : ℕ) (ls : List Layout) (bit : Bool) (bag : Bag A) → AreLayouts k ls → is_full k (layout_at ls h) ≡ true → bag_lengths bag ≡ counts_of ls →
        let n = taken k (layout_at ls h) in
        tally_of test (record (compaction cmp h (taken_side accuracy n) bit bag) { kept = changed bag.kept h bit }) ≡ kept_at ups h ((layout_at ls h).count - n) bit (tally_of test bag)
    tallied-compact h ls bit bag a e lengths =
        let l : Layout = layout_at ls h in
        let n : ℕ = taken k l in
        let side : Taken = taken_side accuracy n in
        let flag : Bool = h == 0 && not bag.is_sorted in
        let level : List A = level_at bag.levels h in
        let held : ℕ → ℕ = λ j. count_by test (level_at bag.levels j) in
        let g = gives k legal accuracy l (layout_is k legal h ls a) e in
        let long : length level ≡ l.count = sym (length-level_at h bag.levels) ∙ (ap (λ (ns : List ℕ). slice_index ns h) lengths ∙ count-layout_at h ls) in
        let within : n ≤ length level = omega (arith, g.stay, long) in
        let taken_is : held h - (length level - n) ≡ held h - (l.count - n) = ap (λ m. held h - (m - n)) long in
        let left_is = split.left flag n level within ∙ ap (λ m. held h - m) taken_is in
        let up_is = split.up flag bit n level within g.even ∙ ap (ups bit) taken_is in
        let inner : ℕ → ℕ = changed held h (held h - (held h - (l.count - n))) in
        let above : ℕ = held (suc h) + ups bit (held h - (l.count - n)) in
        tally-same _ _ (λ j.
        elim (cases_eq j (suc h)) [
          | inl q ↦
              rw q (ap (count_by test) (level-up cmp (one test) h side bit bag (takes_req accuracy n))
              ∙ (sum_by-append (one test) (level_at bag.levels (suc h)) (half bit (cut cmp side flag level).1)
              ∙ (ap (λ m. held (suc h) + m) up_is ∙ sym (changed-there inner (suc h) above))))
          | inr past ↦
              elim (cases_eq j h) [
                | inl q ↦
                    rw q (ap (count_by test) (level-own cmp (one test) h side bit bag)
                    ∙ (left_is
                    ∙ sym (changed-other inner (suc h) above h (λ r. absurd (omega (arith, r))) ∙ changed-there held h (held h - (held h - (l.count - n))))))
                | inr other ↦
                    ap (count_by test) (level-else cmp (one test) h side bit bag j other past)
                    ∙ sym (changed-other inner (suc h) above j past ∙ changed-other held h (held h - (held h - (l.count - n))) j other)
              ]
        ]) (λ j. refl)

    -- ---- actions, and the moves that they are

    -- from any bag with these layouts they lead to a bag with the last layouts,
    -- whose tally is what the moves make of the first one's
    abbrev GoOn : List Layout → List (Action A) → List Move → List Layout → Type 0
    GoOn ls actions moves last = (word : List Bool) (bag : Bag A) → bag_lengths bag ≡ counts_of ls →
        (tally_of test (bag_after cmp actions word bag) ≡ tally ups moves word (tally_of test bag)) × (bag_lengths (bag_after cmp actions word bag) ≡ counts_of last)

    go-compact : (h : ℕ) (ls last : List Layout) (actions : List (Action A)) (moves : List Move) →
        AreLayouts k ls → is_full k (layout_at ls h) ≡ true → GoOn (compacted_at k h ls) actions moves last → GoOn ls (compact_level k accuracy h ls ∷ actions) (move_at k h ls ∷ moves) last
    go-compact h ls last actions moves a e go = λ word bag lengths.
        let side = taken_side accuracy (taken k (layout_at ls h)) in
        let after : Bool → Bag A = λ bit. record (compaction cmp h side bit bag) { kept = changed bag.kept h bit } in
        let goes = λ (bit : Bool) (word : List Bool). rw (tallied-compact h ls bit bag a e lengths) at (go word (after bit) (lengths-compact h ls bit bag a e lengths)) in
        elim (cases_Bool ((layout_at ls h).state % 2 == 0)) [
          | inl even ↦ rw even (goes (next_bit word) (drop 1 word))
          | inr odd ↦ rw odd (goes (not (bag.kept h)) word)
        ]

    lengths-put : (ls : List Layout) (x : A) (next : Bool) (bag : Bag A) → bag_lengths bag ≡ counts_of ls → bag_lengths (act cmp (Put 0 x) next (alone bag)).bag ≡ counts_of (put_layouts ls)
    lengths-put ls x next bag lengths = lengths-act (Put 0 x) next bag (counts_of ls) tt lengths ∙ sym (counts-with_level 0 (filled 1) (λ m. m + 1) ls refl)

    go-put : (x : A) (ls last : List Layout) (actions : List (Action A)) (moves : List Move) →
        GoOn (put_layouts ls) actions moves last → GoOn ls (Put 0 x ∷ actions) (Gives (cond (test x) 1 0) ∷ moves) last
    go-put x ls last actions moves go = λ word bag lengths.
        let more : ℕ = cond (test x) 1 0 in
        let held : ℕ → ℕ = λ j. count_by test (level_at bag.levels j) in
        let here : count_by test (level_at bag.levels 0 ++ x ∷ []) ≡ held 0 + more = omega (arith, sum_by-append (one test) (level_at bag.levels 0) (x ∷ []), sum_by-cons (one test) x []) in
        let after = (act cmp (Put 0 x) (next_bit word) (alone bag)).bag in
        let tallied : tally_of test after ≡ moved ups (Gives more) (next_bit word) (tally_of test bag) = tally-same _ _ (λ j.
        elim (cases_eq j 0) [
          | inl q ↦ rw q (ap (count_by test) (level_at-same 0 (λ level. level ++ x ∷ []) bag.levels) ∙ (here ∙ sym (changed-there held 0 (held 0 + more))))
          | inr ne ↦ ap (count_by test) (level_at-other 0 j (λ level. level ++ x ∷ []) bag.levels ne) ∙ sym (changed-other held 0 (held 0 + more) j ne)
        ]) (λ j. refl) in
        rw tallied at (go word after (lengths-put ls x (next_bit word) bag lengths))

    go-updates : (ls : List Layout) (items : List A) → AreLayouts k ls → GoOn ls (updates_actions k accuracy ls items) (updates_moves k test ls items) (updates_layouts k ls items)
    go-updates =
        holds-updates k accuracy (AreLayouts k) (compacted_are k legal) GoOn go-compact test (filled_are k legal 0 1) go-put (λ ls word bag lengths. (refl, lengths))

-- so each level of an empty sketch that takes updates holds as many items of the accurate side as the moves say,
-- and its level lengths are those of the layouts
pub side-counted : {A : Type 0} (cmp : A → A → Ordering) (test : A → Bool) → ((xs : List A) → Falling test (sort cmp xs)) →
    (k : ℕ) → IsLegalK k → (accuracy : RankAccuracy) (items : List A) (word : List Bool) →
    let bag = bag_after cmp (updates_actions k accuracy (new_layout ∷ []) items) word empty_bag in
    let moves = updates_moves k (side_of accuracy test) (new_layout ∷ []) items in
    (tally_of (side_of accuracy test) bag ≡ tally (ups_of accuracy) moves word no_tally) × (bag_lengths bag ≡ counts_of (updates_layouts k (new_layout ∷ []) items))
side-counted {A} cmp test falls k legal accuracy items word =
    rw (tally-same _ no_tally none_yet (λ h. refl))
    at (go-updates cmp (side_of accuracy test) k legal accuracy (ups_of accuracy) (split_of cmp test falls accuracy) (new_layout ∷ []) items (new_are k legal) word empty_bag refl)
  where
    none_yet : (h : ℕ) → count_by (side_of accuracy test) (level_at (empty_bag {A = A}).levels h) ≡ 0
    none_yet zero = refl
    none_yet (suc h) = ap (count_by (side_of accuracy test)) (level_at-none h)

-- ---- what the items that pass come to

worth-nothing : (top : ℕ) (counts : ℕ → ℕ) → ((h : ℕ) → counts h ≡ 0) → worth top counts ≡ 0
worth-nothing zero counts none = none 0
worth-nothing (suc top) counts none = omega (arith, none 0, worth-nothing top (λ h. counts (suc h)) (λ h. none (suc h)))

weigh-worth : {A : Type 0} (test : A → Bool) (top i : ℕ) (levels : List (List A)) → length levels ≤ suc top →
    weigh (sum_by (one test)) i levels ≡ 2 ^ i * worth top (λ h. count_by test (level_at levels h))
weigh-worth test top i [] few = sym (ap (λ n. 2 ^ i * n) (worth-nothing top (λ h. count_by test (level_at [] h)) (λ h. ap (count_by test) (level_at-none h))) ∙ omega arith)
weigh-worth test zero i (l ∷ []) few = omega arith
weigh-worth test zero i (l ∷ m ∷ ls) few = absurd (omega (arith, few))
weigh-worth test (suc top) i (l ∷ ls) few =
    let above = worth top (λ h. count_by test (level_at ls h)) in
    let twice : 2 ^ suc i * above ≡ 2 * 2 ^ i * above = ap (λ n. n * above) (pow-succ' 2 i) in
    omega (arith, weigh-worth test top (suc i) ls (omega (arith, few)), twice)

-- the rank in a bag, by the counts of its levels
pub rank-worth : {A : Type 0} (test : A → Bool) (top : ℕ) (bag : Bag A) → length bag.levels ≤ suc top → rank (one test) bag ≡ worth top (λ h. count_by test (level_at bag.levels h))
rank-worth test top bag few = weigh-worth test top 0 bag.levels few ∙ omega arith

-- The moves of a query's items that a schedule of updates gives.

abbrev states : List Layout → ℕ
states ls = sum_by (λ (l : Layout). l.state) ls

-- each compaction lowers the retained count by at least 2, so states are small
abbrev pub AreYoung : ℕ → List Layout → Type 0
AreYoung n ls = 2 * states ls + retained_of ls ≤ n

-- ---- what moves bring, and the bits that they take

-- a count over moves that leaves out compactions is not changed by a walk
room-uncounted : (count : List Move → ℕ) → ((h keep : ℕ) (turned : Bool) (es : List Move) → count (Compacts h keep turned ∷ es) ≡ count es) →
    (k : ℕ) (ls : List Layout) (rest : List Move) → count (room_moves k ls ++ rest) ≡ count rest
room-uncounted count uncounted k ls rest =
    holds-room {A = ℕ} k HighRank (λ _. ⊤) (λ _ _ _. tt) (λ _ _ es _. count es ≡ count rest) (λ h ls _ _ es _ _ same. uncounted h _ _ es ∙ same) ls ls [] rest tt (λ _. refl)

all_draws : List Move → ℕ
all_draws es = own_draws es + other_draws es

draws-move : {A : Type 0} (h keep state : ℕ) (side : Taken) (es : List Move) (actions : List (Action A)) → all_draws es ≡ draws_of actions →
    all_draws (Compacts h keep (turns_coin state) ∷ es) ≡ draws_of (Compact h (coin_kind state) side ∷ actions)
unfolding all_draws
draws-move {A} h keep state side es actions e = grind (arith, common_steps, all_draws, sum_by-cons)

-- ---- levels that are compacted

length-with : (h : ℕ) (change : Layout → Layout) (ls : List Layout) → (suc h ≤ length (with_level new_layout h change ls)) × (length ls ≤ length (with_level new_layout h change ls))
length-with zero change [] = (omega arith, omega arith)
length-with zero change (l ∷ ls) = (omega arith, omega arith)
length-with (suc h) change [] = let r = length-with h change [] in (omega (arith, r.0), omega arith)
length-with (suc h) change (l ∷ ls) = let r = length-with h change ls in (omega (arith, r.0), omega (arith, r.1))

abbrev StayBelow : List Layout → List Move → List Layout → Type 0
StayBelow ls es after = (length ls ≤ length after) × AreBelowNominal (length after - 1) es

below-compact : (k h : ℕ) (ls after : List Layout) (rest : List Move) → StayBelow (compacted_at k h ls) rest after → StayBelow ls (move_at k h ls ∷ rest) after
below-compact k h ls after rest s = grind (arith, common_steps, length-with)

-- ---- states

emptied-here : (k h : ℕ) (ls : List Layout) → emptied (layout_at (compacted_at k h ls) h) ≡ emptied (compacted k (layout_at ls h))
emptied-here k h ls =
    emptied-filled (suc h) (taken k (layout_at ls h) / 2) (with_level new_layout h (compacted k) ls) h ∙ ap emptied (layout-same h (compacted k) ls)

states-with : (h : ℕ) (change : Layout → Layout) (ls : List Layout) → states (with_level new_layout h change ls) + (layout_at ls h).state ≡ states ls + (change (layout_at ls h)).state
states-with = sum-with (λ l. l.state) refl

state-within : (h : ℕ) (ls : List Layout) → (layout_at ls h).state ≤ states ls
state-within h ls = omega (arith, states-with h (λ _. new_layout) ls)

module _ (k : ℕ) (legal : IsLegalK k) where
  young-compacted : (n h : ℕ) (ls : List Layout) → AreLayouts k ls → is_full k (layout_at ls h) ≡ true → AreYoung n ls → AreYoung n (compacted_at k h ls)
  young-compacted n h ls a e young =
      let l = layout_at ls h in
      let g = gives k legal HighRank l (layout_is k legal h ls a) e in
      let inner : List Layout = with_level new_layout h (compacted k) ls in
      let up = filled (taken k l / 2) in
      let retained = retained-with h (compacted k) ls in
      let all = states-with h (compacted k) ls in
      omega (arith, young, retained, retained-with (suc h) up inner, all, states-with (suc h) up inner, g.four, g.even, g.stay)

  young-put : (n : ℕ) (ls : List Layout) → AreYoung n ls → AreYoung (suc n) (put_layouts ls)
  young-put n ls young = omega (arith, young, retained-with 0 (filled 1) ls, states-with 0 (filled 1) ls)

-- ---- the section rule

-- how often items come
abbrev pub gives_of : List Move → ℕ
gives_of [] = 0
gives_of (Gives n ∷ es) = suc (gives_of es)
gives_of (Compacts h keep turned ∷ es) = gives_of es

-- what holds of a level of these layouts along some moves
pub record IsInOrder (k h n : ℕ) (ls : List Layout) (es : List Move) : Type 0 where
  pub few : 2 * ((layout_at ls h).state + length (keeps h es)) ≤ n + gives_of es
  pub obeys : ObeysSections k (layout_at ls h).state (layout_at ls h).doublings (keeps h es)

module _ (k : ℕ) (legal : IsLegalK k) (h : ℕ) where
  abbrev StayInOrder : List Layout → List Move → List Layout → Type 0
  StayInOrder ls es after = (n : ℕ) → AreYoung n ls → n + gives_of es < 2 ^ 64 → IsInOrder k h n ls es

  order-there : (n j : ℕ) (ls : List Layout) (rest : List Move) → h ≢ j → IsInOrder k h n (compacted_at k j ls) rest → IsInOrder k h n ls (move_at k j ls ∷ rest)
  order-there n j ls rest ne i =
      let same = emptied-other k j ls h ne in
      let kept : keeps h (move_at k j ls ∷ rest) ≡ keeps h rest = rw (ne_eqb j h (λ e. ne (sym e))) refl in
      record {
        few = omega (arith, i.few, ap (λ (l : Layout). l.state) same, ap (λ (ks : List (Bool × ℕ)). length ks) kept);
        obeys = rw kept (subst (λ (l : Layout). ObeysSections k l.state l.doublings (keeps h rest)) same i.obeys);
      }

  order-here : (n : ℕ) (ls : List Layout) (rest : List Move) → AreLayouts k ls → is_full k (layout_at ls h) ≡ true → (layout_at ls h).state + 1 < 2 ^ 64 →
      IsInOrder k h n (compacted_at k h ls) rest → IsInOrder k h n ls (move_at k h ls ∷ rest)
  order-here n ls rest a e bound i =
      let l = layout_at ls h in
      let least : ℕ = kept_at_least (size_of k l.doublings) l.state l.doublings in
      let g = gives k legal HighRank l (layout_is k legal h ls a) e in
      let same = emptied-here k h ls in
      let next : state_after l.state ≡ suc l.state = omega (arith, bound) in
      let kept : keeps h (move_at k h ls ∷ rest) ≡ (turns_coin l.state, l.count - taken k l) ∷ keeps h rest = rw (eq-eqb h h refl) refl in
      let low : least ≤ l.count - taken k l = omega (arith, g.four) in
      let high : l.count - taken k l ≤ least + 1 = omega (arith, g.four) in
      record {
        few = omega (arith, i.few, next, ap (λ (m : Layout). m.state) same, ap (λ (ks : List (Bool × ℕ)). length ks) kept);
        obeys = rw kept (refl, low, high, rw next at (subst (λ (m : Layout). ObeysSections k m.state m.doublings (keeps h rest)) same i.obeys));
      }

  order-compact : (j : ℕ) (ls after : List Layout) (rest : List Move) → AreLayouts k ls → is_full k (layout_at ls j) ≡ true →
      StayInOrder (compacted_at k j ls) rest after → StayInOrder ls (move_at k j ls ∷ rest) after
  order-compact j ls after rest a e go = λ n young bound.
      let i = go n (young-compacted k legal n j ls a e young) bound in
      elim (cases_eq h j) [
        | inl q ↦ rw (← q) (order-here n ls rest a (rw (← q) at e) (let w = state-within h ls in omega (arith, w, young, bound)) (rw (← q) at i))
        | inr ne ↦ order-there n j ls rest ne i
      ]

  order-give : (m : ℕ) (ls after : List Layout) (rest : List Move) → StayInOrder (put_layouts ls) rest after → StayInOrder ls (Gives m ∷ rest) after
  order-give m ls after rest go = λ n young bound.
      let i = go (suc n) (young-put k legal n ls young) (omega (arith, bound)) in
      let same = emptied-filled 0 1 ls h in
      record {
        few = omega (arith, i.few, ap (λ (l : Layout). l.state) same);
        obeys = subst (λ (l : Layout). ObeysSections k l.state l.doublings (keeps h rest)) same i.obeys;
      }

  order-done : (ls : List Layout) → StayInOrder ls [] ls
  order-done ls = λ n young bound. let w = state-within h ls in record { few = omega (arith, w, young); obeys = tt }

module _ {A : Type 0} (k : ℕ) (legal : IsLegalK k) (test : A → Bool) where
  -- the moves bring as many items as pass the test
  pub moves-total : (ls : List Layout) (items : List A) → total (updates_moves k test ls items) ≡ count_by test items
  moves-total ls [] = refl
  moves-total ls (x ∷ xs) =
      omega (
        arith,
        room-uncounted total (λ h keep turned es. refl) k (put_layouts ls) (updates_moves k test (update_layouts k ls) xs),
        moves-total (update_layouts k ls) xs,
        sum_by-cons (λ (y : A). cond (test y) 1 0) x xs,
      )

  -- they draw as many coins as the updates
  pub moves-draws : (accuracy : RankAccuracy) (ls : List Layout) (items : List A) →
      own_draws (updates_moves k test ls items) + other_draws (updates_moves k test ls items) ≡ draws_of (updates_actions k accuracy ls items)
  unfolding all_draws
  moves-draws accuracy ls items =
      holds-updates k accuracy (λ _. ⊤) (λ _ _ _. tt) (λ _ actions es _. all_draws es ≡ draws_of actions)
      (λ h ls _ actions es _ _ same. draws-move h _ (layout_at ls h).state (taken_side accuracy (taken k (layout_at ls h))) es actions same) test (λ _ _. tt)
      (λ x _ _ actions _ same. omega (arith, same, sum_by-cons (λ (a : Action A). cond (draws_action a) 1 0) (Put 0 x) actions)) (λ _. refl) ls items tt

  -- they compact only levels below the top one
  pub moves-below : (ls : List Layout) (items : List A) → 0 < length ls → AreBelowNominal (length (updates_layouts k ls items) - 1) (updates_moves k test ls items)
  moves-below ls items some =
      (holds-updates k HighRank (λ _. ⊤) (λ _ _ _. tt) (λ ls _ es after. StayBelow ls es after) (λ h ls after _ rest _ _ s. below-compact k h ls after rest s) test (λ _ _. tt)
      (λ _ ls after _ rest s. let r = length-with 0 (filled 1) ls in (omega (arith, r.1, s.0), s.1)) (λ ls. (omega arith, tt)) ls items tt).1

  -- items come once for each item of the list
  pub moves-gives : (ls : List Layout) (items : List A) → gives_of (updates_moves k test ls items) ≡ length items
  moves-gives ls [] = refl
  moves-gives ls (x ∷ xs) = ap suc (room-uncounted gives_of (λ h keep turned es. refl) k (put_layouts ls) (updates_moves k test (update_layouts k ls) xs) ∙ moves-gives (update_layouts k ls) xs)

  -- each level is compacted few times and keeps what the section rule says
  pub in_order : (n : ℕ) (ls : List Layout) (items : List A) (h : ℕ) → AreLayouts k ls → AreYoung n ls → n + length items < 2 ^ 64 → IsInOrder k h n ls (updates_moves k test ls items)
  in_order n ls items h a young bound =
      let g = moves-gives ls items in
      holds-updates k HighRank (AreLayouts k) (compacted_are k legal) (λ ls _ es after. StayInOrder k legal h ls es after) (λ j ls after _ rest. order-compact k legal h j ls after rest) test
      (filled_are k legal 0 1) (λ x ls after _ rest. order-give k legal h (cond (test x) 1 0) ls after rest) (order-done k legal h) ls items a n young (omega (arith, g, bound))
