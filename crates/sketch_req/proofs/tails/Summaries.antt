-- Sketches that summarize a stream: each call keeps what is exact up to a number of items, since a compaction takes none that pass a query's test,
-- or leaves that many.
use Rattle.std.proofs.Common.{◌≡◌, ℕ, ◌+◌, ◌*◌, ◌≤◌, Bool, true, not, if◌then◌else◌, List, [], ◌∷◌, length, drop, slice_index, refl, sym, ap, subst, arith, Ordering, zero, suc, min, false, ◌++◌, map, sum, count_by, ◌∙◌, append-nil, append_assoc, length-append, Option}
use Rattle.std.specs.Cmp.{IsTotalOrder}
use Rattle.std.proofs.lemmas.Bool.{false≢true}
use Rattle.sketch_base.specs.declared.common.SearchCriteria.{SearchCriteria}
use Rattle.sketch_base.specs.Bag.{Bag, Taken, Lowest, Greatest, level_at, Alike, SameItems, expanded, repeated, sort, with_level}
use Rattle.sketch_base.specs.Exact.{IsExactUpTo}
use Rattle.sketch_base.specs.Lengths.{takes, bag_lengths, TakesFew, Along, TakesEven, acts_on_lengths, lengths_after, world_lengths}
use Rattle.sketch_base.specs.Query.{counted}
use Rattle.sketch_base.specs.Trace.{Action, Compact, Redraw, Coin, At, Work, World, act, acts, bit_of, draws, next_bit, Put, Join, alone, bag_after, bag_beside, draws_of, events_at, joins_actions}
use Rattle.sketch_base.proofs.bags.Acts.{rank, compacted, weigh-added, moved-keeps, weigh-empty, sum_by-expanded}
use Rattle.sketch_base.proofs.order.Order.{counted-falls, SameCounts, SameCounts-from_sorted, same_length, SameItems-sort}
use Rattle.sketch_base.proofs.plays.Plays.{length-level_at, lengths-happens, one, lengths-play, in_turn-append, play-at}
use Rattle.sketch_base.proofs.tails.ExactTails.{SparesOrFills, spares-lowest, spares-greatest, exact-as, exact-beside, both_counts, exact-more, exact-both}
use Rattle.sketch_req.specs.ScheduleLaws.{tail_side, AreLayouts}
use Rattle.sketch_req.specs.declared.RankAccuracy.{RankAccuracy}
use Rattle.sketch_req.specs.declared.RankAccuracy.TheVariants.{HighRank, LowRank}
use Rattle.sketch_req.proofs.plays.Legal.{takes-few, JoinsAre, lengths_at, merge_lengths, Fits, lengths_after_compact, leads-redraws, room_leads}
use Rattle.std.specs.List.{AllZip}
use Rattle.std.proofs.lemmas.Cmp.{tied_back}
use Rattle.std.proofs.lemmas.List.{nil_from_length}
use Rattle.std.proofs.lemmas.List.Sums.{sum_by-cons, sum_by-append, sum-map}
use Rattle.sketch_base.proofs.bags.Alike.{rank-alike, SameItems-refl, SameItems-back, SameItems-append}
use Rattle.sketch_base.proofs.views.Entries.{SameAnswer-itself}
use Rattle.sketch_base.proofs.order.Extremes.{least-on, greatest-on, least-parts, greatest-parts}
use Rattle.sketch_req.specs.Actions.{bag_of}
use Rattle.sketch_req.specs.Imaged.{IsSameLevel}
use Rattle.sketch_req.specs.ImageLaws.{OneSketch, AllReadBack, without_coins}
use Rattle.sketch_req.specs.Level.{Level, turns_coin}
use Rattle.sketch_req.specs.LevelImage.{forgotten}
use Rattle.sketch_req.specs.Merged.{item_lists, merge_by}
use Rattle.sketch_req.specs.Redrawn.{redrawn, redrawn_sketch}
use Rattle.sketch_req.specs.Relative.{off_protected_end}
use Rattle.sketch_req.specs.Schedule.{Layout, layouts_of, counts_of, filled, put_layouts, redraw_actions, actions_if_full, update_actions, joined_layouts, merge_actions_by}
use Rattle.sketch_req.specs.Sections.{IsLegalK}
use Rattle.sketch_req.specs.Sketch.{Req, IsUpdated, coins_of_update, empty_sketch, update_of}
use Rattle.sketch_req.specs.Updates.{AreUpdatedInTurn}
use Rattle.sketch_req.proofs.sketches.Copies.{layouts-copied}
use Rattle.sketch_req.proofs.sketches.Extremes.{Moves, alike-moves, least-moved, greatest-moved}
use Rattle.sketch_req.proofs.layouts.Layouts.{counts-with_level, filled_are, joined_are}
use Rattle.sketch_req.proofs.sketches.Updated.{legal-layouts}
use Rattle.sketch_req.specs.Summaries.{Summarizes, EmptySummarizes, UpdateSummarizes, UpdatesSummarize, MergeSummarizes, EmptyAddsNothing, RedrawnSummarizes, CopySummarizes, AnyOrderIsSummarized, SmallerTailIsExact, ImageSummarizes, WrittenSummarizes}

-- REQ's compactions keep what is exact up to a number of items: each takes none that pass a query's test, or leaves that many.

module _ {A : Type 0} (cmp : A → A → Ordering) (test : A → Bool) where
  -- and with nothing beside it
  pub exact-compacted : (most count h : ℕ) (taken : Taken) (bit : Bool) (bag : Bag A) → SparesOrFills cmp test taken →
      most + takes taken (length (level_at bag.levels h)) ≤ length (level_at bag.levels h) →
      IsExactUpTo most count (rank (one test) bag) → IsExactUpTo most count (rank (one test) (compacted cmp (one test) h taken bit bag))
  exact-compacted most count h taken bit bag spares room exact =
      exact-as most _ _ _ _ refl (omega arith)
      (exact-beside cmp test most count 0 h taken bit bag spares room (exact-as most _ _ _ (rank (one test) bag + 0) refl (omega arith) exact))

-- the items on a query's accurate side
abbrev pub is_protected : {A : Type 0} → (A → A → Ordering) → RankAccuracy → A → SearchCriteria → A → Bool
is_protected cmp HighRank y criteria x = not (counted cmp y criteria x)
is_protected cmp LowRank y criteria x = counted cmp y criteria x

module _ {A : Type 0} {cmp : A → A → Ordering} (order : IsTotalOrder cmp) where
  -- compactions from the side away from the accurate one spare or fill the accurate side
  pub spares-tail : (accuracy : RankAccuracy) (y : A) (criteria : SearchCriteria) (taken : Taken) → tail_side accuracy taken ≡ true →
      SparesOrFills cmp (is_protected cmp accuracy y criteria) taken
  spares-tail HighRank y criteria (Lowest n) e = spares-lowest cmp (counted cmp y criteria) (counted-falls order y criteria) n
  spares-tail LowRank y criteria (Greatest n) e = spares-greatest cmp (counted cmp y criteria) (counted-falls order y criteria) n
  spares-tail _ y criteria _ e = absurd (false≢true e)

module _ {A : Type 0} (cmp : A → A → Ordering) (test : A → Bool) (k most : ℕ) (accuracy : RankAccuracy)
    (spares : (taken : Taken) → tail_side accuracy taken ≡ true → SparesOrFills cmp test taken) (few : most ≤ 3 * k) where
  -- the level lengths after a compaction
  lengths-compacted : (h : ℕ) (coin : Coin) (taken : Taken) (next : Bool) (work : Work (Bag A)) → TakesFew (3 * k) taken (slice_index (bag_lengths work.bag) h) →
      bag_lengths (act cmp (Compact h coin taken) next work).bag ≡ lengths_after_compact h taken (bag_lengths work.bag)
  lengths-compacted h coin taken next work room =
      let world : World (Bag A) = record { slots = λ s. work.bag; scratch = work.scratch; target = 0 } in
      ap (λ (w : World (List ℕ)). w.slots 0) (lengths-happens cmp (At 0 (Compact h coin taken)) next world (takes-few (3 * k) taken (slice_index (bag_lengths work.bag) h) room).0)

  -- what is exact up to `most` stays so under the compactions and redraws of a walk
  pub exact-acts : (actions : List (Action A)) (word : List Bool) (work : Work (Bag A)) (count : ℕ) → Fits k accuracy actions (bag_lengths work.bag) →
      IsExactUpTo most count (rank (one test) work.bag) → IsExactUpTo most count (rank (one test) (acts cmp actions word work).bag)
  exact-acts [] word work count fits exact = exact
  exact-acts (Compact h coin taken ∷ rest) word work count fits exact =
      let next = next_bit word in
      let after = act cmp (Compact h coin taken) next work in
      let level = level_at work.bag.levels h in
      let room : 3 * k + takes taken (length level) ≤ length level =
      subst (λ (n : ℕ). 3 * k + takes taken n ≤ n) (length-level_at h work.bag.levels) (takes-few (3 * k) taken (slice_index (bag_lengths work.bag) h) fits.1).1 in
      exact-acts rest (if draws {A = A} (Compact h coin taken) then drop 1 word else word) after count
      (subst (Fits k accuracy rest) (sym (lengths-compacted h coin taken next work fits.1)) fits.2)
      (exact-compacted cmp test most count h taken (bit_of coin h next work.bag) work.bag (spares taken fits.0) (omega (arith, room, few)) exact)
  exact-acts (Redraw h ∷ rest) word work count fits exact =
      exact-acts rest (drop 1 word) (act cmp (Redraw h) (next_bit word) work) count fits exact
  exact-acts (other ∷ rest) word work count fits exact = absurd fits

-- Sketches that summarize a stream, call by call.

-- ---- joins

module _ {A : Type 0} (cmp : A → A → Ordering) where
  -- joins move what the scratch counts to the bag
  joins-keep : (f : A → ℕ) (more h : ℕ) (word : List Bool) (work : Work (Bag A)) → let after = acts cmp (joins_actions more h) word work in
      rank f after.bag + rank f after.scratch ≡ rank f work.bag + rank f work.scratch
  joins-keep f zero h word work = refl
  joins-keep f (suc more) h word work =
      joins-keep f more (suc h) word (act cmp (Join h) (next_bit word) work) ∙ (moved-keeps f h (level_at work.scratch.levels h) [] work (append-nil (level_at work.scratch.levels h))).0

  joins-even : (more h : ℕ) (world : World (List ℕ)) → Along TakesEven (events_at {A = A} 0 (joins_actions more h)) world
  joins-even zero h world = tt
  joins-even (suc more) h world = (tt, joins-even more (suc h) (lengths_after {A = A} (At 0 (Join h)) world))

  -- the lengths of the bag and the scratch after joins
  joins-lengths : (k : ℕ) (accuracy : RankAccuracy) (ls others : List Layout) (word : List Bool) (work : Work (Bag A)) → IsLegalK k → AreLayouts k ls →
      bag_lengths work.bag ≡ counts_of ls → bag_lengths work.scratch ≡ counts_of others → let after = acts cmp (joins_actions (length others) 0) word work in
      (bag_lengths after.bag ≡ counts_of (joined_layouts k ls others)) × (sum (bag_lengths after.scratch) ≡ 0)
  joins-lengths k accuracy ls others word work legal are e c =
      let joins : List (Action A) = joins_actions (length others) 0 in
      let world : World (Bag A) = record { slots = λ s. work.bag; scratch = work.scratch; target = 0 } in
      let played = play-at cmp joins word world 0 in
      let fixed = lengths-play cmp (events_at 0 joins) word world (joins-even (length others) 0 (world_lengths world)) in
      let acted = lengths_at joins (world_lengths world) 0 in
      let after : Work (List ℕ) = acts_on_lengths joins (record { bag = bag_lengths work.bag; scratch = bag_lengths work.scratch }) in
      let are : JoinsAre A k ls others after = rw (e, c) (merge_lengths A false k accuracy ls others legal are).0 in
      let bag = sym (ap (λ (w : World (Bag A)). bag_lengths (w.slots 0)) played) ∙ (ap (λ (w : World (List ℕ)). w.slots 0) fixed ∙ ap (λ (w : World (List ℕ)). w.slots 0) acted) in
      let scratch = sym (ap (λ (w : World (Bag A)). bag_lengths w.scratch) played) ∙ (ap (λ (w : World (List ℕ)). w.scratch) fixed ∙ ap (λ (w : World (List ℕ)). w.scratch) acted) in
      (bag ∙ are.bag, ap sum scratch ∙ are.empty)

  -- so the bag then counts what both did
  joins-rank : (f : A → ℕ) (k : ℕ) (accuracy : RankAccuracy) (ls others : List Layout) (word : List Bool) (work : Work (Bag A)) → IsLegalK k → AreLayouts k ls →
      bag_lengths work.bag ≡ counts_of ls → bag_lengths work.scratch ≡ counts_of others →
      rank f (acts cmp (joins_actions (length others) 0) word work).bag ≡ rank f work.bag + rank f work.scratch
  joins-rank f k accuracy ls others word work legal are e c =
      let after = acts cmp (joins_actions (length others) 0) word work in
      let empty : sum (bag_lengths after.scratch) ≡ 0 = (joins-lengths k accuracy ls others word work legal are e c).1 in
      omega (arith, joins-keep f (length others) 0 word work, weigh-empty f 0 after.scratch.levels (sym (sum-map length after.scratch.levels) ∙ empty))

-- ---- counts that are exact up to a number

exact-fewer : (most fewer c w : ℕ) → fewer ≤ most → IsExactUpTo most c w → IsExactUpTo fewer c w
exact-fewer most fewer c w le h = record {
  same = λ few. h.same (omega (arith, le, few));
  enough = omega (arith, le, h.enough);
}

-- ---- the accurate side

module _ {A : Type 0} (cmp : A → A → Ordering) where
  pub off-is : (accuracy : RankAccuracy) (y : A) (criteria : SearchCriteria) (xs : List A) →
      off_protected_end cmp accuracy y criteria xs ≡ count_by (is_protected cmp accuracy y criteria) xs
  off-is HighRank y criteria xs = refl
  off-is LowRank y criteria xs = refl

  -- the weight on the accurate side, level by level
  pub off-rank : (accuracy : RankAccuracy) (y : A) (criteria : SearchCriteria) (bag : Bag A) →
      off_protected_end cmp accuracy y criteria (expanded cmp bag) ≡ rank (one (is_protected cmp accuracy y criteria)) bag
  off-rank accuracy y criteria bag = off-is accuracy y criteria (expanded cmp bag) ∙ sum_by-expanded (one (is_protected cmp accuracy y criteria)) cmp bag

  off-append : (accuracy : RankAccuracy) (y : A) (criteria : SearchCriteria) (xs ys : List A) →
      off_protected_end cmp accuracy y criteria (xs ++ ys) ≡ off_protected_end cmp accuracy y criteria xs + off_protected_end cmp accuracy y criteria ys
  off-append HighRank y criteria xs ys = sum_by-append (one (λ x. not (counted cmp y criteria x))) xs ys
  off-append LowRank y criteria xs ys = sum_by-append (one (counted cmp y criteria)) xs ys

  bag-lengths : (ls : List (Level A)) → bag_lengths (bag_of ls) ≡ counts_of (layouts_of ls)
  bag-lengths [] = refl
  bag-lengths (l ∷ ls) = ap (λ (ns : List ℕ). length l.items ∷ ns) (bag-lengths ls)

module _ {A : Type 0} {cmp : A → A → Ordering} (order : IsTotalOrder cmp) where
  off-same : (accuracy : RankAccuracy) (y : A) (criteria : SearchCriteria) (xs ys : List A) → SameCounts order xs ys →
      off_protected_end cmp accuracy y criteria xs ≡ off_protected_end cmp accuracy y criteria ys
  off-same HighRank y criteria xs ys same =
      omega (arith, same y criteria, same_length order xs ys same, both_counts (counted cmp y criteria) xs, both_counts (counted cmp y criteria) ys)
  off-same LowRank y criteria xs ys same = same y criteria

  -- no query tells alike bags apart
  pub off-alike : (accuracy : RankAccuracy) (y : A) (criteria : SearchCriteria) (a b : Bag A) → Alike cmp a b →
      off_protected_end cmp accuracy y criteria (expanded cmp a) ≡ off_protected_end cmp accuracy y criteria (expanded cmp b)
  off-alike accuracy y criteria a b alike = off-same accuracy y criteria (expanded cmp a) (expanded cmp b) (λ z c. rank-alike order z c a b alike)

  -- ---- bags

  module _ (k tail : ℕ) (accuracy : RankAccuracy) (y : A) (criteria : SearchCriteria) (fits : tail ≤ k) (legal : IsLegalK k) where
    abbrev test : A → Bool
    test = is_protected cmp accuracy y criteria

    exact-fits : (actions : List (Action A)) (word : List Bool) (work : Work (Bag A)) (count : ℕ) → Fits k accuracy actions (bag_lengths work.bag) →
        IsExactUpTo (3 * tail) count (rank (one test) work.bag) → IsExactUpTo (3 * tail) count (rank (one test) (acts cmp actions word work).bag)
    exact-fits = exact-acts cmp test k (3 * tail) accuracy (spares-tail order accuracy y criteria) (omega (arith, fits))

    -- an update
    exact-update : (ls : List Layout) (x : A) (word : List Bool) (bag : Bag A) (count : ℕ) → AreLayouts k ls → bag_lengths bag ≡ counts_of ls →
        IsExactUpTo (3 * tail) count (rank (one test) bag) →
        IsExactUpTo (3 * tail) (count + one test x) (rank (one test) (bag_after cmp (update_actions k accuracy ls x) word bag))
    exact-update ls x word bag count are lengths exact =
        let put : Work (Bag A) = act cmp (Put 0 x) (next_bit word) (alone bag) in
        let world : World (Bag A) = record { slots = λ s. bag; scratch = (alone bag).scratch; target = 0 } in
        let long : bag_lengths put.bag ≡ counts_of (put_layouts ls) =
        ap (λ (w : World (List ℕ)). w.slots 0) (lengths-happens cmp (At 0 (Put 0 x)) (next_bit word) world tt)
        ∙ (ap (with_level 0 0 (λ m. m + 1)) lengths ∙ sym (counts-with_level 0 (filled 1) (λ m. m + 1) ls refl)) in
        let room = room_leads {A = A} k accuracy legal (put_layouts ls) (filled_are k legal 0 1 ls are) in
        let more : rank (one test) bag + one test x ≡ rank (one test) put.bag =
        omega (arith, weigh-added (one test) 0 (x ∷ []) bag.levels, sum_by-cons (one test) x []) in
        exact-fits (actions_if_full k accuracy (put_layouts ls)) word put (count + one test x) (subst (Fits k accuracy (actions_if_full k accuracy (put_layouts ls))) (sym long) room.fits)
        (exact-as (3 * tail) (count + one test x) (count + one test x) _ _ refl more (exact-more (3 * tail) count (rank (one test) bag) (one test x) exact))

    -- actions after the joins of a merge
    exact-rest : (ls others : List Layout) (rest : List (Action A)) (word : List Bool) (work : Work (Bag A)) (count more : ℕ) → AreLayouts k ls →
        bag_lengths work.bag ≡ counts_of ls → bag_lengths work.scratch ≡ counts_of others → Fits k accuracy rest (counts_of (joined_layouts k ls others)) →
        IsExactUpTo (3 * tail) count (rank (one test) work.bag) → IsExactUpTo (3 * tail) more (rank (one test) work.scratch) →
        IsExactUpTo (3 * tail) (count + more) (rank (one test) (acts cmp (joins_actions (length others) 0 ++ rest) word work).bag)
    exact-rest ls others rest word work count more are e c room exact exact' =
        let joins : List (Action A) = joins_actions (length others) 0 in
        let joined : Work (Bag A) = acts cmp joins word work in
        let long = (joins-lengths cmp k accuracy ls others word work legal are e c).0 in
        let both = exact-as (3 * tail) (count + more) (count + more) _ _ refl (sym (joins-rank cmp (one test) k accuracy ls others word work legal are e c))
        (exact-both (3 * tail) count more (rank (one test) work.bag) (rank (one test) work.scratch) exact exact') in
        subst (λ (w : Work (Bag A)). IsExactUpTo (3 * tail) (count + more) (rank (one test) w.bag)) (sym (in_turn-append draws (act cmp) joins rest word work))
        (exact-fits rest (drop (draws_of joins) word) joined (count + more) (subst (Fits k accuracy rest) (sym long) room) both)

    -- a merge of either kind
    exact-merge : (redraws : Bool) (ls others : List Layout) (word : List Bool) (work : Work (Bag A)) (count more : ℕ) → AreLayouts k ls →
        bag_lengths work.bag ≡ counts_of ls → bag_lengths work.scratch ≡ counts_of others →
        IsExactUpTo (3 * tail) count (rank (one test) work.bag) → IsExactUpTo (3 * tail) more (rank (one test) work.scratch) →
        IsExactUpTo (3 * tail) (count + more) (rank (one test) (acts cmp (merge_actions_by redraws k accuracy ls others) word work).bag)
    exact-merge true ls others word work count more are e c =
        let joined = joined_layouts k ls others in
        let room = room_leads {A = A} k accuracy legal joined (joined_are k legal ls others are) in
        exact-rest ls others (redraw_actions joined ++ actions_if_full k accuracy joined) word work count more are e c
        (leads-redraws k accuracy 0 joined joined _ (actions_if_full k accuracy joined) room).fits
    exact-merge false ls others word work count more are e c =
        let joined = joined_layouts k ls others in
        let room = room_leads {A = A} k accuracy legal joined (joined_are k legal ls others are) in
        exact-rest ls others (actions_if_full k accuracy joined) word work count more are e c room.fits

  -- ---- sketches

  pub empty-summarizes : EmptySummarizes cmp
  empty-summarizes k tail accuracy le = record {
    tail_fits = le;
    length_is = refl;
    least = refl;
    greatest = refl;
    exact = λ y criteria. none accuracy y criteria;
  }
    where
      none : (accuracy : RankAccuracy) (y : A) (criteria : SearchCriteria) →
          IsExactUpTo (3 * tail) (off_protected_end cmp accuracy y criteria []) (off_protected_end cmp accuracy y criteria (expanded cmp (bag_of (empty_sketch {A = A} k accuracy).levels)))
      none HighRank y criteria = record { same = λ le. refl; enough = omega arith }
      none LowRank y criteria = record { same = λ le. refl; enough = omega arith }

  -- of the soundness of the sketch only that of its layouts matters
  update-of : (s t : Req A) (x : A) (word : List Bool) (stream : List A) (tail : ℕ) → IsLegalK s.k → AreLayouts s.k (layouts_of s.levels) →
      Summarizes cmp s stream tail → IsUpdated cmp s x word t → Summarizes cmp t (stream ++ x ∷ []) tail
  update-of s t x word stream tail legal are is u = record {
    tail_fits = omega (arith, is.tail_fits, u.k);
    length_is = omega (arith, u.n, is.length_is, length-append stream (x ∷ []));
    least = least-on order stream (x ∷ []) s.least t.least is.least u.least;
    greatest = greatest-on order stream (x ∷ []) s.greatest t.greatest is.greatest u.greatest;
    exact = λ y criteria. rw u.accuracy (
        let accuracy = s.accuracy in
        let test : A → Bool = is_protected cmp accuracy y criteria in
        let bag = bag_of s.levels in
        let after = bag_after cmp (update_of s x) word bag in
        let before = exact-as (3 * tail) _ _ _ _ (off-is cmp accuracy y criteria stream) (off-rank cmp accuracy y criteria bag) (is.exact y criteria) in
        let count : count_by test stream + one test x ≡ off_protected_end cmp accuracy y criteria (stream ++ x ∷ []) =
        omega (arith, off-is cmp accuracy y criteria (stream ++ x ∷ []), sum_by-append (one test) stream (x ∷ []), sum_by-cons (one test) x []) in
        exact-as (3 * tail) _ _ _ _ count (sym (off-rank cmp accuracy y criteria after) ∙ off-alike accuracy y criteria after (bag_of t.levels) u.bag.levels)
        (exact-update s.k tail accuracy y criteria is.tail_fits legal (layouts_of s.levels) x word bag (count_by test stream) are (bag-lengths cmp s.levels) before));
  }

  pub update-summarizes : UpdateSummarizes cmp
  update-summarizes s t x word stream tail sound is u =
      update-of s t x word stream tail sound.legal_k (legal-layouts cmp s.k s.accuracy 0 s.levels sound.placed) is u

  pub merge-summarizes : MergeSummarizes cmp
  merge-summarizes redraws s other t word stream more tail tail' sound same is is' m = record {
    tail_fits = omega (arith, is.tail_fits, m.k);
    length_is = omega (arith, m.n, is.length_is, is'.length_is, length-append stream more);
    least = least-parts order stream more s.least other.least t.least is.least is'.least m.least;
    greatest = greatest-parts order stream more s.greatest other.greatest t.greatest is.greatest is'.greatest m.greatest;
    exact = λ y criteria. rw m.accuracy (
        let accuracy = s.accuracy in
        let test : A → Bool = is_protected cmp accuracy y criteria in
        let both = min tail tail' in
        let most = 3 * both in
        let bag = bag_of s.levels in
        let scratch = bag_of other.levels in
        let after = bag_beside cmp (merge_by redraws s other) word bag scratch in
        let before : IsExactUpTo most (count_by test stream) (rank (one test) bag) = exact-as most _ _ _ _ (off-is cmp accuracy y criteria stream) (off-rank cmp accuracy y criteria bag)
        (exact-fewer (3 * tail) most _ _ (omega arith) (is.exact y criteria)) in
        let theirs : IsExactUpTo most (count_by test more) (rank (one test) scratch) = exact-as most _ _ _ _ (off-is cmp accuracy y criteria more) (off-rank cmp accuracy y criteria scratch)
        (exact-fewer (3 * tail') most _ _ (omega arith) (subst (λ (a : RankAccuracy). IsExactUpTo (3 * tail') (off_protected_end cmp a y criteria more) (off_protected_end cmp a y criteria (expanded cmp scratch))) (sym same) (is'.exact y criteria))) in
        let count : count_by test stream + count_by test more ≡ off_protected_end cmp accuracy y criteria (stream ++ more) =
        omega (arith, off-is cmp accuracy y criteria (stream ++ more), sum_by-append (one test) stream more) in
        exact-as most _ _ _ _ count (sym (off-rank cmp accuracy y criteria after) ∙ off-alike accuracy y criteria after (bag_of t.levels) m.bag.levels)
        (exact-merge s.k both accuracy y criteria (omega (arith, is.tail_fits)) sound.legal_k redraws (layouts_of s.levels) (layouts_of other.levels) word
        (record { bag = bag; scratch = scratch }) (count_by test stream) (count_by test more) (legal-layouts cmp s.k s.accuracy 0 s.levels sound.placed)
        (bag-lengths cmp s.levels) (bag-lengths cmp other.levels) before theirs));
  }

  -- streams in any order and with other items that compare equal
  pub any-order : AnyOrderIsSummarized cmp
  any-order s stream others tail same is =
      let to : Moves order stream others = alike-moves order stream others same in
      let from : Moves order others stream = alike-moves order others stream (SameItems-back order (sort cmp stream) (sort cmp others) same) in
      record {
        tail_fits = is.tail_fits;
        length_is = is.length_is ∙ same_length order stream others (SameCounts-from_sorted order stream others same);
        least = least-moved order stream others to from s.least s.least (SameAnswer-itself order s.least) is.least;
        greatest = greatest-moved order stream others to from s.greatest s.greatest (SameAnswer-itself order s.greatest) is.greatest;
        exact = λ y criteria. exact-as (3 * tail) _ _ _ _ (off-same s.accuracy y criteria stream others (SameCounts-from_sorted order stream others same)) refl (is.exact y criteria);
      }

  levels-alike : (xs ys : List (Level A)) → AllZip (IsSameLevel cmp) xs ys → AllZip (λ xs ys. SameItems cmp (sort cmp xs) (sort cmp ys)) (item_lists xs) (item_lists ys)
  levels-alike [] [] c = tt
  levels-alike (x ∷ xs) (y ∷ ys) c = (SameItems-sort cmp order x.items y.items c.0.items, levels-alike xs ys c.1)
  levels-alike xs ys c = absurd c

  pub copy-summarizes : CopySummarizes cmp
  copy-summarizes s copy stream tail c is =
      let same = SameItems-refl cmp order (sort cmp stream) in
      let itself : Moves order stream stream = alike-moves order stream stream same in
      record {
        tail_fits = omega (arith, is.tail_fits, c.k);
        length_is = c.n ∙ is.length_is;
        least = least-moved order stream stream itself itself s.least copy.least c.least is.least;
        greatest = greatest-moved order stream stream itself itself s.greatest copy.greatest c.greatest is.greatest;
        exact = λ y criteria. rw c.accuracy
            (exact-as (3 * tail) _ _ _ _ refl (off-alike s.accuracy y criteria (bag_of s.levels) (bag_of copy.levels) (levels-alike s.levels copy.levels c.levels)) (is.exact y criteria));
      }

  -- sketches with the same items on their levels
  same-items : (s t : Req A) (stream : List A) (tail : ℕ) → t ≡ record s { levels = t.levels } → item_lists t.levels ≡ item_lists s.levels →
      Summarizes cmp s stream tail → Summarizes cmp t stream tail
  same-items s t stream tail e same is = rw e (record {
    tail_fits = is.tail_fits;
    length_is = is.length_is;
    least = is.least;
    greatest = is.greatest;
    exact = λ y criteria. exact-as (3 * tail) _ _ _ _ refl
        (ap (λ (ls : List (List A)). off_protected_end cmp s.accuracy y criteria (sort cmp (repeated 0 ls))) (sym same)) (is.exact y criteria);
  })

  items-redrawn : (word : List Bool) (ls : List (Level A)) → item_lists (redrawn word ls) ≡ item_lists ls
  items-redrawn word [] = refl
  items-redrawn word (l ∷ ls) = ap (λ (xs : List (List A)). l.items ∷ xs) (items-redrawn (if turns_coin l.state then drop 1 word else word) ls)

  pub redrawn-summarizes : RedrawnSummarizes cmp
  redrawn-summarizes s word stream tail is = same-items s (redrawn_sketch word s) stream tail refl (items-redrawn word s.levels) is

  items-forgotten : (ls : List (Level A)) → item_lists (map forgotten ls) ≡ item_lists ls
  items-forgotten [] = refl
  items-forgotten (l ∷ ls) = ap (λ (xs : List (List A)). l.items ∷ xs) (items-forgotten ls)

  -- coins are forgotten
  pub forgotten-summarizes : (s : Req A) (stream : List A) (tail : ℕ) → Summarizes cmp s stream tail → Summarizes cmp (without_coins s) stream tail
  forgotten-summarizes s stream tail is = same-items s (without_coins s) stream tail refl (items-forgotten s.levels) is

  pub smaller-tail : SmallerTailIsExact cmp
  smaller-tail s stream tail fewer le is = record {
    tail_fits = omega (arith, le, is.tail_fits);
    length_is = is.length_is;
    least = is.least;
    greatest = is.greatest;
    exact = λ y criteria. exact-fewer (3 * tail) (3 * fewer) _ _ (omega (arith, le)) (is.exact y criteria);
  }

  pub empty-adds : EmptyAddsNothing cmp
  empty-adds s other stream more tail tail' none is is' =
      let nothing : more ≡ [] = nil_from_length more (omega (arith, none, is'.length_is)) in
      rw (nothing, append-nil stream) (smaller-tail s stream tail (min tail tail') (omega arith) is)

  in-turn : (s t : Req A) (items : List A) (word : List Bool) (stream : List A) (tail : ℕ) → IsLegalK s.k → AreLayouts s.k (layouts_of s.levels) →
      Summarizes cmp s stream tail → AreUpdatedInTurn cmp s items word t → Summarizes cmp t (stream ++ items) tail
  in-turn s t [] word stream tail legal are is d = rw append-nil (copy-summarizes s t stream tail d is)
  in-turn s t (x ∷ xs) word stream tail legal are is d =
      let c = d.is_copy in
      let copied = copy-summarizes s d.copy stream tail c is in
      let laid : AreLayouts d.copy.k (layouts_of d.copy.levels) = rw (c.k, layouts-copied order s.levels d.copy.levels c.levels) are in
      let with_clone = update-of d.copy d.after d.clone word stream tail (rw c.k legal) laid copied d.updated in
      let ones = SameItems-append cmp stream stream (d.clone ∷ []) (x ∷ []) (SameItems-refl cmp order stream) (tied_back order x d.clone d.is_clone, tt) in
      let with_item = any-order d.after (stream ++ d.clone ∷ []) (stream ++ x ∷ []) tail (SameItems-sort cmp order (stream ++ d.clone ∷ []) (stream ++ x ∷ []) ones) with_clone in
      let rest = in-turn d.after t xs (drop (coins_of_update s x) word) (stream ++ x ∷ []) tail d.sound.legal_k
      (legal-layouts cmp d.after.k d.after.accuracy 0 d.after.levels d.sound.placed) with_item d.rest in
      rw append_assoc at rest

  pub updates-summarize : UpdatesSummarize cmp
  updates-summarize s t items word stream tail sound is u =
      in-turn s t items word stream tail sound.legal_k (legal-layouts cmp s.k s.accuracy 0 s.levels sound.placed) is u.in_turn

-- an image of a sketch
pub image-summarizes : {A : Type 0} {cmp : A → A → Ordering} → IsTotalOrder cmp → (spelling : A → Option (List ℕ)) → OneSketch cmp spelling → ImageSummarizes cmp spelling
image-summarizes order spelling one text s found rest others stream tail i j is = copy-summarizes order s found stream tail (one text s found rest others i j).0 is

pub written-summarizes : {A : Type 0} {cmp : A → A → Ordering} → IsTotalOrder cmp → (spelling : A → Option (List ℕ)) → AllReadBack cmp spelling → WrittenSummarizes cmp spelling
written-summarizes order spelling back s found rest others stream tail sound spelled i is =
    copy-summarizes order (without_coins s) found stream tail (back s found rest others sound spelled i).0 (forgotten-summarizes order s stream tail is)
