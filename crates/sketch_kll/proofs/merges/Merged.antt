-- What becomes of levels that others are merged into, and that a sketch keeps its invariant when another one is merged into it.
use Rattle.std.proofs.lemmas.Grind.{common_steps}
use Rattle.std.proofs.Common.{◌≡◌, ℕ, zero, suc, ◌+◌, ◌-◌, ◌*◌, ◌<◌, ◌≤◌, Bool, true, false, nat_lt, if◌then◌else◌, List, [], ◌∷◌, ◌++◌, length, map, refl, sym, ap, ◌∙◌, subst, arith, append-nil, length-append, lt-ltb, IsSorted, Ordering, Equal, min, eqb, ◌&&◌, Option, None, Some, MatchOption, le-ltb}
use Rattle.std.specs.Cmp.{IsTotalOrder}
use Rattle.std.proofs.lemmas.Bool.{cases_lt}
use Rattle.sketch_base.specs.Bag.{Bag, AlikeKll, sort, empty_bag, SameItems}
use Rattle.sketch_base.specs.Random.{bits_from, after_draws}
use Rattle.sketch_base.specs.Trace.{Action, Work, acts, alone, bag_after, draws_of, joins_actions, bag_beside}
use Rattle.sketch_base.specs.Lengths.{acts_on_lengths}
use Rattle.sketch_base.proofs.bags.Alike.{acts-kll}
use Rattle.sketch_base.proofs.plays.Plays.{calls-compose, source-composes, draws-append, lengths-acts, length-sort}
use Rattle.sketch_base.proofs.bags.Parts.{all-append, all-sort, all-parts}
use Rattle.sketch_base.proofs.order.Order.{short_sorted}
use Rattle.sketch_kll.specs.Capacity.{total_of}
use Rattle.sketch_kll.specs.Compress.{passes, stepped, walked, compress_of, IsCompressed}
use Rattle.sketch_kll.specs.Join.{joined_upper, joined}
use Rattle.sketch_kll.specs.Levels.{retained_in, weight_in, first_level, compacted, leftover_of, SameLevels, UpperSorted, AllItems}
use Rattle.sketch_kll.specs.Merge.{pulls_actions, taking_actions, merge_actions}
use Rattle.sketch_kll.specs.Merged.{HaveMerged, merge_on, IsMerged, coins_of_merge}
use Rattle.sketch_base.specs.Extremes.{IsFrom, IsUpTo, Ties, IsLeastOf, IsGreatestOf, IsExtremeOf, IsAtMost}
use Rattle.sketch_kll.specs.Sketch.{bag_in, Kll, IsSound, sketch_of}
use Rattle.sketch_kll.specs.Steps.{needs_sorting}
use Rattle.sketch_kll.specs.Take.{HaveTaken, updates_of, AreKept}
use Rattle.sketch_kll.proofs.layout.Alike.{first-same, SameItems-first, like-refl, like_same, length-lengths, zip-map}
use Rattle.sketch_kll.proofs.plays.Compresses.{fine-walk}
use Rattle.sketch_kll.proofs.layout.Legal.{AllItems-compacted, AllItems-same, AllItems-map, from-same, up_to-same, ties-same, from_all, up_to_all, still_between, ends_there, all_none}
use Rattle.sketch_kll.proofs.plays.Updates.{alike-trans, alike-lengths, fine_is, work_of}
use Rattle.sketch_kll.proofs.layout.Flats.{length-leftover, SameLevels-refl}
use Rattle.sketch_kll.proofs.layout.Full.{total_some}
use Rattle.sketch_kll.proofs.merges.Joined.{joined_none}
use Rattle.sketch_kll.proofs.merges.Actions.{pulls_act, joins_act, joins_draw, raw_upper, bag_alone, joined_like, goes-joins, goes-kll, taking_is, merge_is}
use Rattle.sketch_kll.proofs.layout.Compacted.{compacted_size, alike_size, length-same}
use Rattle.std.specs.Option.{option_to_list}
use Rattle.std.proofs.lemmas.Cmp.{tied_back}

-- What becomes of levels that others are merged into.

-- what holds for each item still does when levels are joined
module _ {A : Type 0} (P : A → Type 0) where
  all-joined_upper : (cmp : A → A → Ordering) (ls us : List (List A)) → AllItems P ls → AllItems P us → AllItems P (joined_upper cmp ls us)
  all-joined_upper cmp ls [] h g = h
  all-joined_upper cmp [] (u ∷ us) h g = (all-sort P cmp u g.0, all-joined_upper cmp [] us h g.1)
  all-joined_upper cmp (l ∷ ls) (u ∷ us) h g = (all-sort P cmp (l ++ u) (all-append P l u h.0 g.0), all-joined_upper cmp ls us h.1 g.1)

  AllItems-joined : (cmp : A → A → Ordering) (ls us : List (List A)) → AllItems P ls → AllItems P us → AllItems P (joined cmp ls us)
  AllItems-joined cmp [] us h g = tt
  AllItems-joined cmp (l ∷ ls) us h g = (h.0, all-joined_upper cmp ls us h.1 g)

-- lengths and weights of joined levels
length-join : {A : Type 0} (cmp : A → A → Ordering) (xs ys : List A) → length (sort cmp (xs ++ ys)) ≡ length xs + length ys
length-join cmp xs ys = length-sort cmp (xs ++ ys) ∙ length-append xs ys

weight-joined_upper : {A : Type 0} (cmp : A → A → Ordering) (ls us : List (List A)) → weight_in (joined_upper cmp ls us) ≡ weight_in ls + weight_in us
weight-joined_upper cmp ls [] = omega arith
weight-joined_upper cmp [] (u ∷ us) = let h = weight-joined_upper cmp [] us in let n = length-sort cmp u in omega (arith, h, n)
weight-joined_upper cmp (l ∷ ls) (u ∷ us) = let h = weight-joined_upper cmp ls us in let n = length-join cmp l u in omega (arith, h, n)

weight-joined : {A : Type 0} (cmp : A → A → Ordering) (ls us : List (List A)) → 0 < length ls → weight_in (joined cmp ls us) ≡ weight_in ls + 2 * weight_in us
weight-joined cmp [] us h = absurd (omega arith)
weight-joined cmp (l ∷ ls) us h = let n = weight-joined_upper cmp ls us in omega (arith, n)

length-joined_upper : {A : Type 0} (cmp : A → A → Ordering) (ls us : List (List A)) (n : ℕ) → length ls ≤ n → length us ≤ n → length (joined_upper cmp ls us) ≤ n
length-joined_upper cmp ls [] n h g = h
length-joined_upper cmp [] (u ∷ us) (suc n) h g = let r = length-joined_upper cmp [] us n (omega arith) (omega arith) in omega (arith, r)
length-joined_upper cmp (l ∷ ls) (u ∷ us) (suc n) h g = let r = length-joined_upper cmp ls us n (omega arith) (omega arith) in omega (arith, r)
length-joined_upper cmp ls (u ∷ us) zero h g = absurd (omega arith)

-- if neither has more than n levels, there are at most n joined levels
length-joined : {A : Type 0} (cmp : A → A → Ordering) (ls us : List (List A)) (n : ℕ) → length ls ≤ n → length us + 1 ≤ n → length (joined cmp ls us) ≤ n
length-joined cmp [] us n h g = h
length-joined cmp (l ∷ ls) us zero h g = absurd (omega arith)
length-joined cmp (l ∷ ls) us (suc n) h g = let r = length-joined_upper cmp ls us n (omega arith) (omega arith) in omega (arith, r)

compacted-above : {A : Type 0} (cmp : A → A → Ordering) (last coin : Bool) (level : ℕ) (ls : List (List A)) → length ls ≤ level → compacted cmp last coin level ls ≡ ls
compacted-above cmp last coin level [] h = refl
compacted-above cmp last coin zero (l ∷ ls) h = absurd (omega arith)
compacted-above cmp last coin (suc level) (l ∷ ls) h = ap (λ ms. l ∷ ms) (compacted-above cmp last coin level ls (omega arith))

-- level 0 stays sorted in a compaction
compacted-first : {A : Type 0} (cmp : A → A → Ordering) (last coin : Bool) (level : ℕ) (ls : List (List A)) → IsSorted cmp (first_level ls) →
    IsSorted cmp (first_level (compacted cmp last coin level ls))
compacted-first cmp last coin level [] h = h
compacted-first cmp last coin zero (l ∷ ls) h = short_sorted cmp (leftover_of last l) (omega (arith, length-leftover last l))
compacted-first cmp last coin (suc level) (l ∷ ls) h = h

-- a walk keeps what each compaction keeps
walked-keeps : {A S : Type 0} (cmp : A → A → Ordering) (bit : S → Bool) (next : S → S) (k : ℕ) (flag : Bool) (P : List (List A) → Type 0) →
    ((last coin : Bool) (level : ℕ) (ls : List (List A)) → P ls → P (compacted cmp last coin level ls)) →
    (more level : ℕ) (s : S) (ls : List (List A)) → P ls → P (walked cmp bit next k flag more level s ls)
unfolding walked
walked-keeps cmp bit next k flag P keep zero level s ls h = h
walked-keeps cmp bit next k flag P keep (suc more) level s ls h =
    let last : Bool = needs_sorting flag level in
    let one = elim (passes k ls level) as (λ b. P (if b then ls else compacted cmp last (bit s) level ls)) [ true ↦ h | false ↦ keep last (bit s) level ls h ] in
    walked-keeps cmp bit next k flag P keep more (suc level) _ (stepped cmp k flag (bit s) level ls) one

module _ {A : Type 0} (cmp : A → A → Ordering) (o : IsTotalOrder cmp) where
  -- level 0 stays sorted when levels are joined
  pub joined-first : (ls us : List (List A)) → IsSorted cmp (first_level ls) → IsSorted cmp (first_level (joined cmp ls us))
  joined-first [] us h = h
  joined-first (l ∷ ls) us h = h

  -- a bag is alike to itself
  pub alike-refl : (flag : Bool) (ls : List (List A)) → AlikeKll cmp (bag_in flag ls) (bag_in flag ls)
  alike-refl flag ls = record { levels = (like-refl cmp o ls).levels; level_zero = (like-refl cmp o ls).zeroth; flag = refl }

  -- bags whose levels compare equal are alike
  pub alike-same : (flag : Bool) (ls ms : List (List A)) → SameLevels cmp ls ms → AlikeKll cmp (bag_in flag ls) (bag_in flag ms)
  alike-same flag ls ms s =
      let l = like_same cmp o ls ls ms (like-refl cmp o ls) s in
      record { levels = l.levels; level_zero = l.zeroth; flag = refl }

  alike-empty : AlikeKll cmp empty_bag empty_bag
  alike-empty = record { levels = (tt, tt); level_zero = tt; flag = refl }

  joins_alike : (nf g : Bool) (ms us ns : List (List A)) (word : List Bool) → 0 < length ms → SameLevels cmp (joined cmp ms us) ns →
      AlikeKll cmp (bag_beside cmp (joins_actions (length us) 1) word (bag_in nf ms) (bag_in g ([] ∷ us))) (bag_in nf ns)
  joins_alike nf g [] us ns word h j = absurd (omega arith)
  joins_alike nf g (m ∷ ms) us ns word h j =
      let e = joins_act cmp 1 (m ∷ []) ([] ∷ []) ms us nf g word (omega arith) (omega arith) in
      let l = like_same cmp o _ _ ns (joined_like cmp o m ms us) j in
      let a : AlikeKll cmp (bag_in nf (m ∷ raw_upper cmp ms us)) (bag_in nf ns) = record { levels = l.levels; level_zero = l.zeroth; flag = refl } in
      subst (λ (b : Bag A). AlikeKll cmp b (bag_in nf ns)) (sym e) a

  -- what the Pulls and Joins of a merge do
  record TakesIn {S : Type 0} (bit : S → Bool) (next : S → S) (source : S) (k : ℕ) (flag nf : Bool) (ls : List (List A)) (xs : List A) (us ns : List (List A)) (taking : List (Action A)) : Type 0 where
    alike : (g : Bool) → AlikeKll cmp (bag_beside cmp taking (bits_from bit next source (draws_of taking)) (bag_in flag ls) (bag_in g (xs ∷ us))) (bag_in nf ns)
    drawn : draws_of taking ≡ draws_of (updates_of k ls xs)

  takes_in : {S : Type 0} (bit : S → Bool) (next : S → S) (source s1 : S) (k : ℕ) (flag nf : Bool) (ls : List (List A)) (xs : List A) (us ms ns : List (List A)) →
      HaveTaken cmp bit next source s1 k flag nf ls xs ms → SameLevels cmp (joined cmp ms us) ns →
      TakesIn bit next source k flag nf ls xs us ns (taking_actions k (record { bag = map length ls; scratch = map length (xs ∷ us) }))
  takes_in {S} bit next source s1 k flag nf ls xs us ms ns t j =
      let pulls : List (Action A) = pulls_actions k (length xs) (record { bag = map length ls; scratch = map length (xs ∷ us) }) in
      let joins : List (Action A) = joins_actions (length us) 1 in
      let n : suc (length (map length us)) - 1 ≡ length us = omega (arith, length-lengths us) in
      let drawn = (pulls_act cmp k (map length ls) (map length us) xs us true (bag_in flag ls) []).drawn in
      let word : List Bool = bits_from bit next source (draws_of pulls) in
      let word' : List Bool = bits_from bit next (after_draws next source (draws_of pulls)) (draws_of joins) in
      let made : Bag A = bag_after cmp (updates_of k ls xs) word (bag_in flag ls) in
      let like : AlikeKll cmp made (bag_in nf ms) = rw drawn t.bag in
      rw n (record {
        alike = λ g.
            let p = pulls_act cmp k (map length ls) (map length us) xs us g (bag_in flag ls) word in
            let first : Work (Bag A) = record { bag = bag_in flag ls; scratch = bag_in g (xs ∷ us) } in
            let mid : Work (Bag A) = record { bag = made; scratch = bag_in g ([] ∷ us) } in
            let e : acts cmp (pulls ++ joins) (bits_from bit next source (draws_of (pulls ++ joins))) first ≡ acts cmp joins word' mid =
            calls-compose cmp bit next source pulls joins first ∙ ap (acts cmp joins word') p.works in
            let kll = goes-kll joins (work_of []) (goes-joins A (length us) 1 (work_of [])) in
            let a = acts-kll o joins word' mid (record { bag = bag_in nf ms; scratch = bag_in g ([] ∷ us) }) kll like (alike-refl g ([] ∷ us)) in
            subst (λ (w : Work (Bag A)). AlikeKll cmp w.bag (bag_in nf ns)) (sym e) (alike-trans o _ _ _ a (joins_alike nf g ms us ns word' t.kept.some j));
        drawn = draws-append pulls joins ∙ omega (arith, drawn, joins_draw cmp (length us) 1);
      })

  -- levels with others merged in, by calls that keep k and the flag
  pub merged_by_calls : {S : Type 0} (bit : S → Bool) (next : S → S) (source s1 s2 : S) (k k1 : ℕ) (flag nf f1 f2 : Bool) (ls : List (List A)) (xs : List A)
      (us ms ns ps : List (List A)) → k1 ≡ k → f1 ≡ nf → f2 ≡ f1 →
      HaveTaken cmp bit next source s1 k flag nf ls xs ms → SameLevels cmp (joined cmp ms us) ns → 0 < length ls → 0 < length us →
      SameLevels cmp (walked cmp bit next k1 f1 61 0 s1 ns) ps → IsCompressed cmp bit next s1 k1 f1 ns ps → s2 ≡ after_draws next s1 (draws_of (compress_of k1 ns)) →
      length ps ≤ 61 → retained_in ps < total_of k1 8 (length ps) → UpperSorted cmp ps →
      HaveMerged cmp bit next source s2 k flag f2 ls (xs ∷ us) ps
  merged_by_calls {S} bit next source s1 s2 k k1 flag nf f1 f2 ls xs us ms ns ps k_is f1_is f2_is t j some upper walked_to compressed source2 few below sorted =
      let work : Work (List ℕ) = record { bag = map length ls; scratch = map length (xs ∷ us) } in
      let taking : List (Action A) = taking_actions k work in
      let squeeze : List (Action A) = compress_of k ns in
      let taken = takes_in bit next source s1 k flag nf ls xs us ms ns t j in
      let is = taking_is {A = A} k work (omega (arith, some, length-lengths ls)) in
      let made = lengths-acts cmp taking (bits_from bit next source (draws_of taking)) (record { bag = bag_in flag ls; scratch = bag_in true (xs ∷ us) }) (goes-kll taking work is.goes) in
      let lengths : (acts_on_lengths taking work).bag ≡ map length ns = sym made ∙ alike-lengths o _ _ (taken.alike true) in
      let several : nat_lt 1 (suc (length (map length us))) ≡ true = lt-ltb 1 (suc (length (map length us))) (omega (arith, upper, length-lengths us)) in
      let source1 : s1 ≡ after_draws next source (draws_of taking) = t.source_is ∙ ap (after_draws next source) (sym taken.drawn) in
      let word : List Bool = bits_from bit next (after_draws next source (draws_of taking)) (draws_of squeeze) in
      let By : S → ℕ → Bool → Type 0 = λ (s : S) (i : ℕ) (f : Bool). SameLevels cmp (walked cmp bit next i f 61 0 s1 ns) ps × IsCompressed cmp bit next s i f ns ps
      × (s2 ≡ after_draws next s (draws_of (compress_of i ns))) × (retained_in ps < total_of i 8 (length ps)) in
      let by : By (after_draws next source (draws_of taking)) k nf = rw (← source1, ← k_is, ← f1_is) (walked_to, compressed, source2, below) in
      let end : List (List A) = walked cmp bit next k nf 61 0 s1 ns in
      let keeps : (P : List (List A) → Type 0) → ((last coin : Bool) (level : ℕ) (ls : List (List A)) → P ls → P (compacted cmp last coin level ls)) → P ns → P end =
      λ P keep h. walked-keeps cmp bit next k nf P keep 61 0 s1 ns h in
      let weighs : weight_in end ≡ weight_in ns = keeps (λ ms. weight_in ms ≡ weight_in ns) (λ last coin level ms e. (grind (arith, common_steps, cases_lt, compacted_size, compacted-above)) ∙ e) refl in
      let sizes = alike_size cmp end ps by.0 in
      let joined_sizes = alike_size cmp (joined cmp ms us) ns j in
      let alike_all : (P : A → Type 0) → ((x y : A) → cmp x y ≡ Equal → P x → P y) → AllItems P ms → AllItems P us → AllItems P ps =
      λ P same all others. AllItems-same P cmp same end ps by.0
      (keeps (AllItems P) (λ last coin level ms. AllItems-compacted P cmp last coin level ms) (AllItems-same P cmp same (joined cmp ms us) ns j (AllItems-joined P cmp ms us all others))) in
      rw (f2_is, f1_is) (record {
        kept = record {
          some = total_some k (length ps) (omega (arith, by.3));
          few = few;
          within = omega (arith, by.3);
          sorted = sorted;
          flag_holds = λ h. first-same cmp o end ps by.0
              (keeps (λ ms. IsSorted cmp (first_level ms)) (compacted-first cmp) (first-same cmp o (joined cmp ms us) ns j (joined-first ms us (t.kept.flag_holds h))));
        };
        bag = λ g.
            let first : Work (Bag A) = record { bag = bag_in flag ls; scratch = bag_in g (xs ∷ us) } in
            let mid : Work (Bag A) = acts cmp taking (bits_from bit next source (draws_of taking)) first in
            let fine = fine-walk A k 61 0 (map length ns) in
            let a = acts-kll o squeeze word (alone mid.bag) (alone (bag_in nf ns)) (fine_is squeeze (work_of (map length ns)) fine).kll (taken.alike g) alike-empty in
            let b : (acts cmp squeeze word mid).bag ≡ (acts cmp squeeze word (alone mid.bag)).bag = bag_alone cmp squeeze (work_of (map length ns)) word mid.bag mid.scratch empty_bag fine in
            let on = ap (λ (w : Work (Bag A)). w.bag) (calls-compose cmp bit next source taking squeeze first) ∙ b in
            rw (several, lengths) (subst (λ (w : Bag A). AlikeKll cmp w (bag_in nf ps)) (sym on) (alike-trans o _ _ _ a by.1));
        source_is = rw (several, lengths) (by.2 ∙ sym (source-composes next source taking squeeze));
        weighs = omega (arith, sizes.weighs, weighs, joined_sizes.weighs, weight-joined cmp ms us t.kept.some, t.weighs);
        flag_is = t.flag_is;
        one_level = λ a b d. absurd (omega (arith, upper, d));
        between = λ l g h i. alike_all (λ y. IsFrom cmp l y × IsUpTo cmp g y) (λ x y t q. (from-same o l x y t q.0, up_to-same o g x y t q.1)) (t.between l g (i.0, h)) i.1;
        ties = λ l g h i. alike_all (λ y. Ties cmp y l × Ties cmp y g) (λ x y t q. (ties-same o l x y t q.0, ties-same o g x y t q.1)) (t.ties l g (i.0, h)) i.1;
        below = λ h. by.3;
      })

  -- if the other has level 0 alone, taking its items is the whole merge
  pub merged_only : {S : Type 0} (bit : S → Bool) (next : S → S) (source s1 : S) (k : ℕ) (flag nf : Bool) (ls : List (List A)) (xs : List A) (us ms : List (List A)) →
      HaveTaken cmp bit next source s1 k flag nf ls xs ms → length us ≡ 0 → HaveMerged cmp bit next source s1 k flag nf ls (xs ∷ us) ms
  merged_only bit next source s1 k flag nf ls xs (u ∷ us) ms t e = absurd (omega arith)
  merged_only bit next source s1 k flag nf ls xs [] ms t e =
      let work : Work (List ℕ) = record { bag = map length ls; scratch = map length (xs ∷ []) } in
      let taken = takes_in bit next source s1 k flag nf ls xs [] ms ms t (rw (joined_none cmp ms) (SameLevels-refl cmp o ms)) in
      let whole : taking_actions {A = A} k work ++ [] ≡ taking_actions k work = append-nil (taking_actions k work) in
      grind (arith, common_steps)

-- the sizes of joined levels
pub record JoinedSize {A : Type 0} (ms us ns : List (List A)) : Type 0 where
  pub some : 0 < length ns
  pub few : length ns ≤ 61
  pub weighs : weight_in ns ≡ weight_in ms + 2 * weight_in us

-- joined levels have these sizes
pub joined_size : {A : Type 0} (cmp : A → A → Ordering) (ms us ns : List (List A)) → 0 < length ms → length ms ≤ 61 → length us ≤ 60 → SameLevels cmp (joined cmp ms us) ns → JoinedSize ms us ns
joined_size cmp [] us ns some few less j = absurd (omega arith)
joined_size cmp (m ∷ ms) us ns some few less j =
    let z = alike_size cmp (joined cmp (m ∷ ms) us) ns j in
    let n = length-joined cmp (m ∷ ms) us 61 few (omega arith) in
    record { some = omega (arith, z.counts); few = omega (arith, z.counts, n); weighs = omega (arith, z.weighs, weight-joined cmp (m ∷ ms) us some) }

-- A sketch keeps the invariant of sketches when another one is merged into it.

-- a sketch with no item has no extremes
pub none_at_first : {A : Type 0} (extreme : Option A) (n : ℕ) → n ≡ 0 → MatchOption extreme (n ≡ 0) (λ _. 0 < n) → extreme ≡ None
none_at_first None n e h = refl
none_at_first (Some x) n e h = absurd (omega (arith, e))

module _ {A : Type 0} {cmp : A → A → Ordering} (o : IsTotalOrder cmp) where
  -- an item that ties with the only one of two extremes ties with the extreme of both
  ties_alone : (Bounds : A → A → Type 0) (a b n : Option A) (y : A) → a ≡ None → IsExtremeOf cmp Bounds (option_to_list a ++ option_to_list b) n → Ties cmp y b → Ties cmp y n
  ties_alone Bounds a None n y e l h = absurd h
  ties_alone Bounds (Some w) (Some x) n y e l h = cc
  ties_alone Bounds None (Some x) None y e l h = cc
  ties_alone Bounds None (Some x) (Some z) y e l h = grind (arith, common_steps, tied_back)

  -- the same for both the least and the greatest
  pub ties_both : (a b c d least greatest : Option A) (y : A) → a ≡ None → c ≡ None → IsLeastOf cmp (option_to_list a ++ option_to_list b) least →
      IsGreatestOf cmp (option_to_list c ++ option_to_list d) greatest → Ties cmp y b × Ties cmp y d → Ties cmp y least × Ties cmp y greatest
  ties_both a b c d least greatest y na nc l g t = (ties_alone (λ x y. IsAtMost cmp x y) a b least y na l t.0, ties_alone (λ x y. IsAtMost cmp y x) c d greatest y nc g t.1)

  -- a merge of levels is also a merge of any that compare equal to them
  pub merged_same : {S : Type 0} (bit : S → Bool) (next : S → S) (source after : S) (k : ℕ) (flag nf : Bool) (ls os copies ms : List (List A)) → 0 < length ls → SameLevels cmp os copies →
      HaveMerged cmp bit next source after k flag nf ls copies ms → HaveMerged cmp bit next source after k flag nf ls os ms
  merged_same {S} bit next source after k flag nf ls os copies ms some s m =
      let sizes = zip-map (SameItems cmp) length (λ x y e. length-same cmp x y e) os copies s in
      let e : merge_on k ls os ≡ merge_on k ls copies = ap (λ (l : List ℕ). merge_actions k (record { bag = map length ls; scratch = l })) sizes in
      let z = alike_size cmp os copies s in
      let actions : List (Action A) = merge_on k ls copies in
      let kll = goes-kll actions (record { bag = map length ls; scratch = map length copies })
      (merge_is {A = A} k (record { bag = map length ls; scratch = map length copies }) (omega (arith, some, length-lengths ls))).goes in
      let word : List Bool = bits_from bit next source (draws_of actions) in
      record {
        kept = m.kept;
        bag = λ g. rw e (alike-trans o _ _ _ (acts-kll o actions word (record { bag = bag_in flag ls; scratch = bag_in g os }) (record { bag = bag_in flag ls; scratch = bag_in g copies }) kll
            (alike-refl cmp o flag ls) (alike-same cmp o g os copies s)) (m.bag g));
        source_is = rw e m.source_is;
        weighs = omega (arith, m.weighs, z.weighs);
        flag_is = m.flag_is ∙ ap (λ (n : ℕ). flag && eqb n 0) (sym (length-same cmp _ _ (SameItems-first cmp os copies s)));
        one_level = λ a b d. m.one_level a (omega (arith, b, z.weighs)) (omega (arith, d, z.counts));
        between = λ l g h i. m.between l g h (AllItems-same (λ y. IsFrom cmp l y × IsUpTo cmp g y) cmp (λ x y t q. (from-same o l x y t q.0, up_to-same o g x y t q.1)) os copies s i);
        ties = λ l g h i. m.ties l g h (AllItems-same (λ y. Ties cmp y l × Ties cmp y g) cmp (λ x y t q. (ties-same o l x y t q.0, ties-same o g x y t q.1)) os copies s i);
        below = λ h. m.below (omega (arith, h, z.counts));
      }

  -- the `min_k` of a merge, the lesser one if the other has more than one level, is at least 8 and at most k
  min_k_bounds : (b : Bool) (x y k : ℕ) → 8 ≤ x → 8 ≤ y → x ≤ k → (8 ≤ (if b then min x y else x)) × ((if b then min x y else x) ≤ k)
  min_k_bounds true x y k h i j = (omega arith, omega arith)
  min_k_bounds false x y k h i j = (h, j)

  -- what a merge makes of the fields of a sketch
  pub record MergedFields {S : Type 0} (bit : S → Bool) (next : S → S) (source after : S) (s other t : Kll A) : Type 0 where
    pub sound : IsSound cmp t
    pub merged_is : IsMerged cmp s other (bits_from bit next source (coins_of_merge s other)) t
    pub source_is : after ≡ after_draws next source (coins_of_merge s other)

  -- a merge makes such fields
  pub merged_fields : {S : Type 0} (bit : S → Bool) (next : S → S) {source after : S} {s other : Kll A} {k old_k min_k levels : ℕ}
      {old_flag flag : Bool} {rows ms : List (List A)} {least greatest kept_least kept_greatest : Option A} →
      IsSound cmp s → IsSound cmp other → 0 < other.n → old_k ≡ s.k → old_flag ≡ s.is_sorted → rows ≡ s.levels → k ≡ old_k →
      HaveMerged cmp bit next source after old_k old_flag flag rows other.levels ms → levels ≡ length other.levels → min_k ≡ (if nat_lt 1 levels then min s.min_k other.min_k else s.min_k) →
      IsLeastOf cmp (option_to_list s.least ++ option_to_list other.least) least → kept_least ≡ least →
      IsGreatestOf cmp (option_to_list s.greatest ++ option_to_list other.greatest) greatest → kept_greatest ≡ greatest →
      MergedFields bit next source after s other (sketch_of k min_k (s.n + other.n) flag ms kept_least kept_greatest)
  merged_fields {S} bit next {source} {after} {s} {other} {k} {old_k} {min_k} {levels} {old_flag} {flag} {rows} {ms} {least} {greatest} {kept_least} {kept_greatest}
      s_sound other_sound more own_k own_flag own_levels k_kept merged many min_k_is least_of least_is greatest_of greatest_is =
      let m : HaveMerged cmp bit next source after s.k s.is_sorted flag s.levels other.levels ms = rw (← own_k, ← own_flag, ← own_levels) merged in
      let min_k_of : min_k ≡ (if nat_lt 1 (length other.levels) then min s.min_k other.min_k else s.min_k) = rw (← many) min_k_is in
      let both_k = min_k_bounds (nat_lt 1 (length other.levels)) s.min_k other.min_k s.k s_sound.eight_below_min_k other_sound.eight_below_min_k s_sound.min_k_below_k in
      let low = all-parts (λ y. IsFrom cmp least y) (option_to_list s.least) (option_to_list other.least) (from_all o _ least least_of) in
      let high = all-parts (λ y. IsUpTo cmp greatest y) (option_to_list s.greatest) (option_to_list other.greatest) (up_to_all o _ greatest greatest_of) in
      let between = m.between least greatest (still_between o s.least s.greatest least greatest low.0 high.0 s.levels s_sound.items_between)
      (still_between o other.least other.greatest least greatest low.1 high.1 other.levels other_sound.items_between) in
      let weighs : weight_in ms ≡ s.n + other.n = omega (arith, m.weighs, s_sound.weighs_n, other_sound.weighs_n) in
      let ends = ends_there o (s.n + other.n) least greatest ms (omega arith) (omega (arith, weighs)) between in
      let bag = m.bag other.is_sorted in
      let one_level : s.n + other.n ≤ 1 → nat_lt 1 (length other.levels) ≡ false = λ h. le-ltb 1 (length other.levels) (omega (arith, other_sound.one_level_at_first (omega arith))) in
      rw (k_kept, own_k, least_is, greatest_is) (record {
        sound = grind (arith, common_steps, none_at_first, all_none, AllItems-map, ties_both);
        merged_is = record { k = refl; min_k = min_k_of; n = refl; is_sorted = m.flag_is; bag = bag; least = least_of; greatest = greatest_of; below_capacity = m.below };
        source_is = m.source_is;
      })

  -- the same, of the sketches as callers see them
  pub merged_seen : {S : Type 0} {bit : S → Bool} {next : S → S} {source after : S} {s s' other other' t : Kll A} → s ≡ s' → other ≡ other' →
      MergedFields bit next source after s other t → MergedFields bit next source after s' other' t
  merged_seen {s = s} {other = other} e f m = rw (← e, ← f) m

  -- a sketch's levels as updates and merges take them
  pub kept_levels : {s : Kll A} {k : ℕ} {flag : Bool} {rows : List (List A)} → IsSound cmp s → k ≡ s.k → flag ≡ s.is_sorted → rows ≡ s.levels → AreKept cmp k flag rows
  kept_levels sound own_k own_flag own_levels =
      rw (own_k, own_flag, own_levels) (record { some = sound.has_level; few = sound.has_few_levels; within = sound.within_capacity; sorted = sound.upper_sorted; flag_holds = sound.flag_holds })
