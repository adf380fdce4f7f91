-- An update with a weight by its actions: it is legal, and it acts as the merge of the sketch of the weight's digits. The item
-- then counts as often in the true rank as the weight says.
use Rattle.std.proofs.lemmas.Grind.{common_steps}
use Rattle.std.proofs.Common.{◌≡◌, ℕ, zero, suc, ◌-◌, ◌/◌, ◌%◌, ◌<◌, ◌≤◌, ◌==◌, Bool, true, false, if◌then◌else◌, List, [], ◌∷◌, ◌++◌, length, drop, map, sum, refl, sym, ap, ◌∙◌, arith, append-nil, lt-ltb, Ordering, ◌+◌, ◌*◌, ◌^◌, cond, count_by, inl, inr, eqb-true, min, nat_lt, ◌&&◌, eqb, Option, None, Some, is_gt, replicate, Equal}
use Rattle.std.specs.Cmp.{IsTotalOrder}
use Rattle.sketch_base.specs.Bag.{Bag, AlikeKll, empty_bag, SameItems, sort, level_at, with_level}
use Rattle.sketch_base.specs.Lengths.{acts_on_lengths, act_on_lengths, bag_lengths}
use Rattle.sketch_base.specs.Trace.{Action, Put, At, Work, World, acts, act, alone, bag_after, draws, draws_of, joins_actions, bag_beside, changed, next_bit}
use Rattle.sketch_base.proofs.bags.Alike.{acts-kll, SameItems-refl, SameItems-last}
use Rattle.sketch_base.proofs.plays.Plays.{draws-append, lengths-acts, in_turn-append}
use Rattle.sketch_kll.specs.Merge.{pulls_actions, taking_actions, IsLegalFrom, merge_actions}
use Rattle.sketch_kll.specs.Merged.{merge_on, merge_of, coins_of_merge, IsMerged}
use Rattle.sketch_kll.specs.Schedule.{update_actions, updates_actions, compress_actions, lengths_after_actions, walk_actions, passes_at, actions_if_full}
use Rattle.sketch_kll.specs.Sketch.{bag_in, Kll, IsSound, IsUpdated, bag_of, update_of, coins_of_update}
use Rattle.sketch_kll.specs.Weighted.{at_digit, digit_levels, puts_actions, entering_actions, weighted_actions, weighted_lengths, HasDigits, weighted_of, coins_of_weighted, IsOfDigits, IsWeighted}
use Rattle.sketch_kll.proofs.layout.Alike.{length-lengths, zip-refl}
use Rattle.sketch_kll.proofs.plays.Compresses.{fine-walk, step_passed, step_compacted}
use Rattle.sketch_kll.proofs.weights.Digits.{two-digits, digit_size, at-length, putting, putting-above, putting_is, puts_act, puts_draw, digits-half}
use Rattle.sketch_kll.proofs.plays.Updates.{alike-trans, alike-lengths, ranks-updates, Fine, IsKllActions, work_of, fine-append, fine-legal, fine-updates, update_is}
use Rattle.sketch_kll.proofs.merges.Merged.{alike-refl, alike-same}
use Rattle.sketch_kll.proofs.merges.Actions.{goes-kll, taking_is, merge_is, PullsAct, pulls_act, joins_act, joins_draw, raw_upper, bag_alone}
use Rattle.std.proofs.lemmas.Bool.{cases_Bool, eqb-false, and_right}
use Rattle.std.proofs.lemmas.List.Sums.{sum_by-cons}
use Rattle.std.proofs.Math.Nat.{pow-succ'}
use Rattle.sketch_base.specs.Ranks.{true_ranks}
use Rattle.sketch_base.proofs.bags.Acts.{changed-there}
use Rattle.std.specs.Option.{option_to_list}
use Rattle.std.proofs.lemmas.Cmp.{tied_back}
use Rattle.sketch_base.specs.Extremes.{IsLeastOf, IsGreatestOf, Ties, IsAtMost}
use Rattle.sketch_base.specs.Random.{bits_from}
use Rattle.sketch_base.proofs.order.Extremes.{least-parts, greatest-parts}
use Rattle.sketch_kll.specs.Levels.{first_level, SameLevels}
use Rattle.sketch_kll.proofs.layout.Legal.{least_itself, greatest_itself}
use Rattle.sketch_kll.proofs.layout.Compacted.{length-same}
use Rattle.std.specs.List.{AllZip, AllByRecursion}
use Rattle.sketch_base.proofs.order.Order.{SameItems-sort}
pub use Rattle.sketch_kll.proofs.plays.Updates.{FineIs, fine_is}

-- An update with a weight by its actions: it is legal, and it acts as the merge of a sketch of the weight's digits.

module _ {A : Type 0} where
  fine-puts : (more h n : ℕ) (x : A) (work : Work (List ℕ)) → Fine (puts_actions more h n x) work
  unfolding puts_actions
  fine-puts zero h n x work = tt
  fine-puts (suc more) h n x work = go (n % 2 == 1) (λ w. fine-puts more (suc h) (n / 2) x w)
    where
      go : (b : Bool) → ((w : Work (List ℕ)) → Fine (puts_actions more (suc h) (n / 2) x) w) → Fine (map (λ y. Put h y) (if b then x ∷ [] else []) ++ puts_actions more (suc h) (n / 2) x) work
      go true ih = ih (act_on_lengths (Put h x) work)
      go false ih = ih work

  -- the actions by which the item enters are fine
  pub fine-entering : (k : ℕ) (lengths : List ℕ) (x : A) (weight : ℕ) → 0 < length lengths → Fine (entering_actions k lengths x weight) (work_of lengths)
  fine-entering k lengths x weight h = grind (arith, common_steps, fine-append, work_of, fine-updates, fine-puts)

module _ {A : Type 0} where
  -- the actions of an update with a weight are fine
  pub fine-weighted : (k : ℕ) (lengths : List ℕ) (x : A) (weight : ℕ) → 0 < length lengths → Fine (weighted_actions k lengths x weight) (work_of lengths)
  fine-weighted k lengths x weight h = grind (arith, common_steps, fine-entering, work_of, fine_is, fine-walk, fine-append)

  -- an update with a weight is legal in any world with an empty scratch
  pub weighted_legal : (slot k weight : ℕ) (x : A) (world : World (List ℕ)) → 0 < length (world.slots slot) → sum world.scratch ≡ 0 →
      IsLegalFrom (map (λ action. At slot action) (weighted_actions k (world.slots slot) x weight)) world
  weighted_legal slot k weight x world h z =
      let r = fine-legal (weighted_actions k (world.slots slot) x weight) slot (work_of (world.slots slot)) world (fine-weighted k (world.slots slot) x weight h) refl z in
      record { kll = r.kll; scratch = r.scratch; sizes = r.sizes }

  -- its actions are KLL actions
  weighted_kll : (k : ℕ) (lengths : List ℕ) (x : A) (weight : ℕ) → 0 < length lengths → IsKllActions (weighted_actions k lengths x weight)
  weighted_kll k lengths x weight h = (fine_is _ _ (fine-weighted k lengths x weight h)).kll

module _ {A : Type 0} (cmp : A → A → Ordering) (o : IsTotalOrder cmp) where
  -- the lengths after it are those of the bag that it gives
  pub weighted_lengths_are : (k weight : ℕ) (bag : Bag A) (x : A) (word : List Bool) → 0 < length (bag_lengths bag) →
      bag_lengths (bag_after cmp (weighted_actions k (bag_lengths bag) x weight) word bag) ≡ weighted_lengths k (bag_lengths bag) x weight
  weighted_lengths_are k weight bag x word h = lengths-acts cmp (weighted_actions k (bag_lengths bag) x weight) word (alone bag) (weighted_kll k (bag_lengths bag) x weight h)

  -- bags that differ only in their kept bits are alike
  other_bits : (flag : Bool) (levels : List (List A)) (kept kept' : ℕ → Bool) → (let b : Bag A = record { levels = levels; is_sorted = flag; kept = kept } in
      AlikeKll cmp b (record b { kept = kept' }))
  other_bits flag levels kept kept' = let r = alike-refl cmp o flag levels in record { levels = r.levels; level_zero = r.level_zero; flag = refl }

  -- a bag is alike to itself
  pub itself : (b : Bag A) → AlikeKll cmp b b
  itself b = other_bits b.is_sorted b.levels b.kept b.kept

  joins_kll : (more level : ℕ) → IsKllActions {A = A} (joins_actions more level)
  joins_kll zero level = tt
  joins_kll (suc more) level = (refl, joins_kll more (suc level))

  -- Puts and Joins give alike bags
  puts_join : (count n : ℕ) (x : A) (word word' : List Bool) (work : Work (Bag A)) (flag : Bool) → 0 < length work.bag.levels → HasDigits count n → count ≤ 60 →
      AlikeKll cmp (acts cmp (puts_actions 60 1 n x) word work).bag
      (bag_beside cmp (joins_actions (length (digit_levels count n x)) 1) word' work.bag (bag_in flag ([] ∷ digit_levels count n x)))
  puts_join count n x word word' work flag h d c = go work.bag.levels refl
    where
      go : (ls : List (List A)) → work.bag.levels ≡ ls →
          AlikeKll cmp (acts cmp (puts_actions 60 1 n x) word work).bag (bag_beside cmp (joins_actions (length (digit_levels count n x)) 1) word' work.bag (bag_in flag ([] ∷ digit_levels count n x)))
      go [] e = absurd (omega (arith, h, ap length e))
      go (m ∷ ms) e =
          let other : Bag A = bag_in flag ([] ∷ digit_levels count n x) in
          let joins : List (Action A) = joins_actions (length (digit_levels count n x)) 1 in
          let made : List (List A) = m ∷ raw_upper cmp ms (digit_levels count n x) in
          let p : putting 60 1 n x work.bag.levels ≡ made =
          ap (putting 60 1 n x) e ∙ (putting-above 60 0 n x m ms ∙ ap (λ r. m ∷ r) (putting_is cmp count 60 n x ms d c)) in
          let mine = puts_act cmp 60 0 n x word work.bag.levels work.bag.is_sorted work.bag.kept work.scratch in
          let mine' : AlikeKll cmp (acts cmp (puts_actions 60 1 n x) word work).bag (bag_in work.bag.is_sorted made) =
          rw (mine, p) (other_bits work.bag.is_sorted made work.bag.kept other.kept) in
          let theirs : bag_beside cmp joins word' (bag_in work.bag.is_sorted work.bag.levels) other ≡ bag_in work.bag.is_sorted made =
          ap (λ (ls : List (List A)). bag_beside cmp joins word' (bag_in work.bag.is_sorted ls) other) e
          ∙ joins_act cmp 1 (m ∷ []) ([] ∷ []) ms (digit_levels count n x) work.bag.is_sorted flag word' refl refl in
          let theirs' = acts-kll o joins word' (record { bag = bag_in work.bag.is_sorted work.bag.levels; scratch = other }) (record { bag = work.bag; scratch = other })
          (joins_kll (length (digit_levels count n x)) 1) (other_bits work.bag.is_sorted work.bag.levels other.kept work.bag.kept) (itself other) in
          alike-trans o _ _ _ mine' (rw theirs at theirs')

  some-updated : (k : ℕ) (lengths : List ℕ) (b : Bool) (x : A) → 0 < length lengths → 0 < length (acts_on_lengths (updates_actions k lengths (if b then x ∷ [] else [])) (work_of lengths)).bag
  some-updated k lengths false x h = h
  some-updated k lengths true x h = rw (append-nil (update_actions k lengths x)) (update_is k lengths x h).some

  -- two lists of actions, the second beside another bag, give alike bags and take the same number of coins
  pub record Enters (bag other : Bag A) (mine theirs : List (Action A)) : Type 0 where
    pub alike : (word : List Bool) → AlikeKll cmp (bag_after cmp mine word bag) (bag_beside cmp theirs word bag other)
    pub drawn : draws_of mine ≡ draws_of theirs

  -- this still holds with more actions after both
  pub enters-append : (bag other : Bag A) (mine theirs next next' : List (Action A)) → Enters bag other mine theirs →
      ((word : List Bool) (a b : Work (Bag A)) → AlikeKll cmp a.bag b.bag → AlikeKll cmp (acts cmp next word a).bag (acts cmp next' word b).bag) → draws_of next ≡ draws_of next' →
      Enters bag other (mine ++ next) (theirs ++ next')
  enters-append bag other mine theirs next next' e step same = record {
    alike = λ word.
        rw (in_turn-append draws (act cmp) mine next word (alone bag), in_turn-append draws (act cmp) theirs next' word (record { bag = bag; scratch = other }), e.drawn, bag_after, bag_beside, acts)
        (step (drop (draws_of theirs) word) _ _ (e.alike word));
    drawn = rw (draws-append mine next, draws-append theirs next', e.drawn, same);
  }

  -- this still holds with general compress after both
  pub enters-squeezed : (bag other : Bag A) (mine theirs : List (Action A)) (k : ℕ) (lengths : List ℕ) → Enters bag other mine theirs →
      Enters bag other (mine ++ compress_actions k lengths) (theirs ++ compress_actions k lengths)
  enters-squeezed bag other mine theirs k lengths e =
      let squeeze : List (Action A) = compress_actions k lengths in
      let fine : Fine squeeze (work_of lengths) = fine-walk A k 61 0 lengths in
      enters-append bag other mine theirs squeeze squeeze e (λ word a b alike.
      rw (bag_alone cmp squeeze (work_of lengths) word a.bag a.scratch empty_bag fine, bag_alone cmp squeeze (work_of lengths) word b.bag b.scratch empty_bag fine)
      (acts-kll o squeeze word (alone a.bag) (alone b.bag) (fine_is squeeze (work_of lengths) fine).kll alike (itself empty_bag))) refl

  enters : (k count weight : ℕ) (x : A) (bag : Bag A) (flag : Bool) → 0 < length bag.levels → HasDigits (suc count) weight → count ≤ 60 →
      Enters bag (bag_in flag (at_digit weight x ∷ digit_levels count (weight / 2) x)) (entering_actions k (bag_lengths bag) x weight)
      (taking_actions k (record { bag = bag_lengths bag; scratch = map length (at_digit weight x ∷ digit_levels count (weight / 2) x) }))
  enters k count weight x bag flag h d c =
      let xs : List A = at_digit weight x in
      let us : List (List A) = digit_levels count (weight / 2) x in
      let lengths : List ℕ = bag_lengths bag in
      let ups : List (Action A) = updates_actions k lengths xs in
      let puts : List (Action A) = puts_actions 60 1 (weight / 2) x in
      let pulls : List (Action A) = pulls_actions k (length xs) (record { bag = lengths; scratch = map length (xs ∷ us) }) in
      let joins : List (Action A) = joins_actions (length us) 1 in
      let n : suc (length (map length us)) - 1 ≡ length us = omega (arith, length-lengths us) in
      let act_of : (word : List Bool) → PullsAct cmp k lengths (map length us) xs us flag bag word pulls =
      λ word. pulls_act cmp k lengths (map length us) xs us flag bag word in
      rw n (record {
        alike = λ word.
            let start : Work (Bag A) = record { bag = bag; scratch = bag_in flag (xs ∷ us) } in
            let mid : Work (Bag A) = acts cmp ups word (alone bag) in
            let kll = (fine_is ups (work_of lengths) (fine-updates k lengths xs (omega (arith, h, length-lengths bag.levels)))).kll in
            let sizes : bag_lengths mid.bag ≡ (acts_on_lengths ups (work_of lengths)).bag = lengths-acts cmp ups word (alone bag) kll in
            let some : 0 < length mid.bag.levels = omega (
              arith,
              length-lengths mid.bag.levels,
              ap length sizes,
              some-updated k lengths (weight % 2 == 1) x (omega (arith, h, length-lengths bag.levels)),
            ) in
            let mine = in_turn-append draws (act cmp) ups puts word (alone bag) in
            let theirs = in_turn-append draws (act cmp) pulls joins word start ∙ ap (acts cmp joins (drop (draws_of pulls) word)) (act_of word).works in
            let j = puts_join count (weight / 2) x (drop (draws_of ups) word) (drop (draws_of pulls) word) mid flag some (digits-half count weight d) c in
            rw (theirs, mine, bag_after, bag_beside, acts) j;
        drawn =
            draws-append ups puts ∙ (omega (arith, (act_of []).drawn, puts_draw 60 1 (weight / 2) x, joins_draw cmp (length us) 1) ∙ sym (draws-append pulls joins));
      })

  -- this holds for an update with a weight from 2 on and the merge of the levels of its digits
  pub acts_as_merge : (k count weight : ℕ) (x : A) (flag other_flag : Bool) (ls : List (List A)) → 0 < length ls → 2 ≤ weight → HasDigits count weight → count ≤ 61 →
      Enters (bag_in flag ls) (bag_in other_flag (digit_levels count weight x)) (weighted_actions k (map length ls) x weight) (merge_on k ls (digit_levels count weight x))
  unfolding digit_levels
  acts_as_merge k zero weight x flag other_flag ls h w d c = absurd (omega (arith, d.0, w))
  acts_as_merge k (suc count) weight x flag other_flag ls h w d c =
      let us : List (List A) = digit_levels count (weight / 2) x in
      let bag : Bag A = bag_in flag ls in
      let other : Bag A = bag_in other_flag (at_digit weight x ∷ us) in
      let lengths : List ℕ = map length ls in
      let work : Work (List ℕ) = record { bag = lengths; scratch = map length (at_digit weight x ∷ us) } in
      let enter : List (Action A) = entering_actions k lengths x weight in
      let taking : List (Action A) = taking_actions k work in
      let e = enters k count weight x bag other_flag h d (omega (arith, c)) in
      let some : 0 < length lengths = omega (arith, h, length-lengths ls) in
      let mine_kll = (fine_is enter (work_of lengths) (fine-entering k lengths x weight some)).kll in
      let theirs_kll = goes-kll taking work (taking_is {A = A} k work some).goes in
      let sizes : (acts_on_lengths taking work).bag ≡ lengths_after_actions enter lengths =
      sym (lengths-acts cmp taking [] (record { bag = bag; scratch = other }) theirs_kll) ∙ (sym (alike-lengths o _ _ (e.alike [])) ∙ lengths-acts cmp enter [] (alone bag) mine_kll) in
      let upper : 1 < suc (length (map length us)) =
      omega (arith, length-lengths us, (digit_size count (weight / 2) x).counts, two-digits (suc count) weight d w) in
      rw (lt-ltb 1 weight (omega (arith, w)), lt-ltb 1 _ upper, sizes) (enters-squeezed bag other enter taking k (lengths_after_actions enter lengths) e)

-- The true rank of an update with a weight: its item counts as often as the weight says.

module _ {A : Type 0} where
  puts-none : (more h : ℕ) (x : A) → puts_actions more h 0 x ≡ []
  unfolding puts_actions
  puts-none zero h x = refl
  puts-none (suc more) h x = puts-none more (suc h) x

  -- an update with weight 1 is an update
  pub weight_one : (k : ℕ) (lengths : List ℕ) (x : A) → weighted_actions k lengths x 1 ≡ update_actions k lengths x
  weight_one k lengths x =
      rw (puts-none 60 1 x) (simp append-nil)

module _ {A : Type 0} (test : A → Bool) (s : ℕ) where
  abbrev ranks_by : List (Action A) → (ℕ → ℕ) → ℕ → ℕ
  ranks_by actions ranks = true_ranks test (map (λ action. At s action) actions) ranks

  ranks-append : (xs ys : List (Action A)) (ranks : ℕ → ℕ) → ranks_by (xs ++ ys) ranks ≡ ranks_by ys (ranks_by xs ranks)
  ranks-append [] ys ranks = refl
  ranks-append (x ∷ xs) ys ranks = ranks-append xs ys _

  ranks-walk : (k more level : ℕ) (lengths : List ℕ) (ranks : ℕ → ℕ) → ranks_by (walk_actions k more level lengths) ranks ≡ ranks
  unfolding walk_actions
  ranks-walk k zero level lengths ranks = refl
  ranks-walk k (suc more) level lengths ranks =
      elim (cases_Bool (passes_at k lengths level)) [
        | inl e ↦ rw (step_passed k level lengths e) (ranks-walk k more (suc level) lengths ranks)
        | inr e ↦ rw (step_compacted k level lengths e) (ranks-walk k more (suc level) _ ranks)
      ]

  -- how much an item of this weight counts
  abbrev counts : A → ℕ → ℕ
  counts x n = if test x then n else 0

  counts-add : (x : A) (m n : ℕ) → counts x m + counts x n ≡ counts x (m + n)
  counts-add x m n = grind arith

  counts-none : (x : A) → counts x 0 ≡ 0
  counts-none x = grind arith

  ranks-puts : (more h n : ℕ) (x : A) (ranks : ℕ → ℕ) → n < 2 ^ more → ranks_by (puts_actions more h n x) ranks s ≡ ranks s + counts x (2 ^ h * n)
  unfolding puts_actions
  ranks-puts zero h n x ranks l = grind (arith, common_steps)
  ranks-puts (suc more) h n x ranks l =
      let rest = λ (r : ℕ → ℕ). ranks-puts more (suc h) (n / 2) x r (omega (arith, l, pow-succ' 2 more)) in
      elim (cases_Bool (n % 2 == 1)) [
        | inl z ↦
            let e : n ≡ 2 * (n / 2) + 1 = omega (arith, eqb-true (n % 2) 1 z) in
            let p : 2 ^ h + 2 ^ suc h * (n / 2) ≡ 2 ^ h * n = rw (pow-succ' 2 h) (omega (arith, ap (λ (m : ℕ). 2 ^ h * m) e)) in
            rw z (rest (changed ranks s (ranks s + counts x (2 ^ h)))
            ∙ omega (arith, changed-there ranks s (ranks s + counts x (2 ^ h)), counts-add x (2 ^ h) (2 ^ suc h * (n / 2)), ap (counts x) p))
        | inr z ↦
            let e : n ≡ 2 * (n / 2) = omega (arith, eqb-false (n % 2) 1 z) in
            let p : 2 ^ suc h * (n / 2) ≡ 2 ^ h * n = rw (pow-succ' 2 h) (omega (arith, ap (λ (m : ℕ). 2 ^ h * m) e)) in
            rw z (rest ranks ∙ omega (arith, ap (counts x) p))
      ]

  counted : (x : A) (b : Bool) → count_by test (if b then x ∷ [] else []) ≡ counts x (if b then 1 else 0)
  counted x true = sum_by-cons (λ (y : A). cond (test y) 1 0) x [] ∙ omega arith
  counted x false = sym (counts-none x)

  -- the item adds its weight to the true rank, if it is counted
  pub weights_count : (k weight : ℕ) (lengths : List ℕ) (x : A) (ranks : ℕ → ℕ) → weight < 2 ^ 61 → ranks_by (weighted_actions k lengths x weight) ranks s ≡ ranks s + counts x weight
  weights_count k weight lengths x ranks l = grind (arith, common_steps, ranks-updates, ranks-puts, ranks-append, counted, ranks-walk)

-- A sketch into which a sketch of a weight's digits was merged took the item with that weight.

first-digit : {A : Type 0} (cmp : A → A → Ordering) (count weight : ℕ) (x : A) (ls : List (List A)) → 0 < count → SameLevels cmp (digit_levels count weight x) ls → length (first_level ls) ≡ weight % 2
unfolding digit_levels
first-digit cmp zero weight x ls h s = absurd (omega (arith, h))
first-digit cmp (suc count) weight x [] h s = absurd s
first-digit cmp (suc count) weight x (l ∷ ls) h s = sym (length-same cmp _ l s.0) ∙ at-length weight x

lesser_k : (b : Bool) (m k d : ℕ) → m ≤ k → d ≡ k → (if b then min m d else m) ≡ m
lesser_k true m k d h e = omega (arith, h, e)
lesser_k false m k d h e = refl

module _ {A : Type 0} {cmp : A → A → Ordering} (o : IsTotalOrder cmp) where
  tied-least : (x : A) (a : Option A) → Ties cmp x a → IsLeastOf cmp (x ∷ []) a
  tied-least x None t = absurd t
  tied-least x (Some y) t = record { ties = inl (tied_back o x y t); bounds = (ap is_gt (tied_back o x y t), tt) }

  tied-greatest : (x : A) (a : Option A) → Ties cmp x a → IsGreatestOf cmp (x ∷ []) a
  tied-greatest x None t = absurd t
  tied-greatest x (Some y) t = record { ties = inl (tied_back o x y t); bounds = (ap is_gt t, tt) }

  -- a merge of the digits' sketch takes the same number of coins as the update with the weight
  pub merged_coins : (weight : ℕ) (s : Kll A) (x : A) (d : Kll A) → IsSound cmp s → IsSound cmp d → 2 ≤ weight → IsOfDigits cmp s.k x weight d → coins_of_merge s d ≡ coins_of_weighted s x weight
  merged_coins weight s x d sound sound' two is =
      let a = acts_as_merge cmp o s.k (length d.levels) weight x s.is_sorted d.is_sorted s.levels sound.has_level two is.digits sound'.has_few_levels in
      let like = alike-same cmp o d.is_sorted (digit_levels (length d.levels) weight x) d.levels is.levels in
      let sizes : map length (digit_levels (length d.levels) weight x) ≡ map length d.levels = alike-lengths o (bag_in d.is_sorted (digit_levels (length d.levels) weight x)) (bag_of d) like in
      sym (a.drawn ∙ ap (λ (l : List ℕ). draws_of (merge_actions {A = A} s.k (record { bag = map length s.levels; scratch = l }))) sizes)

  -- an update with weight 1 takes the same number of coins as an update
  pub updated_coins : (weight : ℕ) (s : Kll A) (x : A) → weight ≡ 1 → coins_of_update s x ≡ coins_of_weighted s x weight
  updated_coins weight s x one = rw (one, weight_one s.k (map length s.levels) x)

  module _ {S : Type 0} (bit : S → Bool) (next : S → S) (source : S) (s : Kll A) (x : A) where
    -- from weight 2 on the merge is an update with the weight
    pub merged_weighted : (weight : ℕ) (d t : Kll A) → IsSound cmp s → IsSound cmp d → 2 ≤ weight → IsOfDigits cmp s.k x weight d →
        IsMerged cmp s d (bits_from bit next source (coins_of_merge s d)) t → IsWeighted cmp s x weight (bits_from bit next source (coins_of_weighted s x weight)) t
    merged_weighted weight d t sound sound' two is m =
        let ds : List (List A) = digit_levels (length d.levels) weight x in
        let several : 1 < length d.levels = two-digits (length d.levels) weight is.digits two in
        let like : AlikeKll cmp (bag_in d.is_sorted ds) (bag_of d) = alike-same cmp o d.is_sorted ds d.levels is.levels in
        let sizes : map length ds ≡ map length d.levels = alike-lengths o (bag_in d.is_sorted ds) (bag_of d) like in
        let same : merge_on s.k s.levels ds ≡ merge_of s d = ap (λ (l : List ℕ). merge_actions {A = A} s.k (record { bag = map length s.levels; scratch = l })) sizes in
        let a = acts_as_merge cmp o s.k (length d.levels) weight x s.is_sorted d.is_sorted s.levels sound.has_level two is.digits sound'.has_few_levels in
        let word : List Bool = bits_from bit next source (coins_of_weighted s x weight) in
        let theirs = rw (merged_coins weight s x d sound sound' two is) at m.bag in
        let kll = goes-kll (merge_on s.k s.levels ds) (record { bag = map length s.levels; scratch = map length ds })
        (merge_is {A = A} s.k (record { bag = map length s.levels; scratch = map length ds }) (omega (arith, sound.has_level, length-lengths s.levels))).goes in
        let like' = rw same at (acts-kll o (merge_on s.k s.levels ds) word (record { bag = bag_of s; scratch = bag_in d.is_sorted ds }) (record { bag = bag_of s; scratch = bag_of d })
        kll (alike-refl cmp o s.is_sorted s.levels) like) in
        record {
          k = m.k;
          min_k = m.min_k ∙ lesser_k (nat_lt 1 (length d.levels)) s.min_k s.k d.min_k sound.min_k_below_k is.min_k_is;
          n = omega (arith, m.n, is.n_is);
          is_sorted = m.is_sorted ∙ ap (λ (n : ℕ). s.is_sorted && eqb n 0) (first-digit cmp (length d.levels) weight x d.levels (omega (arith, several)) is.levels);
          bag = alike-trans o _ _ _ (rw same at (a.alike word)) (alike-trans o _ _ _ like' theirs);
          least = least-parts o (option_to_list s.least) (x ∷ []) s.least d.least t.least (least_itself o s.least) (tied-least x d.least is.least) m.least;
          greatest = greatest-parts o (option_to_list s.greatest) (x ∷ []) s.greatest d.greatest t.greatest (greatest_itself o s.greatest) (tied-greatest x d.greatest is.greatest) m.greatest;
          below_capacity = λ h. m.below_capacity several;
        }

    -- for weight 1 an update is an update with the weight
    pub updated_weighted : (weight : ℕ) (t : Kll A) → weight ≡ 1 → IsUpdated cmp s x (bits_from bit next source (coins_of_update s x)) t →
        IsWeighted cmp s x weight (bits_from bit next source (coins_of_weighted s x weight)) t
    updated_weighted weight t one u =
        let same : update_of s x ≡ weighted_of s x 1 = sym (weight_one s.k (map length s.levels) x) in
        rw one (record {
          k = u.k;
          min_k = u.min_k;
          n = u.n;
          is_sorted = u.is_sorted ∙ sym (and_right s.is_sorted false refl);
          bag = rw same at u.bag;
          least = u.least;
          greatest = u.greatest;
          below_capacity = λ h. absurd (omega (arith, h));
        })

-- Updates with a weight by items that compare equal give alike bags, whatever is in the scratch.

module _ {A : Type 0} {cmp : A → A → Ordering} (o : IsTotalOrder cmp) (x y : A) (tie : cmp x y ≡ Equal) where
  pub put-levels : (h : ℕ) (ls : List (List A)) →
      AllZip (λ xs ys. SameItems cmp (sort cmp xs) (sort cmp ys)) (with_level [] h (λ level. level ++ x ∷ []) ls) (with_level [] h (λ level. level ++ y ∷ []) ls)
  put-levels zero [] = (SameItems-sort cmp o (x ∷ []) (y ∷ []) (SameItems-last cmp o x y tie []), tt)
  put-levels zero (l ∷ ls) = (SameItems-sort cmp o (l ++ x ∷ []) (l ++ y ∷ []) (SameItems-last cmp o x y tie l), zip-refl cmp o ls)
  put-levels (suc h) [] = (tt, put-levels h [])
  put-levels (suc h) (l ∷ ls) = (SameItems-refl cmp o (sort cmp l), put-levels h ls)

  put-zeroth : (h : ℕ) (ls : List (List A)) → SameItems cmp (level_at (with_level [] h (λ level. level ++ x ∷ []) ls) 0) (level_at (with_level [] h (λ level. level ++ y ∷ []) ls) 0)
  put-zeroth zero [] = SameItems-last cmp o x y tie []
  put-zeroth zero (l ∷ ls) = SameItems-last cmp o x y tie l
  put-zeroth (suc h) [] = tt
  put-zeroth (suc h) (l ∷ ls) = SameItems-refl cmp o l

  -- one Put keeps bags alike
  pub put-alike : (h : ℕ) (next : Bool) (a b : Work (Bag A)) → AlikeKll cmp a.bag b.bag → AlikeKll cmp (act cmp (Put h x) next a).bag (act cmp (Put h y) next b).bag
  put-alike h next a b l =
      let one : AlikeKll cmp (act cmp (Put h x) next a).bag (act cmp (Put h x) next b).bag = acts-kll o (Put h x ∷ []) (next ∷ []) (alone a.bag) (alone b.bag) (refl, tt) l (itself cmp o empty_bag) in
      let two : AlikeKll cmp (act cmp (Put h x) next b).bag (act cmp (Put h y) next b).bag = record { levels = put-levels h b.bag.levels; level_zero = put-zeroth h b.bag.levels; flag = refl } in
      alike-trans o _ _ _ one two

  puts-alike : (more h n : ℕ) (word : List Bool) (a b : Work (Bag A)) → AlikeKll cmp a.bag b.bag →
      AlikeKll cmp (acts cmp (puts_actions more h n x) word a).bag (acts cmp (puts_actions more h n y) word b).bag
  unfolding puts_actions
  puts-alike zero h n word a b l = l
  puts-alike (suc more) h n word a b l =
      elim (cases_Bool (n % 2 == 1)) [
        | inl e ↦ rw e (puts-alike more (suc h) (n / 2) word _ _ (put-alike h (next_bit word) a b l))
        | inr e ↦ rw e (puts-alike more (suc h) (n / 2) word a b l)
      ]

  -- at most one update gives alike bags
  once-alike : (k : ℕ) (bag : Bag A) (t : Bool) →
      Enters cmp o bag empty_bag (updates_actions k (bag_lengths bag) (if t then x ∷ [] else [])) (updates_actions k (bag_lengths bag) (if t then y ∷ [] else []))
  once-alike k bag false = record { alike = λ word. itself cmp o bag; drawn = refl }
  once-alike k bag true =
      let room : List (Action A) = actions_if_full k (bag_lengths bag) in
      let start : Enters cmp o bag empty_bag room room = record { alike = λ word. itself cmp o (bag_after cmp room word bag); drawn = refl } in
      rw (append-nil (update_actions k (bag_lengths bag) x), append-nil (update_actions k (bag_lengths bag) y))
      (enters-append cmp o bag empty_bag room room (Put 0 x ∷ []) (Put 0 y ∷ []) start (λ word. put-alike 0 (next_bit word)) refl)

  -- the actions by which the item enters give alike bags
  enter-alike : (k weight : ℕ) (bag : Bag A) → Enters cmp o bag empty_bag (entering_actions k (bag_lengths bag) x weight) (entering_actions k (bag_lengths bag) y weight)
  enter-alike k weight bag =
      enters-append cmp o bag empty_bag (updates_actions k (bag_lengths bag) (at_digit weight x)) (updates_actions k (bag_lengths bag) (at_digit weight y))
      (puts_actions 60 1 (weight / 2) x) (puts_actions 60 1 (weight / 2) y) (once-alike k bag (weight % 2 == 1)) (puts-alike 60 1 (weight / 2))
      (puts_draw 60 1 (weight / 2) x ∙ sym (puts_draw 60 1 (weight / 2) y))

  -- all actions of an update with a weight give alike bags
  pub weighted-alike : (k weight : ℕ) (bag : Bag A) → 0 < length (bag_lengths bag) →
      Enters cmp o bag empty_bag (weighted_actions k (bag_lengths bag) x weight) (weighted_actions k (bag_lengths bag) y weight)
  weighted-alike k weight bag some =
      let enter : A → List (Action A) = λ (z : A). entering_actions k (bag_lengths bag) z weight in
      let ns : A → List ℕ = λ (z : A). lengths_after_actions (enter z) (bag_lengths bag) in
      let e = enter-alike k weight bag in
      let sizes : (z : A) → (bag_lengths (bag_after cmp (enter z) [] bag) ≡ ns z) =
      λ z. lengths-acts cmp (enter z) [] (alone bag) (fine_is (enter z) (work_of (bag_lengths bag)) (fine-entering k (bag_lengths bag) z weight some)).kll in
      let same : ns x ≡ ns y = sym (sizes x) ∙ (alike-lengths o _ _ (e.alike []) ∙ sizes y) in
      rw same (elim (nat_lt 1 weight) as (λ b. Enters cmp o bag empty_bag (enter x ++ (if b then compress_actions k (ns y) else [])) (enter y ++ (if b then compress_actions k (ns y) else []))) [
        | true ↦ enters-squeezed cmp o bag empty_bag (enter x) (enter y) k (ns y) e
        | false ↦ rw (append-nil (enter x), append-nil (enter y)) e
      ])

  -- y, which ties with x, is both extremes of any number of copies of x
  low : is_gt (cmp y x) ≡ false
  low = ap is_gt (tied_back o x y tie)

  high : is_gt (cmp x y) ≡ false
  high = ap is_gt tie

  all-times : (P : A → Type 0) → P x → (n : ℕ) → AllByRecursion P (replicate n x)
  all-times P p zero = tt
  all-times P p (suc n) = (p, all-times P p n)

  -- y is the least of n copies of x, if n is above 0
  pub least_times : (n : ℕ) → 0 < n → IsLeastOf cmp (replicate n x) (Some y)
  least_times zero h = absurd (omega (arith, h))
  least_times (suc n) h = record { ties = inl (tied_back o x y tie); bounds = (low, all-times (λ z. IsAtMost cmp y z) low n) }

  -- y is the greatest of n copies of x, if n is above 0
  pub greatest_times : (n : ℕ) → 0 < n → IsGreatestOf cmp (replicate n x) (Some y)
  greatest_times zero h = absurd (omega (arith, h))
  greatest_times (suc n) h = record { ties = inl (tied_back o x y tie); bounds = (high, all-times (λ z. IsAtMost cmp z y) high n) }
