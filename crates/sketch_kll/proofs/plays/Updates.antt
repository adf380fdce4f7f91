-- The schedule of updates: its traces are legal, its lengths are those of the bags, and ranks after it are unbiased.
-- Levels that take items one after another do what the schedule's actions say.
use Rattle.std.proofs.lemmas.Grind.{common_steps}
use Rattle.std.proofs.Common.{◌≡◌, ℕ, zero, suc, ◌+◌, ◌<◌, ◌≤◌, Bool, List, [], ◌∷◌, ◌++◌, length, map, sum, slice_index, refl, sym, ap, ◌∙◌, subst, arith, IsTrue, leb-true, append_assoc, append-nil, Ordering, ◌*◌, ◌^◌, cond, count_by, true, false, eqb, ◌&&◌, ap₂, length-append, Equal}
use Rattle.std.specs.Prelude.{⊤}
use Rattle.std.specs.List.{AllByRecursion}
use Rattle.std.proofs.lemmas.Bool.{cases_Bool, and_right, false≢true, ne_eqb}
use Rattle.sketch_base.specs.Bag.{Bag, AllButLeftover, with_level, AlikeKll, empty_bag, SameItems, sort, weighted_rank}
use Rattle.sketch_base.specs.Trace.{Action, Put, Compact, Fresh, Event, At, Work, World, is_kll_action, IsKll, bag_after, alone, changed, act, acts, next_bit, coins, play, start, draws_of}
use Rattle.sketch_base.specs.Lengths.{act_on_lengths, acts_on_lengths, lengths_after, bag_lengths, start_lengths, ObeysScratch, Along, MeetsEight, IsLegalKll}
use Rattle.sketch_base.proofs.bags.Acts.{changed-there, acts_on-append, obeys}
use Rattle.sketch_base.proofs.plays.Plays.{lengths-acts, length-sort, calls-compose, source-composes}
use Rattle.sketch_kll.specs.Capacity.{total_of}
use Rattle.sketch_kll.specs.Merge.{IsLegalFrom}
use Rattle.sketch_kll.specs.Schedule.{lowest_full, update_actions, updated_lengths, updates_actions, updates_trace}
use Rattle.sketch_kll.proofs.layout.Full.{capacity_eight, room_made, one_level_left, total_up_to}
use Rattle.std.specs.Cmp.{IsTotalOrder}
use Rattle.std.proofs.lemmas.List.Sums.{sum_by-cons}
use Rattle.sketch_base.specs.Ranks.{true_ranks}
use Rattle.sketch_base.specs.Words.{sum_over_words}
use Rattle.sketch_base.proofs.bags.Alike.{acts-kll}
use Rattle.sketch_base.proofs.unbiased.Average.{unbiased}
use Rattle.sketch_kll.proofs.layout.Compacted.{length-same, alike_size}
use Rattle.sketch_kll.proofs.layout.Alike.{zip-back, zip-map, zip-trans, bridged_levels, like-refl, length-lengths, draws_of_update}
use Rattle.std.proofs.Math.Bool.{and-true}
use Rattle.sketch_base.specs.Random.{bits_from, after_draws}
use Rattle.sketch_base.proofs.bags.Parts.{all-parts}
use Rattle.sketch_kll.specs.Levels.{retained_in, weight_in, SameLevels, UpperSorted, AllItems}
use Rattle.sketch_base.specs.Extremes.{IsFrom, IsUpTo, Ties}
use Rattle.sketch_kll.specs.Sketch.{bag_in}
use Rattle.sketch_kll.specs.Steps.{is_full, compacted_if_full, put}
use Rattle.sketch_kll.specs.Take.{AreKept, HaveTaken}
use Rattle.sketch_kll.proofs.layout.Legal.{AllItems-room, AllItems-same, AllItems-put, from-same, up_to-same, ties-same}
use Rattle.sketch_kll.proofs.layout.Flats.{SameLevels-put, length-put, weight-put, retained-put, UpperSorted-put}
pub use Rattle.sketch_kll.proofs.layout.Full.{lowest_full_due}

-- The schedule of updates: its traces are legal, and its lengths are those of the bags.

-- if the levels are full, there is a lowest full one, and it holds at least 8 items
pub lowest_full_at : (k : ℕ) (lengths : List ℕ) → 0 < length lengths →
    total_of k 8 (length lengths) ≤ sum lengths → (lowest_full k lengths < length lengths) × (8 ≤ slice_index lengths (lowest_full k lengths))
lowest_full_at k lengths h t = grind (arith, common_steps, lowest_full_due, capacity_eight)

-- after a change of a level there is at least one level
pub length-with_level : (h : ℕ) (change : ℕ → ℕ) (ns : List ℕ) → 0 < length (with_level 0 h change ns)
length-with_level zero change [] = omega arith
length-with_level zero change (n ∷ ns) = omega arith
length-with_level (suc h) change [] = omega arith
length-with_level (suc h) change (n ∷ ns) = omega arith

-- a bag of such lengths with an empty scratch
abbrev pub work_of : List ℕ → Work (List ℕ)
work_of lengths = record { bag = lengths; scratch = 0 ∷ [] }

-- the level lengths after updates by some items in turn
abbrev pub updates_lengths : {A : Type 0} → ℕ → List ℕ → List A → List ℕ
updates_lengths k lengths [] = lengths
updates_lengths k lengths (x ∷ xs) = updates_lengths k (updated_lengths k lengths x) xs

module _ {A : Type 0} where
  -- Puts, and compactions of at least 8 items
  abbrev pub Fine : List (Action A) → Work (List ℕ) → Type 0
  Fine [] work = ⊤
  Fine (Put h x ∷ rest) work = Fine rest (act_on_lengths (Put h x) work)
  Fine (Compact h Fresh AllButLeftover ∷ rest) work = (8 ≤ slice_index work.bag h) × Fine rest (act_on_lengths {A = A} (Compact h Fresh AllButLeftover) work)
  Fine (action ∷ rest) work = ⊥

  -- fine actions after fine actions are fine
  pub fine-append : (xs ys : List (Action A)) (work : Work (List ℕ)) → Fine xs work → Fine ys (acts_on_lengths xs work) → Fine (xs ++ ys) work
  fine-append [] ys work f g = g
  fine-append (Put h x ∷ rest) ys work f g = fine-append rest ys (act_on_lengths (Put h x) work) f g
  fine-append (Compact h Fresh AllButLeftover ∷ rest) ys work f g = (f.0, fine-append rest ys (act_on_lengths {A = A} (Compact h Fresh AllButLeftover) work) f.1 g)
  fine-append actions ys work f g = absurd f

  abbrev pub IsKllActions : List (Action A) → Type 0
  IsKllActions actions = AllByRecursion (λ action. IsTrue (is_kll_action action)) actions

  -- KLL actions that leave the scratch unchanged
  pub record FineIs (work : Work (List ℕ)) (actions : List (Action A)) : Type 0 where
    pub kll : IsKllActions actions
    pub scratch : (acts_on_lengths actions work).scratch ≡ work.scratch

  -- fine actions are such actions
  pub fine_is : (actions : List (Action A)) (work : Work (List ℕ)) → Fine actions work → FineIs work actions
  fine_is [] work f = record { kll = tt; scratch = refl }
  fine_is (Put h x ∷ rest) work f = grind (arith, common_steps, fine_is rest (act_on_lengths (Put h x) work) f)
  fine_is (Compact h Fresh AllButLeftover ∷ rest) work f = grind (arith, common_steps, fine_is rest (act_on_lengths {A = A} (Compact h Fresh AllButLeftover) work) f.1)
  fine_is (action ∷ rest) work f = absurd f

  -- in any world whose slot has these lengths, each compaction finds at least 8 items
  pub fine-sizes : (actions : List (Action A)) (s : ℕ) (work : Work (List ℕ)) (world : World (List ℕ)) → Fine actions work → world.slots s ≡ work.bag →
      Along MeetsEight (map (λ action. At s action) actions) world
  fine-sizes [] s work world f e = tt
  fine-sizes (Put h x ∷ rest) s work world f e =
      (tt, fine-sizes rest s (act_on_lengths (Put h x) work) (lengths_after (At s (Put h x)) world) f (changed-there world.slots s _ ∙ ap (with_level 0 h (λ n. n + 1)) e))
  fine-sizes (Compact h Fresh AllButLeftover ∷ rest) s work world f e =
      let action : Action A = Compact h Fresh AllButLeftover in
      let e' = changed-there world.slots s _ ∙ ap (λ (bag : List ℕ). (act_on_lengths action (record { bag = bag; scratch = world.scratch })).bag) e in
      (subst (λ (l : List ℕ). 8 ≤ slice_index l h) (sym e) f.0, fine-sizes rest s (act_on_lengths action work) (lengths_after (At s action) world) f.1 e')
  fine-sizes actions s work world f e = absurd f

  fine-settled : (actions : List (Action A)) (s : ℕ) (work : Work (List ℕ)) (world : World (List ℕ)) → Fine actions work → sum world.scratch ≡ 0 →
      (let trace : List (Event A) = map (λ action. At s action) actions in IsKll trace × ObeysScratch trace world)
  fine-settled [] s work world f z = (tt, z)
  fine-settled (Put h x ∷ rest) s work world f z = let r = fine-settled rest s _ (lengths_after (At s (Put h x)) world) f z in ((refl, r.0), (obeys (sum world.scratch) _ z, r.1))
  fine-settled (Compact h Fresh AllButLeftover ∷ rest) s work world f z =
      let r = fine-settled rest s _ (lengths_after {A = A} (At s (Compact h Fresh AllButLeftover)) world) f.1 z in ((refl, r.0), (obeys (sum world.scratch) _ z, r.1))
  fine-settled actions s work world f z = absurd f

  -- fine actions of one slot are legal
  pub fine-legal : (actions : List (Action A)) (s : ℕ) (work : Work (List ℕ)) (world : World (List ℕ)) →
      Fine actions work → world.slots s ≡ work.bag → sum world.scratch ≡ 0 → IsLegalFrom (map (λ action. At s action) actions) world
  fine-legal actions s work world f e z =
      let settled = fine-settled actions s work world f z in record { kll = settled.0; scratch = settled.1; sizes = fine-sizes actions s work world f e }

  -- what holds for the actions of an update
  pub record UpdateIs (k : ℕ) (lengths : List ℕ) (actions : List (Action A)) : Type 0 where
    pub fine : Fine actions (work_of lengths)
    pub kll : AllByRecursion (λ action. IsTrue (is_kll_action action)) actions
    pub some : 0 < length (acts_on_lengths actions (work_of lengths)).bag
    pub alone : acts_on_lengths actions (work_of lengths) ≡ work_of (acts_on_lengths actions (work_of lengths)).bag

  -- it holds for the actions of every update
  pub update_is : (k : ℕ) (lengths : List ℕ) (x : A) → 0 < length lengths → UpdateIs k lengths (update_actions k lengths x)
  update_is k lengths x h = grind (arith, common_steps, cases_Bool, lowest_full_at, leb-true, length-with_level)

  -- the actions of updates are fine
  pub fine-updates : (k : ℕ) (lengths : List ℕ) (items : List A) → 0 < length lengths → Fine (updates_actions k lengths items) (work_of lengths)
  fine-updates k lengths [] h = tt
  fine-updates k lengths (x ∷ items) h =
      let u = update_is k lengths x h in
      grind (arith, common_steps, fine-append, fine-updates k (updated_lengths k lengths x) items u.some)

  -- the trace of updates is legal
  pub updates_legal : (slot k : ℕ) (items : List A) → IsLegalKll (updates_trace slot k items)
  updates_legal slot k items =
      let r = fine-legal (updates_actions k (0 ∷ []) items) slot (work_of (0 ∷ [])) start_lengths (fine-updates k (0 ∷ []) items (omega arith)) refl refl in
      record { kll = r.kll; scratch = r.scratch; sizes = r.sizes }

  -- the level lengths of a bag after an update
  pub update_lengths : (cmp : A → A → Ordering) (k : ℕ) (bag : Bag A) (x : A) (word : List Bool) → 0 < length (bag_lengths bag) →
      bag_lengths (bag_after cmp (update_actions k (bag_lengths bag) x) word bag) ≡ updated_lengths k (bag_lengths bag) x
  update_lengths cmp k bag x word h = lengths-acts cmp (update_actions k (bag_lengths bag) x) word (alone bag) (update_is k (bag_lengths bag) x h).kll

  -- updates by more items
  pub updates-append : (k : ℕ) (lengths : List ℕ) (xs ys : List A) → updates_actions k lengths (xs ++ ys) ≡ updates_actions k lengths xs ++ updates_actions k (updates_lengths k lengths xs) ys
  updates-append k lengths [] ys = refl
  updates-append k lengths (x ∷ xs) ys = grind (arith, common_steps, append_assoc, updates-append k (updated_lengths k lengths x) xs ys)

  -- an update by one more item
  pub updates_more : (k : ℕ) (lengths : List ℕ) (xs : List A) (x : A) → updates_actions k lengths (xs ++ x ∷ []) ≡ updates_actions k lengths xs ++ update_actions k (updates_lengths k lengths xs) x
  updates_more k lengths xs x = updates-append k lengths xs (x ∷ []) ∙ ap (λ l. updates_actions k lengths xs ++ l) (append-nil (update_actions k (updates_lengths k lengths xs) x))

  -- the actions of updates turn the lengths into those after all updates, and leave the scratch empty
  pub updates_lengths_are : (k : ℕ) (lengths : List ℕ) (xs : List A) → 0 < length lengths → acts_on_lengths (updates_actions k lengths xs) (work_of lengths) ≡ work_of (updates_lengths k lengths xs)
  updates_lengths_are k lengths [] some = refl
  updates_lengths_are k lengths (x ∷ xs) some =
      let u = update_is k lengths x some in
      let rest : List (Action A) = updates_actions k (updated_lengths k lengths x) xs in
      acts_on-append (update_actions k lengths x) rest (work_of lengths) ∙ (ap (acts_on_lengths rest) u.alone ∙ updates_lengths_are k (updated_lengths k lengths x) xs u.some)

  -- at least one level stays
  pub updates_some : (k : ℕ) (lengths : List ℕ) (xs : List A) → 0 < length lengths → 0 < length (updates_lengths k lengths xs)
  updates_some k lengths [] some = some
  updates_some k lengths (x ∷ xs) some = updates_some k (updated_lengths k lengths x) xs (update_is k lengths x some).some

  -- the lengths after one more update
  pub lengths_more : (k : ℕ) (lengths : List ℕ) (xs : List A) (x : A) → updates_lengths k lengths (xs ++ x ∷ []) ≡ updated_lengths k (updates_lengths k lengths xs) x
  lengths_more k lengths [] x = refl
  lengths_more k lengths (y ∷ ys) x = lengths_more k (updated_lengths k lengths y) ys x

-- The ranks that updates give are unbiased. Alike bags, and actions on them.

-- the true rank
module _ {A : Type 0} (test : A → Bool) (s k : ℕ) where
  -- updates add the number of counted items to the true rank
  pub ranks-updates : (lengths : List ℕ) (items : List A) (ranks : ℕ → ℕ) → true_ranks test (map (λ action. At s action) (updates_actions k lengths items)) ranks s ≡ ranks s + count_by test items
  ranks-updates lengths [] ranks = omega arith
  ranks-updates lengths (x ∷ items) ranks =
      let later : List ℕ = updated_lengths k lengths x in
      let more : ℕ → ℕ = changed ranks s (ranks s + cond (test x) 1 0) in
      grind (arith, common_steps, changed-there, sum_by-cons, ranks-updates later items more)

-- the ranks of updates, summed over all words, are the number of words times the true rank
pub updates_unbiased : {A : Type 0} (cmp : A → A → Ordering) (test : A → Bool) (slot k words : ℕ) (items : List A) → coins (updates_trace slot k items) ≤ words →
    sum_over_words words (λ word. weighted_rank cmp test ((play cmp (updates_trace slot k items) word start).slots slot)) ≡ 2 ^ words * count_by test items
updates_unbiased cmp test slot k words items enough =
    let legal = updates_legal slot k items in
    unbiased cmp test (updates_trace slot k items) words slot legal.kll legal.scratch enough
    ∙ ap (λ n. 2 ^ words * n) (ranks-updates test slot k (0 ∷ []) items (λ s. 0) ∙ (let e : 0 + count_by test items ≡ count_by test items = omega arith in e))

module _ {A : Type 0} {cmp : A → A → Ordering} (o : IsTotalOrder cmp) where
  -- being alike is transitive
  pub alike-trans : (a b c : Bag A) → AlikeKll cmp a b → AlikeKll cmp b c → AlikeKll cmp a c
  alike-trans a b c h k = grind (arith, common_steps, zip-trans)

  -- being alike is symmetric
  pub alike-back : (a b : Bag A) → AlikeKll cmp a b → AlikeKll cmp b a
  alike-back a b h = grind (arith, common_steps, zip-back)

  -- alike bags have the same level lengths
  pub alike-lengths : (a b : Bag A) → AlikeKll cmp a b → bag_lengths a ≡ bag_lengths b
  alike-lengths a b h = zip-map (λ xs ys. SameItems cmp (sort cmp xs) (sort cmp ys)) length
      (λ x y e. sym (length-sort cmp x) ∙ (length-same cmp (sort cmp x) (sort cmp y) e ∙ length-sort cmp y)) a.levels b.levels h.levels

  -- fine actions leave the scratch unchanged
  scratch-stays : (actions : List (Action A)) (lengths : Work (List ℕ)) (word : List Bool) (work : Work (Bag A)) → Fine actions lengths → (acts cmp actions word work).scratch ≡ work.scratch
  scratch-stays [] lengths word work f = refl
  scratch-stays (Put h x ∷ rest) lengths word work f = scratch-stays rest _ word (act cmp (Put h x) (next_bit word) work) f
  scratch-stays (Compact h Fresh AllButLeftover ∷ rest) lengths word work f = scratch-stays rest _ _ (act cmp (Compact h Fresh AllButLeftover) (next_bit word) work) f.1
  scratch-stays actions lengths word work f = absurd f

  -- actions that follow fine ones give alike bags, whether they start from what the fine ones left or from a bag alike to it
  pub alike_on : (first second : List (Action A)) (lengths : Work (List ℕ)) (word rest : List Bool) (bag other final : Bag A) →
      Fine first lengths → AllByRecursion (λ action. IsTrue (is_kll_action action)) second →
      AlikeKll cmp (bag_after cmp first word bag) other → AlikeKll cmp (bag_after cmp second rest other) final → AlikeKll cmp (acts cmp second rest (acts cmp first word (alone bag))).bag final
  alike_on first second lengths word rest bag other final fine kll was after =
      let before : Work (Bag A) = acts cmp first word (alone bag) in
      let scratch : AlikeKll cmp before.scratch empty_bag = rw (scratch-stays first lengths word (alone bag) fine) (record { levels = (tt, tt); level_zero = tt; flag = refl }) in
      alike-trans _ _ _ (acts-kll o second rest before (alone other) kll was scratch) after

-- Levels that take items one after another, as updates do.

-- some items were taken so far
pub record Taking {A S : Type 0} (cmp : A → A → Ordering) (bit : S → Bool) (next : S → S) (source after : S) (k : ℕ) (flag new_flag : Bool) (ls : List (List A)) (done : List A)
    (ms : List (List A)) : Type 0 where
  pub some : 0 < length ls
  pub taken : HaveTaken cmp bit next source after k flag new_flag ls done ms
  pub lengths : map length ms ≡ updates_lengths k (map length ls) done

and-false : (b : Bool) (n : ℕ) → 0 < n → false ≡ (b && eqb n 0)
and-false b n h = sym (and_right b (eqb n 0) (ne_eqb n 0 (omega arith)))

-- before the first item nothing is taken
pub taking_none : {A S : Type 0} (cmp : A → A → Ordering) → IsTotalOrder cmp → (bit : S → Bool) (next : S → S) (source : S) (k : ℕ) (flag : Bool) (ls : List (List A)) →
    AreKept cmp k flag ls → Taking cmp bit next source source k flag flag ls [] ls
taking_none cmp o bit next source k flag ls kept = record {
  some = kept.some;
  taken = record {
    kept = kept;
    bag = record { levels = (like-refl cmp o ls).levels; level_zero = (like-refl cmp o ls).zeroth; flag = refl };
    source_is = refl;
    weighs = omega arith;
    flag_is = sym (and-true flag);
    one_level = λ e h. e;
    between = λ l g h. h.1;
    ties = λ l g h. h.1;
  };
  lengths = refl;
}

-- once room for an item is made, the levels are below their total capacity, which is at most that of 61 levels
pub record RoomBelow {A : Type 0} (k : ℕ) (ws : List (List A)) : Type 0 where
  pub below : retained_in ws < total_of k 8 (length ws)
  pub at_most : total_of k 8 (length ws) ≤ total_of k 8 61

-- making room for an item does this
pub room_below : {A : Type 0} (cmp : A → A → Ordering) (k : ℕ) (flag coin : Bool) (ms ws : List (List A)) → AreKept cmp k flag ms → weight_in ms < 2 ^ 64 →
    SameLevels cmp (compacted_if_full cmp k flag coin ms) ws → RoomBelow k ws
room_below cmp k flag coin ms ws kept light same =
    let r = room_made cmp k flag coin ms kept.some kept.few light kept.within in
    let z = alike_size cmp (compacted_if_full cmp k flag coin ms) ws same in
    record { below = omega (arith, r.within, z.retains, ap (total_of k 8) z.counts); at_most = total_up_to k (length ws) 61 (omega (arith, r.few, z.counts)) }

-- one more item is taken
pub taking_more : {A S : Type 0} (cmp : A → A → Ordering) →
    IsTotalOrder cmp → (bit : S → Bool) (next : S → S) (source after final : S) (k : ℕ) (flag now : Bool) (ls : List (List A)) (done : List A) (x : A) (ms ws ns : List (List A)) →
    Taking cmp bit next source after k flag now ls done ms → weight_in ls + length done < 2 ^ 64 →
    SameLevels cmp (compacted_if_full cmp k now (bit after) ms) ws → UpperSorted cmp ws → ns ≡ put x ws → final ≡ cond (is_full k ms) (next after) after →
    Taking cmp bit next source final k flag false ls (done ++ x ∷ []) ns
taking_more {A} {S} cmp o bit next source after final k flag now ls done x ms ws ns t light same sorted e c =
    let lengths0 : List ℕ = map length ls in
    let first : List (Action A) = updates_actions k lengths0 done in
    let lengths : List ℕ = updates_lengths k lengths0 done in
    let second : List (Action A) = update_actions k lengths x in
    let some0 : 0 < length lengths0 = omega (arith, t.some, length-lengths ls) in
    let some1 : 0 < length lengths = omega (arith, t.taken.kept.some, length-lengths ms, ap length t.lengths) in
    let all : updates_actions k lengths0 (done ++ x ∷ []) ≡ first ++ second = updates_more k lengths0 done x in
    let word : List Bool = bits_from bit next (after_draws next source (draws_of first)) (draws_of second) in
    let is = update_is k lengths x some1 in
    let step : SameLevels cmp (put x (compacted_if_full cmp k now (bit after) ms)) ns = rw e (SameLevels-put cmp o x (compacted_if_full cmp k now (bit after) ms) ws same) in
    let Q : S → List ℕ → Type 0 = λ (y : S) (l : List ℕ). AlikeKll cmp
    (bag_after cmp (update_actions k l x) (bits_from bit next y (draws_of (update_actions k l x))) (bag_in now ms)) (bag_in false ns) in
    let one : Q after (map length ms) = bridged_levels cmp o bit next after k now ms x ns t.taken.kept.some t.taken.kept.sorted t.taken.kept.flag_holds step in
    let here : Q (after_draws next source (draws_of first)) lengths =
    subst (λ (l : List ℕ). Q (after_draws next source (draws_of first)) l) t.lengths (subst (λ (y : S). Q y (map length ms)) t.taken.source_is one) in
    let there = alike_on o first second (work_of lengths0) _ word (bag_in flag ls) (bag_in now ms) (bag_in false ns) (fine-updates k lengths0 done some0) is.kll t.taken.bag here in
    let after_all : AlikeKll cmp (bag_after cmp (first ++ second) (bits_from bit next source (draws_of (first ++ second))) (bag_in flag ls)) (bag_in false ns) =
    subst (λ (w : Work (Bag A)). AlikeKll cmp w.bag (bag_in false ns)) (sym (calls-compose cmp bit next source first second (alone (bag_in flag ls)))) there in
    let more : updates_lengths k lengths0 (done ++ x ∷ []) ≡ updated_lengths k lengths x = lengths_more k lengths0 done x in
    let r = room_made cmp k now (bit after) ms t.taken.kept.some t.taken.kept.few (omega (arith, t.taken.weighs, light)) t.taken.kept.within in
    let z = alike_size cmp (compacted_if_full cmp k now (bit after) ms) ws same in
    let n = ap length e ∙ length-put (x ∷ []) ws (omega (arith, r.some, z.counts)) in
    let q = ap retained_in e ∙ retained-put (x ∷ []) ws in
    let len = length-append done (x ∷ []) in
    let drawn : final ≡ after_draws next after (draws_of (update_actions k (map length ms) x)) = rw (draws_of_update k (map length ms) x) (c ∙ source_step (is_full k ms)) in
    let each_taken : (P : A → Type 0) → ((x y : A) → cmp x y ≡ Equal → P x → P y) → (AllItems P (done ∷ ls) → AllItems P ms) → AllItems P ((done ++ x ∷ []) ∷ ls) → AllItems P ns =
    λ P keeps before h.
    let parts = all-parts P done (x ∷ []) h.0 in
    rw e (AllItems-put P x ws parts.1.0 (AllItems-same P cmp keeps (compacted_if_full cmp k now (bit after) ms) ws same (AllItems-room P cmp k now (bit after) ms (before (parts.0, h.1))))) in
    record {
      some = t.some;
      taken = record {
        kept = record {
          some = omega (arith, n, z.counts, r.some);
          few = omega (arith, n, z.counts, r.few);
          within = omega (arith, q, z.retains, r.within, ap (total_of k 8) (n ∙ sym z.counts));
          sorted = subst (λ (y : List (List A)). UpperSorted cmp y) (sym e) (UpperSorted-put cmp (x ∷ []) ws sorted);
          flag_holds = λ h. absurd (false≢true h);
        };
        bag = subst (λ (actions : List (Action A)). AlikeKll cmp (bag_after cmp actions (bits_from bit next source (draws_of actions)) (bag_in flag ls)) (bag_in false ns)) (sym all) after_all;
        source_is = drawn ∙ (ap₂ (λ (y : S) (l : List ℕ). after_draws next y (draws_of (update_actions k l x))) t.taken.source_is t.lengths
            ∙ (sym (source-composes next source first second) ∙ ap (λ (actions : List (Action A)). after_draws next source (draws_of actions)) (sym all)));
        weighs = omega (arith, ap weight_in e ∙ weight-put (x ∷ []) ws, z.weighs, r.weighs, t.taken.weighs, len);
        flag_is = and-false flag (length (done ++ x ∷ [])) (omega (arith, len));
        one_level = λ h w. omega (arith, n, z.counts, one_level_left cmp k now (bit after) ms (t.taken.one_level h (omega (arith, w, len))) (omega (arith, w, len, t.taken.weighs)));
        between = λ l g. each_taken (λ y. IsFrom cmp l y × IsUpTo cmp g y) (λ a b t q. (from-same o l a b t q.0, up_to-same o g a b t q.1)) (t.taken.between l g);
        ties = λ l g. each_taken (λ y. Ties cmp y l × Ties cmp y g) (λ a b t q. (ties-same o l a b t q.0, ties-same o g a b t q.1)) (t.taken.ties l g);
      };
      lengths =
          sym (alike-lengths o _ _ one)
          ∙ (update_lengths cmp k (bag_in now ms) x (bits_from bit next after (draws_of (update_actions k (map length ms) x))) (omega (arith, t.taken.kept.some, length-lengths ms))
          ∙ (ap (λ (l : List ℕ). updated_lengths k l x) t.lengths ∙ sym more));
    }
  where
    source_step : (b : Bool) → cond b (next after) after ≡ after_draws next after (cond b 1 0)
    source_step true = refl
    source_step false = refl
