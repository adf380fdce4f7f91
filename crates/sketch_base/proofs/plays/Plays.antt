-- A play is what a list of actions gives under one coin word. Here it is taken apart: into calls in turn, traces in turn, the actions on one slot.
-- Bits beyond those that are drawn don't matter, so a theorem on one part becomes one on the whole.
use Rattle.std.proofs.Common.{◌≡◌, ℕ, Bool, cond, List, [], ◌∷◌, ◌++◌, drop, map, count_by, refl, sym, ap, ap₂, ◌∙◌, arith, if◌then◌else◌, drop-drop, Ordering, zero, suc, ◌+◌, ◌-◌, ◌^◌, ◌<◌, ◌≤◌, min, length, false, take, drop-cons, inl, inr, ◌*◌, ◌/◌, ◌%◌, true, not, ◌&&◌, ◌==◌, fold, slice_index, IsTrue, subst, length-append, length-take, length-drop, ◌||◌, sum, sum_by, eqb-true}
use mathlib.Core.Path.{fun_ext}
use Rattle.std.proofs.lemmas.List.Sums.{sum_by-cons, sum_by-append}
use Rattle.sketch_base.proofs.bags.Acts.{changed-there, changed-itself, changed-twice, changed-through, changed-own, changed-all, rank, weigh-added, weigh-empty, moved-keeps, compaction-averages, IsMeasure, with_scratch, settled, scratch-none, compacts, after_event, with-event}
use Rattle.sketch_base.specs.Bag.{Bag, Taken, insert_in_order, sort, half, cut, parity_up, level_at, with_level, weigh}
use Rattle.sketch_base.specs.Trace.{Action, At, Work, World, changed, act, acts, draws, in_turn, next_bit, play, draws_of, coins, Put, Pull, Join, Compact, Event, Snap, bit_of, happens, event_draws, is_kll, is_kll_action, Clear, Coin, Fresh}
use Rattle.std.proofs.lemmas.Grind.{common_steps}
use Rattle.std.proofs.lemmas.Bool.{cases_Bool, false≢true, eq-eqb}
use Rattle.sketch_base.specs.Random.{bits_from, after_draws, bit_of_word, drawn_after}
use Rattle.std.specs.List.{AllByRecursion}
use Rattle.sketch_base.specs.Lengths.{takes, TakesEven, Along, act_on_lengths, acts_on_lengths, lengths_after, bag_lengths, world_lengths, goes_on}
use Rattle.sketch_base.specs.Ranks.{ranks_after, true_ranks}
use Rattle.sketch_base.specs.Fair.{reaches}

-- A play in parts: the play of two traces in turn, and that of one slot's actions.

-- the steps of two lists in turn
pub in_turn-append : {E W : Type 0} (drawing : E → Bool) (step : E → Bool → W → W) (xs ys : List E) (word : List Bool) (state : W) →
    in_turn drawing step (xs ++ ys) word state ≡ in_turn drawing step ys (drop (count_by drawing xs) word) (in_turn drawing step xs word state)
in_turn-append drawing step [] ys word state = refl
in_turn-append drawing step (x ∷ xs) ys word state =
    let rest : drop (count_by drawing xs) (if drawing x then drop 1 word else word) ≡ drop (count_by drawing (x ∷ xs)) word =
    grind (arith, drop-drop (count_by drawing xs) 1 word, sum_by-cons (λ y. cond (drawing y) 1 0) x xs) in
    in_turn-append drawing step xs ys (if drawing x then drop 1 word else word) (step x (next_bit word) state) ∙
    ap (λ w. in_turn drawing step ys w (in_turn drawing step xs (if drawing x then drop 1 word else word) (step x (next_bit word) state))) rest

module _ {A : Type 0} (cmp : A → A → Ordering) where
  -- the world with another bag in a slot and another scratch
  abbrev pub worked : World (Bag A) → ℕ → Work (Bag A) → World (Bag A)
  worked world s work = record { slots = changed world.slots s work.bag; scratch = work.scratch; target = world.target }

  -- the play of one slot's actions
  pub play-at : (actions : List (Action A)) (word : List Bool) (world : World (Bag A)) (s : ℕ) →
      play cmp (map (λ action. At s action) actions) word world ≡ worked world s (acts cmp actions word (record { bag = world.slots s; scratch = world.scratch }))
  play-at [] word world s = ap (λ (slots : ℕ → Bag A). let w : World (Bag A) = record { slots = slots; scratch = world.scratch; target = world.target } in w) (sym (changed-itself world.slots s))
  play-at (action ∷ rest) word world s =
      let next : Work (Bag A) = act cmp action (next_bit word) (record { bag = world.slots s; scratch = world.scratch }) in
      let word' = if draws action then drop 1 word else word in
      play-at rest word' (worked world s next) s ∙
      ap₂ (λ (start : Bag A) (slots : Bag A → ℕ → Bag A). let after : Work (Bag A) = acts cmp rest word' (record { bag = start; scratch = next.scratch }) in let w : World (Bag A) =
      record { slots = slots after.bag; scratch = after.scratch; target = world.target } in w)
      (changed-there world.slots s next.bag) (fun_ext (λ bag. changed-twice world.slots s next.bag bag))

-- Calls in turn: bits beyond those that are drawn don't matter, and the draws of a source add up.

next-take : (m : ℕ) (word : List Bool) → next_bit (take (suc m) word) ≡ next_bit word
next-take m [] = refl
next-take m (b ∷ word) = refl

rest-take : (m : ℕ) (word : List Bool) → drop 1 (take (suc m) word) ≡ take m (drop 1 word)
rest-take zero [] = refl
rest-take (suc m) [] = refl
rest-take m (b ∷ word) = refl

module _ {A : Type 0} (cmp : A → A → Ordering) where
  act-undrawn : (action : Action A) (b b' : Bool) (work : Work (Bag A)) → draws action ≡ false → act cmp action b work ≡ act cmp action b' work
  act-undrawn action b b' work e = grind (arith, common_steps, false≢true)

  -- only the bits that are drawn matter
  pub acts-enough : (actions : List (Action A)) (word word' : List Bool) (work : Work (Bag A)) → take (draws_of actions) word ≡ take (draws_of actions) word' →
      acts cmp actions word work ≡ acts cmp actions word' work
  acts-enough [] word word' work e = refl
  acts-enough (action ∷ rest) word word' work e =
      let count = sum_by-cons (λ a. cond (draws a) 1 0) action rest in
      elim (cases_Bool (draws action)) [
        | inl d ↦
            let more : draws_of (action ∷ rest) ≡ suc (draws_of rest) = omega (arith, count, ap {B = ℕ} (λ (b : Bool). cond b 1 0) d) in
            let same = rw more at e in
            rw (d, sym (next-take (draws_of rest) word) ∙ (ap next_bit same ∙ next-take (draws_of rest) word'))
            (acts-enough rest (drop 1 word) (drop 1 word') (act cmp action (next_bit word') work) (sym (rest-take (draws_of rest) word) ∙ (ap (drop 1) same ∙ rest-take (draws_of rest) word')))
        | inr d ↦
            let as_many : draws_of (action ∷ rest) ≡ draws_of rest = omega (arith, count, ap {B = ℕ} (λ (b : Bool). cond b 1 0) d) in
            rw (d, act-undrawn action (next_bit word) (next_bit word') work d) (acts-enough rest word word' (act cmp action (next_bit word') work) (rw as_many at e))
      ]

module _ {S : Type 0} (bit : S → Bool) (next : S → S) where
  pub bits-take : (s : S) (m n : ℕ) → m ≤ n → take m (bits_from bit next s n) ≡ bits_from bit next s m
  bits-take s zero n h = refl
  bits-take s (suc m) zero h = absurd (omega arith)
  bits-take s (suc m) (suc n) h = ap (λ l. bit s ∷ l) (bits-take (next s) m n (omega arith))

  pub bits-drop : (s : S) (m n : ℕ) → m ≤ n → drop m (bits_from bit next s n) ≡ bits_from bit next (after_draws next s m) (n - m)
  bits-drop s zero n h = let e : n ≡ n - zero = omega arith in ap (bits_from bit next s) e
  bits-drop s (suc m) zero h = absurd (omega arith)
  bits-drop s (suc m) (suc n) h = grind (arith, common_steps, bits-drop (next s) m n (omega arith))

-- m + n draws are m draws and then n more
pub after_draws-add : {S : Type 0} (next : S → S) (s : S) (m n : ℕ) → after_draws next s (m + n) ≡ after_draws next (after_draws next s m) n
after_draws-add next s zero n = let e : zero + n ≡ n = omega arith in ap (after_draws next s) e
after_draws-add next s (suc m) n =
    let e : suc m + n ≡ suc (m + n) = omega arith in
    ap (after_draws next s) e ∙ after_draws-add next (next s) m n

module _ {A : Type 0} where
  -- the draws of two lists of actions add up
  pub draws-append : (xs ys : List (Action A)) → draws_of (xs ++ ys) ≡ draws_of xs + draws_of ys
  draws-append xs ys = sum_by-append (λ a. cond (draws a) 1 0) xs ys

  -- the trace of one slot's actions takes the same number of coins as the actions
  pub coins-at : (s : ℕ) (actions : List (Action A)) → coins (map (λ action. At s action) actions) ≡ draws_of actions
  coins-at s [] = refl
  coins-at s (action ∷ rest) = grind (arith, common_steps, sum_by-cons, coins-at s rest)

  -- the second of two calls continues with the source where the first left it
  pub calls-compose : {S : Type 0} (cmp : A → A → Ordering) (bit : S → Bool) (next : S → S) (s : S) (xs ys : List (Action A)) (work : Work (Bag A)) →
      acts cmp (xs ++ ys) (bits_from bit next s (draws_of (xs ++ ys))) work
      ≡ acts cmp ys (bits_from bit next (after_draws next s (draws_of xs)) (draws_of ys)) (acts cmp xs (bits_from bit next s (draws_of xs)) work)
  calls-compose cmp bit next s xs ys work =
      let word = bits_from bit next s (draws_of (xs ++ ys)) in
      let few : draws_of xs ≤ draws_of (xs ++ ys) = omega (arith, draws-append xs ys) in
      in_turn-append draws (act cmp) xs ys word work ∙ ap₂ (λ w st. acts cmp ys w st)
      (bits-drop bit next s (draws_of xs) (draws_of (xs ++ ys)) few ∙ ap (bits_from bit next (after_draws next s (draws_of xs))) (omega (arith, draws-append xs ys)))
      (acts-enough cmp xs word (bits_from bit next s (draws_of xs)) work
      (bits-take bit next s (draws_of xs) (draws_of (xs ++ ys)) few ∙ sym (bits-take bit next s (draws_of xs) (draws_of xs) (omega arith))))

  -- the source after the draws of both is the source after those of the first and then those of the second
  pub source-composes : {S : Type 0} (next : S → S) (s : S) (xs ys : List (Action A)) → after_draws next s (draws_of (xs ++ ys)) ≡ after_draws next (after_draws next s (draws_of xs)) (draws_of ys)
  source-composes next s xs ys = ap (after_draws next s) (draws-append xs ys) ∙ after_draws-add next s (draws_of xs) (draws_of ys)

-- a source that goes along a word gives the word's next n bits
pub word-bits : {S : Type 0} (bit : S → Bool) (next : S → S) (word : S → List Bool) (place : S → ℕ) → ((s : S) → bit s ≡ bit_of_word (word s) (place s)) →
    ((s : S) → word (next s) ≡ word s) → ((s : S) → place (next s) ≡ drawn_after (place s)) →
    (n : ℕ) (s : S) → place s + n ≤ length (word s) → length (word s) < 2 ^ 64 → bits_from bit next s n ≡ take n (drop (place s) (word s))
word-bits bit next word place b w p zero s h f = refl
word-bits bit next word place b w p (suc n) s h f =
    let e : place (next s) ≡ suc (place s) = p s ∙ omega arith in
    let l = ap length (w s) in
    let ih = word-bits bit next word place b w p n (next s) (omega (arith, e, l)) (omega (arith, l)) in
    ap₂ (λ (x : Bool) (xs : List Bool). x ∷ xs) (b s) (ih ∙ ap₂ (λ (i : ℕ) (ws : List Bool). take n (drop i ws)) e (w s))
    ∙ sym (ap (take (suc n)) (drop-cons (word s) (place s) false (omega arith)))

-- the place of such a source in its word after n draws
pub word-draws : {S : Type 0} (next : S → S) (place : S → ℕ) → ((s : S) → place (next s) ≡ drawn_after (place s)) →
    (n : ℕ) (s : S) → place s ≤ 2 ^ 64 - 1 → place (after_draws next s n) ≡ min (place s + n) (2 ^ 64 - 1)
word-draws next place p zero s h = omega arith
word-draws next place p (suc n) s h = word-draws next place p n (next s) (omega (arith, p s)) ∙ omega (arith, p s)

-- The level lengths after a play are those that its trace gives.

even : (n : ℕ) → n % 2 ≡ 0 → n ≡ 2 * (n / 2)
even n e = omega (arith, e)

both_lengths : List ℕ → List ℕ → Work (List ℕ)
both_lengths bag scratch = record { bag = bag; scratch = scratch }

module _ {A : Type 0} where
  lengths-with_level : (h : ℕ) (change : List A → List A) (change' : ℕ → ℕ) → ((level : List A) → length (change level) ≡ change' (length level)) → (levels : List (List A)) →
      map length (with_level [] h change levels) ≡ with_level 0 h change' (map length levels)
  lengths-with_level zero change change' e [] = ap (λ n. n ∷ []) (e [])
  lengths-with_level zero change change' e (level ∷ above) = ap (λ n. n ∷ map length above) (e level)
  lengths-with_level (suc h) change change' e [] = ap (λ l. 0 ∷ l) (lengths-with_level h change change' e [])
  lengths-with_level (suc h) change change' e (level ∷ above) = ap (λ l. length level ∷ l) (lengths-with_level h change change' e above)

  -- the length of one level
  pub length-level_at : (h : ℕ) (levels : List (List A)) → slice_index (map length levels) h ≡ length (level_at levels h)
  length-level_at zero [] = refl
  length-level_at (suc h) (level ∷ above) = length-level_at h above
  length-level_at _ _ = refl

  length-insert_in_order : (cmp : A → A → Ordering) (x : A) (xs : List A) → length (insert_in_order cmp x xs) ≡ suc (length xs)
  length-insert_in_order cmp x [] = refl
  length-insert_in_order cmp x (y ∷ ys) = grind (arith, length-insert_in_order cmp x ys)

  -- sorting keeps the length
  pub length-sort : (cmp : A → A → Ordering) (xs : List A) → length (sort cmp xs) ≡ length xs
  length-sort cmp [] = refl
  length-sort cmp (x ∷ xs) = length-insert_in_order cmp x (sort cmp xs) ∙ ap suc (length-sort cmp xs)

  -- both halves of a list of even length are equally long
  pub length-half : (parity : Bool) (n : ℕ) (xs : List A) → length xs ≡ 2 * n → length (half parity xs) ≡ n
  length-half parity n [] e = omega (arith, e)
  length-half true (suc n) (x ∷ y ∷ xs) e = ap suc (length-half true n xs (omega (arith, e)))
  length-half false (suc n) (x ∷ y ∷ xs) e = ap suc (length-half false n xs (omega (arith, e)))
  length-half parity _ (x ∷ _) e = absurd (omega (arith, e))

  -- the number of items that a compaction leaves
  pub length-left : (cmp : A → A → Ordering) (taken : Taken) (in_list_order : Bool) (level : List A) → length (cut cmp taken in_list_order level).0 ≡ length level - takes taken (length level)
  length-left cmp taken in_list_order level = grind (arith, common_steps, length-drop, length-take, length-sort)

  -- the number of items that a compaction takes
  pub length-taken : (cmp : A → A → Ordering) (taken : Taken) (in_list_order : Bool) (level : List A) → length (cut cmp taken in_list_order level).1 ≡ takes taken (length level)
  length-taken cmp taken in_list_order level = grind (arith, common_steps, length-sort, length-take, length-drop)

  -- the level lengths of a bag and the scratch
  work_lengths : Work (Bag A) → Work (List ℕ)
  work_lengths work = record { bag = bag_lengths work.bag; scratch = bag_lengths work.scratch }

  -- an action changes the level lengths of a bag and the scratch as `act_on_lengths` says
  lengths-act : (cmp : A → A → Ordering) (s : ℕ) (action : Action A) (next : Bool) (work : Work (Bag A)) (world : World (List ℕ)) → TakesEven (At s action) world →
      world.slots s ≡ bag_lengths work.bag → work_lengths (act cmp action next work) ≡ act_on_lengths action (work_lengths work)
  unfolding work_lengths both_lengths
  lengths-act cmp s (Put h x) next work world evens slot =
      ap (λ b. both_lengths b (bag_lengths work.scratch)) (lengths-with_level h (λ level. level ++ x ∷ []) (λ n. n + 1) (λ level. length-append level (x ∷ [])) work.bag.levels)
  lengths-act cmp s Pull next work world evens slot = grind (arith, common_steps, length-level_at, both_lengths, lengths-with_level, length-append, length-take, length-drop)
  lengths-act cmp s (Join h) next work world evens slot = grind (arith, common_steps, length-level_at, both_lengths, lengths-with_level, length-append)
  lengths-act cmp s (Compact h coin taken) next work world evens slot =
      let level = level_at work.bag.levels h in
      let in_list_order = h == 0 && not work.bag.is_sorted in
      let parts = cut cmp taken in_list_order level in
      let parity = parity_up taken (bit_of coin h next work.bag) (level_at work.bag.levels (suc h)) in
      let up = half parity parts.1 in
      let n = slice_index (bag_lengths work.bag) h in
      let is = length-level_at h work.bag.levels in
      let up_is : length up ≡ takes taken n / 2 = length-half parity _ parts.1
      (length-taken cmp taken in_list_order level ∙ (ap (takes taken) (sym is) ∙ even (takes taken n) (subst (λ (l : List ℕ). takes taken (slice_index l h) % 2 ≡ 0) slot evens))) in
      ap (λ b. both_lengths b (bag_lengths work.scratch))
      (lengths-with_level (suc h) (λ l. l ++ up) (λ m. m + takes taken n / 2) (λ l. length-append l up ∙ ap (λ k. length l + k) up_is) (with_level [] h (λ l. parts.0) work.bag.levels) ∙
      ap (with_level 0 (suc h) (λ m. m + takes taken n / 2))
      (lengths-with_level h (λ l. parts.0) (λ m. n - takes taken n) (λ l. length-left cmp taken in_list_order level ∙ ap (λ k. k - takes taken k) (sym is)) work.bag.levels))
  lengths-act cmp s _ next work world evens slot = refl

  -- an event changes the level lengths of a world as `lengths_after` says
  pub lengths-happens : (cmp : A → A → Ordering) (e : Event A) (next : Bool) (world : World (Bag A)) → TakesEven e (world_lengths world) →
      world_lengths (happens (act cmp) e next world) ≡ lengths_after e (world_lengths world)
  unfolding work_lengths
  lengths-happens cmp (Snap s t) next world evens = refl
  lengths-happens cmp (At s action) next world evens =
      let same = lengths-act cmp s action next (record { bag = world.slots s; scratch = world.scratch }) (world_lengths world) evens refl in
      ap₂ (λ (slots : ℕ → List ℕ) (scratch : List ℕ). record { slots = slots; scratch = scratch; target = world.target })
      (fun_ext (λ i. changed-through world.slots bag_lengths s _ i ∙ ap (λ (w : Work (List ℕ)). changed (λ j. bag_lengths (world.slots j)) s w.bag i) same))
      (ap (λ (w : Work (List ℕ)). w.scratch) same)

  -- each KLL compaction takes an even number of items
  pub even-kll : (e : Event A) (world : World (List ℕ)) → is_kll e ≡ true → TakesEven e world
  even-kll e world kll = grind (arith, common_steps, false≢true)

  -- the level lengths after a whole play
  pub lengths-play : (cmp : A → A → Ordering) (trace : List (Event A)) (word : List Bool) (world : World (Bag A)) → Along TakesEven trace (world_lengths world) →
      world_lengths (play cmp trace word world) ≡ fold (λ w e. lengths_after e w) (world_lengths world) trace
  lengths-play cmp [] word world evens = refl
  lengths-play cmp (e ∷ es) word world evens =
      let same = lengths-happens cmp e (next_bit word) world evens.0 in
      lengths-play cmp es (if event_draws e then drop 1 word else word) (happens (act cmp) e (next_bit word) world) (subst (λ w. Along TakesEven es w) (sym same) evens.1) ∙
      ap (λ w. fold (λ w e. lengths_after e w) w es) same

  -- the level lengths of a bag and the scratch after KLL actions
  lengths-all : (cmp : A → A → Ordering) (actions : List (Action A)) (word : List Bool) (work : Work (Bag A)) → AllByRecursion (λ action. IsTrue (is_kll_action action)) actions →
      work_lengths (acts cmp actions word work) ≡ acts_on_lengths actions (work_lengths work)
  lengths-all cmp [] word work kll = refl
  lengths-all cmp (action ∷ rest) word work kll =
      let world : World (List ℕ) = record { slots = λ s. bag_lengths work.bag; scratch = bag_lengths work.scratch; target = 0 } in
      let same = lengths-act cmp 0 action (next_bit word) work world (even-kll (At 0 action) world kll.0) refl in
      lengths-all cmp rest (if draws action then drop 1 word else word) (act cmp action (next_bit word) work) kll.1 ∙ ap (acts_on_lengths rest) same

  -- the level lengths of a bag after KLL actions
  pub lengths-acts : (cmp : A → A → Ordering) (actions : List (Action A)) (word : List Bool) (work : Work (Bag A)) → AllByRecursion (λ action. IsTrue (is_kll_action action)) actions →
      bag_lengths (acts cmp actions word work).bag ≡ (acts_on_lengths actions (record { bag = bag_lengths work.bag; scratch = bag_lengths work.scratch })).bag
  unfolding work_lengths
  lengths-acts cmp actions word work kll = ap (λ (w : Work (List ℕ)). w.bag) (lengths-all cmp actions word work kll)

-- The true ranks along a trace, and what an event does to them.

-- a relation that holds of 0 and of sums
module _ {A : Type 0} (P : ℕ → ℕ → ℕ → Type 0) (nothing : P 0 0 0) (sums : (a b c a' b' c' : ℕ) → P a b c → P a' b' c' → P (a + a') (b + b') (c + c')) where
  -- it still holds after an event, if it holds of what each Put adds
  pub related-after : (p p' p'' : ℕ → A → ℕ) → ((h : ℕ) (x : A) → P (p h x) (p' h x) (p'' h x)) → (e : Event A) (a b c : ℕ → ℕ) → ((j : ℕ) → P (a j) (b j) (c j)) →
      (j : ℕ) → P (after_event p e a j) (after_event p' e b j) (after_event p'' e c j)
  related-after p p' p'' put (Snap s i) a b c h = changed-all P a b c i _ _ _ h (sums _ _ _ _ _ _ (h i) (h s))
  related-after p p' p'' put (At s (Put n x)) a b c h = changed-all P a b c s _ _ _ h (sums _ _ _ _ _ _ (h s) (put n x))
  related-after p p' p'' put (At s Clear) a b c h = changed-all P a b c s 0 0 0 h nothing
  related-after p p' p'' put (At s _) a b c h = h

  -- it holds of three true ranks after a trace, if it does before
  pub true_ranks-related : (t t' t'' : A → Bool) → ((h : ℕ) (x : A) → P (if t x then 2 ^ h else 0) (if t' x then 2 ^ h else 0) (if t'' x then 2 ^ h else 0)) →
      (trace : List (Event A)) (a b c : ℕ → ℕ) → ((j : ℕ) → P (a j) (b j) (c j)) → (slot : ℕ) → P (true_ranks t trace a slot) (true_ranks t' trace b slot) (true_ranks t'' trace c slot)
  true_ranks-related t t' t'' put [] a b c h slot = h slot
  true_ranks-related t t' t'' put (At s Pull ∷ es) a b c h slot = true_ranks-related t t' t'' put es a b c h slot
  true_ranks-related t t' t'' put (e ∷ es) a b c h slot =
      true_ranks-related t t' t'' put es (ranks_after t e a) (ranks_after t' e b) (ranks_after t'' e c) (related-after _ _ _ put e a b c h) slot

module _ {A : Type 0} (test : A → Bool) where
  -- true ranks that average before a trace average after it
  pub true_ranks-average : (trace : List (Event A)) (a b c : ℕ → ℕ) → ((j : ℕ) → a j + b j ≡ 2 * c j) → (slot : ℕ) →
      true_ranks test trace a slot + true_ranks test trace b slot ≡ 2 * true_ranks test trace c slot
  true_ranks-average = true_ranks-related (λ a b c. a + b ≡ 2 * c) (omega arith) (λ a b c a' b' c' e e'. omega (arith, e, e')) test test test (λ h x. omega arith)

  -- equal true ranks stay equal
  pub true_ranks-same : (trace : List (Event A)) (a b : ℕ → ℕ) → ((j : ℕ) → a j ≡ b j) → (slot : ℕ) → true_ranks test trace a slot ≡ true_ranks test trace b slot
  true_ranks-same trace a b h slot = omega (arith, true_ranks-average trace a a b (λ j. omega (arith, h j)) slot)

  -- a test as a number: 1 if an item passes, else 0
  abbrev pub one : A → ℕ
  one x = cond (test x) 1 0

  -- what a slot counts, with what the scratch counts if the slot is its target
  abbrev pub held : World (Bag A) → ℕ → ℕ
  held = with_scratch (weigh (sum_by one) 0)

  is_measure : IsMeasure (weigh (sum_by one) 0)
  is_measure = record { none = weigh-empty one 0; moves = moved-keeps one }

  -- if the scratch counts nothing, a slot holds its own rank
  pub held-settled : (world : World (Bag A)) → rank one world.scratch ≡ 0 → (i : ℕ) → held world i ≡ rank one (world.slots i)
  held-settled world e i = settled is_measure world e i

  -- so it does if the scratch has no items, as at the end of a run
  pub held-ended : (world : World (Bag A)) → sum (bag_lengths world.scratch) ≡ 0 → (i : ℕ) → held world i ≡ rank one (world.slots i)
  held-ended world e i = held-settled world (scratch-none is_measure world.scratch e) i

  -- each event but a compaction changes what the slots hold as it changes true ranks
  pub held-event : (cmp : A → A → Ordering) (e : Event A) (next : Bool) (world : World (Bag A)) → compacts e ≡ false → IsTrue (sum (bag_lengths world.scratch) == 0 || goes_on e world.target) →
      (i : ℕ) → held (happens (act cmp) e next world) i ≡ ranks_after test e (held world) i
  held-event cmp (At s (Compact h coin taken)) next world still = absurd (false≢true (sym still))
  held-event cmp e next world still =
      let one_item : (h : ℕ) (b : Bool) → 2 ^ h * (0 + cond b 1 0) ≡ (if b then 2 ^ h else 0) = λ h b. grind arith in
      with-event is_measure cmp (λ h x. if test x then 2 ^ h else 0)
      (λ h x levels. weigh-added one h (x ∷ []) levels ∙ ap (λ n. weigh (sum_by one) 0 levels + n) (one_item h (test x))) e next world still

  -- a compaction that doesn't change the rank of its slot's bag doesn't change what any slot holds
  pub held-unchanged : (cmp : A → A → Ordering) (s h : ℕ) (coin : Coin) (taken : Taken) (next : Bool) (world : World (Bag A)) (i : ℕ) →
      (i ≡ s → rank one (act cmp (Compact h coin taken) next (record { bag = world.slots s; scratch = world.scratch })).bag ≡ rank one (world.slots s)) →
      held (happens (act cmp) (At s (Compact h coin taken)) next world) i ≡ held world i
  held-unchanged cmp s h coin taken next world i same = grind (arith, eqb-true, ap (λ j. rank one (world.slots j)))

  -- what a slot holds after a compaction by either bit averages to what it held before
  pub held-compact : (cmp : A → A → Ordering) (s h : ℕ) (taken : Taken) (world : World (Bag A)) (i : ℕ) →
      held (happens (act cmp) (At s (Compact h Fresh taken)) false world) i + held (happens (act cmp) (At s (Compact h Fresh taken)) true world) i ≡ 2 * held world i
  held-compact cmp s h taken world i = grind (arith, common_steps, rank, changed-through, changed-all, compaction-averages, changed-own)

-- What a rank in one slot before some events counts in another slot after them.

-- c in slot s, and 0 in the others
abbrev pub only : ℕ → ℕ → ℕ → ℕ
only s c i = if i == s then c else 0

module _ {A : Type 0} where
  -- what a rank of c in slot s before the events counts in the slot after them
  abbrev pub counts_in : List (Event A) → ℕ → ℕ → ℕ → ℕ
  counts_in es slot s c = true_ranks (λ x. false) es (only s c) slot

  -- ranks of slots that don't get into the slot count nothing in it
  counts-unreached : (es : List (Event A)) (slot : ℕ) (ranks : ℕ → ℕ) → ((i : ℕ) → reaches es slot i ≡ true → ranks i ≡ 0) → true_ranks (λ x. false) es ranks slot ≡ 0
  counts-unreached [] slot ranks none = none slot (eq-eqb slot slot refl)
  counts-unreached (Snap s t ∷ es) slot ranks none = counts-unreached es slot (changed ranks t (ranks t + ranks s)) (λ i e. grind (arith, eqb-true))
  counts-unreached (At s (Put h x) ∷ es) slot ranks none = counts-unreached es slot (changed ranks s (ranks s + 0)) (λ i e. grind (arith, eqb-true, none))
  counts-unreached (At s Clear ∷ es) slot ranks none = counts-unreached es slot (changed ranks s 0) (λ i e. grind (arith, eqb-true, none))
  counts-unreached (At s _ ∷ es) slot ranks none = counts-unreached es slot ranks none

  -- slot s counts nothing in the slot if it doesn't get there
  pub counts-none : (es : List (Event A)) (slot s c : ℕ) → reaches es slot s ≡ false → counts_in es slot s c ≡ 0
  counts-none es slot s c misses = counts-unreached es slot (only s c) (λ i e. grind (arith, eqb-true))

  -- true ranks add up
  ranks-add : (test : A → Bool) (es : List (Event A)) (a b : ℕ → ℕ) (slot : ℕ) → true_ranks test es a slot + true_ranks (λ x. false) es b slot ≡ true_ranks test es (λ i. a i + b i) slot
  ranks-add test es a b slot = true_ranks-related (λ x y z. x + y ≡ z) refl (λ a b c a' b' c' e e'. omega (arith, e, e'))
      test (λ x. false) test (λ h x. omega arith) es a b (λ i. a i + b i) (λ i. refl) slot

  -- ranks with equal sums count the same
  pub counts-both : (es : List (Event A)) (slot s a b c d : ℕ) → a + b ≡ c + d → counts_in es slot s a + counts_in es slot s b ≡ counts_in es slot s c + counts_in es slot s d
  counts-both es slot s a b c d e = (ranks-add (λ x. false) es (only s a) (only s b) slot ∙ true_ranks-same (λ x. false) es _ _ (λ i. grind arith) slot) ∙ (ap (λ m. counts_in es slot s m) e ∙ sym (ranks-add (λ x. false) es (only s c) (only s d) slot ∙ true_ranks-same (λ x. false) es _ _ (λ i. grind arith) slot))

  -- true ranks from ranks that differ in one slot only
  pub counts-moved : (test : A → Bool) (es : List (Event A)) (a b : ℕ → ℕ) (slot s c d : ℕ) → ((i : ℕ) → a i + only s c i ≡ b i + only s d i) →
      true_ranks test es a slot + counts_in es slot s c ≡ true_ranks test es b slot + counts_in es slot s d
  counts-moved test es a b slot s c d e = ranks-add test es a (only s c) slot ∙ (true_ranks-same test es _ _ e slot ∙ sym (ranks-add test es b (only s d) slot))
