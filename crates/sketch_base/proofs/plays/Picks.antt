-- One slot's bag along a trace: the actions on the slot since it was last cleared, and the bits of a word that they take.
-- A merge takes in the other slot's actions with their bits, so a bag is that of one list of actions, whatever merges made it.
use Rattle.std.proofs.lemmas.Grind.{common_steps}
use Rattle.std.proofs.Common.{◌≡◌, ℕ, zero, suc, ◌+◌, ◌*◌, ◌^◌, ◌≤◌, Bool, true, false, not, ◌&&◌, ◌==◌, if◌then◌else◌, cond, List, [], ◌∷◌, ◌++◌, drop, map, IsTrue, refl, sym, ap, ap₂, ◌∙◌, subst, arith, eqb-true, append-nil, Ordering}
use Rattle.std.specs.List.{AllByRecursion}
use Rattle.std.proofs.lemmas.Bool.{false≢true, eq-eqb}
use Rattle.std.proofs.lemmas.List.Sums.{sum_by-cons}
use Rattle.sketch_base.specs.Bag.{Bag, empty_bag}
use Rattle.sketch_base.specs.Trace.{Action, Put, Compact, Forget, Clear, Event, Snap, At, Work, World, act, acts, happens, alone, draws, draws_of, event_draws, next_bit, bag_after, play, coins}
use Rattle.sketch_base.specs.Words.{sum_over_words}
use Rattle.sketch_base.proofs.unbiased.Average.{sum_over_words-add, sum_over_words-const}

twice : (w w2 all few : ℕ) → w2 ≡ 2 * w → all ≡ w * few → all + all ≡ w2 * few
twice w w2 all few e h = omega (arith, h, ap (λ n. n * few) e)

-- events, and the same events without some of the Forgets
pub data Sheds {A : Type 0} : List (Event A) → List (Event A) → Type 0 where
  none : Sheds [] []
  kept : (e : Event A) (es es' : List (Event A)) → Sheds es es' → Sheds (e ∷ es) (e ∷ es')
  shed : (s : ℕ) (es es' : List (Event A)) → Sheds es es' → Sheds (At s Forget ∷ es) es'

module _ {A : Type 0} where
  -- whether an action is one of an update: a Put or a Compact
  abbrev pub is_plain : Action A → Bool
  is_plain (Put h x) = true
  is_plain (Compact h coin taken) = true
  is_plain _ = false

  -- all actions are Puts and Compacts
  abbrev pub ArePlain : List (Action A) → Type 0
  ArePlain = AllByRecursion (λ action. IsTrue (is_plain action))

  abbrev is_clear : Action A → Bool
  is_clear Clear = true
  is_clear _ = false

  -- whether no event clears the slot
  abbrev pub stays : ℕ → List (Event A) → Bool
  stays slot [] = true
  stays slot (Snap s t ∷ es) = stays slot es
  stays slot (At s action ∷ es) = not (slot == s && is_clear action) && stays slot es

  -- whether an action on slot s is one on the slot, is no Clear, and isn't followed by a Clear of the slot
  abbrev lasts : ℕ → ℕ → Action A → List (Event A) → Bool
  lasts slot s action es = slot == s && (not (is_clear action) && stays slot es)

  -- the slot's actions since it was last cleared
  abbrev pub picked : ℕ → List (Event A) → List (Action A)
  picked slot [] = []
  picked slot (Snap s t ∷ es) = picked slot es
  picked slot (At s action ∷ es) = if lasts slot s action es then action ∷ picked slot es else picked slot es

  -- the bits of a word that these actions take
  abbrev pub pick : ℕ → List (Event A) → List Bool → List Bool
  pick slot [] word = []
  pick slot (Snap s t ∷ es) word = pick slot es word
  pick slot (At s action ∷ es) word = if draws action then (if lasts slot s action es then next_bit word ∷ pick slot es (drop 1 word) else pick slot es (drop 1 word)) else pick slot es word

  -- ---- the bag

  module _ (cmp : A → A → Ordering) where
    plain-act : (action : Action A) (bit bit' : Bool) (bag scratch : Bag A) → IsTrue (is_plain action) → (draws action ≡ true → bit ≡ bit') →
        act cmp action bit (alone bag) ≡ alone (act cmp action bit' (record { bag = bag; scratch = scratch })).bag
    plain-act action bit bit' bag scratch plain same = grind (arith, common_steps, false≢true)

    clear-act : (action : Action A) (bit : Bool) (bag scratch : Bag A) → is_clear action ≡ true → (act cmp action bit (record { bag = bag; scratch = scratch })).bag ≡ empty_bag
    clear-act action bit bag scratch e = grind (arith, common_steps, false≢true)

    -- actions on other slots don't matter, nor do those on the slot before it was last cleared
    pub play-picked : (slot : ℕ) (trace : List (Event A)) (word : List Bool) (world : World (Bag A)) → ArePlain (picked slot trace) →
        (play cmp trace word world).slots slot ≡ bag_after cmp (picked slot trace) (pick slot trace word) (if stays slot trace then world.slots slot else empty_bag)
    play-picked slot [] word world plain = refl
    play-picked slot (Snap s t ∷ es) word world plain = play-picked slot es word (happens (act cmp) (Snap s t) (next_bit word) world) plain
    play-picked slot (At s action ∷ es) word world plain = go (draws action) refl (slot == s) refl (is_clear action) refl (stays slot es) plain
        (play-picked slot es (if draws action then drop 1 word else word) (happens (act cmp) (At s action) (next_bit word) world))
      where
        next : Bag A
        next = (act cmp action (next_bit word) (record { bag = world.slots s; scratch = world.scratch })).bag

        result : Bag A
        result = (play cmp (At s action ∷ es) word world).slots slot

        -- an action on the slot that counts
        takes : (slot == s) ≡ true → IsTrue (is_plain action) → (bits bits' : List Bool) → (if draws action then drop 1 bits else bits) ≡ bits' →
            (draws action ≡ true → next_bit bits ≡ next_bit word) → bag_after cmp (action ∷ picked slot es) bits (world.slots slot) ≡ bag_after cmp (picked slot es) bits' next
        takes here plain bits bits' rest same = ap₂ (λ (v : List Bool) (work : Work (Bag A)). (acts cmp (picked slot es) v work).bag) rest (grind (arith, common_steps, plain-act, eqb-true))

        go : (drawn : Bool) → draws action ≡ drawn → (here : Bool) → (slot == s) ≡ here → (clear : Bool) → is_clear action ≡ clear → (rest : Bool) →
            ArePlain (if here && (not clear && rest) then action ∷ picked slot es else picked slot es) →
            (ArePlain (picked slot es) → result ≡ bag_after cmp (picked slot es) (pick slot es (if drawn then drop 1 word else word))
            (if rest then (if here then next else world.slots slot) else empty_bag)) →
            result ≡ bag_after cmp (if here && (not clear && rest) then action ∷ picked slot es else picked slot es)
            (if drawn then (if here && (not clear && rest) then next_bit word ∷ pick slot es (drop 1 word) else pick slot es (drop 1 word)) else pick slot es word)
            (if not (here && clear) && rest then world.slots slot else empty_bag)
        go true d true k true c true p ih = ih p ∙ ap (bag_after cmp (picked slot es) (pick slot es (drop 1 word))) (clear-act action (next_bit word) (world.slots s) world.scratch c)
        go false d true k true c true p ih = ih p ∙ ap (bag_after cmp (picked slot es) (pick slot es word)) (clear-act action (next_bit word) (world.slots s) world.scratch c)
        go true d true k false c true p ih =
            let bits : List Bool = next_bit word ∷ pick slot es (drop 1 word) in
            ih p.1 ∙ sym (takes k p.0 bits (pick slot es (drop 1 word)) (ap (λ (b : Bool). if b then drop 1 bits else bits) d) (λ e. refl))
        go false d true k false c true p ih =
            let bits : List Bool = pick slot es word in
            ih p.1 ∙ sym (takes k p.0 bits bits (ap (λ (b : Bool). if b then drop 1 bits else bits) d) (λ e. absurd (false≢true (sym d ∙ e))))
        go _ d _ k _ c _ p ih = ih p

  -- ---- the bits

  -- the actions take some of the n bits of a word: what depends on these bits alone has a sum over all words
  -- that is 2^others times its sum over these bits
  pub record Shares (n : ℕ) (actions : List (Action A)) (bits : List Bool → List Bool) (f : List Bool → ℕ) : Type 0 where
    pub others : ℕ
    pub all : n ≡ others + draws_of actions
    pub sums : sum_over_words n (λ word. f (bits word)) ≡ 2 ^ others * sum_over_words (draws_of actions) f

  -- so it is for the picked actions and their bits
  pub sum-picked : (slot : ℕ) (trace : List (Event A)) (n : ℕ) (f : List Bool → ℕ) → coins trace ≤ n → Shares n (picked slot trace) (pick slot trace) f
  sum-picked slot [] n f enough = record { others = n; all = omega arith; sums = sum_over_words-const n (f []) }
  sum-picked slot (Snap s t ∷ es) n f enough = sum-picked slot es n f (let e : Event A = Snap s t in omega (arith, sum_by-cons (λ e. cond (event_draws e) 1 0) e es, enough))
  sum-picked slot (At s action ∷ es) n f enough = go (draws action) refl (lasts slot s action es) n enough (sum-picked slot es)
    where
      fewer : (b : Bool) (n : ℕ) → draws action ≡ b → coins (At s action ∷ es) ≤ n → cond b 1 0 + coins es ≤ n
      fewer b n e enough = omega (arith, sum_by-cons (λ e. cond (event_draws e) 1 0) (At s action) es, ap {B = ℕ} (λ (b : Bool). cond b 1 0) e, enough)

      more : (b : Bool) → draws action ≡ b → draws_of (action ∷ picked slot es) ≡ cond b 1 0 + draws_of (picked slot es)
      more b e = omega (arith, sum_by-cons (λ a. cond (draws a) 1 0) action (picked slot es), ap {B = ℕ} (λ (b : Bool). cond b 1 0) e)

      go : (drawn : Bool) → draws action ≡ drawn → (last : Bool) (n : ℕ) → coins (At s action ∷ es) ≤ n → ((n : ℕ) (f : List Bool → ℕ) → coins es ≤ n → Shares n (picked slot es) (pick slot es) f) →
          Shares n (if last then action ∷ picked slot es else picked slot es)
          (λ word. if drawn then (if last then next_bit word ∷ pick slot es (drop 1 word) else pick slot es (drop 1 word)) else pick slot es word) f
      go true d last zero enough ih = absurd (let e = fewer true 0 d enough in omega (arith, e))
      go true d true (suc n) enough ih =
          let r = ih n (λ word. f (false ∷ word) + f (true ∷ word)) (let e = fewer true (suc n) d enough in omega (arith, e)) in
          let d' : draws_of (action ∷ picked slot es) ≡ suc (draws_of (picked slot es)) = omega (arith, more true d) in
          record { others = r.others; all = omega (arith, r.all, d'); sums = r.sums ∙ ap (λ (k : ℕ). 2 ^ r.others * sum_over_words k f) (sym d') }
      go true d false (suc n) enough ih =
          let r = ih n f (let e = fewer true (suc n) d enough in omega (arith, e)) in
          let bits = λ (word : List Bool). f (pick slot es word) in
          record { others = suc r.others; all = omega (arith, r.all); sums = sum_over_words-add n bits bits ∙ twice (2 ^ r.others) (2 ^ suc r.others) _ _ (omega arith) r.sums }
      go false d true n enough ih =
          let r = ih n f (let e = fewer false n d enough in omega (arith, e)) in
          let d' : draws_of (action ∷ picked slot es) ≡ draws_of (picked slot es) = omega (arith, more false d) in
          record { others = r.others; all = omega (arith, r.all, d'); sums = r.sums ∙ ap (λ (k : ℕ). 2 ^ r.others * sum_over_words k f) (sym d') }
      go false d false n enough ih = ih n f (let e = fewer false n d enough in omega (arith, e))

  -- ---- two traces in turn

  stays-on : (slot : ℕ) (xs ys : List (Event A)) → stays slot ys ≡ true → stays slot (xs ++ ys) ≡ stays slot xs
  stays-on slot [] ys e = e
  stays-on slot (Snap s t ∷ xs) ys e = stays-on slot xs ys e
  stays-on slot (At s action ∷ xs) ys e = ap (λ (b : Bool). not (slot == s && is_clear action) && b) (stays-on slot xs ys e)

  stays-off : (slot : ℕ) (xs ys : List (Event A)) → stays slot ys ≡ false → stays slot (xs ++ ys) ≡ false
  stays-off slot [] ys e = e
  stays-off slot (Snap s t ∷ xs) ys e = stays-off slot xs ys e
  stays-off slot (At s action ∷ xs) ys e = grind (arith, stays-off slot xs ys e)

  picked-on : (slot : ℕ) (xs ys : List (Event A)) → stays slot ys ≡ true → picked slot (xs ++ ys) ≡ picked slot xs ++ picked slot ys
  picked-on slot [] ys e = refl
  picked-on slot (Snap s t ∷ xs) ys e = picked-on slot xs ys e
  picked-on slot (At s action ∷ xs) ys e = grind (arith, stays-on slot xs ys e, picked-on slot xs ys e)

  picked-off : (slot : ℕ) (xs ys : List (Event A)) → stays slot ys ≡ false → picked slot (xs ++ ys) ≡ picked slot ys
  picked-off slot [] ys e = refl
  picked-off slot (Snap s t ∷ xs) ys e = picked-off slot xs ys e
  picked-off slot (At s action ∷ xs) ys e = grind (arith, stays-off slot xs ys e, picked-off slot xs ys e)

  plain-stays : (action : Action A) → IsTrue (is_plain action) → is_clear action ≡ false
  plain-stays action p = grind (arith, common_steps, false≢true)

  stays-plain : (slot : ℕ) (actions : List (Action A)) → ArePlain actions → stays slot (map (λ action. At slot action) actions) ≡ true
  stays-plain slot [] p = refl
  stays-plain slot (action ∷ rest) p = grind (arith, plain-stays action p.0, stays-plain slot rest p.1)

  stays-away : (slot s : ℕ) (actions : List (Action A)) → (slot == s) ≡ false → stays slot (map (λ action. At s action) actions) ≡ true
  stays-away slot s [] e = refl
  stays-away slot s (action ∷ rest) e = grind (arith, stays-away slot s rest e)

  -- after a Clear of the slot no action is picked
  pub picked-cleared : (slot : ℕ) (xs : List (Event A)) → picked slot (xs ++ At slot Clear ∷ []) ≡ []
  picked-cleared slot xs = grind (arith, picked-off slot xs (At slot Clear ∷ []), eq-eqb slot slot refl)

  -- no action on another slot is picked
  picked-nothing : (slot s : ℕ) (actions : List (Action A)) → (slot == s) ≡ false → picked slot (map (λ action. At s action) actions) ≡ []
  picked-nothing slot s [] e = refl
  picked-nothing slot s (action ∷ rest) e = grind (arith, picked-nothing slot s rest e)

  -- actions on another slot, or a merge into it, don't change what is picked
  pub picked-away : (slot s : ℕ) (xs : List (Event A)) (actions : List (Action A)) → (slot == s) ≡ false → picked slot (xs ++ map (λ action. At s action) actions) ≡ picked slot xs
  picked-away slot s xs actions e = grind (arith, common_steps, picked-on, stays-away, picked-nothing, append-nil)

  pub picked-joined : (slot from s : ℕ) (xs : List (Event A)) (actions : List (Action A)) → (slot == s) ≡ false → picked slot (xs ++ Snap from s ∷ map (λ action. At s action) actions) ≡ picked slot xs
  picked-joined slot from s xs actions e = grind (arith, common_steps, picked-on, stays-away, picked-nothing, append-nil)

  -- plain actions on the slot are picked
  pub picked-more : (slot : ℕ) (xs : List (Event A)) (actions : List (Action A)) → ArePlain actions → picked slot (xs ++ map (λ action. At slot action) actions) ≡ picked slot xs ++ actions
  picked-more slot xs actions plain = picked-on slot xs (map (λ action. At slot action) actions) (stays-plain slot actions plain) ∙ ap (λ l. picked slot xs ++ l) (all actions plain)
    where
      all : (actions : List (Action A)) → ArePlain actions → picked slot (map (λ action. At slot action) actions) ≡ actions
      all [] p = refl
      all (action ∷ rest) p = grind (arith, eq-eqb slot slot refl, plain-stays action p.0, stays-plain slot rest p.1, all rest p.1)

  -- ---- some Forgets left out

  -- leaving out none, and leaving out some of each of two traces
  pub sheds-none : (es : List (Event A)) → Sheds es es
  sheds-none [] = none
  sheds-none (e ∷ es) = kept e es es (sheds-none es)

  pub sheds-append : (xs xs' ys ys' : List (Event A)) → Sheds xs xs' → Sheds ys ys' → Sheds (xs ++ ys) (xs' ++ ys')
  sheds-append _ _ ys ys' none h = h
  sheds-append _ _ ys ys' (kept e es es' g) h = kept e (es ++ ys) (es' ++ ys') (sheds-append es es' ys ys' g h)
  sheds-append _ _ ys ys' (shed s es es' g) h = shed s (es ++ ys) (es' ++ ys') (sheds-append es es' ys ys' g h)

  stays-shed : (slot : ℕ) (es es' : List (Event A)) → Sheds es es' → stays slot es' ≡ stays slot es
  stays-shed slot _ _ none = refl
  stays-shed slot _ _ (kept (Snap s t) es es' h) = stays-shed slot es es' h
  stays-shed slot _ _ (kept (At s action) es es' h) = ap (λ (b : Bool). not (slot == s && is_clear action) && b) (stays-shed slot es es' h)
  stays-shed slot _ _ (shed s es es' h) = grind (arith, stays-shed slot es es' h)

  -- the picked actions and their bits stay the same, if they are plain
  picked-shed : (slot : ℕ) (es es' : List (Event A)) → Sheds es es' → ArePlain (picked slot es) →
      (picked slot es' ≡ picked slot es) × ((word : List Bool) → pick slot es' word ≡ pick slot es word)
  picked-shed slot _ _ none plain = (refl, λ word. refl)
  picked-shed slot _ _ (kept (Snap s t) es es' h) plain = picked-shed slot es es' h plain
  picked-shed slot _ _ (kept (At s action) es es' h) plain = grind (arith, common_steps, stays-shed, picked-shed slot es es' h)
  picked-shed slot _ _ (shed s es es' h) plain = grind (arith, common_steps, false≢true, picked-shed slot es es' h)

  -- so does the slot's bag in the end
  pub play-shed : (cmp : A → A → Ordering) (slot : ℕ) (es es' : List (Event A)) → Sheds es es' → ArePlain (picked slot es) → (word : List Bool) (world : World (Bag A)) →
      (play cmp es' word world).slots slot ≡ (play cmp es word world).slots slot
  play-shed cmp slot es es' h plain word world =
      let same = picked-shed slot es es' h plain in
      play-picked cmp slot es' word world (subst ArePlain (sym same.0) plain)
      ∙ (ap₂ (λ (actions : List (Action A)) (bits : List Bool). bag_after cmp actions bits (if stays slot es' then world.slots slot else empty_bag)) same.0 (same.1 word)
      ∙ (ap (λ (b : Bool). bag_after cmp (picked slot es) (pick slot es word) (if b then world.slots slot else empty_bag)) (stays-shed slot es es' h)
      ∙ sym (play-picked cmp slot es word world plain)))
