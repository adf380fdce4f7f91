-- Summed over all coin words, what compactions gain and lose is nothing, so the mean of a rank is the true rank. It goes level by level: two words
-- that differ in one fresh coin send up complementary halves, whose errors cancel. A turned coin counts as fresh if it complements a drawn one.
use Rattle.std.proofs.Common.{rules, ◌≡◌, ℕ, zero, suc, ◌+◌, ◌*◌, ◌^◌, ◌≤◌, Bool, true, false, cond, List, [], ◌∷◌, subst, refl, sym, ap, ◌∙◌, arith, Ordering, drop, ◌<◌, ◌==◌, ◌||◌, IsTrue, sum, if◌then◌else◌, eqb-true}
use Rattle.std.proofs.lemmas.Grind.{common_steps}
use Rattle.std.proofs.lemmas.List.Sums.{sum_by-cons}
use Rattle.std.proofs.lemmas.Bool.{false≢true}
use Rattle.sketch_base.specs.Bag.{Bag, weighted_rank, Taken}
use Rattle.sketch_base.specs.Trace.{Compact, Redraw, Fresh, Turned, Event, At, World, start, happens, event_draws, play, coins, act, is_kll, IsKll, Coin, next_bit, bit_of}
use Rattle.sketch_base.specs.Ranks.{true_ranks, rank_of_trace}
use Rattle.sketch_base.specs.Lengths.{world_lengths, start_lengths, ObeysScratch, bag_lengths, goes_on, Along, TakesEven}
use Rattle.sketch_base.proofs.plays.Plays.{lengths-happens, even-kll, one, held, held-settled, held-ended, true_ranks-same, true_ranks-average, held-event, held-compact, only, counts_in, counts-moved}
use Rattle.sketch_base.specs.Words.{sum_over_words}
use Rattle.sketch_base.proofs.bags.Acts.{sum_by-expanded, rank, sum_below, sum_below-add, sum_below-pick, up, down, compacted-moves}
use Rattle.std.specs.Prelude.{⊤}

-- The average of a slot's rank over all words.

-- sums over all words of equal terms are equal
pub sum_over_words-same : (n : ℕ) (f g : List Bool → ℕ) → ((word : List Bool) → f word ≡ g word) → sum_over_words n f ≡ sum_over_words n g
sum_over_words-same zero f g h = h []
sum_over_words-same (suc n) f g h = sum_over_words-same n (λ w. f (false ∷ w) + f (true ∷ w)) (λ w. g (false ∷ w) + g (true ∷ w)) (λ w. omega (arith, h (false ∷ w), h (true ∷ w)))

-- the sum over all words of two terms is the sum of both sums
pub sum_over_words-add : (n : ℕ) (f g : List Bool → ℕ) → sum_over_words n (λ word. f word + g word) ≡ sum_over_words n f + sum_over_words n g
sum_over_words-add zero f g = refl
sum_over_words-add (suc n) f g = grind (arith, common_steps, sum_over_words-same, sum_over_words-add n (λ w. f (false ∷ w) + f (true ∷ w)) (λ w. g (false ∷ w) + g (true ∷ w)))

-- the sum over all words of a constant
pub sum_over_words-const : (n c : ℕ) → sum_over_words n (λ word. c) ≡ 2 ^ n * c
sum_over_words-const zero c = omega arith
sum_over_words-const (suc n) c =
    let twice : 2 ^ suc n ≡ 2 * 2 ^ n = omega arith in
    sum_over_words-const n (c + c) ∙ omega (arith, ap (λ m. m * c) twice)

-- the arithmetic of one more bit, with a sum for each of its values
both_bits : (w w2 no_sum yes_sum a b c : ℕ) → w2 ≡ 2 * w → no_sum ≡ w * a → yes_sum ≡ w * b → a + b ≡ 2 * c → no_sum + yes_sum ≡ w2 * c
both_bits w w2 no_sum yes_sum a b c e p q h = omega (arith, ap (λ n. n * c) e, ap (λ n. w * n) h)

module _ {A : Type 0} (cmp : A → A → Ordering) (test : A → Bool) where
  -- an event that draws no coin: the ranks that the slots hold may be replaced by equal ones
  same_held : (es : List (Event A)) (n : ℕ) (world : World (Bag A)) (slot : ℕ) (ranks : ℕ → ℕ) (sum : ℕ) → sum ≡ 2 ^ n * true_ranks test es (held test world) slot →
      ((i : ℕ) → held test world i ≡ ranks i) → sum ≡ 2 ^ n * true_ranks test es ranks slot
  same_held es n world slot ranks sum e h = e ∙ ap (λ m. 2 ^ n * m) (true_ranks-same test es (held test world) ranks h slot)

  -- after an event of a play the rest of the trace still obeys the scratch rule
  pub still_obeys : (e : Event A) (es : List (Event A)) (next : Bool) (world : World (Bag A)) → ObeysScratch (e ∷ es) (world_lengths world) → is_kll e ≡ true →
      ObeysScratch es (world_lengths (happens (act cmp) e next world))
  still_obeys e es next world obeys kll = subst (λ w. ObeysScratch es w) (sym (lengths-happens cmp e next world (even-kll e (world_lengths world) kll))) obeys.1

  unbiased_from : (trace : List (Event A)) (n : ℕ) (world : World (Bag A)) (slot : ℕ) → ObeysScratch trace (world_lengths world) → IsKll trace → coins trace ≤ n →
      sum_over_words n (λ word. rank (one test) ((play cmp trace word world).slots slot)) ≡ 2 ^ n * true_ranks test trace (held test world) slot
  unbiased_from [] n world slot obeys kll enough = search (rules, sum_over_words-const, rank, one, held-ended)
  unbiased_from (At s (Redraw h) ∷ es) n world slot obeys kll enough = absurd (false≢true kll.0)
  unbiased_from (At s (Compact h Turned taken) ∷ es) n world slot obeys kll enough = absurd (false≢true kll.0)
  unbiased_from (At s (Compact h Fresh taken) ∷ es) zero world slot obeys kll enough =
      absurd (omega (arith, sum_by-cons (λ e. cond (event_draws e) 1 0) (At s (Compact h Fresh taken)) es, enough))
  unbiased_from (At s (Compact h Fresh taken) ∷ es) (suc n) world slot obeys kll enough =
      let e : Event A = At s (Compact h Fresh taken) in
      let heads = happens (act cmp) e false world in
      let tails = happens (act cmp) e true world in
      let less : coins es ≤ n = omega (arith, sum_by-cons (λ e. cond (event_draws e) 1 0) e es, enough) in
      sum_over_words-add n (λ w. rank (one test) ((play cmp es w heads).slots slot)) (λ w. rank (one test) ((play cmp es w tails).slots slot)) ∙
      both_bits (2 ^ n) (2 ^ suc n) _ _ _ _ _ (omega arith) (unbiased_from es n heads slot (still_obeys e es false world obeys kll.0) kll.1 less)
      (unbiased_from es n tails slot (still_obeys e es true world obeys kll.0) kll.1 less)
      (true_ranks-average test es (held test heads) (held test tails) (held test world) (held-compact test cmp s h taken world) slot)
  unbiased_from (e ∷ es) n world slot obeys kll enough = same_held es n (happens (act cmp) e false world) slot _ _
      (unbiased_from es n (happens (act cmp) e false world) slot (still_obeys e es false world obeys kll.0) kll.1 enough) (held-event test cmp e false world refl obeys.0)

  -- from a run's start the ranks over all words sum to the number of words times the true rank
  pub unbiased : (trace : List (Event A)) (n slot : ℕ) → IsKll trace → ObeysScratch trace start_lengths → coins trace ≤ n →
      sum_over_words n (λ word. weighted_rank cmp test ((play cmp trace word start).slots slot)) ≡ 2 ^ n * rank_of_trace test trace slot
  unbiased trace n slot kll obeys enough = sum_over_words-same n _ _ (λ word. sum_by-expanded (one test) cmp ((play cmp trace word start).slots slot)) ∙
      same_held trace n start slot (λ s. 0) _ (unbiased_from trace n start slot obeys kll enough) (held-settled test start refl)

-- What the compactions of a trace gain and lose, level by level, as far as it counts in a slot in the end.
-- A slot's rank differs from its true rank by these gains and losses.

module _ {A : Type 0} (cmp : A → A → Ordering) (f : A → ℕ) where
  -- the sum of the amounts that the compactions of level g move in a play, as far as they count in the slot in the end
  abbrev moved : (ℕ → ℕ → Coin → Taken → Bool → World (Bag A) → ℕ) → ℕ → List (Event A) → ℕ → List Bool → World (Bag A) → ℕ
  moved amount g [] slot word world = 0
  moved amount g (At s (Compact h coin taken) ∷ es) slot word world =
      let e : Event A = At s (Compact h coin taken) in
      (if h == g then counts_in es slot s (amount s h coin taken (next_bit word) world) else 0) +
      moved amount g es slot (if event_draws e then drop 1 word else word) (happens (act cmp) e (next_bit word) world)
  moved amount g (e ∷ es) slot word world = moved amount g es slot (if event_draws e then drop 1 word else word) (happens (act cmp) e (next_bit word) world)

  -- what these compactions gain, and what they lose
  abbrev pub gained : ℕ → List (Event A) → ℕ → List Bool → World (Bag A) → ℕ
  gained = moved (λ s h coin taken next world. up cmp f h taken (bit_of coin h next (world.slots s)) (world.slots s))

  abbrev pub lost : ℕ → List (Event A) → ℕ → List Bool → World (Bag A) → ℕ
  lost = moved (λ s h coin taken next world. down cmp f h taken (world.slots s))

module _ {A : Type 0} where
  -- all levels that are compacted are below top
  abbrev pub IsBelow : ℕ → List (Event A) → Type 0
  IsBelow top [] = ⊤
  IsBelow top (At s (Compact h coin taken) ∷ es) = (h < top) × IsBelow top es
  IsBelow top (e ∷ es) = IsBelow top es

  -- a level above all levels that are compacted
  abbrev pub top_of : List (Event A) → ℕ
  top_of [] = 0
  top_of (At s (Compact h coin taken) ∷ es) = suc h + top_of es
  top_of (e ∷ es) = top_of es

  below-more : (m n : ℕ) (es : List (Event A)) → m ≤ n → IsBelow m es → IsBelow n es
  below-more m n [] le b = tt
  below-more m n (At s (Compact h coin taken) ∷ es) le b = (omega (arith, b.0, le), below-more m n es le b.1)
  below-more m n (_ ∷ es) le b = below-more m n es le b

  -- all levels that are compacted are below it
  pub below_top : (es : List (Event A)) → IsBelow (top_of es) es
  below_top [] = tt
  below_top (At s (Compact h coin taken) ∷ es) = (omega arith, below-more (top_of es) (suc h + top_of es) es (omega arith) (below_top es))
  below_top (_ ∷ es) = below_top es

module _ {A : Type 0} (cmp : A → A → Ordering) (test : A → Bool) where
  -- the scratch rule along a play: while the scratch holds an item, all events go on with it, and at the end it holds none
  abbrev pub ScratchGoesOn : List (Event A) → List Bool → World (Bag A) → Type 0
  ScratchGoesOn [] word world = sum (bag_lengths world.scratch) ≡ 0
  ScratchGoesOn (e ∷ es) word world =
      IsTrue (sum (bag_lengths world.scratch) == 0 || goes_on e world.target) × ScratchGoesOn es (if event_draws e then drop 1 word else word) (happens (act cmp) e (next_bit word) world)

  -- a play obeys the scratch rule if the level lengths do and all compactions take an even number of items
  pub scratch_obeys : (es : List (Event A)) (word : List Bool) (world : World (Bag A)) → ObeysScratch es (world_lengths world) → Along TakesEven es (world_lengths world) → ScratchGoesOn es word world
  scratch_obeys [] word world obeys even = obeys
  scratch_obeys (e ∷ es) word world obeys even =
      let same = sym (lengths-happens cmp e (next_bit word) world even.0) in
      (obeys.0, scratch_obeys es _ _ (subst (λ w. ObeysScratch es w) same obeys.1) (subst (λ w. Along TakesEven es w) same even.1))

  -- a slot's rank in the end
  abbrev end_rank : List (Event A) → ℕ → List Bool → World (Bag A) → ℕ
  end_rank es slot word world = rank (one test) ((play cmp es word world).slots slot)

  -- the gains of all levels below top, and their losses
  abbrev pub all_gained : ℕ → List (Event A) → ℕ → List Bool → World (Bag A) → ℕ
  all_gained top es slot word world = sum_below top (λ g. gained cmp (one test) g es slot word world)

  abbrev pub all_lost : ℕ → List (Event A) → ℕ → List Bool → World (Bag A) → ℕ
  all_lost top es slot word world = sum_below top (λ g. lost cmp (one test) g es slot word world)

  -- the rank in the end plus the losses is the true rank, from these ranks, plus the gains
  abbrev IsAccounted : ℕ → List (Event A) → ℕ → List Bool → World (Bag A) → (ranks : ℕ → ℕ) → Type 0
  IsAccounted top es slot word world ranks = end_rank es slot word world + all_lost top es slot word world ≡ true_ranks test es ranks slot + all_gained top es slot word world

  from_ranks : (top : ℕ) (es : List (Event A)) (slot : ℕ) (word : List Bool) (world : World (Bag A)) (ranks : ℕ → ℕ) →
      IsAccounted top es slot word world (held test world) → ((i : ℕ) → held test world i ≡ ranks i) → IsAccounted top es slot word world ranks
  from_ranks top es slot word world ranks e same = e ∙ ap (λ m. m + all_gained top es slot word world) (true_ranks-same test es (held test world) ranks same slot)

  -- what a compaction takes from its slot, and what it sends up
  abbrev taken_down : ℕ → ℕ → Taken → World (Bag A) → ℕ
  taken_down s h taken world = down cmp (one test) h taken (world.slots s)

  abbrev gone_up : ℕ → ℕ → Coin → Taken → Bool → World (Bag A) → ℕ
  gone_up s h coin taken next world = up cmp (one test) h taken (bit_of coin h next (world.slots s)) (world.slots s)

  held-moves : (s h : ℕ) (coin : Coin) (taken : Taken) (next : Bool) (world : World (Bag A)) (i : ℕ) →
      held test (happens (act cmp) (At s (Compact h coin taken)) next world) i + only s (taken_down s h taken world) i ≡ held test world i + only s (gone_up s h coin taken next world) i
  held-moves s h coin taken next world i = grind (arith, eqb-true, compacted-moves cmp (one test) h taken (bit_of coin h next (world.slots s)) (world.slots s))

  -- the rank in the end plus all losses is the true rank plus all gains
  pub accounted : (top : ℕ) (es : List (Event A)) (slot : ℕ) (word : List Bool) (world : World (Bag A)) →
      ScratchGoesOn es word world → IsBelow top es → IsAccounted top es slot word world (held test world)
  accounted top [] slot word world rules below = ap (λ m. m + sum_below top (λ g. 0)) (sym (held-ended test world rules slot))
  accounted top (At s (Compact h coin taken) ∷ es) slot word world rules below =
      let e : Event A = At s (Compact h coin taken) in
      let bit = next_bit word in
      let later = if event_draws e then drop 1 word else word in
      let next = happens (act cmp) e bit world in
      one_more _ _ _ _ _ _ _ _ _ (accounted top es slot later next rules.1 below.1)
      (counts-moved test es (held test next) (held test world) slot s (taken_down s h taken world) (gone_up s h coin taken bit world) (held-moves s h coin taken bit world))
      (sum_below-add top (λ g. if h == g then (counts_in es slot s (taken_down s h taken world)) else 0) (λ g. lost cmp (one test) g es slot later next) ∙ ap (λ n. n + sum_below top (λ g. lost cmp (one test) g es slot later next)) (sum_below-pick top h (counts_in es slot s (taken_down s h taken world)) below.0))
      (sum_below-add top (λ g. if h == g then (counts_in es slot s (gone_up s h coin taken bit world)) else 0) (λ g. gained cmp (one test) g es slot later next) ∙ ap (λ n. n + sum_below top (λ g. gained cmp (one test) g es slot later next)) (sum_below-pick top h (counts_in es slot s (gone_up s h coin taken bit world)) below.0))
    where
      one_more : (t t' l g u d losses gains final : ℕ) → final + losses ≡ t' + gains → t' + d ≡ t + u → l ≡ d + losses → g ≡ u + gains → final + l ≡ t + g
      one_more t t' l g u d losses gains final e h p q = omega (arith, e, h, p, q)
  accounted top (e ∷ es) slot word world rules below =
      from_ranks top es slot _ _ _ (accounted top es slot (if event_draws e then drop 1 word else word) _ rules.1 below) (held-event test cmp e (next_bit word) world refl rules.0)
