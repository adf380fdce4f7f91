-- What a run on KLL sketches gives, derived from what every run gives.
use Rattle.std.proofs.Common.{◌≡◌, ℕ, ◌*◌, ◌^◌, ◌<◌, ◌≤◌, ⊎_elim, Bool, cond, nat_le, List, length, sum, Option, Some, refl, sym, ap, ◌∙◌, subst, arith, mul-le-mul_left, Ordering}
use Rattle.std.proofs.lemmas.List.Sums.{sum-map}
use Rattle.std.specs.Cmp.{IsTotalOrder}
use Rattle.std.specs.Option.{option_map}
use Rattle.std.specs.Ordering.{is_eq}
use Rattle.sketch_base.specs.declared.common.SearchCriteria.{SearchCriteria}
use Rattle.sketch_base.specs.Bag.{AlikeKll, weighted_rank}
use Rattle.sketch_base.specs.Query.{counted, true_rank}
use Rattle.sketch_base.specs.Shares.{spread}
use Rattle.sketch_base.specs.Trace.{Event, play, start, coins}
use Rattle.sketch_base.specs.Words.{sum_over_words, distance, square}
use Rattle.sketch_base.proofs.spread.Squares.{few_are_far, within_moments, within_spread}
use Rattle.sketch_base.specs.Moments.{odd_product}
use Rattle.sketch_base.specs.Spelling.{SpellingsTie}
use Rattle.sketch_kll.specs.Sketch.{Kll, bag_of, IsSound}
use Rattle.sketch_kll.proofs.layout.Full.{total_bound}
use Rattle.sketch_kll.proofs.images.Texts.{reads_back}
use Rattle.sketch_kll.proofs.views.Views.{retained_is}
use Rattle.sketch_base.proofs.images.Spelled.{IsPrefixFree}
use Rattle.quantile_sketches.specs.declared.commands.Command.{Command}
use Rattle.quantile_sketches.specs.Audit.{word_of, AreWeights, AreRunWeights}
use Rattle.quantile_sketches.specs.KllRules.{kll_look, kll_rules, kll_kind, kll_shape}
use Rattle.quantile_sketches.specs.KllRun.{AreUpperInOrder, IsWithinCapacity, AreWithinCapacity, KllImagesReadBack}
use Rattle.quantile_sketches.specs.Outcome.{SlotMap, ArePlanned, ArePlayed, WeighStreams, AreSound}
use Rattle.quantile_sketches.specs.Plan.{trace_of}
use Rattle.quantile_sketches.specs.Rare.{RollupsAreRarelyFarOff}
use Rattle.quantile_sketches.specs.Refused.{accepted_of, AreRefused}
use Rattle.quantile_sketches.specs.Rollup.{RollsUp, SpreadsLittle}
use Rattle.quantile_sketches.specs.Run.{WithEnoughBits, stream_of}
use Rattle.quantile_sketches.specs.Scatter.{words_off_by, slot_error_under, AreScattered, HaveSmallMoments, AreRarelyFarOff, ScatterWithin, MomentsWithin, FarOffWithin}
use Rattle.quantile_sketches.proofs.spread.Rollups.{run-alone, one-pow, rare_words, run-rolls_up}
use Rattle.quantile_sketches.proofs.runs.Audits.{weights-measured, weights-total}
use Rattle.quantile_sketches.proofs.kll.Rules.{kll_kind_lawful, kll_lawful, run-legal-kll, run-unbiased}
use Rattle.quantile_sketches.proofs.plans.LeftOut.{left-out}
use Rattle.quantile_sketches.proofs.plans.Streams.{run-ranks, streams-fit}

-- a sound sketch is small
pub sound-small : {A : Type 0} {cmp : A → A → Ordering} (s : Kll A) → IsSound cmp s → IsWithinCapacity s
sound-small s keeps = (omega (arith, keeps.within_capacity, retained_is s.levels), total_bound s.k (length s.levels) keeps.k_fits keeps.has_few_levels)

module _ {A : Type 0} {cmp : A → A → Ordering} (o : IsTotalOrder cmp) where
  -- for every list of commands
  pub run-scattered : WithEnoughBits kll_rules (AreScattered kll_rules cmp)
  run-scattered commands n enough y criteria slot =
      let rank = λ (word : List Bool). weighted_rank cmp (counted cmp y criteria) ((play cmp (trace_of kll_rules commands) word start).slots slot) in
      subst (λ (m : ℕ). sum_over_words n (λ word. square (distance (rank word) m)) ≤ 2 ^ n * spread (trace_of kll_rules commands) slot) (run-ranks kll_lawful (counted cmp y criteria) commands slot)
      (within_spread o y criteria (trace_of kll_rules commands) n slot (run-legal-kll commands).kll (run-legal-kll commands).scratch enough)

  pub run-moments : WithEnoughBits kll_rules (HaveSmallMoments kll_rules cmp)
  run-moments commands n enough y criteria slot m =
      let rank = λ (word : List Bool). weighted_rank cmp (counted cmp y criteria) ((play cmp (trace_of kll_rules commands) word start).slots slot) in
      subst (λ (truth : ℕ). sum_over_words n (λ word. distance (rank word) truth ^ (2 * m)) ≤ 2 ^ n * (odd_product m * spread (trace_of kll_rules commands) slot ^ m))
      (run-ranks kll_lawful (counted cmp y criteria) commands slot)
      (within_moments o y criteria (trace_of kll_rules commands) n slot (run-legal-kll commands).kll (run-legal-kll commands).scratch enough m)

  pub run-rare : WithEnoughBits kll_rules (AreRarelyFarOff kll_rules cmp)
  run-rare commands n enough y criteria slot t m =
      omega (arith, few_are_far n t (2 * m) (slot_error_under kll_rules cmp y criteria commands slot), run-moments commands n enough y criteria slot m)

  module _ (spelling : A → Option (List ℕ)) (commands : List (Command A ℕ)) (slots : SlotMap (Kll A)) where
    -- levels from 1 up are sorted
    pub run-ordered : AreSound (kll_kind cmp spelling) slots → AreUpperInOrder cmp slots
    run-ordered sound slot s held = (sound slot s held).upper_sorted

    -- each sketch keeps at most its total capacity
    pub run-small : AreSound (kll_kind cmp spelling) slots → AreWithinCapacity slots
    run-small sound slot s held = sound-small s (sound slot s held)

    -- a round trip has no event, so the trace of the accepted commands is that of all
    pub run-played : (word : List Bool) (refused : List ℕ) → AreRefused (kll_kind cmp spelling) word commands refused →
        ArePlayed (kll_look cmp) (accepted_of refused commands) word slots → ArePlayed (kll_look cmp) commands word slots
    run-played word refused are played slot s held = subst (λ (t : List (Event A)). AlikeKll cmp ((play cmp t word start).slots slot) (bag_of s))
        (sym ((left-out (kll_kind_lawful o spelling) word commands refused are).trace refl)) (played slot s held)

    -- images read back
    pub run-images : (eq : A → A → Bool) → ((x y : A) → eq x y ≡ is_eq (cmp x y)) → IsPrefixFree spelling → SpellingsTie cmp spelling →
        AreSound (kll_kind cmp spelling) slots → WeighStreams (kll_look cmp) commands slots → KllImagesReadBack cmp eq spelling slots
    run-images eq same free ties sound weigh slot s held has =
        reads_back o eq same spelling free ties s (sound slot s held) (omega (arith, (weigh slot s held).0, streams-fit kll_lawful commands slot)) has

    -- slots that roll up have a small spread
    pub run-rollup : ArePlanned (kll_look cmp) commands slots → RollsUp commands slots
    run-rollup planned slot s held once = run-rolls_up commands slot (kll_shape s) (sym (planned slot) ∙ ap (option_map kll_shape) held) once

    -- slots that took neither another sketch nor an item with a weight have a small spread for their own k
    pub run-spread : ArePlanned (kll_look cmp) commands slots → SpreadsLittle commands slots
    run-spread planned slot s held = run-alone commands slot (kll_shape s) (sym (planned slot) ∙ ap (option_map kll_shape) held)

    -- and are rarely far off
    pub run-rare_rollup : (bits : ℕ) → coins (trace_of kll_rules commands) ≤ bits → ArePlanned (kll_look cmp) commands slots → AreSound (kll_kind cmp spelling) slots →
        RollupsAreRarelyFarOff cmp commands bits slots
    run-rare_rollup bits enough planned sound slot s held once some y criteria times one_in m t shows far =
        let k = s.min_k in
        let off = words_off_by kll_rules cmp y criteria commands bits slot t in
        let little = run-rollup planned slot s held once in
        let by : (a b : ℕ) → one_in * (odd_product m * a ^ m) ≤ b ^ m * times ^ (2 * m) → 0 < a → b * (k * k) * spread (trace_of kll_rules commands) slot ≤ a * (s.n * s.n) → one_in * off ≤ 2 ^ bits =
        λ a b shown positive spreads. rare_words a b times one_in m s.n k t (spread (trace_of kll_rules commands) slot) off (2 ^ bits) shown positive some far spreads (run-rare commands bits enough y criteria slot t m) in
        ⊎_elim
        (λ sharp. by 5 1 (subst (λ (p : ℕ). one_in * (odd_product m * 5 ^ m) ≤ p * times ^ (2 * m)) (sym (one-pow m)) (omega (arith, sharp))) (omega arith) (omega (arith, little.sharp)))
        (λ plain. by k 4 plain (omega (arith, (sound slot s held).eight_below_min_k)) (omega (arith, mul-le-mul_left k little.plain))) shows

-- the weights of an audit, under all words
pub weights-are : {A : Type 0} {cmp : A → A → Ordering} (o : IsTotalOrder cmp) (spelling : A → Option (List ℕ)) (y : A) (criteria : SearchCriteria) (commands : List (Command A ℕ))
    (slot : ℕ) (weights : List ℕ) →
    AreRunWeights (kll_kind cmp spelling) y criteria commands slot weights → AreWeights kll_rules cmp y criteria commands slot weights
weights-are {A} {cmp} o spelling y criteria commands slot weights are number inside =
    let (weight, at, (refused, r, e)) = are number inside in
    let word = word_of (coins (trace_of kll_rules commands)) number in
    at ∙ ap Some (e ∙ ap (λ (t : List (Event A)). weighted_rank cmp (counted cmp y criteria) ((play cmp t word start).slots slot))
    (sym ((left-out (kll_kind_lawful o spelling) word commands refused r).trace refl)))

-- the weights of an audit sum to the true rank times the number of words
pub weights-sum : {A : Type 0} (cmp : A → A → Ordering) (y : A) (criteria : SearchCriteria) (commands : List (Command A ℕ)) (slot : ℕ) (weights : List ℕ) →
    length weights ≡ 2 ^ coins (trace_of kll_rules commands) → AreWeights kll_rules cmp y criteria commands slot weights →
    sum weights ≡ length weights * true_rank cmp y criteria (stream_of kll_rules commands slot)
weights-sum cmp y criteria commands slot weights words are =
    weights-total kll_rules cmp y criteria commands slot weights words are (run-unbiased cmp commands (coins (trace_of kll_rules commands)) (omega arith) slot (counted cmp y criteria))

-- and the squares of their errors are within the slot's spread
pub weights-scatter : {A : Type 0} {cmp : A → A → Ordering} → IsTotalOrder cmp → (y : A) (criteria : SearchCriteria) (commands : List (Command A ℕ)) (slot : ℕ) (weights : List ℕ) (rank : ℕ) →
    length weights ≡ 2 ^ coins (trace_of kll_rules commands) → AreWeights kll_rules cmp y criteria commands slot weights →
    rank ≡ true_rank cmp y criteria (stream_of kll_rules commands slot) → ScatterWithin weights rank (spread (trace_of kll_rules commands) slot)
weights-scatter {A} {cmp} o y criteria commands slot weights rank words are is =
    rw (weights-measured kll_rules cmp y criteria commands slot weights words are (λ weight. square (distance weight rank)), words, is) (run-scattered o commands (coins (trace_of kll_rules commands)) (omega arith) y criteria slot)

-- their even moments are small, and so few of them are far off
module _ {A : Type 0} {cmp : A → A → Ordering} (o : IsTotalOrder cmp) (y : A) (criteria : SearchCriteria) (commands : List (Command A ℕ)) (slot : ℕ) (weights : List ℕ) (rank : ℕ)
    (words : length weights ≡ 2 ^ coins (trace_of kll_rules commands)) (are : AreWeights kll_rules cmp y criteria commands slot weights)
    (is : rank ≡ true_rank cmp y criteria (stream_of kll_rules commands slot)) where
  pub weights-moments : MomentsWithin weights rank (spread (trace_of kll_rules commands) slot)
  weights-moments m =
      rw (weights-measured kll_rules cmp y criteria commands slot weights words are (λ weight. distance weight rank ^ (2 * m)), words, is) (run-moments o commands (coins (trace_of kll_rules commands)) (omega arith) y criteria slot m)

  pub weights-rare : FarOffWithin weights rank (spread (trace_of kll_rules commands) slot)
  weights-rare t m =
      let n = coins (trace_of kll_rules commands) in
      let count = sym (sum-map (λ weight. cond (nat_le t (distance weight rank)) 1 0) weights) in
      let whole = weights-measured kll_rules cmp y criteria commands slot weights words are (λ weight. cond (nat_le t (distance weight rank)) 1 0) in
      rw (count, whole, words, is) (run-rare o commands n (omega arith) y criteria slot t m)
