-- What a run on REQ sketches and its audit give, derived from what every run gives.
use Rattle.std.proofs.Common.{◌≡◌, ℕ, suc, ◌*◌, ◌^◌, ◌<◌, ◌≤◌, Bool, true, IsTrue, List, [], ◌∷◌, length, count_by, Option, Some, sym, ap, ◌∙◌, subst, arith, append-nil, Ordering, ap₂, ◌+◌, refl, sum}
use Rattle.std.specs.Prelude.{IsSorted, All}
use Rattle.std.specs.Cmp.{IsTotalOrder}
use Rattle.std.specs.List.{AllByRecursion}
use Rattle.std.specs.Option.{option_map}
use Rattle.sketch_base.specs.Bag.{AlikeReq, weighted_rank, load, weight, weigh, repeated, sort}
use Rattle.sketch_base.specs.Lengths.{IsLegalReq, start_lengths}
use Rattle.sketch_base.specs.Query.{counted, true_rank}
use Rattle.sketch_base.specs.Spelling.{SpellingsTie}
use Rattle.sketch_base.specs.Trace.{Event, play, start, coins}
use Rattle.sketch_base.specs.Words.{distance, sum_over_words, square}
use Rattle.sketch_base.proofs.bags.Alike.{rank-alike}
use Rattle.sketch_base.proofs.spread.LoadBound.{req_within_load}
use Rattle.sketch_base.proofs.plays.Picks.{Sheds}
use Rattle.sketch_base.proofs.images.Spelled.{IsPrefixFree}
use Rattle.sketch_base.proofs.bags.Acts.{sum_by-expanded}
use Rattle.sketch_base.proofs.tails.ExactTails.{weight_is}
use Rattle.sketch_req.specs.Actions.{bag_of}
use Rattle.sketch_req.specs.Image.{BeginsImage}
use Rattle.sketch_req.specs.ImageLaws.{without_coins}
use Rattle.sketch_req.specs.Level.{Level}
use Rattle.sketch_req.specs.Schedule.{layouts_of, retained_of, nominal_sum}
use Rattle.sketch_req.specs.Sketch.{Req}
use Rattle.sketch_req.specs.Walk.{AreLevels}
use Rattle.sketch_req.specs.Written.{image_text}
use Rattle.sketch_req.specs.declared.RankAccuracy.{RankAccuracy}
use Rattle.sketch_req.proofs.layouts.Capacities.{upper_weighs}
use Rattle.sketch_req.proofs.layouts.Layouts.{length-layouts}
use Rattle.sketch_req.proofs.images.Texts.{one_sketch}
use Rattle.sketch_req.proofs.views.Views.{retained_is}
use Rattle.sketch_req.proofs.images.Written.{written_lem}
use Rattle.quantile_sketches.specs.Outcome.{SlotMap, sketch_at, ArePlanned, AreSound}
use Rattle.quantile_sketches.specs.Plan.{start_plan, plan_of, trace_of, Plan}
use Rattle.quantile_sketches.specs.Refused.{accepted_of, AreRefused}
use Rattle.quantile_sketches.specs.ReqKind.{req_look, FitsReq, req_kind, req_shape}
use Rattle.quantile_sketches.specs.ReqOutcome.{AreSortedInOrder, HaveFewLevels, AreBelowNominal, TailsAreK, IsExact, ReqImagesReadBack}
use Rattle.quantile_sketches.specs.ReqPlan.{ReqCommand, shape_in, tails_of, shape_at}
use Rattle.quantile_sketches.specs.ReqRules.{ReqShape, req_rules}
use Rattle.sketch_req.specs.Relative.{off_protected_end, IsRelative}
use Rattle.quantile_sketches.specs.ReqUpdated.{was_only_updated, compacted_in, off_tail_at}
use Rattle.quantile_sketches.specs.Run.{stream_of, AreUnbiasedWhere, WithEnoughBits, RunIsWithinLoad, slot_rank_under, IsUnbiased}
use Rattle.quantile_sketches.proofs.plans.LeftOut.{left-out}
use Rattle.quantile_sketches.proofs.plans.Legal.{run-legal, steady-start, steady-from, along-even}
use Rattle.quantile_sketches.proofs.req.Shapes.{run-below, run-own}
use Rattle.quantile_sketches.proofs.req.Rules.{req_kind_lawful, req_lawful}
use Rattle.quantile_sketches.proofs.req.Updated.{bag-shed, run-unbiased, run-relative}
use Rattle.quantile_sketches.proofs.req.Tails.{run-exact, req-left-out}
use Rattle.quantile_sketches.proofs.plans.Streams.{run-ranks, all-counted}
use Rattle.std.proofs.lemmas.Option.{get_or_from_slice_get}
use Rattle.sketch_base.specs.declared.common.SearchCriteria.{SearchCriteria}
use Rattle.sketch_req.proofs.relative.Relative.{updates_relative}
use Rattle.quantile_sketches.specs.Audit.{word_of, AreWeights, AreRunWeights}
use Rattle.quantile_sketches.specs.ReqFair.{is_fair_slot}
use Rattle.quantile_sketches.specs.ReqReady.{stays_fair}
use Rattle.quantile_sketches.specs.Scatter.{squared_errors, scatter_of}
use Rattle.quantile_sketches.proofs.runs.Audits.{weights-measured, weights-total}
use Rattle.quantile_sketches.proofs.req.Fair.{run-unbiased_where_fair, fair-shed, run-stays_fair}

-- What a run on REQ sketches gives, derived from what every run gives.

-- ---- for every list of commands

module _ {A : Type 0} where
  req-legal : (commands : List (ReqCommand A)) → IsLegalReq (λ s. 0) (trace_of req_rules commands)
  req-legal commands = let r = run-legal req_lawful commands in record { scratch = r.scratch; sizes = r.meets }

module _ {A : Type 0} {cmp : A → A → Ordering} (o : IsTotalOrder cmp) where
  -- in each run the error is at most a quarter of the load
  pub req-load : RunIsWithinLoad req_rules 4 cmp
  req-load y criteria commands word slot =
      let bag = (play cmp (trace_of req_rules commands) word start).slots slot in
      subst (λ (m : ℕ). 4 * distance (weighted_rank cmp (counted cmp y criteria) bag) m ≤ load bag) (run-ranks req_lawful (counted cmp y criteria) commands slot)
      (req_within_load o (λ s. 0) y criteria (trace_of req_rules commands) word slot (req-legal commands))

-- a test that all items pass counts each item, at each level
weigh-any : {A : Type 0} (h : ℕ) (levels : List (List A)) → weigh (count_by (λ (x : A). true)) h levels ≡ weigh length h levels
weigh-any h [] = refl
weigh-any h (level ∷ above) = ap₂ (λ (m n : ℕ). 2 ^ h * m + n) (all-counted level) (weigh-any (suc h) above)

-- a slot's weight is the length of its stream
pub req-weight : {A : Type 0} {cmp : A → A → Ordering} → IsTotalOrder cmp → (commands : List (ReqCommand A)) (word : List Bool) (slot : ℕ) →
    weight ((play cmp (trace_of req_rules commands) word start).slots slot) ≡ length (stream_of req_rules commands slot)
req-weight {A} {cmp} order commands word slot =
    let bag = (play cmp (trace_of req_rules commands) word start).slots slot in
    let legal = run-legal (req_lawful {A = A}) commands in
    sym (weigh-any 0 bag.levels) ∙ (sym (sum_by-expanded (λ x. 1) cmp bag)
    ∙ (weight_is order (trace_of req_rules commands) word slot legal.scratch (along-even (req_lawful {A = A}) (trace_of req_rules commands) start_lengths legal.meets)
    ∙ (run-ranks (req_lawful {A = A}) (λ x. true) commands slot ∙ all-counted (stream_of req_rules commands slot))))

-- the items of a slot that was only updated don't depend on round trips
pub updated-shed : {A : Type 0} (cmp : A → A → Ordering) (own : List (ReqCommand A)) (slot : ℕ) → was_only_updated own slot ≡ true → (fewer : List (Event A)) →
    Sheds (trace_of req_rules own) fewer → (word : List Bool) → ((play cmp (trace_of req_rules own) word start).slots slot).levels ≡ ((play cmp fewer word start).slots slot).levels
updated-shed cmp own slot only fewer sheds word = ap (λ bag. bag.levels) (sym (bag-shed cmp own slot only fewer sheds word))

-- a slot that was only updated is unbiased
pub unbiased-updated : {A : Type 0} (cmp : A → A → Ordering) → WithEnoughBits (req_rules {A = A}) (AreUnbiasedWhere req_rules cmp was_only_updated)
unbiased-updated cmp commands bits enough slot test only = run-unbiased cmp commands slot only bits enough test

-- ---- for a run

in-order : {A : Type 0} (cmp : A → A → Ordering) (k : ℕ) (accuracy : RankAccuracy) (h : ℕ) (ls : List (Level A)) → AreLevels cmp k accuracy h ls →
    AllByRecursion (λ level. IsTrue level.is_sorted → IsSorted cmp level.items) ls
in-order cmp k accuracy h [] a = tt
in-order cmp k accuracy h (l ∷ ls) a = (a.0.sound.in_order, in-order cmp k accuracy (suc h) ls a.1)

-- a sketch of the planned shape that is alike to its slot's bag in the play of the commands is exact on its tail
pub alike-exact : {A : Type 0} {cmp : A → A → Ordering} → IsTotalOrder cmp → (commands : List (ReqCommand A)) (word : List Bool) (slot : ℕ) (s : Req A) →
    (plan_of req_rules commands).shapes slot ≡ Some (req_shape s) →
    AlikeReq cmp ((play cmp (trace_of req_rules commands) word start).slots slot) (bag_of s.levels) → IsExact cmp commands slot s
alike-exact {A} {cmp} o commands word slot s shape alike y criteria few =
    let same_side : (shape_in ((plan_of req_rules commands).shapes slot)).accuracy ≡ s.accuracy = ap (λ (p : Option ReqShape). (shape_in p).accuracy) shape in
    let enough = subst (λ (a : RankAccuracy). off_protected_end cmp a y criteria (stream_of req_rules commands slot) ≤ 3 * tails_of commands slot) (sym same_side) few in
    sym (rank-alike o y criteria ((play cmp (trace_of req_rules commands) word start).slots slot) (bag_of s.levels) alike.levels) ∙ run-exact o y criteria commands word slot enough

module _ {A : Type 0} {cmp : A → A → Ordering} (o : IsTotalOrder cmp) (spelling : A → Option (List ℕ)) (commands : List (ReqCommand A)) (slots : SlotMap (Req A)) where
  -- a sketch in a slot has the planned shape
  there : ArePlanned (req_look cmp) commands slots → (slot : ℕ) (s : Req A) → sketch_at slots slot ≡ Some s → (plan_of req_rules commands).shapes slot ≡ Some (req_shape s)
  there planned slot s held = sym (planned slot) ∙ ap (option_map req_shape) held

  fits : ArePlanned (req_look cmp) commands slots → (slot : ℕ) (s : Req A) → sketch_at slots slot ≡ Some s → FitsReq (req_shape s) ((plan_of req_rules commands).lengths.slots slot)
  fits planned slot s held = (steady-from req_lawful start_plan (steady-start req_lawful) commands).fits slot (req_shape s) (there planned slot s held)

  -- levels that count as sorted are sorted
  pub run-ordered : AreSound (req_kind cmp spelling) slots → AreSortedInOrder cmp slots
  run-ordered sound slot s held = in-order cmp s.k s.accuracy 0 s.levels (sound slot s held).placed

  -- sketches have few levels
  pub run-levels : ArePlanned (req_look cmp) commands slots → HaveFewLevels slots
  run-levels planned slot s held many =
      let l = upper_weighs (layouts_of s.levels) (fits planned slot s held).two (omega (arith, many, length-layouts s.levels)) in
      subst (λ (m : ℕ). 2 ^ m ≤ s.n) (length-layouts s.levels) (omega (arith, l, (fits planned slot s held).weighs))

  -- without merges of items, a sketch retains less than the sum of its nominal capacities
  pub run-small : ArePlanned (req_look cmp) commands slots → AreBelowNominal commands slots
  run-small planned slot s held alone =
      let h = subst (λ (p : Option ReqShape). retained_of (shape_in p).layouts < nominal_sum (shape_in p).k (shape_in p).layouts) (there planned slot s held) (run-below commands slot alone) in
      omega (arith, h, retained_is s.levels)

  -- and its tail number is its k
  pub run-tails-own : ArePlanned (req_look cmp) commands slots → TailsAreK commands slots
  run-tails-own planned slot s held alone = run-own commands slot alone (req_shape s) (there planned slot s held)

  -- images read back
  pub run-images : IsPrefixFree spelling → SpellingsTie cmp spelling → AreSound (req_kind cmp spelling) slots → ReqImagesReadBack cmp spelling slots
  run-images free ties sound slot s held has =
      let text : List ℕ = image_text spelling s in
      let written = subst (λ (t : List ℕ). BeginsImage cmp spelling t (without_coins s) []) (append-nil text) (written_lem spelling s [] (sound slot s held) has.0) in
      record { written = written; read = λ t rest is. let r = one_sketch o spelling free ties text (without_coins s) t [] rest written is in (r.0, sym r.1) }

  module _ (word : List Bool) (refused : List ℕ) (are : AreRefused (req_kind cmp spelling) word commands refused) where
    -- what holds for every list of commands holds for the accepted ones
    pub by-law : (P : List (ReqCommand A) → ℕ → Type 0) → WithEnoughBits req_rules P → coins (trace_of req_rules commands) ≤ length word → P (accepted_of refused commands) (length word)
    by-law P law enough = let l = left-out (req_kind_lawful o spelling) word commands refused are in law (accepted_of refused commands) (length word) (omega (arith, enough, l.drawn))

-- What an audit of a REQ slot gives: if the slot is unbiased, whatever round trips are refused, its weights average to the true
-- rank; if it was only updated, their errors are relative; on the protected tail each weight is the true rank.

module _ {A : Type 0} {cmp : A → A → Ordering} (o : IsTotalOrder cmp) (spelling : A → Option (List ℕ)) (y : A) (criteria : SearchCriteria)
    (commands : List (ReqCommand A)) (slot : ℕ) (weights : List ℕ)
    (words : length weights ≡ 2 ^ coins (trace_of req_rules commands)) (are : AreRunWeights (req_kind cmp spelling) y criteria commands slot weights) where
  abbrev bits : ℕ
  bits = coins (trace_of req_rules commands)

  abbrev under : List Bool → ℕ
  under = slot_rank_under req_rules cmp y criteria commands slot

  abbrev truth : ℕ
  truth = true_rank cmp y criteria (stream_of req_rules commands slot)

  -- if the slot's items depend on no round trip
  module _ (same : (fewer : List (Event A)) → Sheds (trace_of req_rules commands) fewer → (word : List Bool) →
      ((play cmp (trace_of req_rules commands) word start).slots slot).levels ≡ ((play cmp fewer word start).slots slot).levels) where
    -- the weights are the ranks under the whole list of commands, whatever round trips are refused under a word
    weights-are : AreWeights req_rules cmp y criteria commands slot weights
    weights-are number inside =
        let (weight, there, (refused, r, e)) = are number inside in
        let left = (req-left-out o spelling (word_of bits number) refused commands r).trace in
        there ∙ ap Some (e ∙ ap (λ (levels : List (List A)). count_by (counted cmp y criteria) (sort cmp (repeated 0 levels)))
        (sym (same (trace_of req_rules (accepted_of refused commands)) left (word_of bits number))))

    -- and sum to the true rank times the number of words if the slot is unbiased
    weights-sum : IsUnbiased req_rules cmp commands bits slot (counted cmp y criteria) → sum weights ≡ length weights * truth
    weights-sum unbiased = weights-total req_rules cmp y criteria commands slot weights words weights-are unbiased

  -- so they do if the slot was only updated
  pub sum-updated : was_only_updated commands slot ≡ true → sum weights ≡ length weights * truth
  sum-updated only = weights-sum (updated-shed cmp commands slot only) (unbiased-updated cmp commands bits (omega arith) slot (counted cmp y criteria) only)

  -- if it is fair
  pub sum-fair : is_fair_slot commands slot ≡ true → sum weights ≡ length weights * truth
  sum-fair fair = weights-sum (fair-shed cmp commands slot fair) (run-unbiased_where_fair cmp commands bits (omega arith) slot (counted cmp y criteria) fair)

  -- and if it stays fair
  pub sum-redrawn : stays_fair commands slot ≡ true → sum weights ≡ length weights * truth
  sum-redrawn stays = sum-fair (run-stays_fair commands slot stays)

  -- if it was only updated, their errors are relative
  pub weights-relative : was_only_updated commands slot ≡ true → (rank : ℕ) → rank ≡ truth →
      IsRelative (shape_at commands slot).k (compacted_in (shape_at commands slot)) bits (scatter_of weights rank) (off_tail_at cmp y criteria commands slot)
  weights-relative only rank is =
      let same : scatter_of weights rank ≡ squared_errors req_rules cmp y criteria commands bits slot =
      weights-measured req_rules cmp y criteria commands slot weights words (weights-are (updated-shed cmp commands slot only)) (λ weight. square (distance weight rank))
      ∙ ap (λ (n : ℕ). sum_over_words bits (λ word. square (distance (under word) n))) is in
      subst (λ (n : ℕ). let s = shape_at commands slot in IsRelative s.k (compacted_in s) bits n (off_tail_at cmp y criteria commands slot)) (sym same)
      (run-relative cmp commands slot only bits (omega arith) y criteria (updates_relative o))

  -- whether the query is on the protected tail, by what is known of all slots
  abbrev OnTail : Plan ReqShape → (ℕ → List A) → (ℕ → ℕ) → Type 0
  OnTail plan streams tails = off_protected_end cmp (shape_in (plan.shapes slot)).accuracy y criteria (streams slot) ≤ 3 * tails slot

  -- on the protected tail each weight is the true rank
  pub weights-exact : off_tail_at cmp y criteria commands slot ≤ 3 * tails_of commands slot → All (λ weight. weight ≡ truth) weights
  weights-exact few number d inside =
      let (weight, there, (refused, r, e)) = are number (omega (arith, inside, words)) in
      let fewer = accepted_of refused commands in
      let l = req-left-out o spelling (word_of bits number) refused commands r in
      let enough = subst (λ (p : Plan ReqShape). OnTail p (stream_of req_rules fewer) (tails_of fewer)) l.left.plan
      (subst (λ (f : ℕ → List A). OnTail (plan_of req_rules commands) f (tails_of fewer)) l.left.streams
      (subst (λ (t : ℕ → ℕ). OnTail (plan_of req_rules commands) (stream_of req_rules commands) t) l.tails few)) in
      get_or_from_slice_get weights number weight d there
      ∙ (e ∙ (run-exact o y criteria fewer (word_of bits number) slot enough ∙ ap (λ (f : ℕ → List A). true_rank cmp y criteria (f slot)) (sym l.left.streams)))
