-- KLL's rules are lawful, so KLL sketches are a lawful kind, and all that holds of every run holds of theirs.
use Rattle.std.proofs.Common.{arith, ◌≡◌, ℕ, zero, suc, ◌-◌, ◌/◌, Bool, if◌then◌else◌, List, [], ◌∷◌, length, map, slice_index, refl, ap, ◌∙◌, ◌+◌, ◌*◌, ◌^◌, ◌<◌, ◌≤◌, false, sum, count_by, Some, sym, ap₂, subst, eqb-true, ◌==◌, ◌||◌, nat_lt, Ordering, drop, Option}
use Rattle.std.proofs.lemmas.Grind.{common_steps}
use Rattle.sketch_base.specs.Lengths.{acts_on_lengths, act_on_lengths, lengths_after, MeetsEight, Along, IsLegalKll, bag_lengths}
use Rattle.sketch_base.specs.Trace.{Action, Put, Work, Pull, Join, Compact, Fresh, Event, Snap, At, World, IsKll, play, start, events_at, act, acts, alone, bag_after, draws, draws_of, next_bit}
use Rattle.sketch_kll.specs.Merge.{pull_actions, pulls_actions, taking_actions, merge_actions, IsLegalFrom}
use Rattle.sketch_kll.specs.Schedule.{are_full, actions_if_full, update_actions, passes_at, step_actions, walk_actions, compress_actions, updated_lengths}
use Rattle.sketch_kll.specs.Weighted.{at_digit, puts_actions, weighted_actions, weighted_lengths}
use Rattle.quantile_sketches.specs.KllRules.{kll_rules, KllShape, merged_shape, MeetsKll, HasLengths, kll_shape, kll_kind}
use Rattle.quantile_sketches.proofs.plans.Bare.{bare_action, bare-append, bare-if, acts-bare, AreBare, bare-joins}
use Rattle.std.proofs.lemmas.Bool.Decides.{nat_tests}
use Rattle.std.proofs.lemmas.Bool.{cond_both, eqb-false, eq-eqb, ltb-false, ne_eqb, or_parts}
use Rattle.std.specs.Cmp.{IsTotalOrder}
use Rattle.sketch_base.specs.declared.common.SearchCriteria.{SearchCriteria}
use Rattle.sketch_base.specs.Bag.{AllButLeftover, weighted_rank, load, Bag, AlikeKll, empty_bag}
use Rattle.sketch_base.specs.Query.{counted}
use Rattle.sketch_base.specs.Ranks.{true_ranks}
use Rattle.sketch_base.specs.Words.{distance}
use Rattle.sketch_base.proofs.unbiased.Average.{unbiased}
use Rattle.sketch_base.proofs.bags.Acts.{changed-there}
use Rattle.sketch_base.proofs.plays.Plays.{even-kll, in_turn-append}
use Rattle.sketch_base.proofs.spread.LoadBound.{kll_within_load}
use Rattle.sketch_kll.proofs.merges.Actions.{Goes, merge_is, merges_legal, goes-kll, bag_alone}
use Rattle.sketch_kll.proofs.plays.Updates.{Fine, fine-legal, update_is, length-with_level, work_of, alike-trans, alike-lengths}
use Rattle.sketch_kll.proofs.weights.Weighted.{fine-weighted, weighted_legal, weights_count, fine_is, itself, put-alike, weighted-alike}
use Rattle.quantile_sketches.specs.declared.commands.Command.{Command}
use Rattle.quantile_sketches.specs.Rules.{none_if}
use Rattle.quantile_sketches.specs.Plan.{trace_of}
use Rattle.quantile_sketches.specs.Run.{AreUnbiased, WithEnoughBits, stream_of}
use Rattle.quantile_sketches.specs.RuleLaws.{lengths_by, IsLegalBy, AreLawful, IsLawful}
use Rattle.quantile_sketches.proofs.plans.Legal.{run-legal, not-none, some-one}
use Rattle.quantile_sketches.proofs.plans.Streams.{run-ranks}
use Rattle.std.specs.declared.cmp.Ordering.TheVariants.{Equal}
use Rattle.sketch_base.proofs.bags.Alike.{acts-kll}
use Rattle.sketch_kll.specs.Copy.{IsCopy}
use Rattle.sketch_kll.specs.Sketch.{Kll, bag_in, bag_of, IsSound}
use Rattle.sketch_kll.proofs.layout.Alike.{draws_of_update}
use Rattle.sketch_kll.proofs.merges.Merged.{alike-same}
use Rattle.sketch_kll.proofs.views.Views.{weight_is}
use Rattle.quantile_sketches.specs.RunSteps.{IsCopyOf}

-- KLL's actions depend on items only in their Puts, so its level lengths depend on none.

module _ (A : Type 0) where
  -- actions that are the same without their items make the same lengths
  lengths-by : (actions : List (Action A)) {actions' : List (Action Unit)} (work : Work (List ℕ)) → map bare_action actions ≡ actions' → acts_on_lengths actions work ≡ acts_on_lengths actions' work
  lengths-by actions work e = cc (acts-bare actions work)

  bag-by : (actions : List (Action A)) {actions' : List (Action Unit)} (work : Work (List ℕ)) → map bare_action actions ≡ actions' →
      (acts_on_lengths actions work).bag ≡ (acts_on_lengths actions' work).bag
  bag-by actions work e = ap (λ (w : Work (List ℕ)). w.bag) (lengths-by actions work e)

  bare-room : (k : ℕ) (lengths : List ℕ) → map bare_action (actions_if_full {A = A} k lengths) ≡ actions_if_full k lengths
  bare-room k lengths = bare-if (are_full k lengths) _ _ refl refl

  bare-update : (k : ℕ) (lengths : List ℕ) (x : A) → map bare_action (update_actions k lengths x) ≡ update_actions {A = Unit} k lengths tt
  bare-update k lengths x = bare-append (actions_if_full k lengths) _ (bare-room k lengths) refl

  -- an update with a weight
  bare-digit : (f : List A → List (Action A)) (g : List Unit → List (Action Unit)) (weight : ℕ) (x : A) → map bare_action (f (x ∷ [])) ≡ g (tt ∷ []) → map bare_action (f []) ≡ g [] →
      map bare_action (f (at_digit weight x)) ≡ g (at_digit weight tt)
  bare-digit f g weight x one none = grind (arith, common_steps, bare_action)

  bare-puts : (more level weight : ℕ) (x : A) → map bare_action (puts_actions more level weight x) ≡ puts_actions {A = Unit} more level weight tt
  unfolding puts_actions
  bare-puts zero level weight x = refl
  bare-puts (suc more) level weight x =
      bare-append (map (λ y. Put level y) (at_digit weight x)) _ (bare-digit (map (λ y. Put level y)) (map (λ y. Put level y)) weight x refl refl) (bare-puts more (suc level) (weight / 2) x)

  bare-step : (k level : ℕ) (lengths : List ℕ) → map bare_action (step_actions {A = A} k level lengths) ≡ step_actions k level lengths
  bare-step k level lengths = bare-if (passes_at k lengths level) _ _ refl refl

  bare-walk : (k more level : ℕ) (lengths : List ℕ) → map bare_action (walk_actions {A = A} k more level lengths) ≡ walk_actions k more level lengths
  unfolding walk_actions
  bare-walk k zero level lengths = refl
  bare-walk k (suc more) level lengths =
      let step = step_actions {A = A} k level lengths in
      bare-append step _ (bare-step k level lengths) (bare-walk k more (suc level) _ ∙ ap (walk_actions {A = Unit} k more (suc level)) (bag-by step _ (bare-step k level lengths)))

  -- general compress, if it is needed
  bare-compress : (b : Bool) (k : ℕ) {lengths lengths' : List ℕ} → lengths ≡ lengths' →
      map bare_action (if b then compress_actions {A = A} k lengths else []) ≡ (if b then compress_actions k lengths' else [])
  bare-compress b k {lengths} e = bare-if b _ _ (bare-walk k 61 0 lengths ∙ ap (compress_actions {A = Unit} k) e) refl

  bare-weighted : (k : ℕ) (lengths : List ℕ) (x : A) (weight : ℕ) → map bare_action (weighted_actions k lengths x weight) ≡ weighted_actions {A = Unit} k lengths tt weight
  bare-weighted k lengths x weight = grind (arith, common_steps, bare-append, bare-update, bare-digit, bare-puts, bare-append, bare-compress, bag-by)

  -- a merge
  bare-pull : (k : ℕ) (lengths : List ℕ) → map bare_action (pull_actions {A = A} k lengths) ≡ pull_actions k lengths
  bare-pull k lengths = bare-append (actions_if_full k lengths) _ (bare-room k lengths) refl

  bare-pulls : (k more : ℕ) (work : Work (List ℕ)) → map bare_action (pulls_actions {A = A} k more work) ≡ pulls_actions k more work
  bare-pulls k zero work = refl
  bare-pulls k (suc more) work =
      let pull = pull_actions {A = A} k work.bag in
      bare-append pull _ (bare-pull k work.bag) (bare-pulls k more _ ∙ ap (pulls_actions {A = Unit} k more) (lengths-by pull work (bare-pull k work.bag)))

  bare-taking : (k : ℕ) (work : Work (List ℕ)) → map bare_action (taking_actions {A = A} k work) ≡ taking_actions k work
  bare-taking k work = bare-append (pulls_actions k (slice_index work.scratch 0) work) _ (bare-pulls k (slice_index work.scratch 0) work) (bare-joins A (length work.scratch - 1) 1)

  bare-merge : (k : ℕ) (work : Work (List ℕ)) → map bare_action (merge_actions {A = A} k work) ≡ merge_actions k work
  bare-merge k work = grind (arith, common_steps, bare-append, bare-taking, bare-compress, bag-by)

  -- nor do those after an update with a weight
  pub weighted-lengths : (k : ℕ) (lengths : List ℕ) (x : A) (weight : ℕ) → weighted_lengths k lengths x weight ≡ weighted_lengths {A = Unit} k lengths tt weight
  weighted-lengths k lengths x weight = bag-by (weighted_actions k lengths x weight) _ (bare-weighted k lengths x weight)

  -- the lengths after a merge depend on no item
  pub merge-lengths : (k : ℕ) (work : Work (List ℕ)) → (acts_on_lengths {A = A} (merge_actions k work) work).bag ≡ (acts_on_lengths {A = Unit} (merge_actions k work) work).bag
  merge-lengths k work = bag-by (merge_actions k work) work (bare-merge k work)

  -- KLL's rules depend on no item
  pub kll-bare : AreBare {A = A} kll_rules kll_rules
  kll-bare = grind (arith, common_steps, bare-update, bare-weighted, bare-merge)

-- KLL's rules are lawful.

-- a value that is there was not refused
pub unless-there : {B : Type 0} (b : Bool) (v t : B) → none_if b v ≡ Some t → (b ≡ false) × (v ≡ t)
unless-there b v t e = grind (arith, common_steps, not-none, some-one)

-- a weight that the rules refuse
abbrev pub is_bad_weight : ℕ → ℕ → Bool
is_bad_weight weight n = weight == 0 || nat_lt (2 ^ 61 - 1) weight || nat_lt (2 ^ 64 - 1) (n + weight)

-- what holds of one that is accepted
pub taken-weight : (weight n : ℕ) → is_bad_weight weight n ≡ false → (0 < weight) × (weight < 2 ^ 61) × (n + weight < 2 ^ 64)
taken-weight weight n is = grind (arith, nat_tests)

-- the shape after a merge of a sketch that holds items
pub merged-some : (s other : KllShape) → 0 < other.n → (if other.n == 0 then s else merged_shape s other) ≡ merged_shape s other
merged-some s other some = ap (λ (b : Bool). if b then s else merged_shape s other) (ne_eqb other.n 0 (λ e. omega arith))

-- and after a merge of an empty one
pub merged-none : (s other : KllShape) → other.n ≡ 0 → (if other.n == 0 then s else merged_shape s other) ≡ s
merged-none s other none = ap (λ (b : Bool). if b then s else merged_shape s other) (eq-eqb other.n 0 none)

module _ {A : Type 0} where
  meets-kll : (trace : List (Event A)) (world : World (List ℕ)) → IsLegalFrom trace world → Along MeetsKll trace world
  meets-kll [] world f = tt
  meets-kll (e ∷ rest) world f = ((f.kll.0, f.sizes.0), meets-kll rest (lengths_after e world) (record { kll = f.kll.1; scratch = f.scratch.1; sizes = f.sizes.1 }))

  legal : (trace : List (Event A)) (world : World (List ℕ)) → IsLegalFrom trace world → IsLegalBy MeetsKll HasLengths trace world
  legal trace world f = record { scratch = f.scratch; meets = meets-kll trace world f }

  all-met : (trace : List (Event A)) (world : World (List ℕ)) → Along MeetsKll trace world → IsKll trace × Along MeetsEight trace world
  all-met [] world f = (tt, tt)
  all-met (e ∷ rest) world f = let behind = all-met rest (lengths_after e world) f.1 in ((f.0.0, behind.0), (f.0.1, behind.1))

  act-levels : (action : Action A) (work : Work (List ℕ)) → 0 < length work.bag → 0 < length (act_on_lengths action work).bag
  act-levels action work some = grind (arith, common_steps, length-with_level)

  acts-levels : (actions : List (Action A)) (work : Work (List ℕ)) → 0 < length work.bag → 0 < length (acts_on_lengths actions work).bag
  acts-levels [] work some = some
  acts-levels (action ∷ rest) work some = acts-levels rest (act_on_lengths action work) (act-levels action work some)

  -- actions on a slot change its lengths as they change those of a bag beside the scratch
  pub lengths-at : (slot : ℕ) (actions : List (Action A)) (world : World (List ℕ)) →
      (lengths_by world (events_at slot actions)).slots slot ≡ (acts_on_lengths actions (record { bag = world.slots slot; scratch = world.scratch })).bag
  lengths-at slot [] world = refl
  lengths-at slot (action ∷ rest) world = grind (arith, common_steps, changed-there, lengths-at slot rest (lengths_after (At slot action) world))

  own-lengths : (actions : List (Action A)) (work : Work (List ℕ)) → Fine actions work → (bag a b : List ℕ) →
      (acts_on_lengths actions (record { bag = bag; scratch = a })).bag ≡ (acts_on_lengths actions (record { bag = bag; scratch = b })).bag
  own-lengths [] work f bag a b = refl
  own-lengths (Put h x ∷ rest) work f bag a b = own-lengths rest _ f _ a b
  own-lengths (Compact h Fresh AllButLeftover ∷ rest) work f bag a b = own-lengths rest _ f.1 _ a b
  own-lengths (action ∷ rest) work f bag a b = absurd f

  -- an update in any steady world
  update-legal : (slot k : ℕ) (x : A) (world : World (List ℕ)) → 0 < length (world.slots slot) → sum world.scratch ≡ 0 → IsLegalFrom (events_at slot (update_actions k (world.slots slot) x)) world
  update-legal slot k x world some z =
      let r = fine-legal (update_actions k (world.slots slot) x) slot (work_of (world.slots slot)) world (update_is k (world.slots slot) x some).fine refl z in
      record { kll = r.kll; scratch = r.scratch; sizes = r.sizes }

  ranks-update : (test : A → Bool) (slot k : ℕ) (lengths : List ℕ) (x : A) (ranks : ℕ → ℕ) →
      true_ranks test (events_at slot (update_actions k lengths x)) ranks slot ≡ ranks slot + (if test x then 1 else 0)
  ranks-update test slot k lengths x ranks = grind (arith, common_steps, cond_both, changed-there)

  -- Pulls, Joins and compactions leave the true ranks unchanged
  ranks-goes : (test : A → Bool) (slot : ℕ) (actions : List (Action A)) (work : Work (List ℕ)) → Goes actions work → (ranks : ℕ → ℕ) → true_ranks test (events_at slot actions) ranks ≡ ranks
  ranks-goes test slot [] work f ranks = refl
  ranks-goes test slot (Compact h Fresh AllButLeftover ∷ rest) work f ranks = ranks-goes test slot rest _ f.1 ranks
  ranks-goes test slot (Pull ∷ rest) work f ranks = ranks-goes test slot rest _ f ranks
  ranks-goes test slot (Join h ∷ rest) work f ranks = ranks-goes test slot rest _ f ranks
  ranks-goes test slot (action ∷ rest) work f ranks = absurd f

  -- the lengths of a slot whose actions leave the scratch alone
  fits-after : (slot : ℕ) (actions : List (Action A)) (world : World (List ℕ)) (t : KllShape) → 0 < length (world.slots slot) → Fine actions (work_of (world.slots slot)) →
      (acts_on_lengths actions (work_of (world.slots slot))).bag ≡ t.lengths → HasLengths t ((lengths_by world (events_at slot actions)).slots slot)
  fits-after slot actions world t some fine are = grind (arith, common_steps, lengths-at, acts-levels, own-lengths)

  -- KLL's rules are lawful
  pub kll_lawful : AreLawful {A = A} kll_rules MeetsKll HasLengths
  kll_lawful = record {
    even = λ e world f. even-kll e world f.0;
    clears = λ slot world. (refl, tt);
    snaps = λ source into world. (refl, tt);
    made = λ k t e. (ap (λ (s : KllShape). s.n) (sym (unless-there _ _ t e).1), (omega arith, ap (λ (s : KllShape). s.lengths) (unless-there _ _ t e).1));
    emptied = λ s. refl;
    emptied_fits = λ s lengths f. (omega arith, refl);
    updated = λ s t e.
        let n : t.n ≡ s.n + 1 = ap (λ (s : KllShape). s.n) (sym (unless-there _ _ t e).1) in
        (n, λ few. omega (arith, n, few, eqb-false s.n (2 ^ 64 - 1) (unless-there _ _ t e).0));
    weighted = λ s t weight e.
        let n : t.n ≡ s.n + weight = ap (λ (s : KllShape). s.n) (sym (unless-there _ _ t e).1) in
        (n, omega (arith, n, (taken-weight weight s.n (unless-there _ _ t e).0).2));
    redrawn = λ s t e. absurd (not-none t e);
    merged = λ redraws s other t e.
        let u = unless-there (redraws || nat_lt (2 ^ 64 - 1) (s.n + other.n)) (if other.n == 0 then s else merged_shape s other) t e in
        let n : t.n ≡ s.n + other.n = ap (λ (s : KllShape). s.n) (sym u.1) ∙ (cond_both (other.n == 0) s (merged_shape s other) (λ (t : KllShape). t.n ≡ s.n + other.n) (λ e. omega (arith, eqb-true other.n 0 e)) (λ e. refl)) in
        (n, λ few. omega (arith, n, ltb-false (2 ^ 64 - 1) (s.n + other.n) (or_parts redraws _ u.0).1));
    update_well = λ s t e slot x world f z. record {
      legal = legal _ world (update-legal slot s.k x world f.0 z);
      fits = fits-after slot (update_actions s.k (world.slots slot) x) world t f.0 (update_is s.k (world.slots slot) x f.0).fine
          ((grind (arith, common_steps)) ∙ (ap (λ (l : List ℕ). updated_lengths {A = Unit} s.k l tt) f.1 ∙ ap (λ (s : KllShape). s.lengths) (unless-there _ _ t e).1));
      ranks = λ test ranks. ranks-update test slot s.k (world.slots slot) x ranks;
    };
    weighted_well = λ s t weight e slot x world f z. record {
      legal = legal _ world (weighted_legal slot s.k weight x world f.0 z);
      fits = fits-after slot (weighted_actions s.k (world.slots slot) x weight) world t f.0 (fine-weighted s.k (world.slots slot) x weight f.0)
          (weighted-lengths A s.k (world.slots slot) x weight ∙ (ap (λ (l : List ℕ). weighted_lengths {A = Unit} s.k l tt weight) f.1 ∙ ap (λ (s : KllShape). s.lengths) (unless-there _ _ t e).1));
      ranks = λ test ranks. weights_count test slot s.k weight (world.slots slot) x ranks (taken-weight weight s.n (unless-there _ _ t e).0).1;
    };
    redraw_well = λ s t e. absurd (not-none t e);
    merge_well = λ redraws s other t e into source world f f_other z positive.
        let lengths : Work (List ℕ) = record { bag = world.slots into; scratch = world.slots source } in
        let actions : List (Action A) = merge_actions s.k lengths in
        let l = merges_legal {A = A} s.k source into world f.0 z in
        let after = λ (bag scratch : List ℕ). let work : Work (List ℕ) = record { bag = bag; scratch = scratch } in (acts_on_lengths {A = Unit} (merge_actions s.k work) work).bag in
        record {
          legal = legal _ (lengths_after {A = A} (Snap source into) world) (record { kll = l.kll.1; scratch = l.scratch.1; sizes = l.sizes.1 });
          fits = rw (lengths-at into actions (lengths_after {A = A} (Snap source into) world)) (
            acts-levels actions lengths f.0,
            merge-lengths A s.k lengths ∙ (ap₂ after f.1 f_other.1 ∙ ap (λ (s : KllShape). s.lengths) (sym (merged-some s other positive) ∙ (unless-there _ _ t e).1)),
          );
          ranks = λ test ranks. ap (λ (f : ℕ → ℕ). f into) (ranks-goes test into actions lengths (merge_is s.k lengths f.0).goes ranks) ∙ (let n : ranks into ≡ ranks into + 0 = omega arith in n);
        };
    merge_none = λ redraws s other t e z lengths f. (f.0, f.1 ∙ ap (λ (s : KllShape). s.lengths) (sym (merged-none s other z) ∙ (unless-there _ _ t e).1));
    read_well = λ s slot world f z. record { legal = record { scratch = z; meets = tt }; fits = f; ranks = λ test ranks. omega arith };
    read_lengths = λ slot world. refl;
    read_draws = refl;
  }

  -- the trace of each run is legal
  pub run-legal-kll : (commands : List (Command A ℕ)) → IsLegalKll (trace_of kll_rules commands)
  run-legal-kll commands =
      let r = run-legal kll_lawful commands in
      record { kll = (all-met _ _ r.meets).0; scratch = r.scratch; sizes = (all-met _ _ r.meets).1 }

  -- each run is unbiased
  pub run-unbiased : (cmp : A → A → Ordering) → WithEnoughBits (kll_rules {A = A}) (AreUnbiased kll_rules cmp)
  run-unbiased cmp commands n enough slot test = unbiased cmp test (trace_of kll_rules commands) n slot (run-legal-kll commands).kll (run-legal-kll commands).scratch enough
      ∙ ap (λ m. 2 ^ n * m) (run-ranks kll_lawful test commands slot)

  -- and its error is at most an eighth of its load
  pub run-load : {cmp : A → A → Ordering} → IsTotalOrder cmp → (y : A) (criteria : SearchCriteria) (commands : List (Command A ℕ)) (word : List Bool) (slot : ℕ) →
      8 * distance (weighted_rank cmp (counted cmp y criteria) ((play cmp (trace_of kll_rules commands) word start).slots slot))
      (count_by (counted cmp y criteria) (stream_of kll_rules commands slot)) ≤ load ((play cmp (trace_of kll_rules commands) word start).slots slot)
  run-load {cmp} o y criteria commands word slot =
      subst (λ (m : ℕ). 8 * distance (weighted_rank cmp (counted cmp y criteria) ((play cmp (trace_of kll_rules commands) word start).slots slot)) m ≤ load
      ((play cmp (trace_of kll_rules commands) word start).slots slot)) (run-ranks kll_lawful (counted cmp y criteria) commands slot)
      (kll_within_load o y criteria (trace_of kll_rules commands) word slot (run-legal-kll commands))

-- KLL sketches are a lawful kind.

-- shapes with the same parts are the same
pub shape-same : (s t : KllShape) → s.k ≡ t.k → s.min_k ≡ t.min_k → s.n ≡ t.n → s.lengths ≡ t.lengths → s ≡ t
shape-same s t k min_k n lengths = λ i. let shape : KllShape = record { k = k i; min_k = min_k i; n = n i; lengths = lengths i } in shape

module _ {A : Type 0} {cmp : A → A → Ordering} (o : IsTotalOrder cmp) where
  copied-alike : (s t : Kll A) → IsCopy cmp s t → AlikeKll cmp (bag_of s) (bag_of t)
  copied-alike s t c = subst (λ (b : Bool). AlikeKll cmp (bag_of s) (bag_in b t.levels)) (sym c.is_sorted) (alike-same cmp o s.is_sorted s.levels t.levels c.levels)

  -- a copy
  pub copy_is : (spelling : A → Option (List ℕ)) (s t : Kll A) → IsCopy cmp s t → IsSound cmp t → IsCopyOf (kll_kind cmp spelling) (bag_of s) s t
  copy_is spelling s t c sound = record {
    shape_is = shape-same (kll_shape t) (kll_shape s) c.k c.min_k c.n (sym (alike-lengths o (bag_of s) (bag_of t) (copied-alike s t c)));
    alike = copied-alike s t c;
    least_is = c.least;
    greatest_is = c.greatest;
    sound = sound;
  }

  -- an item that compares equal, in place of another, gives an alike bag
  tied-alike : (k : ℕ) (lengths : List ℕ) (x y : A) → cmp x y ≡ Equal → (word : List Bool) (bag : Bag A) →
      AlikeKll cmp (bag_after cmp (update_actions k lengths x) word bag) (bag_after cmp (update_actions k lengths y) word bag)
  tied-alike k lengths x y tie word bag =
      let room : List (Action A) = actions_if_full k lengths in
      let split = λ (z : A). in_turn-append draws (act cmp) room (Put 0 z ∷ []) word (alone bag) in
      let roomy : Work (Bag A) = acts cmp room word (alone bag) in
      let bit : Bool = next_bit (drop (draws_of room) word) in
      subst (λ (w : Work (Bag A)). AlikeKll cmp w.bag (bag_after cmp (update_actions k lengths y) word bag)) (sym (split x))
      (subst (λ (w : Work (Bag A)). AlikeKll cmp (act cmp (Put 0 x) bit roomy).bag w.bag) (sym (split y)) (put-alike o x y tie 0 bit roomy roomy (itself cmp o roomy.bag)))

  -- actions of items that compare equal, whatever is in the scratch
  alike-by : (actions : A → List (Action A)) (lengths : List ℕ) (x y : A) (word : List Bool) (a b : Work (Bag A)) → ((z : A) → Fine (actions z) (work_of lengths)) →
      AlikeKll cmp (bag_after cmp (actions x) word b.bag) (bag_after cmp (actions y) word b.bag) → AlikeKll cmp a.bag b.bag →
      AlikeKll cmp (acts cmp (actions x) word a).bag (acts cmp (actions y) word b).bag
  alike-by actions lengths x y word a b fine tied was =
      rw (bag_alone cmp (actions x) (work_of lengths) word a.bag a.scratch empty_bag (fine x), bag_alone cmp (actions y) (work_of lengths) word b.bag b.scratch empty_bag (fine y))
      (alike-trans o _ _ _ (acts-kll o (actions x) word (alone a.bag) (alone b.bag) (fine_is (actions x) (work_of lengths) (fine x)).kll was (itself cmp o empty_bag)) tied)

  -- so KLL sketches are a lawful kind
  pub kll_kind_lawful : (spelling : A → Option (List ℕ)) → IsLawful (kll_kind cmp spelling)
  kll_kind_lawful spelling = record {
    total = o;
    rules = kll_lawful;
    alike_refl = itself cmp o;
    alike_trans = alike-trans o;
    alike_levels = λ a b e. e.levels;
    alike_lengths = alike-lengths o;
    weighs = λ s sound. weight_is s.levels ∙ sound.weighs_n;
    least_there = λ s sound. sound.least_there;
    some_weight = λ s t weight e. (taken-weight weight s.n (unless-there _ _ t e).0).0;
    update_draws = λ x y tie s bag some. draws_of_update s.k (bag_lengths bag) x ∙ sym (draws_of_update s.k (bag_lengths bag) y);
    update_alike = λ x y tie s word a b f was.
        let lengths = bag_lengths b.bag in
        alike-by (update_actions s.k lengths) lengths x y word a b (λ z. (update_is s.k lengths z f.0).fine) (tied-alike s.k lengths x y tie word b.bag) was;
    weighted_draws = λ x y tie s weight bag f. (weighted-alike o x y tie s.k weight bag f.0).drawn;
    weighted_alike = λ x y tie s weight word a b f was.
        let lengths = bag_lengths b.bag in
        alike-by (λ z. weighted_actions s.k lengths z weight) lengths x y word a b (λ z. fine-weighted s.k lengths z weight f.0) ((weighted-alike o x y tie s.k weight b.bag f.0).alike word) was;
    redraw_alike = λ s word a b f was. was;
    merge_alike = λ redraws s other word a b f was sides.
        let lengths : Work (List ℕ) = record { bag = bag_lengths b.bag; scratch = bag_lengths b.scratch } in
        acts-kll o (merge_actions s.k lengths) word a b (goes-kll (merge_actions s.k lengths) lengths (merge_is s.k lengths f.0).goes) was sides;
    read_alike = λ word a b was. was;
  }
