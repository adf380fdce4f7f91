-- REQ's rules are lawful, so REQ sketches are a lawful kind. Its merges, with coins redrawn or not, don't change true ranks.
use Rattle.std.proofs.Common.{arith, ◌≡◌, ℕ, zero, suc, Bool, if◌then◌else◌, List, [], ◌∷◌, length, map, refl, true, ◌++◌, append-nil, ◌%◌, ◌+◌, ◌^◌, ◌<◌, ◌≤◌, false, ◌||◌, ◌&&◌, ◌==◌, not, sum, Some, sym, ap, ◌∙◌, subst, nat_le, Option, ap₂, Ordering}
use Rattle.std.proofs.lemmas.Grind.{common_steps}
use Rattle.sketch_base.specs.Trace.{Redraw, Action, joins_actions, events_at, Event, Snap, Work, World, Put, act, acts, alone, next_bit}
use Rattle.sketch_req.specs.Schedule.{Layout, is_full, are_full, layout_at, step_actions, steps_actions, actions_if_full, redraws_from, merge_actions_by, redraw_actions, counts_of, retained_of, update_actions, update_layouts, merge_layouts, put_layouts}
use Rattle.sketch_req.specs.Level.{turns_coin}
use Rattle.sketch_req.specs.declared.RankAccuracy.{RankAccuracy}
use Rattle.quantile_sketches.specs.ReqRules.{req_rules, ReqShape, new_shape, is_same, is_too_much}
use Rattle.quantile_sketches.proofs.plans.Bare.{bare_action, bare-append, bare-if, AreBare, bare-joins}
use Rattle.sketch_base.specs.Ranks.{true_ranks}
use Rattle.sketch_req.specs.ScheduleLaws.{AreLayouts, IsLegalFrom}
use Rattle.sketch_req.proofs.plays.Legal.{Leads, leads-none, leads-redraws, room_leads, lengths_at, along-even, fits-legal, update_legal, update_lengths, merge_legal, merge_lengths}
use Rattle.sketch_req.proofs.unbiased.Fair.{room_compacts, ranks-compacts, ranks-update, merge_by_req}
use Rattle.std.proofs.lemmas.Bool.Decides.{nat_tests}
use Rattle.std.proofs.lemmas.Bool.{false≢true, ne_eqb, or_parts}
use Rattle.sketch_base.specs.Lengths.{acts_on_lengths, lengths_after, Along, LeavesTail}
use Rattle.sketch_base.proofs.bags.Acts.{changed-there, changed-itself, obeys}
use Rattle.sketch_req.specs.Sections.{IsLegalK}
use Rattle.sketch_req.proofs.layouts.Capacities.{update_weighs, merge_weighs, update_two, merge_two, update_few, merge_few, update_retains, merge_retains}
use Rattle.sketch_req.proofs.layouts.Layouts.{new_is, filled_are, joined_are}
use Rattle.quantile_sketches.specs.RuleLaws.{lengths_by, IsLegalBy, DoWell, AreLawful, IsLawful}
use Rattle.quantile_sketches.specs.ReqKind.{FitsReq, MeetsReq, req_kind}
use Rattle.quantile_sketches.proofs.kll.Rules.{unless-there}
use Rattle.quantile_sketches.proofs.plans.Legal.{not-none, some-one, after_command, plan_from}
use Rattle.std.proofs.lemmas.List.Elements.{length_all_zip}
use Rattle.std.specs.Cmp.{IsTotalOrder}
use Rattle.std.specs.declared.cmp.Ordering.TheVariants.{Equal}
use Rattle.sketch_base.specs.Bag.{Bag, AlikeReq, sort, empty_bag}
use Rattle.sketch_base.proofs.bags.Alike.{acts-req}
use Rattle.sketch_base.proofs.plays.Plays.{length-sort}
use Rattle.sketch_req.specs.Walk.{AreOwn}
use Rattle.sketch_kll.proofs.weights.Weighted.{put-levels}
use Rattle.sketch_req.proofs.walks.Actions.{alike-refl, alike-trans, AlikeLevels}
use Rattle.sketch_req.proofs.unbiased.Drawn.{own-room, own-update}
use Rattle.sketch_req.proofs.walks.Walks.{own-bag, own-req}
use Rattle.sketch_req.proofs.views.Views.{weight_is}
use Rattle.sketch_req.proofs.sketches.Copies.{own-redraws}
use Rattle.quantile_sketches.specs.declared.commands.Command.{Command}
use Rattle.quantile_sketches.specs.Plan.{Plan, is_refused, accepted_events, events_of, plan_after, after_commands, trace_from, plan_of}
use Rattle.quantile_sketches.specs.ReqPlan.{ReqCommand}
use Rattle.quantile_sketches.specs.ReqRun.{IsLeftOut}
use Rattle.quantile_sketches.specs.Rules.{Rules}
use Rattle.quantile_sketches.proofs.plans.LeftOut.{plan_by}
pub use Rattle.std.proofs.lemmas.Bool.{not-false}

-- REQ's actions depend on items only in their Puts.

module _ (A : Type 0) where
  bare-step : (k : ℕ) (accuracy : RankAccuracy) (h : ℕ) (layouts : List Layout) → map bare_action (step_actions {A = A} k accuracy h layouts) ≡ step_actions k accuracy h layouts
  bare-step k accuracy h layouts = bare-if (is_full k (layout_at layouts h)) _ _ refl refl

  bare-steps : (k : ℕ) (accuracy : RankAccuracy) (more h : ℕ) (layouts : List Layout) → map bare_action (steps_actions {A = A} k accuracy more h layouts) ≡ steps_actions k accuracy more h layouts
  bare-steps k accuracy zero h layouts = refl
  bare-steps k accuracy (suc more) h layouts = bare-append (step_actions k accuracy h layouts) _ (bare-step k accuracy h layouts) (bare-steps k accuracy more (suc h) _)

  bare-room : (k : ℕ) (accuracy : RankAccuracy) (layouts : List Layout) → map bare_action (actions_if_full {A = A} k accuracy layouts) ≡ actions_if_full k accuracy layouts
  bare-room k accuracy layouts = bare-if (are_full k layouts) _ _ (bare-steps k accuracy (length layouts) 0 layouts) refl

  bare-redraws : (h : ℕ) (layouts : List Layout) → map bare_action (redraws_from {A = A} h layouts) ≡ redraws_from h layouts
  bare-redraws h [] = refl
  bare-redraws h (layout ∷ above) = bare-append (if turns_coin layout.state then Redraw h ∷ [] else []) _ (bare-if (turns_coin layout.state) _ _ refl refl) (bare-redraws (suc h) above)

  -- REQ's rules depend on no item
  pub req-bare : AreBare {A = A} req_rules req_rules
  req-bare = grind (arith, common_steps, bare-joins, bare-room, bare-if, bare-append, bare-redraws)

-- REQ's merges, with coins redrawn or not, don't change true ranks, nor do redraws, which lead to the same layouts.

module _ {A : Type 0} (test : A → Bool) (s : ℕ) where
  -- compactions, Joins and Redraws leave the true ranks unchanged
  ranks-room : (k : ℕ) (accuracy : RankAccuracy) (ls : List Layout) (ranks : ℕ → ℕ) → true_ranks test (events_at s (actions_if_full k accuracy ls)) ranks ≡ ranks
  ranks-room k accuracy ls ranks = rw append-nil at (ranks-compacts test s (actions_if_full k accuracy ls) [] ranks (room_compacts A k accuracy ls))

  ranks-joins : (more h : ℕ) (actions : List (Action A)) (ranks : ℕ → ℕ) → true_ranks test (events_at s (joins_actions more h ++ actions)) ranks ≡ true_ranks test (events_at s actions) ranks
  ranks-joins zero h actions ranks = refl
  ranks-joins (suc more) h actions ranks = ranks-joins more (suc h) actions ranks

  ranks-redraws : (h : ℕ) (drawn : List Layout) (actions : List (Action A)) (ranks : ℕ → ℕ) →
      true_ranks test (events_at s (redraws_from h drawn ++ actions)) ranks ≡ true_ranks test (events_at s actions) ranks
  ranks-redraws h [] actions ranks = refl
  ranks-redraws h (layout ∷ above) actions ranks = grind (arith, common_steps, ranks-redraws (suc h) above actions ranks)

  pub ranks-redraw : (ls : List Layout) (ranks : ℕ → ℕ) → true_ranks test (events_at s (redraw_actions ls)) ranks ≡ ranks
  ranks-redraw ls ranks = rw append-nil at (ranks-redraws 0 ls [] ranks)

  pub ranks-merge : (redraws : Bool) (k : ℕ) (accuracy : RankAccuracy) (ls others : List Layout) (ranks : ℕ → ℕ) →
      true_ranks test (events_at s (merge_actions_by redraws k accuracy ls others)) ranks ≡ ranks
  ranks-merge redraws k accuracy ls others ranks = grind (arith, common_steps, ranks-joins, ranks-redraws, ranks-room)

-- Redraws lead to the same layouts
pub redraw-leads : {A : Type 0} (k : ℕ) (accuracy : RankAccuracy) (ls : List Layout) → AreLayouts k ls → Leads {A = A} k accuracy ls (redraw_actions ls) ls
redraw-leads {A} k accuracy ls a = rw append-nil at (leads-redraws {A = A} k accuracy 0 ls ls ls [] (leads-none k accuracy ls a))

-- REQ's rules are lawful.

-- accuracies that are found to be the same are equal
pub same_accuracy : (a b : RankAccuracy) → is_same a b ≡ true → a ≡ b
same_accuracy a b e = grind (arith, common_steps, false≢true)

-- the test of a k; one that passes it is legal
abbrev pub may_be_k : ℕ → Bool
may_be_k k = nat_le 4 k && nat_le k 1024 && (k % 2 == 0)

pub legal_k : (k : ℕ) → may_be_k k ≡ true → IsLegalK k
legal_k k e = record { at_least = grind (arith, nat_tests); at_most = grind (arith, nat_tests); even = grind (arith, nat_tests) }

-- counts that aren't too great fit
pub enough_room : (n retained : ℕ) → is_too_much n retained ≡ false → (n < 2 ^ 64) × (retained ≤ 4294967295)
enough_room n retained e = grind (arith, nat_tests)

-- ---- what the shape of a sketch keeps

-- a new shape fits
pub new_fits : (k : ℕ) (accuracy : RankAccuracy) → IsLegalK k → FitsReq (new_shape k accuracy) (0 ∷ [])
new_fits k accuracy l = record {
  lengths_are = refl;
  legal = l;
  are = (new_is k 0 0 l, tt);
  two = tt;
  weighs = refl;
  fits = omega arith;
  few = omega arith;
  retained = omega arith;
}

updated_fits : (s : ReqShape) (lengths : List ℕ) → FitsReq s lengths → is_too_much (s.n + 1) (retained_of s.layouts + 1) ≡ false →
    FitsReq (record { k = s.k; accuracy = s.accuracy; n = s.n + 1; layouts = update_layouts s.k s.layouts }) (counts_of (update_layouts s.k s.layouts))
updated_fits s lengths h e =
    let r : (s.n + 1 < 2 ^ 64) × (retained_of s.layouts + 1 ≤ 4294967295) = enough_room (s.n + 1) (retained_of s.layouts + 1) e in
    record {
      lengths_are = refl;
      legal = h.legal;
      are = (room_leads {A = ℕ} s.k s.accuracy h.legal _ (filled_are s.k h.legal 0 1 s.layouts h.are)).legal;
      two = update_two s.k h.legal s.layouts h.are h.two;
      weighs = omega (arith, update_weighs s.k h.legal s.layouts h.are, h.weighs);
      fits = r.0;
      few = update_few s.k h.legal s.layouts h.are h.few (omega (arith, h.weighs, r.0));
      retained = let t = update_retains s.k h.legal s.layouts h.are in omega (arith, t, r.1);
    }

-- the shape of a sketch that took another one in
abbrev pub merged_as : ReqShape → ReqShape → List Layout → ReqShape
merged_as s other layouts = record { k = s.k; accuracy = s.accuracy; n = s.n + other.n; layouts = layouts }

merged_fits : (s other : ReqShape) (lengths others : List ℕ) → FitsReq s lengths → FitsReq other others → is_too_much (s.n + other.n) (retained_of s.layouts + retained_of other.layouts) ≡ false →
    FitsReq (merged_as s other (merge_layouts s.k s.layouts other.layouts)) (counts_of (merge_layouts s.k s.layouts other.layouts))
merged_fits s other lengths others h o e =
    let r : (s.n + other.n < 2 ^ 64) × (retained_of s.layouts + retained_of other.layouts ≤ 4294967295) = enough_room (s.n + other.n) (retained_of s.layouts + retained_of other.layouts) e in
    record {
      lengths_are = refl;
      legal = h.legal;
      are = (room_leads {A = ℕ} s.k s.accuracy h.legal _ (joined_are s.k h.legal s.layouts other.layouts h.are)).legal;
      two = merge_two s.k h.legal s.layouts other.layouts h.are h.two o.two;
      weighs = omega (arith, merge_weighs s.k h.legal s.layouts other.layouts h.are, h.weighs, o.weighs);
      fits = r.0;
      few = merge_few s.k h.legal s.layouts other.layouts h.are h.few o.few (omega (arith, h.weighs, o.weighs, r.0));
      retained = let t = merge_retains s.k h.legal s.layouts other.layouts h.are in omega (arith, t, r.1);
    }

-- whether a merge of a sketch that isn't empty would be too much
abbrev pub too_much : ReqShape → ReqShape → Bool
too_much s other = is_too_much (s.n + other.n) (retained_of s.layouts + retained_of other.layouts)

-- whether the rules refuse a merge
abbrev pub no_merge : ReqShape → ReqShape → Bool
no_merge s other = not (is_same s.accuracy other.accuracy) || (not (other.n == 0) && too_much s other)

-- ---- legal traces

module _ {A : Type 0} where
  -- a compaction that leaves 3k items leaves at least 0
  leaves-less : (k : ℕ → ℕ) (e : Event A) (world : World (List ℕ)) → LeavesTail k e world → MeetsReq e world
  leaves-less k e world f = grind (arith, common_steps)

  along-less : (k : ℕ → ℕ) (trace : List (Event A)) (world : World (List ℕ)) → Along (LeavesTail k) trace world → Along MeetsReq trace world
  along-less k [] world f = tt
  along-less k (e ∷ es) world f = (leaves-less k e world f.0, along-less k es (lengths_after e world) f.1)

  legal : (k : ℕ → ℕ) (trace : List (Event A)) (world : World (List ℕ)) → IsLegalFrom k trace world → IsLegalBy MeetsReq FitsReq trace world
  legal k trace world f = record { scratch = f.scratch; meets = along-less k trace world f.sizes }

  -- the lengths of the slot that is acted on
  lengths-there : (actions : List (Action A)) (world : World (List ℕ)) (s : ℕ) (lengths : List ℕ) →
      (acts_on_lengths actions (record { bag = world.slots s; scratch = world.scratch })).bag ≡ lengths → (lengths_by world (events_at s actions)).slots s ≡ lengths
  lengths-there actions world s lengths e = ap (λ (w : World (List ℕ)). w.slots s) (lengths_at actions world s) ∙ (changed-there world.slots s _ ∙ e)

  ranks-one : (test : A → Bool) (s k : ℕ) (accuracy : RankAccuracy) (ls : List Layout) (x : A) (ranks : ℕ → ℕ) →
      true_ranks test (events_at s (update_actions k accuracy ls x)) ranks s ≡ ranks s + (if test x then 1 else 0)
  ranks-one test s k accuracy ls x ranks = ap (λ (f : ℕ → ℕ). f s) (rw append-nil at (ranks-update test k accuracy s ls x [] ranks)) ∙ changed-there ranks s _

  -- ---- the calls

  update-well : (s t : ReqShape) → (req_rules {A = A}).updated s ≡ Some t → (slot : ℕ) (x : A) (world : World (List ℕ)) → FitsReq s (world.slots slot) → sum world.scratch ≡ 0 →
      DoWell MeetsReq FitsReq slot (update_actions s.k s.accuracy s.layouts x) world t (λ test. if test x then 1 else 0)
  update-well s t e slot x world h z =
      let actions : List (Action A) = update_actions s.k s.accuracy s.layouts x in
      let lengths : (acts_on_lengths actions (record { bag = world.slots slot; scratch = world.scratch })).bag ≡ counts_of (update_layouts s.k s.layouts) =
      rw h.lengths_are (ap (λ (w : Work (List ℕ)). w.bag) (update_lengths A s.k s.accuracy s.layouts x world.scratch h.legal h.are)) in
      rw (← (unless-there _ _ t e).1) (record {
        legal = legal (λ i. s.k) (events_at slot actions) world (update_legal A (λ i. s.k) s.accuracy slot s.layouts x world h.legal h.are h.lengths_are z);
        fits = rw (lengths-there actions world slot _ lengths) (updated_fits s (world.slots slot) h (unless-there _ _ t e).0);
        ranks = λ test ranks. ranks-one test slot s.k s.accuracy s.layouts x ranks;
      })

  redraw-well : (s t : ReqShape) → (req_rules {A = A}).redrawn s ≡ Some t → (slot : ℕ) (world : World (List ℕ)) → FitsReq s (world.slots slot) → sum world.scratch ≡ 0 →
      DoWell {A = A} MeetsReq FitsReq slot (redraw_actions s.layouts) world t (λ test. 0)
  redraw-well s t e slot world h z =
      let actions : List (Action A) = redraw_actions s.layouts in
      let leads = redraw-leads {A = A} s.k s.accuracy s.layouts h.are in
      let lengths : (acts_on_lengths actions (record { bag = world.slots slot; scratch = world.scratch })).bag ≡ counts_of s.layouts =
      rw h.lengths_are (ap (λ (w : Work (List ℕ)). w.bag) (leads.lengths world.scratch)) in
      rw (← some-one s t e) (record {
        legal = legal (λ i. s.k) (events_at slot actions) world (fits-legal (λ i. s.k) s.accuracy actions slot (counts_of s.layouts) world leads.fits h.lengths_are z);
        fits = rw (lengths-there actions world slot _ lengths, ← h.lengths_are) h;
        ranks = λ test ranks. ap (λ (f : ℕ → ℕ). f slot) (ranks-redraw test slot s.layouts ranks) ∙ (let n : ranks slot ≡ ranks slot + 0 = omega arith in n);
      })

module _ (A : Type 0) where
  merge-well : (redraws : Bool) (s other t : ReqShape) → (req_rules {A = A}).merged redraws s other ≡ Some t → (into source : ℕ) (world : World (List ℕ)) →
      FitsReq s (world.slots into) → FitsReq other (world.slots source) → sum world.scratch ≡ 0 → 0 < other.n →
      DoWell {A = A} MeetsReq FitsReq into (merge_actions_by redraws s.k s.accuracy s.layouts other.layouts) (lengths_after {A = A} (Snap source into) world) t (λ test. 0)
  merge-well redraws s other t e into source world h o z some =
      let u = unless-there _ _ t e in
      let some_n : (other.n == 0) ≡ false = ne_eqb other.n 0 (λ e. omega arith) in
      let actions : List (Action A) = merge_actions_by redraws s.k s.accuracy s.layouts other.layouts in
      let snapped : World (List ℕ) = lengths_after {A = A} (Snap source into) world in
      let l = legal (λ i. s.k) (Snap source into ∷ events_at into actions) world
      (merge_legal A redraws (λ i. s.k) s.accuracy source into s.layouts other.layouts world h.legal h.are h.lengths_are o.lengths_are z) in
      let lengths : (acts_on_lengths actions (record { bag = world.slots into; scratch = world.slots source })).bag ≡ counts_of (merge_layouts s.k s.layouts other.layouts) =
      rw (h.lengths_are, o.lengths_are) (merge_lengths A redraws s.k s.accuracy s.layouts other.layouts h.legal h.are).1 in
      rw (← (ap (λ (b : Bool). merged_as s other (if b then s.layouts else merge_layouts s.k s.layouts other.layouts)) (sym some_n) ∙ u.1)) (record {
        legal = record { scratch = l.scratch.1; meets = l.meets.1 };
        fits = rw (lengths-there actions snapped into _ lengths) (merged_fits s other (world.slots into) (world.slots source) h o (ap (λ (none : Bool). not none && too_much s other) (sym some_n) ∙ (or_parts (not (is_same s.accuracy other.accuracy)) _ u.0).1));
        ranks = λ test ranks. ap (λ (f : ℕ → ℕ). f into) (ranks-merge test into redraws s.k s.accuracy s.layouts other.layouts ranks) ∙ (let n : ranks into ≡ ranks into + 0 = omega arith in n);
      })

  merge-none : (redraws : Bool) (s other t : ReqShape) → (req_rules {A = A}).merged redraws s other ≡ Some t → other.n ≡ 0 → (lengths : List ℕ) → FitsReq s lengths → FitsReq t lengths
  merge-none redraws s other t e z lengths h = grind (arith, common_steps, unless-there)

  merge-counts : (redraws : Bool) (s other t : ReqShape) → (req_rules {A = A}).merged redraws s other ≡ Some t → (t.n ≡ s.n + other.n) × (s.n < 2 ^ 64 → t.n < 2 ^ 64)
  merge-counts redraws s other t e = grind (arith, common_steps, unless-there, nat_tests)

module _ {A : Type 0} where
  -- REQ's rules are lawful
  pub req_lawful : AreLawful {A = A} req_rules MeetsReq FitsReq
  req_lawful = record {
    even = λ e world f. (along-even (λ s. 0) (e ∷ []) world (f, tt)).0;
    clears = λ slot world. tt;
    snaps = λ source into world. tt;
    made = λ config t e.
        (ap (λ (s : ReqShape). s.n) (sym (unless-there _ _ t e).1), subst (λ (s : ReqShape). FitsReq s (0 ∷ [])) (unless-there _ _ t e).1 (new_fits config.0 config.1 (legal_k config.0 (not-false _ (unless-there _ _ t e).0))));
    emptied = λ s. refl;
    emptied_fits = λ s lengths h. new_fits s.k s.accuracy h.legal;
    updated = λ s t e.
        let n : t.n ≡ s.n + 1 = ap (λ (shape : ReqShape). shape.n) (sym (unless-there _ _ t e).1) in
        (n, λ few. let r : (s.n + 1 < 2 ^ 64) × (retained_of s.layouts + 1 ≤ 4294967295) = enough_room (s.n + 1) (retained_of s.layouts + 1) (unless-there _ _ t e).0 in omega (arith, n, r.0));
    weighted = λ s t weight e. absurd (not-none t e);
    redrawn = λ s t e. ap (λ (shape : ReqShape). shape.n) (sym (some-one s t e));
    merged = merge-counts A;
    update_well = update-well;
    weighted_well = λ s t weight e. absurd (not-none t e);
    redraw_well = redraw-well;
    merge_well = merge-well A;
    merge_none = merge-none A;
    read_well = λ s slot world h z. record {
      legal = record { scratch = (obeys (sum world.scratch) _ z, z); meets = (tt, tt) };
      fits = rw (changed-there world.slots slot (world.slots slot)) h;
      ranks = λ test ranks. omega arith;
    };
    read_lengths = λ slot world. ap (λ (slots : ℕ → List ℕ). let w : World (List ℕ) = record { slots = slots; scratch = world.scratch; target = world.target } in w) (changed-itself world.slots slot);
    read_draws = refl;
  }

-- REQ sketches are a lawful kind.

module _ {A : Type 0} {cmp : A → A → Ordering} (o : IsTotalOrder cmp) where
  same-lengths : (xs ys : List (List A)) → AlikeLevels o xs ys → map length xs ≡ map length ys
  same-lengths [] [] e = refl
  same-lengths (x ∷ xs) (y ∷ ys) e =
      ap₂ (λ (n : ℕ) (ns : List ℕ). n ∷ ns) (sym (length-sort cmp x) ∙ (length_all_zip (λ x y. cmp x y ≡ Equal) (sort cmp x) (sort cmp y) e.0 ∙ length-sort cmp y)) (same-lengths xs ys e.1)
  same-lengths xs ys e = absurd e

  -- actions that leave the scratch alone, whatever is in it
  alike-own : (actions : List (Action A)) (word : List Bool) (a b : Work (Bag A)) → AreOwn actions → AlikeReq cmp a.bag b.bag → AlikeReq cmp (acts cmp actions word a).bag (acts cmp actions word b).bag
  alike-own actions word a b own was = rw (own-bag cmp actions word a (alone a.bag) own refl, own-bag cmp actions word b (alone b.bag) own refl)
      (acts-req o actions word (alone a.bag) (alone b.bag) (own-req actions own) was (alike-refl o empty_bag))

  update-alike : (x y : A) → cmp x y ≡ Equal → (k : ℕ) (accuracy : RankAccuracy) (ls : List Layout) (word : List Bool) (a b : Work (Bag A)) → AlikeReq cmp a.bag b.bag →
      AlikeReq cmp (acts cmp (update_actions k accuracy ls x) word a).bag (acts cmp (update_actions k accuracy ls y) word b).bag
  update-alike x y tie k accuracy ls word a b was =
      let put : AlikeReq cmp (act cmp (Put 0 x) (next_bit word) b).bag (act cmp (Put 0 y) (next_bit word) b).bag = record { levels = put-levels o x y tie 0 b.bag.levels; kept = λ h. refl } in
      alike-trans o _ _ _ (alike-own (update_actions k accuracy ls x) word a b (own-update A k accuracy ls x) was)
      (alike-own (actions_if_full k accuracy (put_layouts ls)) word (act cmp (Put 0 x) (next_bit word) b) (act cmp (Put 0 y) (next_bit word) b) (own-room A k accuracy (put_layouts ls)) put)

  -- REQ sketches are a lawful kind
  pub req_kind_lawful : (spelling : A → Option (List ℕ)) → IsLawful (req_kind cmp spelling)
  req_kind_lawful spelling = record {
    total = o;
    rules = req_lawful;
    alike_refl = alike-refl o;
    alike_trans = alike-trans o;
    alike_levels = λ a b e. e.levels;
    alike_lengths = λ a b e. same-lengths a.levels b.levels e.levels;
    weighs = λ s sound. weight_is s.levels ∙ sound.weighs_n;
    least_there = λ s sound. sound.least_there;
    some_weight = λ s t weight e. absurd (not-none t e);
    update_draws = λ x y tie s bag fits. refl;
    update_alike = λ x y tie s word a b fits was. update-alike x y tie s.k s.accuracy s.layouts word a b was;
    weighted_draws = λ x y tie s weight bag fits. refl;
    weighted_alike = λ x y tie s weight word a b fits was. was;
    redraw_alike = λ s word a b fits was. alike-own (redraw_actions s.layouts) word a b (own-redraws A 0 s.layouts) was;
    merge_alike = λ redraws s other word a b fits was sides.
        acts-req o (merge_actions_by redraws s.k s.accuracy s.layouts other.layouts) word a b (merge_by_req A redraws s.k s.accuracy s.layouts other.layouts) was sides;
    read_alike = λ word a b was. record { levels = was.levels; kept = λ h. refl };
  }

-- A refused command may as well be left out.

module _ {A C Shape : Type 0} (rules : Rules A C Shape) where
  trace-without : (plan : Plan Shape) (before after : List (Command A C)) (command : Command A C) → is_refused rules (plan_from rules plan before).shapes command ≡ true →
      trace_from rules plan (before ++ command ∷ after) ≡ trace_from rules plan (before ++ after)
  trace-without plan [] after command e = ap (λ (b : Bool). (if b then [] else accepted_events rules plan command) ++ trace_from rules (plan_by rules plan command b) after) e
  trace-without plan (c ∷ before) after command e = ap (λ (l : List (Event A)). events_of rules plan c ++ l) (trace-without (plan_after rules plan c) before after command e)

  plan-without : (plan : Plan Shape) (before after : List (Command A C)) (command : Command A C) → is_refused rules (plan_from rules plan before).shapes command ≡ true →
      plan_from rules plan (before ++ command ∷ after) ≡ plan_from rules plan (before ++ after)
  plan-without plan [] after command e = ap (λ (b : Bool). plan_from rules (plan_by rules plan command b) after) e
  plan-without plan (c ∷ before) after command e = plan-without (plan_after rules plan c) before after command e

  after-without : {T : Type 0} (accepted : Plan Shape → T → Command A C → T) (plan : Plan Shape) (state : T) (before after : List (Command A C)) (command : Command A C) →
      is_refused rules (plan_from rules plan before).shapes command ≡ true →
      after_commands rules accepted plan state (before ++ command ∷ after) ≡ after_commands rules accepted plan state (before ++ after)
  after-without accepted plan state [] after command e = ap (λ (b : Bool). after_commands rules accepted (plan_by rules plan command b) (if b then state else accepted plan state command) after) e
  after-without accepted plan state (c ∷ before) after command e = after-without accepted (plan_after rules plan c) (after_command rules accepted plan state c) before after command e

module _ {A : Type 0} where
  -- a refused command may be left out
  pub run-without : (before after : List (ReqCommand A)) (command : ReqCommand A) → is_refused req_rules (plan_of req_rules before).shapes command ≡ true →
      IsLeftOut (before ++ command ∷ after) (before ++ after)
  run-without before after command e = grind (arith, common_steps, trace-without, plan-without, after-without)
