-- A slot that was only updated is like a fresh sketch that took its stream, so it is unbiased and its errors are relative.
use Rattle.std.proofs.lemmas.Grind.{common_steps}
use Rattle.sketch_req.proofs.relative.Relative.{updates_relative, updates_relative_to_counts}
use Rattle.std.specs.Cmp.{IsTotalOrder}
use Rattle.std.proofs.Common.{◌≡◌, ℕ, suc, ◌+◌, ◌-◌, ◌*◌, ◌^◌, ◌<◌, ◌≤◌, Bool, true, false, ◌&&◌, ◌==◌, if◌then◌else◌, List, [], ◌∷◌, ◌++◌, length, count_by, Option, None, Some, IsTrue, refl, sym, ap, ap₂, ◌∙◌, subst, arith, eqb-true, append_assoc, append-nil, Ordering}
use Rattle.std.proofs.Math.Nat.{mul-le-mul_left}
use Rattle.std.proofs.lemmas.Bool.{false≢true}
use Rattle.std.proofs.lemmas.Nat.{pow-add}
use Rattle.sketch_base.specs.declared.common.SearchCriteria.{SearchCriteria}
use Rattle.sketch_base.specs.Bag.{Bag, empty_bag, weighted_rank}
use Rattle.sketch_base.specs.Query.{counted, true_rank}
use Rattle.sketch_base.specs.Trace.{Action, Compact, Clear, Forget, Redraw, Event, At, World, changed, bag_after, draws_of, coins, play, start, events_at}
use Rattle.sketch_base.specs.Words.{sum_over_words, distance, square}
use Rattle.sketch_base.proofs.bags.Parts.{all-append}
use Rattle.sketch_base.proofs.unbiased.Average.{sum_over_words-same}
use Rattle.sketch_base.proofs.plays.Plays.{coins-at, play-at}
use Rattle.sketch_base.proofs.bags.Acts.{changed-there, changed-own}
use Rattle.sketch_base.proofs.plays.Picks.{is_plain, ArePlain, stays, picked, pick, Sheds, play-picked, play-shed, sum-picked, picked-cleared, picked-away, picked-joined, picked-more}
use Rattle.sketch_req.specs.Relative.{IsRelative, UpdatesAreRelative, Reaches, UpdatesAreRelativeToCounts, off_protected_end}
use Rattle.sketch_req.specs.Schedule.{Layout, new_layout, actions_if_full, put_layouts, update_actions, update_layouts, redraw_actions, merge_layouts, merge_actions_by}
use Rattle.sketch_req.specs.ScheduleLaws.{updates_actions, updates_layouts, updates_trace}
use Rattle.sketch_req.specs.Sections.{IsLegalK}
use Rattle.sketch_req.specs.declared.RankAccuracy.{RankAccuracy}
use Rattle.sketch_req.proofs.unbiased.Fair.{AreCompacts, room_compacts, unbiased_list}
use Rattle.quantile_sketches.specs.declared.commands.Command.TheVariants.{New, Update, UpdateWeighted, Merge, Reset, RoundTrip, Redraw, MergeRedrawn}
use Rattle.quantile_sketches.specs.Plan.{Plan, start_plan, count_of, events_of, plan_after, trace_from, trace_of, plan_of, after_commands}
use Rattle.quantile_sketches.specs.ReqPlan.{ReqCommand, shape_in, shape_at}
use Rattle.quantile_sketches.specs.ReqRules.{ReqShape, new_shape, req_rules}
use Rattle.quantile_sketches.specs.ReqRun.{merged_in}
use Rattle.quantile_sketches.specs.ReqUpdated.{accepted_only_updated, was_only_updated, compacted_in, off_tail_at, AreRelative, AreRelativeToCounts}
use Rattle.quantile_sketches.specs.Run.{accepted_streams, stream_of, IsUnbiased}
use Rattle.quantile_sketches.specs.Scatter.{squared_errors}
use Rattle.quantile_sketches.proofs.plans.Legal.{after_command, plan_from, streams_from, at_slot, changed-away}
use Rattle.quantile_sketches.proofs.req.Shapes.{merged_in-is, events_merged, req_merge_events, accepted_req_events, req_merge_shapes, accepted_req_shapes, updated_shape, either-way, run-fits}
use Rattle.quantile_sketches.proofs.req.Rules.{req_lawful, merged_as}
use Rattle.quantile_sketches.proofs.plans.Streams.{AreCounted, streams_after, counts-after, streams-fit}

-- which slots were only updated after one command, refused or not
abbrev only_updated_after : {A : Type 0} → Plan ReqShape → (ℕ → Bool) → ReqCommand A → ℕ → Bool
only_updated_after = after_command req_rules (λ plan. accepted_only_updated plan.shapes)

-- ---- updates one after another

module _ {A : Type 0} where
  updates_more : (k : ℕ) (accuracy : RankAccuracy) (ls : List Layout) (xs : List A) (x : A) →
      updates_actions k accuracy ls (xs ++ x ∷ []) ≡ updates_actions k accuracy ls xs ++ update_actions k accuracy (updates_layouts k ls xs) x
  updates_more k accuracy ls [] x = append-nil (update_actions k accuracy ls x)
  updates_more k accuracy ls (y ∷ ys) x = grind (arith, common_steps, append_assoc, updates_more k accuracy (update_layouts k ls) ys x)

  layouts_more : (k : ℕ) (ls : List Layout) (xs : List A) (x : A) → updates_layouts k ls (xs ++ x ∷ []) ≡ update_layouts k (updates_layouts k ls xs)
  layouts_more k ls [] x = refl
  layouts_more k ls (y ∷ ys) x = layouts_more k (update_layouts k ls) ys x

  compacts_plain : (actions : List (Action A)) → AreCompacts actions → ArePlain actions
  compacts_plain [] c = tt
  compacts_plain (Compact h coin taken ∷ rest) c = (refl, compacts_plain rest c.1)
  compacts_plain (action ∷ rest) c = absurd c

  plain-update : (k : ℕ) (accuracy : RankAccuracy) (ls : List Layout) (x : A) → ArePlain (update_actions k accuracy ls x)
  plain-update k accuracy ls x = (refl, compacts_plain (actions_if_full k accuracy (put_layouts ls)) (room_compacts A k accuracy (put_layouts ls)))

  plain-updates : (k : ℕ) (accuracy : RankAccuracy) (ls : List Layout) (xs : List A) → ArePlain (updates_actions k accuracy ls xs)
  plain-updates k accuracy ls [] = tt
  plain-updates k accuracy ls (x ∷ xs) = all-append (λ action. IsTrue (is_plain action)) (update_actions k accuracy ls x) (updates_actions k accuracy (update_layouts k ls) xs)
      (plain-update k accuracy ls x) (plain-updates k accuracy (update_layouts k ls) xs)

-- ---- a slot that was only updated

-- its actions since it was last cleared and its layouts are those of a fresh sketch that takes its stream
record IsFresh {A : Type 0} (shape : ReqShape) (actions : List (Action A)) (stream : List A) : Type 0 where
  actions_are : actions ≡ updates_actions shape.k shape.accuracy (new_layout ∷ []) stream
  layouts_are : shape.layouts ≡ updates_layouts shape.k (new_layout ∷ []) stream

module _ {A : Type 0} where
  abbrev IsOwn : Option ReqShape → Bool → List (Action A) → List A → Type 0
  IsOwn shape only actions stream = only ≡ true → IsFresh (shape_in shape) actions stream

  abbrev AreOwn : (ℕ → Option ReqShape) → (ℕ → Bool) → List (Event A) → (ℕ → List A) → Type 0
  AreOwn shapes only trace streams = (j : ℕ) → IsOwn (shapes j) (only j) (picked j trace) (streams j)

  -- if one slot changes
  own-changed : (shapes : ℕ → Option ReqShape) (only : ℕ → Bool) (trace : List (Event A)) (streams : ℕ → List A) → AreOwn shapes only trace streams →
      (s : ℕ) (events : List (Event A)) (shape : Option ReqShape) (b : Bool) (stream : List A) → ((j : ℕ) → (j == s) ≡ false → picked j (trace ++ events) ≡ picked j trace) →
      IsOwn shape b (picked s (trace ++ events)) stream → AreOwn (changed shapes s shape) (changed only s b) (trace ++ events) (changed streams s stream)
  own-changed shapes only trace streams h s events shape b stream away here = grind (arith, common_steps, at_slot, picked, changed-there, changed-away)

  fresh-cleared : (slot k : ℕ) (accuracy : RankAccuracy) (trace : List (Event A)) → IsFresh (new_shape k accuracy) (picked slot (trace ++ events_at slot (Clear ∷ []))) []
  fresh-cleared slot k accuracy trace = record { actions_are = picked-cleared slot trace; layouts_are = refl }

  -- one more item
  fresh-updated : (slot : ℕ) (s : ReqShape) (trace : List (Event A)) (stream : List A) (x : A) → IsFresh s (picked slot trace) stream →
      IsFresh (updated_shape s) (picked slot (trace ++ events_at slot (update_actions s.k s.accuracy s.layouts x))) (stream ++ x ∷ [])
  fresh-updated slot s trace stream x f = record {
    actions_are = picked-more slot trace (update_actions s.k s.accuracy s.layouts x) (plain-update s.k s.accuracy s.layouts x)
        ∙ (ap₂ (λ (before : List (Action A)) (ls : List Layout). before ++ update_actions s.k s.accuracy ls x) f.actions_are f.layouts_are
        ∙ sym (updates_more s.k s.accuracy (new_layout ∷ []) stream x));
    layouts_are = ap (update_layouts s.k) f.layouts_are ∙ sym (layouts_more s.k (new_layout ∷ []) stream x);
  }

  no_stream : (o : Option ReqShape) (stream : List A) → count_of (req_rules {A = A}) o ≡ length stream → ((shape_in o).n == 0) ≡ true → stream ≡ []
  no_stream o [] e z = refl
  no_stream None (x ∷ xs) e z = absurd (omega (arith, e))
  no_stream (Some s) (x ∷ xs) e z = absurd (omega (arith, e, eqb-true s.n 0 z))

  -- a slot that took a sketch in
  merge-own : (redraws : Bool) (shapes : ℕ → Option ReqShape) (only : ℕ → Bool) (trace : List (Event A)) (streams : ℕ → List A) → AreOwn shapes only trace streams →
      ((j : ℕ) → count_of (req_rules {A = A}) (shapes j) ≡ length (streams j)) → (into source : ℕ) →
      AreOwn (req_merge_shapes shapes into source) (merged_in shapes only into source) (trace ++ req_merge_events redraws shapes into source) (changed streams into (streams into ++ streams source))
  merge-own redraws shapes only trace streams h counts into source =
      subst (λ (f : ℕ → Bool). AreOwn (req_merge_shapes shapes into source) f (trace ++ req_merge_events redraws shapes into source) (changed streams into (streams into ++ streams source)))
      (merged_in-is shapes only into source) (go ((shape_in (shapes source)).n == 0) refl)
    where
      go : (b : Bool) → ((shape_in (shapes source)).n == 0) ≡ b →
          let s = shape_in (shapes into) in
          AreOwn (changed shapes into (Some (merged_as s (shape_in (shapes source)) (if b then s.layouts else merge_layouts s.k s.layouts (shape_in (shapes source)).layouts)))) (changed only into (b && only into))
          (trace ++ (if b then [] else events_merged redraws s (shape_in (shapes source)) into source)) (changed streams into (streams into ++ streams source))
      go true z =
          let merged = merged_as (shape_in (shapes into)) (shape_in (shapes source)) (shape_in (shapes into)).layouts in
          let same : streams into ++ streams source ≡ streams into =
          ap (λ (l : List A). streams into ++ l) (no_stream (shapes source) (streams source) (counts source) z) ∙ append-nil (streams into) in
          own-changed shapes only trace streams h into [] (Some merged) (only into) (streams into ++ streams source) (λ j e. ap (picked j) (append-nil trace))
          (λ t. let f = h into t in rw (same, append-nil trace) (record { actions_are = f.actions_are; layouts_are = f.layouts_are }))
      go false z =
          let s = shape_in (shapes into) in
          own-changed shapes only trace streams h into (events_merged redraws s (shape_in (shapes source)) into source) _ false (streams into ++ streams source)
          (λ j e. picked-joined j source into trace (merge_actions_by redraws s.k s.accuracy s.layouts (shape_in (shapes source)).layouts) e) (λ t. absurd (false≢true t))

  -- a slot that is no longer only updated, after actions that leave its stream unchanged
  ended-own : (shapes : ℕ → Option ReqShape) (only : ℕ → Bool) (trace : List (Event A)) (streams : ℕ → List A) → AreOwn shapes only trace streams → (slot : ℕ) (actions : List (Action A)) →
      AreOwn shapes (changed only slot false) (trace ++ events_at slot actions) streams
  ended-own shapes only trace streams h slot actions j = grind (arith, common_steps, changed-own, own-changed, picked-away, false≢true)

  accepted-own : (shapes : ℕ → Option ReqShape) (only : ℕ → Bool) (trace : List (Event A)) (streams : ℕ → List A) → AreOwn shapes only trace streams →
      ((j : ℕ) → count_of (req_rules {A = A}) (shapes j) ≡ length (streams j)) → (command : ReqCommand A) →
      AreOwn (accepted_req_shapes shapes command) (accepted_only_updated shapes only command) (trace ++ accepted_req_events shapes command) (accepted_streams streams command)
  accepted-own shapes only trace streams h counts (New slot config) =
      own-changed shapes only trace streams h slot (At slot Clear ∷ []) (Some (new_shape config.0 config.1)) true [] (λ j e. picked-away j slot trace (Clear ∷ []) e)
      (λ t. fresh-cleared slot config.0 config.1 trace)
  accepted-own shapes only trace streams h counts (Update slot x) = λ j.
      let s = shape_in (shapes slot) in
      let actions : List (Action A) = update_actions s.k s.accuracy s.layouts x in
      rw (changed-own only slot j) at
      (own-changed shapes only trace streams h slot (events_at slot actions) (Some (updated_shape s)) (only slot) (streams slot ++ x ∷ []) (λ i e. picked-away i slot trace actions e)
      (λ t. fresh-updated slot s trace (streams slot) x (h slot t)) j)
  accepted-own shapes only trace streams h counts (UpdateWeighted slot x weight) = grind (arith, common_steps, changed-own, own-changed, picked, append-nil, false≢true)
  accepted-own shapes only trace streams h counts (Merge into source) = merge-own false shapes only trace streams h counts into source
  accepted-own shapes only trace streams h counts (Reset slot) =
      let s = shape_in (shapes slot) in
      own-changed shapes only trace streams h slot (At slot Clear ∷ []) (Some (new_shape s.k s.accuracy)) true [] (λ j e. picked-away j slot trace (Clear ∷ []) e)
      (λ t. fresh-cleared slot s.k s.accuracy trace)
  accepted-own shapes only trace streams h counts (RoundTrip slot) = ended-own shapes only trace streams h slot (Forget ∷ [])
  accepted-own shapes only trace streams h counts (Redraw slot) =
      let s = shape_in (shapes slot) in ended-own shapes only trace streams h slot (redraw_actions s.layouts)
  accepted-own shapes only trace streams h counts (MergeRedrawn into source) = merge-own true shapes only trace streams h counts into source

  -- ---- command by command

  own-after : (plan : Plan ReqShape) (only : ℕ → Bool) (trace : List (Event A)) (streams : ℕ → List A) → AreOwn plan.shapes only trace streams →
      ((j : ℕ) → count_of (req_rules {A = A}) (plan.shapes j) ≡ length (streams j)) → (command : ReqCommand A) →
      AreOwn (plan_after req_rules plan command).shapes (only_updated_after plan only command) (trace ++ events_of req_rules plan command) (streams_after req_rules plan streams command)
  own-after plan only trace streams h counts command = either-way plan command (λ (refused : Bool) (shapes : ℕ → Option ReqShape) (events : List (Event A)).
      AreOwn shapes (if refused then only else accepted_only_updated plan.shapes only command) (trace ++ events) (if refused then streams else accepted_streams streams command))
      (rw (append-nil trace) h) (λ e. accepted-own plan.shapes only trace streams h counts command)

  own-from : (plan : Plan ReqShape) (only : ℕ → Bool) (trace : List (Event A)) (streams : ℕ → List A) → AreOwn plan.shapes only trace streams →
      AreCounted (req_lawful {A = A}) plan streams → (commands : List (ReqCommand A)) →
      AreOwn (plan_from req_rules plan commands).shapes (after_commands req_rules (λ plan. accepted_only_updated plan.shapes) plan only commands) (trace ++ trace_from req_rules plan commands) (streams_from req_rules plan streams commands)
  own-from plan only trace streams h counts [] = rw (append-nil trace) h
  own-from plan only trace streams h counts (command ∷ rest) =
      let next = plan_after req_rules plan command in
      rw (append_assoc trace (events_of req_rules plan command) (trace_from req_rules next rest)) at
      (own-from next (only_updated_after plan only command) (trace ++ events_of req_rules plan command) (streams_after req_rules plan streams command)
      (own-after plan only trace streams h (λ j. (counts j).0) command) (counts-after (req_lawful {A = A}) plan streams counts command) rest)

  run-own : (commands : List (ReqCommand A)) (slot : ℕ) → was_only_updated commands slot ≡ true →
      IsFresh (shape_in ((plan_of req_rules commands).shapes slot)) (picked slot (trace_of req_rules commands)) (stream_of req_rules commands slot)
  run-own commands slot e = own-from start_plan (λ s. true) [] (λ s. []) (λ j t. record { actions_are = refl; layouts_are = refl }) (λ j. (refl, omega arith)) commands slot e

-- ---- what its own bits give

-- if each result under a slot's own bits comes once for each word of the other bits, the errors stay relative
more_words : (k levels others bits squares count : ℕ) → IsRelative k levels bits squares count → IsRelative k levels (others + bits) (2 ^ others * squares) count
more_words k levels others bits squares count h =
    let u = 3 * k * k in
    subst (λ (n : ℕ). u ^ levels * (2 ^ others * squares) ≤ n * (square count * (suc u ^ levels - u ^ levels))) (sym (pow-add 2 others bits))
    (scaled (u ^ levels) squares (2 ^ others) (2 ^ bits) (square count * (suc u ^ levels - u ^ levels)) h)
  where
    scaled : (a squares w v most : ℕ) → a * squares ≤ v * most → a * (w * squares) ≤ w * v * most
    scaled a squares w v most h = omega (arith, mul-le-mul_left w h)

module _ {A : Type 0} (cmp : A → A → Ordering) (commands : List (ReqCommand A)) (slot : ℕ) (only : was_only_updated commands slot ≡ true) where
  abbrev shape : ReqShape
  shape = shape_at commands slot

  abbrev stream : List A
  stream = stream_of req_rules commands slot

  abbrev trace : List (Event A)
  trace = trace_of req_rules commands

  abbrev updates : List (Action A)
  updates = updates_actions shape.k shape.accuracy (new_layout ∷ []) stream

  -- the bag of the fresh sketch that takes the stream
  abbrev fresh_bag : List Bool → Bag A
  fresh_bag word = (play cmp (updates_trace slot shape.k shape.accuracy stream) word start).slots slot

  fresh : IsFresh shape (picked slot trace) stream
  fresh = run-own commands slot only

  plain : ArePlain (picked slot trace)
  plain = subst ArePlain (sym fresh.actions_are) (plain-updates shape.k shape.accuracy (new_layout ∷ []) stream)

  fresh-is : (word : List Bool) → fresh_bag word ≡ bag_after cmp updates word empty_bag
  fresh-is word = ap (λ (w : World (Bag A)). w.slots slot) (play-at cmp updates word start slot) ∙ changed-there start.slots slot _

  -- under a word the slot holds what the fresh sketch does under the slot's own bits
  bag-is : (word : List Bool) → (play cmp trace word start).slots slot ≡ fresh_bag (pick slot trace word)
  bag-is word = play-picked cmp slot trace word start plain ∙ (ap (bag_after cmp (picked slot trace) (pick slot trace word)) (empty_either (stays slot trace))
      ∙ (ap (λ (actions : List (Action A)). bag_after cmp actions (pick slot trace word) empty_bag) fresh.actions_are ∙ sym (fresh-is (pick slot trace word))))
    where
      empty_either : (b : Bool) → (if b then empty_bag else empty_bag {A = A}) ≡ empty_bag
      empty_either b = grind (arith, common_steps)

  -- the same holds whatever round trips are left out
  pub bag-shed : (fewer : List (Event A)) → Sheds trace fewer → (word : List Bool) → (play cmp fewer word start).slots slot ≡ (play cmp trace word start).slots slot
  bag-shed fewer sheds word = play-shed cmp slot trace fewer sheds plain word start

  -- a number that depends on its bag, summed over all words, is the fresh sketch's sum, once for each word of the other bits
  record IsShare (bits : ℕ) (f : Bag A → ℕ) : Type 0 where
    others : ℕ
    all : bits ≡ others + draws_of updates
    sums : sum_over_words bits (λ word. f ((play cmp trace word start).slots slot)) ≡ 2 ^ others * sum_over_words (draws_of updates) (λ word. f (fresh_bag word))

  share : (bits : ℕ) → coins trace ≤ bits → (f : Bag A → ℕ) → IsShare bits f
  share bits enough f =
      let own = sum-picked slot trace bits (λ word. f (fresh_bag word)) enough in
      record {
        others = own.others;
        all = own.all ∙ ap (λ (actions : List (Action A)). own.others + draws_of actions) fresh.actions_are;
        sums = sum_over_words-same bits _ (λ word. f (fresh_bag (pick slot trace word))) (λ word. ap f (bag-is word))
            ∙ (own.sums ∙ ap (λ (actions : List (Action A)). 2 ^ own.others * sum_over_words (draws_of actions) (λ word. f (fresh_bag word))) fresh.actions_are);
      }

  drawn : coins (updates_trace slot shape.k shape.accuracy stream) ≤ draws_of updates
  drawn = omega (arith, coins-at slot updates)

  -- ---- unbiased

  -- the slot is unbiased
  pub run-unbiased : (bits : ℕ) → coins trace ≤ bits → (test : A → Bool) → IsUnbiased req_rules cmp commands bits slot test
  run-unbiased bits enough test =
      let s = share bits enough (weighted_rank cmp test) in
      let own = unbiased_list test cmp slot shape.k (draws_of updates) shape.accuracy stream drawn in
      s.sums ∙ scaled (2 ^ s.others) (2 ^ draws_of updates) (2 ^ bits) (count_by test stream) _ own (ap (λ (n : ℕ). 2 ^ n) s.all ∙ pow-add 2 s.others (draws_of updates))
    where
      scaled : (others own whole count sum : ℕ) → sum ≡ own * count → whole ≡ others * own → others * sum ≡ whole * count
      scaled others own whole count sum e g = omega (arith, ap (λ (n : ℕ). others * n) e, ap (λ (n : ℕ). n * count) g)

  -- ---- relative

  legal : IsLegalK shape.k
  legal = (run-fits A commands slot).legal

  short : length stream < 2 ^ 64
  short = streams-fit (req_lawful {A = A}) commands slot

  module _ (bits : ℕ) (enough : coins trace ≤ bits) (y : A) (criteria : SearchCriteria) where
    abbrev error : Bag A → ℕ
    error bag = square (distance (weighted_rank cmp (counted cmp y criteria) bag) (true_rank cmp y criteria stream))

    abbrev count : ℕ
    count = off_tail_at cmp y criteria commands slot

    relative-by : (levels : ℕ) → IsRelative shape.k levels (draws_of updates) (sum_over_words (draws_of updates) (λ word. error (fresh_bag word))) count →
        IsRelative shape.k levels bits (squared_errors req_rules cmp y criteria commands bits slot) count
    relative-by levels relative = subst (λ (n : ℕ). IsRelative shape.k levels n (squared_errors req_rules cmp y criteria commands bits slot) count) (sym (share bits enough error).all)
        (rw (share bits enough error).sums (more_words shape.k levels (share bits enough error).others (draws_of updates) (sum_over_words (draws_of updates) (λ word. error (fresh_bag word))) count relative))

    -- its errors are relative
    pub run-relative : UpdatesAreRelative cmp → IsRelative shape.k (compacted_in shape) bits (squared_errors req_rules cmp y criteria commands bits slot) count
    run-relative relative = subst (λ (ls : List Layout). IsRelative shape.k (length ls - 1) bits (squared_errors req_rules cmp y criteria commands bits slot) count) (sym fresh.layouts_are)
        (relative-by (length (updates_layouts shape.k (new_layout ∷ []) stream) - 1) (relative y criteria slot shape.k (draws_of updates) shape.accuracy stream legal short drawn))

    -- for a k of at least 24 they are relative to counts alone
    pub run-relative_to_counts : UpdatesAreRelativeToCounts cmp → (levels : ℕ) → 24 ≤ shape.k → Reaches shape.k count levels →
        IsRelative shape.k levels bits (squared_errors req_rules cmp y criteria commands bits slot) count
    run-relative_to_counts relative levels great reaches =
        relative-by levels (relative y criteria slot shape.k (draws_of updates) levels shape.accuracy stream legal great short drawn reaches)

module _ {A : Type 0} {cmp : A → A → Ordering} (o : IsTotalOrder cmp) (commands : List (ReqCommand A)) (bits : ℕ) (enough : coins (trace_of req_rules commands) ≤ bits) where
  -- the errors of a slot that was only updated are relative
  pub run-are_relative : AreRelative cmp commands bits
  run-are_relative y criteria slot s planned only =
      subst (λ (s : ReqShape). IsRelative s.k (compacted_in s) bits (squared_errors req_rules cmp y criteria commands bits slot) (off_protected_end cmp s.accuracy y criteria (stream_of req_rules commands slot)))
      (ap shape_in planned) (run-relative cmp commands slot only bits enough y criteria (updates_relative o))

  -- for a k of at least 24 they are relative to counts alone
  pub run-are_relative_to_counts : AreRelativeToCounts cmp commands bits
  run-are_relative_to_counts y criteria slot s planned only levels =
      let stream = stream_of req_rules commands slot in
      let squares = squared_errors req_rules cmp y criteria commands bits slot in
      subst (λ (s : ReqShape). let count = off_protected_end cmp s.accuracy y criteria stream in 24 ≤ s.k → Reaches s.k count levels → IsRelative s.k levels bits squares count)
      (ap shape_in planned) (run-relative_to_counts cmp commands slot only bits enough y criteria (updates_relative_to_counts o) levels)
