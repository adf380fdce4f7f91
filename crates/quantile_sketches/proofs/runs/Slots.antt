-- The sketches in the slots are those of the play, command by command.
use Rattle.std.proofs.lemmas.Grind.{common_steps}
use Rattle.std.proofs.Common.{◌≡◌, ℕ, ◌<◌, Bool, true, false, cond, ◌==◌, not, eqb-true, if◌then◌else◌, List, [], ◌∷◌, ◌++◌, replicate, take, Option, None, Some, is_some, refl, sym, ap, ap₂, ◌∙◌, subst, arith, inl, append-nil, zero-add, Ordering}
use Rattle.std.proofs.lemmas.Bool.{not-true, eqb-false}
use mathlib.Core.Path.{fun_ext}
use Rattle.std.specs.Cmp.{IsTotalOrder, tied_back}
use Rattle.std.specs.Ordering.{is_gt}
use Rattle.std.specs.declared.cmp.Ordering.TheVariants.{Equal}
use Rattle.std.specs.Option.{option_to_list, option_map, option_and_then}
use Rattle.std.specs.Prelude.{MatchOption}
use Rattle.std.proofs.lemmas.List.Sums.{sum_by-cons}
use Rattle.sketch_base.specs.Bag.{Bag, empty_bag}
use Rattle.sketch_base.specs.Extremes.{IsLeastOf, IsGreatestOf}
use Rattle.sketch_base.specs.Lengths.{Along, world_lengths, bag_lengths}
use Rattle.sketch_base.specs.Queries.{SameAnswer}
use Rattle.sketch_base.specs.Random.{bits_from, after_draws}
use Rattle.sketch_base.specs.Trace.{Action, Clear, Event, At, Snap, event_draws, Work, World, changed, acts, play, coins, draws_of, alone, events_at}
use Rattle.sketch_base.proofs.plays.Plays.{acts-enough, bits-take, coins-at, lengths-play, play-at}
use Rattle.sketch_base.proofs.bags.Acts.{changed-own}
use Rattle.sketch_base.proofs.order.Extremes.{least-parts, greatest-parts}
use Rattle.sketch_kll.proofs.weights.Weighted.{least_times, greatest_times}
use Rattle.quantile_sketches.specs.declared.commands.Command.{Command}
use Rattle.quantile_sketches.specs.declared.commands.Command.TheVariants.{New, Update, UpdateWeighted, Merge, Reset, RoundTrip, Redraw, MergeRedrawn}
use Rattle.quantile_sketches.specs.Outcome.{shapes_in}
use Rattle.quantile_sketches.specs.Plan.{Plan, actions_on, count_of, shape_merged, is_refused, merge_events, accepted_events, events_of, plan_after}
use Rattle.quantile_sketches.specs.Rules.{Kind}
use Rattle.quantile_sketches.specs.Run.{accepted_streams}
use Rattle.quantile_sketches.specs.RunSteps.{Sketches, Puts, AreSame, update_of, weighted_of, redraw_of, merge_of, IsFresh, Acts, IsMadeIn, IsRedrawnIn, IsMergedIn, IsDecided, IsDone}
use Rattle.quantile_sketches.specs.RuleLaws.{lengths_by, IsLawful}
use Rattle.quantile_sketches.proofs.plans.Legal.{accepted_shapes, IsSteady, events-legal, along-even, some-one}
use Rattle.quantile_sketches.proofs.plans.Streams.{streams_after}

module _ {A : Type 0} {cmp : A → A → Ordering} (o : IsTotalOrder cmp) where
  -- an item is an extreme of the list of one item that ties with it
  tied-least : (x y : A) → cmp x y ≡ Equal → IsLeastOf cmp (x ∷ []) (Some y)
  tied-least x y e = record { ties = inl (tied_back o x y e); bounds = (ap is_gt (tied_back o x y e), tt) }

  tied-greatest : (x y : A) → cmp x y ≡ Equal → IsGreatestOf cmp (x ∷ []) (Some y)
  tied-greatest x y e = record { ties = inl (tied_back o x y e); bounds = (ap is_gt e, tt) }

  -- what compares equal to an extreme is an extreme
  copied-least : (items : List A) (a b : Option A) → IsLeastOf cmp items a → SameAnswer cmp a b → IsLeastOf cmp items b
  copied-least items None None h t = h
  copied-least items None (Some y) h t = absurd t
  copied-least items (Some x) None h t = absurd t
  copied-least items (Some x) (Some y) h t = least-parts o [] items None (Some x) (Some y) refl h (tied-least x y t)

  copied-greatest : (items : List A) (a b : Option A) → IsGreatestOf cmp items a → SameAnswer cmp a b → IsGreatestOf cmp items b
  copied-greatest items None None h t = h
  copied-greatest items None (Some y) h t = absurd t
  copied-greatest items (Some x) None h t = absurd t
  copied-greatest items (Some x) (Some y) h t = greatest-parts o [] items None (Some x) (Some y) refl h (tied-greatest x y t)

  -- the stream of an empty sketch is empty
  empty-stream : (n : ℕ) (items : List A) (least : Option A) → IsLeastOf cmp items least → MatchOption least (n ≡ 0) (λ _. 0 < n) → n ≡ 0 → items ≡ []
  empty-stream n items least h there z = grind (arith, common_steps)

-- ---- sketches and the play

-- a sketch is that of a bag and of a stream
pub record IsOf {A C Shape S : Type 0} (kind : Kind A C Shape S) (bag : Bag A) (stream : List A) (s : S) : Type 0 where
  pub alike : kind.look.IsAlike bag (kind.look.bag s)
  pub least : IsLeastOf kind.look.cmp stream (kind.look.least s)
  pub greatest : IsGreatestOf kind.look.cmp stream (kind.look.greatest s)
  pub sound : kind.IsSound s

-- the sketches are those of the plan, of the streams and of the world
pub record Stand {A C Shape S : Type 0} (kind : Kind A C Shape S) (plan : Plan Shape) (streams : ℕ → List A) (world : World (Bag A)) (slots : Sketches S) : Type 0 where
  pub lengths : world_lengths world ≡ plan.lengths
  pub shapes : (q : ℕ) → shapes_in kind.look.shape slots q ≡ plan.shapes q
  pub sketches : (q : ℕ) (s : S) → slots q ≡ Some s → IsOf kind (world.slots q) (streams q) s

-- they stay so if each slot holds what it held
pub stand-same : {A C Shape S : Type 0} {kind : Kind A C Shape S} (plan : Plan Shape) (streams : ℕ → List A) (world : World (Bag A)) (slots slots' : Sketches S) →
    Stand kind plan streams world slots → AreSame slots slots' → Stand kind plan streams world slots'
stand-same {kind = kind} plan streams world slots slots' stand same = record {
  lengths = stand.lengths;
  shapes = λ q. ap (option_map kind.look.shape) (same q) ∙ stand.shapes q;
  sketches = λ q s held. stand.sketches q s (sym (same q) ∙ held);
}

module _ {A C Shape S : Type 0} {kind : Kind A C Shape S} (lawful : IsLawful kind) where
  -- ---- one step

  -- a sketch that is put into a slot is there
  put-shapes : (slots slots' : Sketches S) (slot : ℕ) (s : S) (shapes : ℕ → Option Shape) → Puts slots slot s slots' → ((q : ℕ) → shapes_in kind.look.shape slots q ≡ shapes q) →
      (shape : Option Shape) → shape ≡ Some (kind.look.shape s) → (q : ℕ) → shapes_in kind.look.shape slots' q ≡ changed shapes slot shape q
  put-shapes slots slots' slot s shapes p h shape e q = grind (arith, common_steps, shapes)

  put-sketches : (slots slots' : Sketches S) (slot : ℕ) (made : S) (bags : ℕ → Bag A) (streams : ℕ → List A) (bag : Bag A) (stream : List A) → Puts slots slot made slots' →
      ((q : ℕ) (s : S) → slots q ≡ Some s → IsOf kind (bags q) (streams q) s) → IsOf kind bag stream made →
      (q : ℕ) (s : S) → slots' q ≡ Some s → IsOf kind (changed bags slot bag q) (changed streams slot stream q) s
  put-sketches slots slots' slot made bags streams bag stream p h new q s e = go (q == slot) (sym (p q) ∙ e)
    where
      go : (b : Bool) → (if b then Some made else slots q) ≡ Some s → IsOf kind (if b then bag else bags q) (if b then stream else streams q) s
      go true e = subst (IsOf kind bag stream) (some-one made s e) new
      go false e = h q s e

  -- what the plan says of a sketch in a slot
  record Matches (plan : Plan Shape) (slot : ℕ) (s : S) : Type 0 where
    shape : plan.shapes slot ≡ Some (kind.look.shape s)
    lengths : plan.lengths.slots slot ≡ bag_lengths (kind.look.bag s)
    fits : kind.Fits (kind.look.shape s) (bag_lengths (kind.look.bag s))

  matches : (plan : Plan Shape) → IsSteady lawful.rules plan → (streams : ℕ → List A) (world : World (Bag A)) (slots : Sketches S) → Stand kind plan streams world slots →
      (slot : ℕ) (s : S) → slots slot ≡ Some s → Matches plan slot s
  matches plan st streams world slots stand slot s held =
      let shape : plan.shapes slot ≡ Some (kind.look.shape s) = sym (stand.shapes slot) ∙ ap (option_map kind.look.shape) held in
      let lengths : plan.lengths.slots slot ≡ bag_lengths (kind.look.bag s) =
      sym (ap (λ w. w.slots slot) stand.lengths) ∙ lawful.alike_lengths (world.slots slot) (kind.look.bag s) (stand.sketches slot s held).alike in
      record { shape = shape; lengths = lengths; fits = subst (kind.Fits (kind.look.shape s)) lengths (st.fits slot (kind.look.shape s) shape) }

  module _ {Source : Type 0} (bit : Source → Bool) (next : Source → Source) where
    -- what a step must give: the source moves on by the coins of its events, and under those bits the sketches stand
    pub record Steps (plan : Plan Shape) (streams : ℕ → List A) (world : World (Bag A)) (command : Command A C) (source : Source) (slots' : Sketches S) (source' : Source) : Type 0 where
      pub source_goes : source' ≡ after_draws next source (coins (events_of kind.look.rules plan command))
      pub stands : (word : List Bool) → take (coins (events_of kind.look.rules plan command)) word ≡ bits_from bit next source (coins (events_of kind.look.rules plan command)) →
          Stand kind (plan_after kind.look.rules plan command) (streams_after kind.look.rules plan streams command) (play kind.look.cmp (events_of kind.look.rules plan command) word world) slots'

    -- events that bring the sketches to these shapes and streams
    record StepsBy (world : World (Bag A)) (shapes' : ℕ → Option Shape) (streams' : ℕ → List A) (source : Source) (slots' : Sketches S) (source' : Source) (events : List (Event A)) : Type 0 where
      source_goes : source' ≡ after_draws next source (coins events)
      shapes : (q : ℕ) → shapes_in kind.look.shape slots' q ≡ shapes' q
      sketches : (word : List Bool) → take (coins events) word ≡ bits_from bit next source (coins events) →
          (q : ℕ) (s : S) → slots' q ≡ Some s → IsOf kind ((play kind.look.cmp events word world).slots q) (streams' q) s

    -- a fresh sketch is that of an empty bag and an empty stream
    fresh-is : (shape : Option Shape) (s : S) → IsFresh kind shape s → IsOf kind empty_bag [] s
    fresh-is shape s f = record {
      sound = f.sound;
      alike = subst (kind.look.IsAlike empty_bag) (sym f.bag_is) (lawful.alike_refl empty_bag);
      least = subst (IsLeastOf kind.look.cmp []) (sym f.least_is) refl;
      greatest = subst (IsGreatestOf kind.look.cmp []) (sym f.greatest_is) refl;
    }

    module _ (plan : Plan Shape) (st : IsSteady lawful.rules plan) (streams : ℕ → List A) (world : World (Bag A)) (slots : Sketches S) (stand : Stand kind plan streams world slots)
        (source : Source) (slots' : Sketches S) (source' : Source) where
      -- events that bring the sketches to the shapes and streams after an accepted command
      abbrev EventsStep : Command A C → List (Event A) → Type 0
      EventsStep command = StepsBy world (accepted_shapes kind.look.rules plan.shapes command) (accepted_streams streams command) source slots' source'

      steps-accepted : (command : Command A C) → is_refused kind.look.rules plan.shapes command ≡ false → EventsStep command (accepted_events kind.look.rules plan command) →
          Steps plan streams world command source slots' source'
      steps-accepted command e by =
          let own = subst (EventsStep command) (sym (ap (λ (b : Bool). if b then [] else accepted_events kind.look.rules plan command) e)) by in
          record {
            source_goes = own.source_goes;
            stands = λ word agree. record {
              lengths =
                  subst (λ (w : World (List ℕ)). world_lengths (play kind.look.cmp (events_of kind.look.rules plan command) word world) ≡ lengths_by w (events_of kind.look.rules plan command)) stand.lengths
                  (lengths-play kind.look.cmp (events_of kind.look.rules plan command) word world (along-even lawful.rules (events_of kind.look.rules plan command) (world_lengths world)
                  (subst (λ (w : World (List ℕ)). Along kind.Meets (events_of kind.look.rules plan command) w) (sym stand.lengths) (events-legal lawful.rules plan st command).meets)));
              shapes = λ q. own.shapes q ∙ sym (ap (λ (b : Bool). (if b then plan.shapes else accepted_shapes kind.look.rules plan.shapes command) q) e);
              sketches = λ q s held.
                  subst (λ (b : Bool). IsOf kind ((play kind.look.cmp (events_of kind.look.rules plan command) word world).slots q) ((if b then streams else accepted_streams streams command) q) s) (sym e)
                  (own.sketches word agree q s held);
            };
          }

      -- a sketch that starts anew
      steps-clear : (slot : ℕ) (planned shape : Option Shape) → planned ≡ shape → IsMadeIn kind slot shape slots slots' → source' ≡ source →
          StepsBy world (changed plan.shapes slot planned) (changed streams slot []) source slots' source' (At slot Clear ∷ [])
      steps-clear slot planned shape e m stays = record {
        source_goes = stays;
        shapes = put-shapes slots slots' slot m.made plan.shapes m.puts stand.shapes planned (e ∙ m.fresh.shape_is);
        sketches = λ word agree. put-sketches slots slots' slot m.made world.slots streams empty_bag [] m.puts stand.sketches (fresh-is shape m.made m.fresh);
      }

      -- a slot's sketch took items by actions that make a bag alike to that of the planned ones
      acted-by : (slot : ℕ) (stream : List A) (planned_shape shape : Option Shape) → planned_shape ≡ shape →
          (old made : S) (planned taken : List (Action A)) → draws_of planned ≡ draws_of taken → (scratch beside : Bag A) →
          ((word : List Bool) → kind.look.IsAlike (acts kind.look.cmp planned word (record { bag = world.slots slot; scratch = scratch })).bag
          (acts kind.look.cmp taken word (record { bag = kind.look.bag old; scratch = beside })).bag) →
          (least greatest : Option A) → IsLeastOf kind.look.cmp (streams slot) (kind.look.least old) → IsGreatestOf kind.look.cmp (streams slot) (kind.look.greatest old) →
          IsLeastOf kind.look.cmp stream least → IsGreatestOf kind.look.cmp stream greatest →
          Acts kind bit next shape old beside taken (option_to_list least) (option_to_list greatest) source made source' → Puts slots slot made slots' →
          (events : List (Event A)) → coins events ≡ draws_of planned →
          ((word : List Bool) → (play kind.look.cmp events word world).slots ≡ changed world.slots slot (acts kind.look.cmp planned word (record { bag = world.slots slot; scratch = scratch })).bag) →
          StepsBy world (changed plan.shapes slot planned_shape) (changed streams slot (streams slot ++ stream)) source slots' source' events
      acted-by slot stream planned_shape shape shape_is old made planned taken draws scratch beside alike least greatest low high more_low more_high after puts events count played = record {
        source_goes = after.1 ∙ ap (after_draws next source) (sym (count ∙ draws));
        shapes = put-shapes slots slots' slot made plan.shapes puts stand.shapes _ (shape_is ∙ after.0.shape_is);
        sketches = λ word agree.
            let bits : List Bool = bits_from bit next source (draws_of taken) in
            let agrees : take (draws_of planned) word ≡ take (draws_of planned) bits =
            subst (λ (n : ℕ). take n word ≡ bits_from bit next source n) count agree ∙ sym (bits-take bit next source (draws_of planned) (draws_of taken) (omega (arith, draws))) in
            let work : Work (Bag A) = record { bag = world.slots slot; scratch = scratch } in
            let same : (acts kind.look.cmp planned word work).bag ≡ (acts kind.look.cmp planned bits work).bag = ap (λ w. w.bag) (acts-enough kind.look.cmp planned word bits work agrees) in
            let new : IsOf kind (acts kind.look.cmp planned word work).bag (streams slot ++ stream) made = record {
              alike = subst (λ (b : Bag A). kind.look.IsAlike b (kind.look.bag made)) (sym same) (lawful.alike_trans _ _ _ (alike bits) after.0.alike);
              least = least-parts lawful.total (streams slot) stream (kind.look.least old) least (kind.look.least made) low more_low after.0.least_is;
              greatest = greatest-parts lawful.total (streams slot) stream (kind.look.greatest old) greatest (kind.look.greatest made) high more_high after.0.greatest_is;
              sound = after.0.sound;
            } in
            λ q s at.
            subst (λ (f : ℕ → Bag A). IsOf kind (f q) (changed streams slot (streams slot ++ stream) q) s) (sym (played word))
            (put-sketches slots slots' slot made world.slots streams _ (streams slot ++ stream) puts stand.sketches new q s at);
      }

      -- or by actions with an empty scratch beside it
      acted-alone : (slot : ℕ) (old made : S) → slots slot ≡ Some old → (gives : Shape → Option Shape) (actions : Shape → List ℕ → List (Action A)) (taken : List (Action A)) (stream : List A)
          (end : Option A) → IsLeastOf kind.look.cmp stream end → IsGreatestOf kind.look.cmp stream end → (let planned = actions (kind.look.shape old) (bag_lengths (kind.look.bag old)) in
          (kind.Fits (kind.look.shape old) (bag_lengths (kind.look.bag old)) → draws_of planned ≡ draws_of taken) →
          ((word : List Bool) (work : Work (Bag A)) → kind.Fits (kind.look.shape old) (bag_lengths (kind.look.bag old)) → kind.look.IsAlike work.bag (kind.look.bag old) →
          kind.look.IsAlike (acts kind.look.cmp planned word work).bag (acts kind.look.cmp taken word (alone (kind.look.bag old))).bag) →
          Acts kind bit next (gives (kind.look.shape old)) old empty_bag taken (option_to_list end) (option_to_list end) source made source' → Puts slots slot made slots' →
          StepsBy world (changed plan.shapes slot (option_and_then gives (plan.shapes slot))) (changed streams slot (streams slot ++ stream)) source slots' source'
          (events_at slot (actions_on (plan.shapes slot) (λ shape. actions shape (plan.lengths.slots slot)))))
      acted-alone slot old made held gives actions taken stream end low high draws alike after puts =
          let same = matches plan st streams world slots stand slot old held in
          let planned : List (Action A) = actions (kind.look.shape old) (bag_lengths (kind.look.bag old)) in
          rw (ap₂ (λ (shape : Option Shape) (lengths : List ℕ). actions_on shape (λ s. actions s lengths)) same.shape same.lengths)
          (acted-by slot stream _ (gives (kind.look.shape old)) (ap (option_and_then gives) same.shape) old made planned taken (draws same.fits) world.scratch empty_bag
          (λ word. alike word (record { bag = world.slots slot; scratch = world.scratch }) same.fits (stand.sketches slot old held).alike) end end (stand.sketches slot old held).least (stand.sketches slot old held).greatest low high after puts
          (events_at slot planned) (coins-at slot planned) (λ word. ap (λ (w : World (Bag A)). w.slots) (play-at kind.look.cmp planned word world slot)))

      -- kept coins that are redrawn
      steps-redraw : (slot : ℕ) → IsRedrawnIn kind bit next slot slots source slots' source' → EventsStep (Redraw slot) (accepted_events kind.look.rules plan (Redraw slot))
      steps-redraw slot m =
          let stays : changed streams slot (streams slot ++ []) ≡ streams = ap (λ (l : List A). changed streams slot l) (append-nil (streams slot)) ∙ fun_ext (changed-own streams slot) in
          subst (λ (f : ℕ → List A). StepsBy world (accepted_shapes kind.look.rules plan.shapes (Redraw slot)) f source slots' source' (accepted_events kind.look.rules plan (Redraw slot))) stays
          (acted-alone slot m.old m.made m.held kind.look.rules.redrawn (λ shape lengths. kind.look.rules.redraw_actions shape) (redraw_of kind m.old) [] None refl refl (λ fits. refl)
          (λ word work. lawful.redraw_alike (kind.look.shape m.old) word work (alone (kind.look.bag m.old))) m.after m.puts)

      -- a merge, with coins redrawn or not
      module _ (redraws : Bool) (into from : ℕ) (m : IsMergedIn kind bit next redraws into from slots source slots' source') where
        abbrev MergeSteps : List (Event A) → Type 0
        MergeSteps = StepsBy world (changed plan.shapes into (shape_merged kind.look.rules redraws plan.shapes into from)) (changed streams into (streams into ++ streams from)) source slots' source'

        same : Matches plan into m.old
        same = matches plan st streams world slots stand into m.old m.held

        other : Matches plan from m.other
        other = matches plan st streams world slots stand from m.other m.held_other

        was : IsOf kind (world.slots into) (streams into) m.old
        was = stand.sketches into m.old m.held

        its : IsOf kind (world.slots from) (streams from) m.other
        its = stand.sketches from m.other m.held_other

        merge-shape : shape_merged kind.look.rules redraws plan.shapes into from ≡ Some (kind.look.shape m.made)
        merge-shape = ap₂ (λ (x y : Option Shape). option_and_then (λ shape. option_and_then (kind.look.rules.merged redraws shape) y) x) same.shape other.shape
            ∙ (ap (kind.look.rules.merged redraws (kind.look.shape m.old)) (sym m.copied.shape_is) ∙ m.merged.shape_is)

        -- of an empty sketch
        merge-empty : count_of kind.look.rules (plan.shapes from) ≡ 0 → MergeSteps []
        merge-empty z =
            let no_items : kind.look.rules.count (kind.look.shape m.other) ≡ 0 = ap (count_of kind.look.rules) (sym other.shape) ∙ z in
            let none = m.merged.empty (ap kind.look.rules.count m.copied.shape_is ∙ no_items) in
            let nothing : streams from ≡ [] = empty-stream lawful.total (kind.look.rules.count (kind.look.shape m.other)) (streams from) (kind.look.least m.other) its.least
            (lawful.least_there m.other its.sound) no_items in
            let stream : streams into ≡ streams into ++ streams from = sym (append-nil (streams into)) ∙ ap (λ l. streams into ++ l) (sym nothing) in
            let new : IsOf kind (world.slots into) (streams into ++ streams from) m.made =
            subst (IsOf kind (world.slots into) (streams into ++ streams from)) (sym none.0) (subst (λ (l : List A). IsOf kind (world.slots into) l m.old) stream was) in
            record {
              source_goes = none.1;
              shapes = put-shapes slots slots' into m.made plan.shapes m.puts stand.shapes _ merge-shape;
              sketches = λ word agree q s held. subst (λ (b : Bag A). IsOf kind b (changed streams into (streams into ++ streams from) q) s) (changed-own world.slots into q)
                  (put-sketches slots slots' into m.made world.slots streams (world.slots into) (streams into ++ streams from) m.puts stand.sketches new q s held);
            }

        -- of one that holds items
        merge-full : 0 < count_of kind.look.rules (plan.shapes from) →
            MergeSteps (Snap from into ∷ events_at into (actions_on (plan.shapes into) (λ shape. actions_on (plan.shapes from) (λ other.
            kind.look.rules.merge_actions redraws shape other (record { bag = plan.lengths.slots into; scratch = plan.lengths.slots from })))))
        merge-full some =
            let its_lengths : plan.lengths.slots from ≡ bag_lengths (kind.look.bag m.copy) = other.lengths ∙ lawful.alike_lengths (kind.look.bag m.other) (kind.look.bag m.copy) m.copied.alike in
            let actions : List (Action A) = merge_of kind redraws m.old m.copy in
            let planned : Option Shape → Option Shape → List ℕ → List ℕ → List (Action A) = λ x y bag scratch.
            actions_on x (λ shape. actions_on y (λ o. kind.look.rules.merge_actions redraws shape o (record { bag = bag; scratch = scratch }))) in
            let own : planned (plan.shapes into) (plan.shapes from) (plan.lengths.slots into) (plan.lengths.slots from) ≡ actions =
            ap₂ (λ (x y : Option Shape). planned x y (plan.lengths.slots into) (plan.lengths.slots from)) same.shape (other.shape ∙ ap Some (sym m.copied.shape_is))
            ∙ ap₂ (λ (bag scratch : List ℕ). planned (Some (kind.look.shape m.old)) (Some (kind.look.shape m.copy)) bag scratch) same.lengths its_lengths in
            let count : coins (Snap from into ∷ events_at into actions) ≡ draws_of actions =
            sum_by-cons (λ (e : Event A). cond (event_draws e) 1 0) (Snap from into) (events_at into actions) ∙ (zero-add _ ∙ coins-at into actions) in
            subst (λ (l : List (Action A)). MergeSteps (Snap from into ∷ events_at into l)) (sym own)
            (acted-by into (streams from) _ (Some (kind.look.shape m.made)) merge-shape m.old m.made actions actions refl (world.slots from) (kind.look.bag m.copy)
            (λ word. lawful.merge_alike redraws (kind.look.shape m.old) (kind.look.shape m.copy) word (record { bag = world.slots into; scratch = world.slots from })
            (record { bag = kind.look.bag m.old; scratch = kind.look.bag m.copy }) same.fits was.alike
            (lawful.alike_trans (world.slots from) (kind.look.bag m.other) (kind.look.bag m.copy) its.alike m.copied.alike))
            (kind.look.least m.copy) (kind.look.greatest m.copy) was.least was.greatest
            (copied-least lawful.total (streams from) (kind.look.least m.other) (kind.look.least m.copy) its.least m.copied.least_is)
            (copied-greatest lawful.total (streams from) (kind.look.greatest m.other) (kind.look.greatest m.copy) its.greatest m.copied.greatest_is)
            (m.merged.after (omega (arith, some, ap (count_of kind.look.rules) other.shape, ap kind.look.rules.count m.copied.shape_is))) m.puts (Snap from into ∷ events_at into actions) count
            (λ word. ap (λ (w : World (Bag A)). w.slots) (play-at kind.look.cmp actions word (record { slots = world.slots; scratch = world.slots from; target = into }) into)))

        steps-merge : MergeSteps (merge_events kind.look.rules redraws plan into from)
        steps-merge = go (count_of kind.look.rules (plan.shapes from) == 0) refl
          where
            go : (b : Bool) → (count_of kind.look.rules (plan.shapes from) == 0) ≡ b →
                MergeSteps (if b then [] else Snap from into ∷ events_at into (actions_on (plan.shapes into) (λ shape. actions_on (plan.shapes from) (λ other.
                kind.look.rules.merge_actions redraws shape other (record { bag = plan.lengths.slots into; scratch = plan.lengths.slots from })))))
            go b z = grind (arith, common_steps, merge-empty, eqb-true, merge-full, eqb-false)

      -- a round trip, after which a sketch of the same shape is alike to the slot's bag
      trip-by : (slot : ℕ) (old made : S) → slots slot ≡ Some old → kind.look.shape made ≡ kind.look.shape old →
          ((word : List Bool) → IsOf kind (acts kind.look.cmp kind.look.rules.read_back_actions word (record { bag = world.slots slot; scratch = world.scratch })).bag (streams slot) made) →
          Puts slots slot made slots' → source' ≡ source → EventsStep (RoundTrip slot) (events_at slot kind.look.rules.read_back_actions)
      trip-by slot old made held shape new puts stays = record {
        source_goes = stays ∙ ap (after_draws next source) (sym (coins-at slot kind.look.rules.read_back_actions ∙ lawful.rules.read_draws));
        shapes = put-shapes slots slots' slot made plan.shapes puts stand.shapes (plan.shapes slot) (sym (stand.shapes slot) ∙ (ap (option_map kind.look.shape) held ∙ ap Some (sym shape)));
        sketches = λ word agree q s at. subst (λ (w : World (Bag A)). IsOf kind (w.slots q) (streams q) s) (sym (play-at kind.look.cmp kind.look.rules.read_back_actions word world slot))
            (let bag = (acts kind.look.cmp kind.look.rules.read_back_actions word (record { bag = world.slots slot; scratch = world.scratch })).bag in
            subst (λ (l : List A). IsOf kind (changed world.slots slot bag q) l s) (changed-own streams slot q)
            (put-sketches slots slots' slot made world.slots streams bag (streams slot) puts stand.sketches (new word) q s at));
      }

      -- what each command does
      steps-done : (command : Command A C) → IsDone kind bit next command slots source slots' source' → EventsStep command (accepted_events kind.look.rules plan command)
      steps-done (New slot config) d = steps-clear slot _ _ refl d.0 d.1
      steps-done (Update slot x) m =
          acted-alone slot m.old m.made m.held kind.look.rules.updated (λ shape lengths. kind.look.rules.update_actions shape lengths x) (update_of kind m.old m.taken) (x ∷ []) (Some m.taken)
          (tied-least lawful.total x m.taken m.ties) (tied-greatest lawful.total x m.taken m.ties) (lawful.update_draws x m.taken m.ties (kind.look.shape m.old) (kind.look.bag m.old))
          (λ word work. lawful.update_alike x m.taken m.ties (kind.look.shape m.old) word work (alone (kind.look.bag m.old))) m.after m.puts
      steps-done (UpdateWeighted slot x weight) m =
          let positive : 0 < weight = lawful.some_weight (kind.look.shape m.old) (kind.look.shape m.made) weight m.after.0.shape_is in
          acted-alone slot m.old m.made m.held (λ shape. kind.look.rules.updated_weighted shape weight) (λ shape lengths. kind.look.rules.weighted_actions shape lengths x weight)
          (weighted_of kind m.old m.taken weight) (replicate weight x) (Some m.taken) (least_times lawful.total x m.taken m.ties weight positive)
          (greatest_times lawful.total x m.taken m.ties weight positive) (lawful.weighted_draws x m.taken m.ties (kind.look.shape m.old) weight (kind.look.bag m.old))
          (λ word work. lawful.weighted_alike x m.taken m.ties (kind.look.shape m.old) weight word work (alone (kind.look.bag m.old))) m.after m.puts
      steps-done (Merge into from) m = steps-merge false into from m
      steps-done (Reset slot) d = steps-clear slot _ _ (ap (option_map kind.look.rules.emptied) (matches plan st streams world slots stand slot d.0.old d.0.held).shape) d.0.made d.1
      steps-done (RoundTrip slot) (m, stays) =
          let was = stand.sketches slot m.old m.held in
          trip-by slot m.old m.made m.held m.copied.shape_is (λ word. record {
            alike = lawful.alike_trans _ _ _ (lawful.read_alike word (record { bag = world.slots slot; scratch = world.scratch }) (alone (kind.look.bag m.old)) was.alike) m.copied.alike;
            least = copied-least lawful.total (streams slot) (kind.look.least m.old) (kind.look.least m.made) was.least m.copied.least_is;
            greatest = copied-greatest lawful.total (streams slot) (kind.look.greatest m.old) (kind.look.greatest m.made) was.greatest m.copied.greatest_is;
            sound = m.copied.sound;
          })
          m.puts stays
      steps-done (Redraw slot) m = steps-redraw slot m
      steps-done (MergeRedrawn into from) m = steps-merge true into from m

      -- if a command is accepted by the sketches in the slots, it is accepted by the plan
      goes-on : (command : Command A C) → true ≡ not (is_refused kind.look.rules (shapes_in kind.look.shape slots) command) → is_refused kind.look.rules plan.shapes command ≡ false
      goes-on command decided = not-true _ (sym (decided ∙ ap (λ (f : ℕ → Option Shape). not (is_refused kind.look.rules f command)) (fun_ext stand.shapes)))

      -- any command that is accepted
      pub steps : (command : Command A C) → IsDecided kind command slots true → IsDone kind bit next command slots source slots' source' → Steps plan streams world command source slots' source'
      steps (RoundTrip slot) e (m, stays) =
          steps-accepted (RoundTrip slot) (ap (λ (o : Option Shape). not (is_some o)) (matches plan st streams world slots stand slot m.old m.held).shape) (steps-done (RoundTrip slot) (m, stays))
      steps command e d = steps-accepted command (goes-on command e) (steps-done command d)
