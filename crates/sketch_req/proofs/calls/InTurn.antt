-- A sketch after updates by some items in turn, up to copies of the sketches and clones of the items.
use Rattle.std.proofs.lemmas.Grind.{common_steps}
use Rattle.std.proofs.Common.{◌≡◌, ℕ, zero, suc, ◌+◌, ◌^◌, ◌<◌, ◌≤◌, Bool, List, [], ◌∷◌, ◌++◌, length, take, drop, drop-drop, Option, None, Some, refl, sym, ap, ap₂, ◌∙◌, subst, arith, append-nil, append_assoc, Ordering, Equal}
use Rattle.std.specs.Cmp.{IsTotalOrder}
use Rattle.std.specs.List.{AllZip}
use Rattle.std.specs.Option.{option_to_list}
use Rattle.std.proofs.lemmas.Cmp.{tied_itself}
use Rattle.sketch_base.specs.Bag.{Bag, AlikeReq, SameItems, empty_bag}
use Rattle.sketch_base.specs.Extremes.{IsLeastOf, IsGreatestOf}
use Rattle.sketch_base.specs.Queries.{SameAnswer}
use Rattle.sketch_base.specs.Random.{bits_from, after_draws}
use Rattle.sketch_base.specs.Trace.{Action, Put, Work, act, acts, alone, bag_after, draws, draws_of, next_bit}
use Rattle.sketch_base.proofs.bags.Alike.{acts-req, SameItems-refl, SameItems-trans, SameItems-back, SameItems-append}
use Rattle.sketch_base.proofs.bags.Parts.{all-same}
use Rattle.sketch_base.proofs.plays.Plays.{acts-enough, bits-take, bits-drop, draws-append, in_turn-append}
use Rattle.sketch_base.proofs.views.Entries.{SameAnswer-itself}
use Rattle.sketch_base.proofs.order.Extremes.{least-on, greatest-on, least_itself, greatest_itself, one_least, one_greatest}
use Rattle.sketch_base.proofs.order.Order.{SameItems-sort}
use Rattle.sketch_req.specs.Actions.{bag_of, coins_of}
use Rattle.sketch_req.specs.Imaged.{IsSameLevel, IsSameSketch}
use Rattle.sketch_req.specs.Level.{Level}
use Rattle.sketch_req.specs.Schedule.{Layout, layouts_of, retained_of, put_layouts, actions_if_full, update_actions, update_layouts}
use Rattle.sketch_req.specs.ScheduleLaws.{updates_actions, updates_layouts}
use Rattle.sketch_req.specs.Sketch.{Req, IsSound, IsUpdated, coins_of_update, greatest_with, least_with, sketch_of, update_of}
use Rattle.sketch_req.specs.Updates.{AreUpdated, AreUpdatedInTurn, IsUpdatedFirst, AreTakenInTurn, OneUpdates, UpdatesGoOn, coins_of_updates, updates_by}
use Rattle.sketch_req.specs.Walk.{AreOwn}
use Rattle.sketch_req.specs.declared.RankAccuracy.{RankAccuracy}
use Rattle.sketch_req.proofs.walks.Actions.{AlikeLevels, alike-refl, alike-trans}
use Rattle.sketch_req.proofs.sketches.Copies.{copied_sketch, layouts-copied, levels-itself}
use Rattle.sketch_req.proofs.unbiased.Drawn.{own-room, own-update}
use Rattle.sketch_req.proofs.sketches.Extremes.{Moves, greatest-moved, least-moved}
use Rattle.sketch_req.proofs.sketches.Updated.{are-kept, taken-one, updated_sketch}
use Rattle.sketch_req.proofs.walks.Walks.{own-append, own-bag, own-req}

module _ {A : Type 0} {cmp : A → A → Ordering} (order : IsTotalOrder cmp) where
  -- ---- copies

  levels-copied : (ls ms ns : List (Level A)) → AllZip (IsSameLevel cmp) ls ms → AllZip (IsSameLevel cmp) ms ns → AllZip (IsSameLevel cmp) ls ns
  levels-copied [] [] ns c d = d
  levels-copied (l ∷ ls) (m ∷ ms) (n ∷ ns) c d = (
    record {
      items = SameItems-trans cmp order l.items m.items n.items c.0.items d.0.items;
      rest = d.0.rest ∙ ap (λ (x : Level A). record x { items = n.items }) c.0.rest;
    },
    levels-copied ls ms ns c.1 d.1,
  )
  levels-copied (l ∷ ls) (m ∷ ms) [] c d = absurd d
  levels-copied ls ms ns c d = absurd c

  -- a sketch is a copy of itself
  pub copy-itself : (s : Req A) → IsSameSketch cmp s s
  copy-itself s = grind (arith, common_steps, levels-itself)

  -- a copy of a copy is a copy
  pub copy-copied : (s t u : Req A) → IsSameSketch cmp s t → IsSameSketch cmp t u → IsSameSketch cmp s u
  copy-copied s t u c d = grind (arith, common_steps, levels-copied)

  -- ---- updates of copies

  -- the actions of updates of a copy are those of the sketch
  updates-copied : (s t : Req A) (items : List A) → IsSameSketch cmp s t → updates_by t items ≡ updates_by s items
  updates-copied s t items c = rw (c.k, c.accuracy, layouts-copied order s.levels t.levels c.levels) refl

  coins-copied : (s t : Req A) (x : A) → IsSameSketch cmp s t → coins_of_update t x ≡ coins_of_update s x
  coins-copied s t x c = rw (c.k, c.accuracy, layouts-copied order s.levels t.levels c.levels) refl

  -- updates in turn that start from a copy, or that end in one
  pub in-turn-from : (s t u : Req A) (xs : List A) (word : List Bool) → IsSameSketch cmp s t → AreUpdatedInTurn cmp t xs word u → AreUpdatedInTurn cmp s xs word u
  in-turn-from s t u [] word c d = copy-copied s t u c d
  in-turn-from s t u (x ∷ xs) word c d = record {
    copy = d.copy;
    clone = d.clone;
    is_copy = copy-copied s t d.copy c d.is_copy;
    is_clone = d.is_clone;
    after = d.after;
    updated = d.updated;
    sound = d.sound;
    rest = subst (λ (n : ℕ). AreUpdatedInTurn cmp d.after xs (drop n word) u) (coins-copied s t x c) d.rest;
  }

  pub in-turn-to : (s t u : Req A) (xs : List A) (word : List Bool) → AreUpdatedInTurn cmp s xs word t → IsSameSketch cmp t u → AreUpdatedInTurn cmp s xs word u
  in-turn-to s t u [] word d c = copy-copied s t u d c
  in-turn-to s t u (x ∷ xs) word d c = grind (arith, common_steps, in-turn-to d.after t u xs (drop (coins_of_update s x) word) d.rest c)

  -- the layouts after the first update, and the coins that all take
  module _ {s : Req A} {x : A} {word : List Bool} {Rest : Req A → Type 0} (d : IsUpdatedFirst cmp s x word Rest) where
    pub laid-first : layouts_of d.after.levels ≡ update_layouts s.k (layouts_of s.levels)
    laid-first = d.updated.layouts ∙ ap₂ (λ (k : ℕ) (ls : List Layout). update_layouts k ls) d.is_copy.k (layouts-copied order s.levels d.copy.levels d.is_copy.levels)

    actions-first : (xs : List A) → updates_by d.after xs ≡ updates_actions s.k s.accuracy (update_layouts s.k (layouts_of s.levels)) xs
    actions-first xs = rw (laid-first, d.updated.k ∙ d.is_copy.k, d.updated.accuracy ∙ d.is_copy.accuracy) refl

    coins-first : (xs : List A) → coins_of_updates s (x ∷ xs) ≡ coins_of_update s x + coins_of_updates d.after xs
    coins-first xs =
        draws-append (update_of s x) (updates_actions s.k s.accuracy (update_layouts s.k (layouts_of s.levels)) xs)
        ∙ ap (λ (ps : List (Action A)). coins_of_update s x + draws_of ps) (sym (actions-first xs))

  -- updates by some items and then by more
  pub in-turn-append : (s t u : Req A) (xs ys : List A) (word : List Bool) → AreUpdatedInTurn cmp s xs word t →
      AreUpdatedInTurn cmp t ys (drop (coins_of_updates s xs) word) u → AreUpdatedInTurn cmp s (xs ++ ys) word u
  in-turn-append s t u [] ys word d e = in-turn-from s t u ys word d e
  in-turn-append s t u (x ∷ xs) ys word d e = record {
    copy = d.copy;
    clone = d.clone;
    is_copy = d.is_copy;
    is_clone = d.is_clone;
    after = d.after;
    updated = d.updated;
    sound = d.sound;
    rest = in-turn-append d.after t u xs ys (drop (coins_of_update s x) word) d.rest (subst (λ (w : List Bool). AreUpdatedInTurn cmp t ys w u) left e);
  }
    where
      left : drop (coins_of_updates s (x ∷ xs)) word ≡ drop (coins_of_updates d.after xs) (drop (coins_of_update s x) word)
      left =
          let n : coins_of_updates s (x ∷ xs) ≡ coins_of_updates d.after xs + coins_of_update s x = omega (arith, coins-first d xs) in
          grind (arith, n, drop-drop (coins_of_updates d.after xs) (coins_of_update s x) word)

  -- ---- what they come to

  levels-alike : (ls ms : List (Level A)) → AllZip (IsSameLevel cmp) ls ms → AlikeLevels order (bag_of ls).levels (bag_of ms).levels
  levels-alike [] [] c = tt
  levels-alike (l ∷ ls) (m ∷ ms) c = (SameItems-sort cmp order l.items m.items c.0.items, levels-alike ls ms c.1)
  levels-alike ls ms c = absurd c

  coins-alike : (ls ms : List (Level A)) → AllZip (IsSameLevel cmp) ls ms → (h : ℕ) → coins_of ls h ≡ coins_of ms h
  coins-alike [] [] c h = refl
  coins-alike (l ∷ ls) (m ∷ ms) c zero = sym (ap (λ (x : Level A). x.coin) c.0.rest)
  coins-alike (l ∷ ls) (m ∷ ms) c (suc h) = coins-alike ls ms c.1 h
  coins-alike ls ms c h = absurd c

  -- the bags of copies are alike, also after an item is put into one and its clone into the other
  bags-alike : (s t : Req A) → IsSameSketch cmp s t → AlikeReq cmp (bag_of s.levels) (bag_of t.levels)
  bags-alike s t c = record { levels = levels-alike s.levels t.levels c.levels; kept = coins-alike s.levels t.levels c.levels }

  abbrev with_item : A → Bool → Bag A → Bag A
  with_item x bit bag = (act cmp (Put 0 x) bit (alone bag)).bag

  put-alike : (ls ms : List (Level A)) (x c : A) (bit : Bool) → cmp x c ≡ Equal → AllZip (IsSameLevel cmp) ls ms → AlikeReq cmp (with_item x bit (bag_of ls)) (with_item c bit (bag_of ms))
  put-alike [] [] x c bit e z = record { levels = (SameItems-sort cmp order (x ∷ []) (c ∷ []) (e, tt), tt); kept = λ h. refl }
  put-alike (l ∷ ls) (m ∷ ms) x c bit e z = record {
    levels = (SameItems-sort cmp order (l.items ++ x ∷ []) (m.items ++ c ∷ []) (SameItems-append cmp l.items m.items (x ∷ []) (c ∷ []) z.0.items (e, tt)), levels-alike ls ms z.1);
    kept = coins-alike (l ∷ ls) (m ∷ ms) z;
  }
  put-alike [] (m ∷ ms) x c bit e z = absurd z
  put-alike (l ∷ ls) [] x c bit e z = absurd z

  -- what the first update makes of the bag
  pub bag-first : (s : Req A) (x : A) (word : List Bool) (Rest : Req A → Type 0) (d : IsUpdatedFirst cmp s x word Rest) →
      AlikeReq cmp (bag_after cmp (update_of s x) word (bag_of s.levels)) (bag_of d.after.levels)
  bag-first s x word Rest d =
      let laid = layouts-copied order s.levels d.copy.levels d.is_copy.levels in
      let room : List (Action A) = actions_if_full s.k s.accuracy (put_layouts (layouts_of s.levels)) in
      let updated = d.updated.bag in
      let theirs : AlikeReq cmp (acts cmp room word (alone (with_item d.clone (next_bit word) (bag_of d.copy.levels)))).bag (bag_of d.after.levels) =
      rw (d.is_copy.k, d.is_copy.accuracy, laid) at updated in
      let own = acts-req order room word (alone (with_item x (next_bit word) (bag_of s.levels))) (alone (with_item d.clone (next_bit word) (bag_of d.copy.levels)))
      (own-req room (own-room A s.k s.accuracy (put_layouts (layouts_of s.levels))))
      (put-alike s.levels d.copy.levels x d.clone (next_bit word) d.is_clone d.is_copy.levels) (alike-refl order empty_bag) in
      alike-trans order _ _ _ own theirs

  -- the actions of updates leave the scratch alone
  own-updates : (k : ℕ) (accuracy : RankAccuracy) (ls : List Layout) (xs : List A) → AreOwn (updates_actions k accuracy ls xs)
  own-updates k accuracy ls [] = tt
  own-updates k accuracy ls (x ∷ xs) =
      own-append (update_actions k accuracy ls x) (updates_actions k accuracy (update_layouts k ls) xs) (own-update A k accuracy ls x) (own-updates k accuracy (update_layouts k ls) xs)

  -- clones of items have the same extremes as the items
  same-answers : (a b : Option A) → SameAnswer cmp a b → SameItems cmp (option_to_list a) (option_to_list b)
  same-answers None None e = tt
  same-answers (Some a) (Some b) e = (e, tt)
  same-answers a b e = absurd e

  least-same : (xs ys : List A) (a b : Option A) → SameItems cmp xs ys → SameAnswer cmp a b → IsLeastOf cmp xs a → IsLeastOf cmp ys b
  least-same xs ys a b same answer =
      let to : Moves order xs ys = λ P keeps. all-same P cmp keeps xs ys same in
      let from : Moves order ys xs = λ P keeps. all-same P cmp keeps ys xs (SameItems-back order xs ys same) in
      least-moved order xs ys to from a b answer

  greatest-same : (xs ys : List A) (a b : Option A) → SameItems cmp xs ys → SameAnswer cmp a b → IsGreatestOf cmp xs a → IsGreatestOf cmp ys b
  greatest-same xs ys a b same answer =
      let to : Moves order xs ys = λ P keeps. all-same P cmp keeps xs ys same in
      let from : Moves order ys xs = λ P keeps. all-same P cmp keeps ys xs (SameItems-back order xs ys same) in
      greatest-moved order xs ys to from a b answer

  pub with-clone : (a b : Option A) (x c : A) → SameAnswer cmp a b → cmp x c ≡ Equal → SameItems cmp (option_to_list b ++ c ∷ []) (option_to_list a ++ x ∷ [])
  with-clone a b x c e t =
      SameItems-back order (option_to_list a ++ x ∷ []) (option_to_list b ++ c ∷ []) (SameItems-append cmp (option_to_list a) (option_to_list b) (x ∷ []) (c ∷ []) (same-answers a b e) (t, tt))

  -- the bag after all updates, by the bag after the first one
  bag-rest : (s t : Req A) (x : A) (xs : List A) (word : List Bool) (d : IsUpdatedFirst cmp s x word (λ after. AreUpdatedInTurn cmp after xs (drop (coins_of_update s x) word) t)) →
      AlikeReq cmp (bag_after cmp (updates_by d.after xs) (drop (coins_of_update s x) word) (bag_of d.after.levels)) (bag_of t.levels) →
      AlikeReq cmp (bag_after cmp (updates_by s (x ∷ xs)) word (bag_of s.levels)) (bag_of t.levels)
  bag-rest s t x xs word d rest =
      let first : List (Action A) = update_of s x in
      let more : List (Action A) = updates_actions s.k s.accuracy (update_layouts s.k (layouts_of s.levels)) xs in
      let left : List Bool = drop (draws_of first) word in
      let one : Work (Bag A) = acts cmp first word (alone (bag_of s.levels)) in
      let own = own-updates s.k s.accuracy (update_layouts s.k (layouts_of s.levels)) xs in
      let same : (acts cmp more left (alone one.bag)).bag ≡ (acts cmp more left one).bag = own-bag cmp more left (alone one.bag) one own refl in
      let later = acts-req order more left (alone one.bag) (alone (bag_of d.after.levels)) (own-req more own) (bag-first s x word _ d) (alike-refl order empty_bag) in
      let on : AlikeReq cmp (acts cmp more left (alone (bag_of d.after.levels))).bag (bag_of t.levels) =
      subst (λ (ps : List (Action A)). AlikeReq cmp (bag_after cmp ps left (bag_of d.after.levels)) (bag_of t.levels)) (actions-first d xs) rest in
      let both = alike-trans order _ _ _ later on in
      subst (λ (w : Work (Bag A)). AlikeReq cmp w.bag (bag_of t.levels)) (sym (in_turn-append draws (act cmp) first more word (alone (bag_of s.levels))))
      (subst (λ (b : Bag A). AlikeReq cmp b (bag_of t.levels)) same both)

  -- updates one after another are updates by all items
  pub whole : (s t : Req A) (xs : List A) (word : List Bool) → AreUpdatedInTurn cmp s xs word t → AreUpdated cmp s xs word t
  whole s t [] word c = record {
    k = c.k;
    accuracy = c.accuracy;
    n = omega (arith, c.n);
    bag = bags-alike s t c;
    layouts = layouts-copied order s.levels t.levels c.levels;
    in_turn = c;
    least = rw append-nil (least-same (option_to_list s.least) (option_to_list s.least) s.least t.least (SameItems-refl cmp order (option_to_list s.least)) c.least (least_itself order s.least));
    greatest = rw append-nil
        (greatest-same (option_to_list s.greatest) (option_to_list s.greatest) s.greatest t.greatest (SameItems-refl cmp order (option_to_list s.greatest)) c.greatest
        (greatest_itself order s.greatest));
  }
  whole s t (x ∷ xs) word d =
      let rest = whole d.after t xs (drop (coins_of_update s x) word) d.rest in
      let k = d.updated.k ∙ d.is_copy.k in
      let low = least-same _ _ d.after.least d.after.least (with-clone s.least d.copy.least x d.clone d.is_copy.least d.is_clone) (SameAnswer-itself order d.after.least) d.updated.least in
      let high = greatest-same _ _ d.after.greatest d.after.greatest (with-clone s.greatest d.copy.greatest x d.clone d.is_copy.greatest d.is_clone)
      (SameAnswer-itself order d.after.greatest) d.updated.greatest in
      record {
        k = rest.k ∙ k;
        accuracy = rest.accuracy ∙ (d.updated.accuracy ∙ d.is_copy.accuracy);
        n = omega (arith, rest.n, d.updated.n, d.is_copy.n);
        bag = bag-rest s t x xs word d rest.bag;
        layouts = rest.layouts ∙ ap₂ (λ (k : ℕ) (ls : List Layout). updates_layouts k ls xs) k (laid-first d);
        in_turn = d;
        least = subst (λ (ys : List A). IsLeastOf cmp ys t.least) (append_assoc (option_to_list s.least) (x ∷ []) xs)
            (least-on order (option_to_list s.least ++ x ∷ []) xs d.after.least t.least low rest.least);
        greatest = subst (λ (ys : List A). IsGreatestOf cmp ys t.greatest) (append_assoc (option_to_list s.greatest) (x ∷ []) xs)
            (greatest-on order (option_to_list s.greatest ++ x ∷ []) xs d.after.greatest t.greatest high rest.greatest);
      }

  -- an update is updates by a single item
  pub one_updates : OneUpdates cmp
  one_updates s x word t sound updated = grind (arith, common_steps, whole, copy-itself, tied_itself)

  -- updates by some items and then by more are updates by all
  pub updates_go_on : UpdatesGoOn cmp
  updates_go_on s t u items more word a b = whole s u (items ++ more) word (in-turn-append s t u items more word a.in_turn b.in_turn)

  -- without items the sketch stays as it is
  pub updates_none : (s : Req A) (items : List A) (word : List Bool) → length items ≡ 0 → AreUpdated cmp s items word s
  updates_none s [] word e = whole s s [] word (copy-itself s)
  updates_none s (x ∷ items) word e = absurd (omega (arith, e))

  -- ---- levels that took items in, as a sketch

  module _ {S : Type 0} (bit : S → Bool) (next : S → S) where
    -- more bits of the source change nothing
    longer : (s t : Req A) (x : A) (source : S) (n : ℕ) → coins_of_update s x ≤ n → IsUpdated cmp s x (bits_from bit next source (coins_of_update s x)) t →
        IsUpdated cmp s x (bits_from bit next source n) t
    longer s t x source n enough u =
        let m : ℕ = coins_of_update s x in
        let same : take m (bits_from bit next source m) ≡ take m (bits_from bit next source n) = bits-take bit next source m m (omega arith) ∙ sym (bits-take bit next source m n enough) in
        record {
          k = u.k;
          accuracy = u.accuracy;
          n = u.n;
          bag = subst (λ (w : Work (Bag A)). AlikeReq cmp w.bag (bag_of t.levels)) (acts-enough cmp (update_of s x) _ _ (alone (bag_of s.levels)) same) u.bag;
          layouts = u.layouts;
          moved = u.moved;
          least = u.least;
          greatest = u.greatest;
        }

    -- a sketch with levels that took in clones of items
    record IsMade (s : Req A) (xs : List A) (source : S) (ns : List (Level A)) : Type 0 where
      made : Req A
      levels_are : made.levels ≡ ns
      sound : IsSound cmp made
      in_turn : AreUpdatedInTurn cmp s xs (bits_from bit next source (coins_of_updates s xs)) made

    is-made : (s : Req A) (xs : List A) (source after : S) (ns : List (Level A)) → IsSound cmp s → s.n + length xs < 2 ^ 64 → retained_of (layouts_of s.levels) < 4294967295 →
        AreTakenInTurn cmp bit next source after s.k s.accuracy s.levels xs ns → IsMade s xs source ns
    is-made s [] source after ns sound fits few t = record { made = s; levels_are = sym t.0; sound = sound; in_turn = copy-itself s }
    is-made s (x ∷ xs) source after ns sound fits few t =
        let least : Option A = Some (least_with cmp t.clone s.least) in
        let greatest : Option A = Some (greatest_with cmp t.clone s.greatest) in
        let one : Req A = sketch_of s.k s.accuracy (s.n + 1) t.levels least greatest in
        let u = updated_sketch order bit next source t.after s t.clone t.levels least greatest sound (omega (arith, fits)) few t.walked (tied_itself order _) (tied_itself order _) in
        let left = are-kept order bit next s.k s.accuracy source t.after s.levels t.levels (x ∷ []) sound.has_level sound.placed few
        (taken-one order bit next s.k s.accuracy source t.after s.levels t.levels x t.clone t.is_clone t.walked) in
        let later = is-made one xs t.after after ns u.0 (omega (arith, fits)) left.left.few t.rest in
        let m : ℕ = coins_of_update s x in
        let n : ℕ = coins_of_updates one xs in
        let laid : layouts_of t.levels ≡ update_layouts s.k (layouts_of s.levels) = u.1.layouts in
        let all : coins_of_updates s (x ∷ xs) ≡ m + n =
        draws-append (update_of s x) _ ∙ ap (λ (ls : List Layout). m + draws_of (updates_actions {A = A} s.k s.accuracy ls xs)) (sym laid) in
        let rest : drop m (bits_from bit next source (coins_of_updates s (x ∷ xs))) ≡ bits_from bit next t.after n =
        bits-drop bit next source m (coins_of_updates s (x ∷ xs)) (omega (arith, all))
        ∙ ap₂ (λ (st : S) (i : ℕ). bits_from bit next st i) (sym u.2) (omega (arith, all)) in
        record {
          made = later.made;
          levels_are = later.levels_are;
          sound = later.sound;
          in_turn = record {
            copy = s;
            clone = t.clone;
            is_copy = copy-itself s;
            is_clone = t.is_clone;
            after = one;
            updated = longer s one t.clone source (coins_of_updates s (x ∷ xs)) (omega (arith, all)) u.1;
            sound = u.0;
            rest = subst (λ (w : List Bool). AreUpdatedInTurn cmp one xs w later.made) (sym rest) later.in_turn;
          };
        }

    -- updates by all items as a whole: the sketch is sound and is the updated one, and the coins are drawn from the source
    pub updates_sketch : (source after : S) (s : Req A) (copies ns : List (Level A)) (xs : List A) (least greatest : Option A) → IsSound cmp s → s.n + length xs < 2 ^ 64 →
        retained_of (layouts_of s.levels) < 4294967295 → AllZip (IsSameLevel cmp) s.levels copies → AreTakenInTurn cmp bit next source after s.k s.accuracy copies xs ns →
        IsLeastOf cmp (option_to_list s.least ++ xs) least → IsGreatestOf cmp (option_to_list s.greatest ++ xs) greatest →
        IsSound cmp (sketch_of s.k s.accuracy (s.n + length xs) ns least greatest)
        × AreUpdated cmp s xs (bits_from bit next source (coins_of_updates s xs)) (sketch_of s.k s.accuracy (s.n + length xs) ns least greatest)
        × (after ≡ after_draws next source (coins_of_updates s xs))
    updates_sketch source after s copies ns xs least greatest sound fits few are_copies taken low high =
        let same = layouts-copied order s.levels copies are_copies in
        let copy : Req A = sketch_of s.k s.accuracy s.n copies s.least s.greatest in
        let copy_sound = copied_sketch order s.k s.accuracy s.n s.levels copies s.least s.least s.greatest s.greatest sound are_copies
        (SameAnswer-itself order s.least) (SameAnswer-itself order s.greatest) in
        let is_copy : IsSameSketch cmp s copy = record { k = refl; accuracy = refl; n = refl; levels = are_copies; least = SameAnswer-itself order s.least; greatest = SameAnswer-itself order s.greatest } in
        let few_copies : retained_of (layouts_of copies) < 4294967295 = omega (arith, few, ap retained_of same) in
        let m = is-made copy xs source after ns copy_sound fits few_copies taken in
        let made = whole copy m.made xs _ m.in_turn in
        let t : Req A = sketch_of s.k s.accuracy (s.n + length xs) ns least greatest in
        let least_same = one_least order _ _ m.made.least least (SameItems-refl cmp order (option_to_list s.least ++ xs)) made.least low in
        let greatest_same = one_greatest order _ _ m.made.greatest greatest (SameItems-refl cmp order (option_to_list s.greatest ++ xs)) made.greatest high in
        let levels : AllZip (IsSameLevel cmp) m.made.levels ns =
        subst (λ (ls : List (Level A)). AllZip (IsSameLevel cmp) m.made.levels ls) m.levels_are (levels-itself order m.made.levels) in
        let ends : IsSameSketch cmp m.made t = record { k = sym made.k; accuracy = sym made.accuracy; n = sym made.n; levels = levels; least = least_same; greatest = greatest_same } in
        let t_sound : IsSound cmp t =
        rw (made.k, made.accuracy, made.n) at (copied_sketch order m.made.k m.made.accuracy m.made.n m.made.levels ns m.made.least least m.made.greatest greatest m.sound levels
        least_same greatest_same) in
        let coins = ap (draws_of {A = A}) (updates-copied s copy xs is_copy) in
        let in_turn = in-turn-from s copy t xs _ is_copy (in-turn-to copy m.made t xs _ m.in_turn ends) in
        let left = are-kept order bit next s.k s.accuracy source after copies ns xs copy_sound.has_level copy_sound.placed few_copies taken in (
          t_sound,
          whole s t xs _ (subst (λ (n : ℕ). AreUpdatedInTurn cmp s xs (bits_from bit next source n) t) coins in_turn),
          left.left.source_is ∙ ap (after_draws next source) coins,
        )
