-- Under one word a call turns a sketch into only one sketch, up to items that compare equal, and so with one image. Updates by some items
-- and then by more are updates by all.
use Rattle.std.proofs.Common.{arith, ◌≡◌, ℕ, zero, suc, Bool, true, false, List, [], ◌∷◌, ◌++◌, map, length, Option, Equal, refl, sym, ap, ap₂, ◌∙◌, Ordering, ◌+◌, ◌<◌, eqb, ◌&&◌, None, Some, subst, append-nil, ◌^◌, cond, append_assoc, drop, length-append}
use Rattle.std.proofs.lemmas.Grind.{common_steps}
use Rattle.std.specs.Cmp.{IsTotalOrder}
use Rattle.std.specs.Prelude.{reverse}
use Rattle.std.proofs.lemmas.List.{reverse-append}
use Rattle.std.specs.List.{AllZip, flat_map, AllByRecursion}
use Rattle.std.specs.Option.{option_to_list}
use Rattle.std.proofs.lemmas.List.Elements.{length_all_zip}
use Rattle.sketch_base.specs.Bag.{Bag, AlikeKll, SameItems, sort, level_at}
use Rattle.sketch_base.specs.Extremes.{IsLeastOf, IsGreatestOf, IsFrom, IsUpTo, Ties, greatest_with, least_with}
use Rattle.sketch_base.specs.Spelling.{items_text}
use Rattle.sketch_base.specs.Tied.{TiesSpellOne}
use Rattle.sketch_base.proofs.bags.Alike.{SameItems-append, SameItems-refl, same-sorted, same-ends, same-text, acts-kll}
use Rattle.sketch_base.proofs.order.Extremes.{one_least, one_greatest, least-on, greatest-on}
use Rattle.sketch_kll.proofs.plays.Updates.{alike-back, alike-trans, alike-lengths, alike_on, fine_is, fine-updates, updates-append, updates_lengths, updates_lengths_are, updates_some, work_of, taking_more, taking_none}
use Rattle.sketch_kll.specs.Copy.{IsCopy}
use Rattle.sketch_kll.specs.Image.{stored}
use Rattle.sketch_kll.specs.Levels.{AllSorted, SameLevels, UpperSorted, weight_in}
use Rattle.sketch_kll.specs.Merged.{IsMerged}
use Rattle.sketch_kll.specs.Sketch.{Kll, IsSound, IsUpdated, bag_of, sketch_of, bag_in, coins_of_update, update_of}
use Rattle.sketch_kll.specs.Updates.{AreUpdated, coins_of_updates, OneUpdates, UpdatesGoOn}
use Rattle.sketch_kll.specs.Weighted.{IsWeighted}
use Rattle.sketch_kll.specs.Written.{ends_of, image_text, text_by_count}
use Rattle.std.proofs.Math.Bool.{and-true}
use Rattle.std.proofs.lemmas.Cmp.{tied_itself}
use Rattle.sketch_base.specs.Random.{bits_from, after_draws}
use Rattle.sketch_base.specs.Trace.{Action, bag_after, draws_of, Work, act, alone, draws}
use Rattle.sketch_base.proofs.bags.Parts.{all-parts, all-same}
use Rattle.sketch_kll.specs.Merge.{pulls_actions}
use Rattle.sketch_kll.specs.Take.{HaveTaken, updates_of}
use Rattle.sketch_kll.proofs.layout.Alike.{length-lengths}
use Rattle.sketch_kll.proofs.layout.Compacted.{length-same}
use Rattle.sketch_kll.proofs.layout.Legal.{all_none, ends_there, from_all, from-same, greatest_itself, least_itself, still_between, ties-same, up_to_all, up_to-same, greatest_of_both, least_of_both}
use Rattle.sketch_kll.proofs.merges.Actions.{PullsAct, beside, pulls_act, goes-kll, pulls_are}
use Rattle.sketch_kll.proofs.merges.Merged.{alike-refl, alike-same, none_at_first, ties_both, kept_levels}
use Rattle.std.proofs.lemmas.Bool.{and_right, ne_eqb}
use Rattle.sketch_base.proofs.plays.Plays.{lengths-acts, in_turn-append}
use Rattle.sketch_kll.specs.Schedule.{updates_actions}
use Rattle.sketch_kll.specs.Steps.{is_full, put, compacted_if_full}

-- Under one word a call turns a sketch into only one sketch, up to items that compare equal, and so with one image.

module _ {A : Type 0} {cmp : A → A → Ordering} (order : IsTotalOrder cmp) where
  abbrev SameSorted : List A → List A → Type 0
  SameSorted xs ys = SameItems cmp (sort cmp xs) (sort cmp ys)

  -- sorted levels that are alike compare equal
  one-sorted : (ts us : List (List A)) → AllZip SameSorted ts us → AllSorted cmp ts → AllSorted cmp us → SameLevels cmp ts us
  one-sorted [] [] p a b = tt
  one-sorted (t ∷ ts) (u ∷ us) p a b = (same-sorted order t u p.0 a.0 b.0, one-sorted ts us p.1 a.1 b.1)
  one-sorted ts us p a b = absurd p

  -- the same holds if only the upper levels are sorted, and the levels 0 compare equal item by item
  one-levels : (ts us : List (List A)) → AllZip SameSorted ts us → SameItems cmp (level_at ts 0) (level_at us 0) → UpperSorted cmp ts → UpperSorted cmp us → SameLevels cmp ts us
  one-levels [] [] p c a b = tt
  one-levels (t ∷ ts) (u ∷ us) p c a b = (c, one-sorted ts us p.1 a b)
  one-levels ts us p c a b = absurd p

  one-sketch : (bag : Bag A) (ends tops : List A) (t u : Kll A) → IsSound cmp t → IsSound cmp u → t.k ≡ u.k → t.min_k ≡ u.min_k → t.n ≡ u.n → t.is_sorted ≡ u.is_sorted →
      AlikeKll cmp bag (bag_of t) → AlikeKll cmp bag (bag_of u) →
      IsLeastOf cmp ends t.least → IsLeastOf cmp ends u.least → IsGreatestOf cmp tops t.greatest → IsGreatestOf cmp tops u.greatest → IsCopy cmp t u
  one-sketch bag ends tops t u a b k min_k n is_sorted p q l l' g g' =
      let between = alike-trans order _ _ _ (alike-back order bag (bag_of t) p) q in
      record {
        k = sym k;
        min_k = sym min_k;
        n = sym n;
        is_sorted = sym is_sorted;
        levels = one-levels t.levels u.levels between.levels between.level_zero a.upper_sorted b.upper_sorted;
        least = one_least order ends ends t.least u.least (SameItems-refl cmp order ends) l l';
        greatest = one_greatest order tops tops t.greatest u.greatest (SameItems-refl cmp order tops) g g';
      }

  -- an update makes only one sketch
  pub one-update : (s : Kll A) (x : A) (word : List Bool) (t u : Kll A) → IsSound cmp t → IsSound cmp u → IsUpdated cmp s x word t → IsUpdated cmp s x word u → IsCopy cmp t u
  one-update s x word t u a b p q =
      one-sketch _ (option_to_list s.least ++ x ∷ []) (option_to_list s.greatest ++ x ∷ []) t u a b
      (p.k ∙ sym q.k) (p.min_k ∙ sym q.min_k) (p.n ∙ sym q.n) (p.is_sorted ∙ sym q.is_sorted) p.bag q.bag p.least q.least p.greatest q.greatest

  -- updates by all items of a list make only one
  pub one-list : (s : Kll A) (items : List A) (word : List Bool) (t u : Kll A) → IsSound cmp t → IsSound cmp u → AreUpdated cmp s items word t → AreUpdated cmp s items word u → IsCopy cmp t u
  one-list s items word t u a b p q =
      one-sketch _ (option_to_list s.least ++ items) (option_to_list s.greatest ++ items) t u a b
      (p.k ∙ sym q.k) (p.min_k ∙ sym q.min_k) (p.n ∙ sym q.n) (p.is_sorted ∙ sym q.is_sorted) p.bag q.bag p.least q.least p.greatest q.greatest

  -- an update with a weight makes only one
  pub one-weighted : (s : Kll A) (x : A) (weight : ℕ) (word : List Bool) (t u : Kll A) → IsSound cmp t → IsSound cmp u → IsWeighted cmp s x weight word t → IsWeighted cmp s x weight word u →
      IsCopy cmp t u
  one-weighted s x weight word t u a b p q =
      one-sketch _ (option_to_list s.least ++ x ∷ []) (option_to_list s.greatest ++ x ∷ []) t u a b
      (p.k ∙ sym q.k) (p.min_k ∙ sym q.min_k) (p.n ∙ sym q.n) (p.is_sorted ∙ sym q.is_sorted) p.bag q.bag p.least q.least p.greatest q.greatest

  -- a merge makes only one
  pub one-merge : (s other : Kll A) (word : List Bool) (t u : Kll A) → IsSound cmp t → IsSound cmp u → IsMerged cmp s other word t → IsMerged cmp s other word u → IsCopy cmp t u
  one-merge s other word t u a b p q =
      one-sketch _ (option_to_list s.least ++ option_to_list other.least) (option_to_list s.greatest ++ option_to_list other.greatest) t u a b
      (p.k ∙ sym q.k) (p.min_k ∙ sym q.min_k) (p.n ∙ sym q.n) (p.is_sorted ∙ sym q.is_sorted) p.bag q.bag p.least q.least p.greatest q.greatest

  -- ---- images of copies

  same-lengths : (xs ys : List (List A)) → SameLevels cmp xs ys → map length xs ≡ map length ys
  same-lengths [] [] s = refl
  same-lengths (x ∷ xs) (y ∷ ys) s = ap₂ (λ (n : ℕ) (ns : List ℕ). n ∷ ns) (length_all_zip (λ x y. cmp x y ≡ Equal) x y s.0) (same-lengths xs ys s.1)
  same-lengths _ _ s = absurd s

  same-flat : (xs ys : List (List A)) → SameLevels cmp xs ys → SameItems cmp (flat_map (λ l. l) xs) (flat_map (λ l. l) ys)
  same-flat [] [] s = tt
  same-flat (x ∷ xs) (y ∷ ys) s = SameItems-append cmp x y _ _ s.0 (same-flat xs ys s.1)
  same-flat _ _ s = absurd s

  same-reverse : (xs ys : List A) → SameItems cmp xs ys → SameItems cmp (reverse xs) (reverse ys)
  same-reverse [] [] s = tt
  same-reverse (x ∷ xs) (y ∷ ys) s = grind (arith, common_steps, reverse-append, SameItems-append, same-reverse xs ys s.1)
  same-reverse _ _ s = absurd s

  same-stored : (is_sorted : Bool) (xs ys : List (List A)) → SameLevels cmp xs ys → SameItems cmp (stored is_sorted xs) (stored is_sorted ys)
  same-stored is_sorted [] [] s = tt
  same-stored true (x ∷ xs) (y ∷ ys) s = same-flat (x ∷ xs) (y ∷ ys) s
  same-stored false (x ∷ xs) (y ∷ ys) s = same-flat (reverse x ∷ xs) (reverse y ∷ ys) (same-reverse x y s.0, s.1)
  same-stored is_sorted _ _ s = absurd s

  -- copies have the same image if items that compare equal have one spelling
  pub one-image : {spelling : A → Option (List ℕ)} → TiesSpellOne cmp spelling → (s t : Kll A) → IsCopy cmp s t → image_text spelling s ≡ image_text spelling t
  one-image {spelling} tied s t c =
      ap (text_by_count spelling s) (sym c.n) ∙ go t.n
    where
      lengths : map length s.levels ≡ map length t.levels
      lengths = same-lengths s.levels t.levels c.levels

      count : length s.levels ≡ length t.levels
      count = length_all_zip (SameItems cmp) s.levels t.levels c.levels

      items : items_text spelling (stored s.is_sorted s.levels) ≡ items_text spelling (stored t.is_sorted t.levels)
      items =
          same-text tied (stored s.is_sorted s.levels) (stored s.is_sorted t.levels) (same-stored s.is_sorted s.levels t.levels c.levels)
          ∙ ap (λ (b : Bool). items_text spelling (stored b t.levels)) (sym c.is_sorted)

      ends : items_text spelling (ends_of s) ≡ items_text spelling (ends_of t)
      ends = same-text tied (ends_of s) (ends_of t)
          (SameItems-append cmp (option_to_list s.least) (option_to_list t.least) (option_to_list s.greatest) (option_to_list t.greatest) (same-ends cmp s.least t.least c.least) (same-ends cmp s.greatest t.greatest c.greatest))

      go : (n : ℕ) → text_by_count spelling s n ≡ text_by_count spelling t n
      go zero = rw (c.k, c.n, c.is_sorted) refl
      go (suc zero) = rw (items, c.k, c.n, c.is_sorted) refl
      go (suc (suc n)) = rw (items, ends, lengths, count, c.k, c.min_k, c.n, c.is_sorted) refl

-- A sketch after updates by some items in turn: it keeps the invariant of sketches, and is what their actions make of it.

module _ {A : Type 0} {cmp : A → A → Ordering} (o : IsTotalOrder cmp) where
  -- taking items is also taking any that compare equal to them place by place
  taken_same : {S : Type 0} (bit : S → Bool) (next : S → S) (source after : S) (k : ℕ) (flag nf : Bool) (ls : List (List A)) (xs ys : List A) (ms : List (List A)) → 0 < length ls →
      SameItems cmp xs ys → HaveTaken cmp bit next source after k flag nf ls ys ms → HaveTaken cmp bit next source after k flag nf ls xs ms
  taken_same {S} bit next source after k flag nf ls xs ys ms some s t =
      let n : length xs ≡ length ys = length-same cmp xs ys s in
      let lengths : List ℕ = map length ls in
      let pulls : List (Action A) = pulls_actions k (length ys) (record { bag = lengths; scratch = length ys ∷ [] }) in
      let word : List Bool = bits_from bit next source (draws_of (updates_of k ls ys)) in
      let own : PullsAct cmp k lengths [] xs [] true (bag_in flag ls) word pulls = rw (← n) (pulls_act cmp k lengths [] xs [] true (bag_in flag ls) word) in
      let theirs = pulls_act cmp k lengths [] ys [] true (bag_in flag ls) word in
      let kll = goes-kll pulls _ (pulls_are {A = A} k (length ys) [] (record { bag = lengths; scratch = length ys ∷ [] }) (omega (arith, some, length-lengths ls)) refl).goes in
      let pulled = acts-kll o pulls word (beside cmp (bag_in flag ls) true (xs ∷ [])) (beside cmp (bag_in flag ls) true (ys ∷ [])) kll
      (alike-refl cmp o flag ls) (alike-same cmp o true (xs ∷ []) (ys ∷ []) (s, tt)) in
      let alike : AlikeKll cmp (bag_after cmp (updates_of k ls xs) word (bag_in flag ls)) (bag_after cmp (updates_of k ls ys) word (bag_in flag ls)) = rw (own.works, theirs.works) at pulled in
      let drawn : draws_of (updates_of k ls ys) ≡ draws_of (updates_of k ls xs) = sym theirs.drawn ∙ own.drawn in
      record {
        kept = t.kept;
        bag = subst (λ (d : ℕ). AlikeKll cmp (bag_after cmp (updates_of k ls xs) (bits_from bit next source d) (bag_in flag ls)) (bag_in nf ms)) drawn (alike-trans o _ _ _ alike t.bag);
        source_is = t.source_is ∙ ap (after_draws next source) drawn;
        weighs = omega (arith, t.weighs, n);
        flag_is = t.flag_is ∙ ap (λ (m : ℕ). flag && eqb m 0) (sym n);
        one_level = λ e h. t.one_level e (omega (arith, h, n));
        between = λ l g h. t.between l g (all-same (λ y. IsFrom cmp l y × IsUpTo cmp g y) cmp (λ a b e q. (from-same o l a b e q.0, up_to-same o g a b e q.1)) xs ys s h.0, h.1);
        ties = λ l g h. t.ties l g (all-same (λ y. Ties cmp y l × Ties cmp y g) cmp (λ a b e q. (ties-same o l a b e q.0, ties-same o g a b e q.1)) xs ys s h.0, h.1);
      }

  all-both : (P Q : A → Type 0) (xs : List A) → AllByRecursion P xs → AllByRecursion Q xs → AllByRecursion (λ x. P x × Q x) xs
  all-both P Q [] h g = tt
  all-both P Q (x ∷ xs) h g = ((h.0, g.0), all-both P Q xs h.1 g.1)

  -- a single item ties with the extremes
  one_ties : (a b least greatest : Option A) (items : List A) → length items ≡ 1 → a ≡ None → b ≡ None → IsLeastOf cmp (option_to_list a ++ items) least →
      IsGreatestOf cmp (option_to_list b ++ items) greatest →
      AllByRecursion (λ y. Ties cmp y least × Ties cmp y greatest) items
  one_ties a b least greatest [] n na nb l g = tt
  one_ties a b least greatest (x ∷ []) n na nb l g = (ties_both o a (Some x) b (Some x) least greatest x na nb l g (tied_itself o x, tied_itself o x), tt)
  one_ties a b least greatest (x ∷ y ∷ items) n na nb l g = absurd (omega (arith, n))

  -- what updates by all items in turn make of the fields of a sketch
  pub record UpdatesFields {S : Type 0} (bit : S → Bool) (next : S → S) (source after : S) (s : Kll A) (items : List A) (t : Kll A) : Type 0 where
    pub sound : IsSound cmp t
    pub updated_are : AreUpdated cmp s items (bits_from bit next source (coins_of_updates s items)) t
    pub source_is : after ≡ after_draws next source (coins_of_updates s items)

  -- taking clones of the items in makes such fields
  pub updates_fields : {S : Type 0} (bit : S → Bool) (next : S → S) {source after : S} {s : Kll A} {items clones : List A}
      {k old_k : ℕ} {old_flag flag : Bool} {rows ms : List (List A)} {least greatest kept_least kept_greatest : Option A} →
      IsSound cmp s → 0 < length items → SameItems cmp items clones → old_k ≡ s.k → old_flag ≡ s.is_sorted → rows ≡ s.levels → k ≡ old_k →
      HaveTaken cmp bit next source after old_k old_flag flag rows clones ms →
      IsLeastOf cmp (option_to_list s.least ++ items) least → kept_least ≡ least → IsGreatestOf cmp (option_to_list s.greatest ++ items) greatest → kept_greatest ≡ greatest →
      UpdatesFields bit next source after s items (sketch_of k s.min_k (s.n + length items) flag ms kept_least kept_greatest)
  updates_fields {S} bit next {source} {after} {s} {items} {clones} {k} {old_k} {old_flag} {flag} {rows} {ms} {least} {greatest} {kept_least} {kept_greatest}
      sound some same own_k own_flag own_levels k_kept taken least_of least_is greatest_of greatest_is =
      let m : HaveTaken cmp bit next source after s.k s.is_sorted flag s.levels items ms =
      taken_same bit next source after s.k s.is_sorted flag s.levels items clones ms sound.has_level same (rw (← own_k, ← own_flag, ← own_levels) taken) in
      let low = all-parts (λ y. IsFrom cmp least y) (option_to_list s.least) items (from_all o _ least least_of) in
      let high = all-parts (λ y. IsUpTo cmp greatest y) (option_to_list s.greatest) items (up_to_all o _ greatest greatest_of) in
      let between = m.between least greatest
      (all-both (λ y. IsFrom cmp least y) (λ y. IsUpTo cmp greatest y) items low.1 high.1, still_between o s.least s.greatest least greatest low.0 high.0 s.levels sound.items_between) in
      let weighs : weight_in ms ≡ s.n + length items = omega (arith, m.weighs, sound.weighs_n) in
      let ends = ends_there o (s.n + length items) least greatest ms (omega arith) (omega (arith, weighs)) between in
      rw (k_kept, own_k, least_is, greatest_is) (record {
        sound = grind (arith, common_steps, none_at_first, one_ties, all_none);
        updated_are = record { k = refl; min_k = refl; n = refl; is_sorted = m.flag_is; bag = m.bag; least = least_of; greatest = greatest_of };
        source_is = m.source_is;
      })

  -- the same, of the sketch as callers see it
  pub updates_seen : {S : Type 0} {bit : S → Bool} {next : S → S} {source after : S} {s s' t : Kll A} {items : List A} → s ≡ s' →
      UpdatesFields bit next source after s items t → UpdatesFields bit next source after s' items t
  updates_seen e m = rw (← e) m

  -- updates by no items change nothing
  pub updates_none : (s : Kll A) (items : List A) (word : List Bool) → length items ≡ 0 → AreUpdated cmp s items word s
  updates_none s (x ∷ items) word e = absurd (omega (arith, e))
  updates_none s [] word e = record {
    k = refl;
    min_k = refl;
    n = omega arith;
    is_sorted = sym (and-true s.is_sorted);
    bag = alike-refl cmp o s.is_sorted s.levels;
    least = rw append-nil (least_itself o s.least);
    greatest = rw append-nil (greatest_itself o s.greatest);
  }

-- Updates by a single item are its update, and updates by some items and then by more are updates by all.

module _ {A : Type 0} {cmp : A → A → Ordering} (o : IsTotalOrder cmp) where
  -- updates by a single item are its update
  pub one_updates : OneUpdates cmp
  one_updates s x word t = grind (arith, common_steps, and_right, append-nil)

  -- what an update makes of the fields of a sketch
  pub record UpdatedFields {S : Type 0} (bit : S → Bool) (next : S → S) (source after : S) (s : Kll A) (x : A) (t : Kll A) : Type 0 where
    pub sound : IsSound cmp t
    pub updated_is : IsUpdated cmp s x (bits_from bit next source (coins_of_update s x)) t
    pub source_is : after ≡ after_draws next source (coins_of_update s x)

  -- an update, which takes one item in, makes such fields
  pub updated_fields : {S : Type 0} (bit : S → Bool) (next : S → S) {source after : S} {s : Kll A} (x : A) {k old_k : ℕ} {old_flag flag : Bool} {rows : List (List A)}
      (ls : List (List A)) {ms : List (List A)} {least greatest kept_least kept_greatest : Option A} →
      IsSound cmp s → s.n < 2 ^ 64 → old_k ≡ s.k → old_flag ≡ s.is_sorted → rows ≡ s.levels → SameLevels cmp (compacted_if_full cmp old_k old_flag (bit source) rows) ls → UpperSorted cmp ls →
      k ≡ old_k → flag ≡ false → after ≡ cond (is_full old_k rows) (next source) source → ms ≡ put x ls →
      Ties cmp (least_with cmp x s.least) least → kept_least ≡ least → Ties cmp (greatest_with cmp x s.greatest) greatest → kept_greatest ≡ greatest →
      UpdatedFields bit next source after s x (sketch_of k s.min_k (s.n + 1) flag ms kept_least kept_greatest)
  updated_fields {S} bit next {source} {after} {s} x {k} {old_k} {old_flag} {flag} {rows} ls {ms} {least} {greatest} {kept_least} {kept_greatest}
      sound small own_k own_flag own_levels alike upper k_is flag_is drawn put_in least_ties least_is greatest_ties greatest_is =
      let start = taking_none cmp o bit next source old_k old_flag rows (kept_levels o sound own_k own_flag own_levels) in
      let light : weight_in rows + 0 < 2 ^ 64 = omega (arith, ap weight_in own_levels, sound.weighs_n, small) in
      let took = taking_more cmp o bit next source source after old_k old_flag old_flag rows [] x rows ls ms start light alike upper put_in drawn in
      let made = updates_fields o bit next sound (omega arith) (SameItems-refl cmp o (x ∷ [])) own_k own_flag own_levels k_is took.taken
      (least_of_both o x s.least least least_ties) least_is (greatest_of_both o x s.greatest greatest greatest_ties) greatest_is in
      let coins : coins_of_updates s (x ∷ []) ≡ coins_of_update s x = ap draws_of (append-nil (update_of s x)) in
      let t : Kll A = sketch_of k s.min_k (s.n + 1) false ms kept_least kept_greatest in
      grind (arith, common_steps)

  -- the same, of the sketch as callers see it
  pub updated_seen : {S : Type 0} {bit : S → Bool} {next : S → S} {source after : S} {s s' t : Kll A} {x : A} → s ≡ s' →
      UpdatedFields bit next source after s x t → UpdatedFields bit next source after s' x t
  updated_seen e m = rw (← e) m

  -- updates by some items and then by more are updates by all
  pub updates_go_on : UpdatesGoOn cmp
  updates_go_on s t u items more word some a b =
      let lengths : List ℕ = map length s.levels in
      let some0 : 0 < length lengths = omega (arith, some, length-lengths s.levels) in
      let first : List (Action A) = updates_actions s.k lengths items in
      let later : List ℕ = updates_lengths s.k lengths items in
      let rest : List Bool = drop (draws_of first) word in
      let fine = fine-updates s.k lengths items some0 in
      let made = lengths-acts cmp first word (alone (bag_of s)) (fine_is first (work_of lengths) fine).kll ∙ ap (λ (w : Work (List ℕ)). w.bag) (updates_lengths_are {A = A} s.k lengths items some0) in
      let there : map length t.levels ≡ later = sym (alike-lengths o _ _ a.bag) ∙ made in
      let on : AlikeKll cmp (bag_after cmp (updates_actions s.k later more) rest (bag_of t)) (bag_of u) = rw (a.k, there) at b.bag in
      let both = alike_on o first (updates_actions s.k later more) (work_of lengths) word rest (bag_of s) (bag_of t) (bag_of u) fine
      (fine_is _ (work_of later) (fine-updates s.k later more (updates_some s.k lengths items some0))).kll a.bag on in
      let n = length-append items more in
      record {
        k = b.k ∙ a.k;
        min_k = b.min_k ∙ a.min_k;
        n = omega (arith, a.n, b.n, n);
        is_sorted = b.is_sorted ∙ (ap (λ (f : Bool). f && eqb (length more) 0) a.is_sorted ∙ flags s.is_sorted items);
        bag = rw (updates-append s.k lengths items more)
            (subst (λ (w : Work (Bag A)). AlikeKll cmp w.bag (bag_of u)) (sym (in_turn-append draws (act cmp) first (updates_actions s.k later more) word (alone (bag_of s)))) both);
        least = rw (← append_assoc (option_to_list s.least) items more)
            (least-on o (option_to_list s.least ++ items) more t.least u.least a.least b.least);
        greatest = rw (← append_assoc (option_to_list s.greatest) items more)
            (greatest-on o (option_to_list s.greatest ++ items) more t.greatest u.greatest a.greatest b.greatest);
      }
    where
      flags : (f : Bool) (items : List A) → ((f && eqb (length items) 0) && eqb (length more) 0) ≡ (f && eqb (length (items ++ more)) 0)
      flags true [] = refl
      flags true (x ∷ items) = rw (ne_eqb (length (x ∷ items)) 0 (omega arith), ne_eqb (length ((x ∷ items) ++ more)) 0 (omega arith)) refl
      flags false items = refl
