-- A call under one word makes only one sketch of a sketch, up to items that compare equal, and so one image.
use Rattle.std.proofs.lemmas.Grind.{common_steps}
use Rattle.std.proofs.Common.{◌≡◌, ℕ, zero, suc, ◌<◌, Bool, true, false, List, [], ◌∷◌, ◌++◌, length, drop, get_or, refl, sym, ap, ap₂, ◌∙◌, subst, arith, inl, inr, Ordering, Equal, Option, ◌&&◌, ◌==◌, if◌then◌else◌, nat_le}
use Rattle.std.specs.Cmp.{IsTotalOrder}
use Rattle.std.specs.List.{AllZip}
use Rattle.std.specs.Option.{option_to_list}
use Rattle.std.proofs.lemmas.Bool.{cases_lt}
use Rattle.std.proofs.lemmas.List.{get_or_default, length-map}
use Rattle.std.proofs.lemmas.List.Elements.{length_all_zip}
use Rattle.sketch_base.specs.Queries.{SameAnswer}
use Rattle.sketch_base.specs.Bag.{SameItems, AlikeReq, sort, level_at}
use Rattle.sketch_base.specs.Tied.{TiesSpellOne}
use Rattle.sketch_base.specs.Trace.{Action}
use Rattle.sketch_base.proofs.bags.Alike.{SameItems-append, SameItems-back, SameItems-refl, SameItems-trans, same-sorted, same-ends, same-text}
use Rattle.sketch_base.proofs.order.Extremes.{one_least, one_greatest}
use Rattle.sketch_req.specs.Actions.{bag_of}
use Rattle.sketch_req.specs.Imaged.{IsSameLevel, IsSameSketch}
use Rattle.sketch_req.specs.Level.{Level, IsLevelMerged, appended, turns_coin}
use Rattle.sketch_req.specs.Merged.{IsMergedBy, item_lists, merge_by, redrawn_if}
use Rattle.sketch_req.specs.Moved.{AreMoved, AreMergedIn, is_moved, level_or_fresh}
use Rattle.sketch_req.specs.Schedule.{Layout, layout_of, layouts_of, layout_at}
use Rattle.sketch_req.specs.Sketch.{Req, IsSound, IsUpdated, coins_of_update, update_of, items_in}
use Rattle.sketch_req.specs.Updates.{AreUpdated, AreUpdatedInTurn, IsUpdatedFirst}
use Rattle.sketch_req.specs.Walk.{IsPlaced, AreLevels, appended_first}
use Rattle.sketch_req.specs.declared.RankAccuracy.{RankAccuracy}
use Rattle.sketch_req.proofs.walks.Actions.{alike-sym, alike-trans}
use Rattle.sketch_req.proofs.merges.Levels.{coin-there, items-there, layout-there, placed-at-place}
use Rattle.sketch_req.proofs.layouts.Layouts.{length-layouts}
use Rattle.sketch_req.proofs.calls.InTurn.{bag-first, copy-copied, in-turn-from, laid-first, one_updates, with-clone}
use Rattle.sketch_base.specs.declared.codec.Header.{Header}
use Rattle.sketch_base.specs.Heads.{header_text}
use Rattle.std.proofs.lemmas.Cmp.{tied_back}
use Rattle.sketch_req.specs.declared.compactor.image.Front.{Front}
use Rattle.sketch_req.specs.declared.image.Form.{Form}
use Rattle.sketch_req.specs.declared.image.Form.TheVariants.{Empty, Raw, One, Several}
use Rattle.sketch_req.specs.LevelImage.{front_of, front_text, levels_text}
use Rattle.sketch_req.specs.Redrawn.{redrawn}
use Rattle.sketch_req.specs.Written.{form_of, is_first_sorted, header_by, ends_of, body_by, image_text}
use Rattle.sketch_req.proofs.sketches.Copies.{items-copied, layouts-copied}

-- what holds of two lists of items pair by pair holds at each place
zip-at : {A : Type 0} (R : List A → List A → Type 0) (xs ys : List (List A)) (h : ℕ) → h < length xs → AllZip R xs ys → R (level_at xs h) (level_at ys h)
zip-at R [] ys h i z = absurd (omega arith)
zip-at R (x ∷ xs) [] h i z = absurd z
zip-at R (x ∷ xs) (y ∷ ys) zero i z = z.0
zip-at R (x ∷ xs) (y ∷ ys) (suc h) i z = zip-at R xs ys h (omega arith) z.1

module _ {A : Type 0} {cmp : A → A → Ordering} (order : IsTotalOrder cmp) where
  -- ---- levels

  -- levels with the same parts and items that compare equal
  same-level : (a b : Level A) → SameItems cmp a.items b.items → a.is_sorted ≡ b.is_sorted → layout_of a ≡ layout_of b →
      a.coin ≡ b.coin → a.lg_weight ≡ b.lg_weight → a.k ≡ b.k → a.accuracy ≡ b.accuracy → IsSameLevel cmp a b
  same-level a b items sorted layout coin place k accuracy = grind (arith, common_steps)

  level-itself : (a : Level A) → IsSameLevel cmp a a
  level-itself a = record { items = SameItems-refl cmp order a.items; rest = refl }

  level-back : (a b : Level A) → IsSameLevel cmp a b → IsSameLevel cmp b a
  level-back a b c = record { items = SameItems-back order a.items b.items c.items; rest = sym (ap (λ (l : Level A). record l { items = a.items }) c.rest) }

  levels-back : (ls ms : List (Level A)) → AllZip (IsSameLevel cmp) ls ms → AllZip (IsSameLevel cmp) ms ls
  levels-back [] [] c = tt
  levels-back (l ∷ ls) (m ∷ ms) c = (level-back l m c.0, levels-back ls ms c.1)
  levels-back _ _ c = absurd c

  level-there : (ls ms : List (Level A)) (h : ℕ) (none : Level A) → AllZip (IsSameLevel cmp) ls ms → IsSameLevel cmp (get_or ls h none) (get_or ms h none)
  level-there [] [] h none c = level-itself none
  level-there (l ∷ ls) (m ∷ ms) zero none c = c.0
  level-there (l ∷ ls) (m ∷ ms) (suc h) none c = level-there ls ms h none c.1
  level-there _ _ h none c = absurd c

  by-place : (ls ms : List (Level A)) → length ls ≡ length ms → ((h : ℕ) (none : Level A) → h < length ls → IsSameLevel cmp (get_or ls h none) (get_or ms h none)) → AllZip (IsSameLevel cmp) ls ms
  by-place [] [] n e = tt
  by-place (l ∷ ls) (m ∷ ms) n e = (e 0 l (omega arith), by-place ls ms (omega (arith, n)) (λ h none i. e (suc h) none (omega (arith, i))))
  by-place _ _ n e = absurd (omega (arith, n))

  -- ---- walks

  -- a level that was moved is determined by its layout, its coin and its items in any order
  one-moved : (k : ℕ) (accuracy : RankAccuracy) (h : ℕ) (a b : Level A) → IsPlaced cmp k accuracy h a → IsPlaced cmp k accuracy h b →
      layout_of a ≡ layout_of b → a.coin ≡ b.coin → a.is_sorted ≡ true → b.is_sorted ≡ true →
      SameItems cmp (sort cmp a.items) (sort cmp b.items) → IsSameLevel cmp a b
  one-moved k accuracy h a b p q layout coin c d s = grind (arith, common_steps, same-level, same-sorted)

  -- levels after compactions of the same places of the same levels
  one-walk : (k : ℕ) (accuracy : RankAccuracy) (actions others : List (Action A)) → ((h : ℕ) → is_moved others h ≡ is_moved actions h) → (ls ms ts us : List (Level A)) →
      AllZip (IsSameLevel cmp) ls ms → AreMoved actions ls ts → AreMoved others ms us →
      layouts_of ts ≡ layouts_of us → AlikeReq cmp (bag_of ts) (bag_of us) → AreLevels cmp k accuracy 0 ts → AreLevels cmp k accuracy 0 us → AllZip (IsSameLevel cmp) ts us
  one-walk k accuracy actions others alike_moves ls ms ts us start p q layouts alike a b = by-place ts us count same
    where
      count : length ts ≡ length us
      count = sym (length-layouts ts) ∙ (ap length layouts ∙ length-layouts us)

      moved : (h : ℕ) (x y : Level A) → h < length ts → h < length us → x ≡ get_or ts h x → y ≡ get_or us h y → x.is_sorted ≡ true → y.is_sorted ≡ true → IsSameLevel cmp x y
      moved h x y i j e f c d =
          one-moved k accuracy h x y (placed-at-place cmp k accuracy h ts x a i e) (placed-at-place cmp k accuracy h us y b j f)
          (sym (layout-there ts h x i e) ∙ (ap (λ (l : List Layout). layout_at l h) layouts ∙ layout-there us h y j f))
          (sym (coin-there ts h x i e) ∙ (alike.kept h ∙ coin-there us h y j f)) c d
          (rw (← items-there ts h x i e, ← items-there us h y j f)
          (zip-at (λ xs ys. SameItems cmp (sort cmp xs) (sort cmp ys)) (item_lists ts) (item_lists us) h (omega (arith, i, length-map ts (λ (l : Level A). l.items))) alike.levels))

      same : (h : ℕ) (none : Level A) → h < length ts → IsSameLevel cmp (get_or ts h none) (get_or us h none)
      same h none i = go (is_moved actions h) refl
        where
          go : (m : Bool) → is_moved actions h ≡ m → IsSameLevel cmp (get_or ts h none) (get_or us h none)
          go false e =
              subst (λ (l : Level A). IsSameLevel cmp l (get_or us h none)) (sym (p.stays h none e))
              (subst (λ (m : Level A). IsSameLevel cmp (get_or ls h none) m) (sym (q.stays h none (alike_moves h ∙ e))) (level-there ls ms h none start))
          go true e =
              let x : Level A = get_or ts h none in
              let y : Level A = get_or us h none in
              let j : h < length us = omega (arith, i, count) in
              moved h x y i j (get_or_default ts h none x i) (get_or_default us h none y j) (p.sorted h none e) (q.sorted h none (alike_moves h ∙ e))

  placed-as : (k : ℕ) (accuracy : RankAccuracy) (t : Req A) → IsSound cmp t → t.k ≡ k → t.accuracy ≡ accuracy → AreLevels cmp k accuracy 0 t.levels
  placed-as k accuracy t sound a b = rw (a, b) at sound.placed

  -- ---- updates

  -- copies that took in clones of an item
  both-appended : (ls ms : List (Level A)) (x y : A) → cmp x y ≡ Equal → AllZip (IsSameLevel cmp) ls ms → AllZip (IsSameLevel cmp) (appended_first ls x) (appended_first ms y)
  both-appended [] [] x y e c = tt
  both-appended (l ∷ ls) (m ∷ ms) x y e c = (
    same-level (appended l x) (appended m y) (SameItems-append cmp l.items m.items (x ∷ []) (y ∷ []) c.0.items (e, tt))
        (ap₂ (λ (b : Bool) (n : ℕ). b && (n == 0)) (sym (ap (λ (v : Level A). v.is_sorted) c.0.rest)) (length_all_zip (λ x y. cmp x y ≡ Equal) l.items m.items c.0.items))
        (longer l m c.0)
        (sym (ap (λ (v : Level A). v.coin) c.0.rest)) (sym (ap (λ (v : Level A). v.lg_weight) c.0.rest)) (sym (ap (λ (v : Level A). v.k) c.0.rest)) (sym (ap (λ (v : Level A). v.accuracy) c.0.rest)),
    c.1,
  )
    where
      longer : (l m : Level A) → IsSameLevel cmp l m → layout_of (appended l x) ≡ layout_of (appended m y)
      longer l m c =
          let count : length (l.items ++ x ∷ []) ≡ length (m.items ++ y ∷ []) = length_all_zip (λ x y. cmp x y ≡ Equal) (l.items ++ x ∷ []) (m.items ++ y ∷ []) (SameItems-append cmp l.items m.items (x ∷ []) (y ∷ []) c.items (e, tt)) in
          let state : l.state ≡ m.state = sym (ap (λ (v : Level A). v.state) c.rest) in
          let doublings : l.doublings ≡ m.doublings = sym (ap (λ (v : Level A). v.doublings) c.rest) in
          λ i. record { count = count i; state = state i; doublings = doublings i }
  both-appended _ _ x y e c = absurd c

  copies-of-one : (s t u : Req A) → IsSameSketch cmp s t → IsSameSketch cmp s u → IsSameSketch cmp t u
  copies-of-one s t u c d = grind (arith, common_steps, copy-copied, levels-back, tied_back)

  -- the first updates of two rows of updates of one sketch make one sketch
  one-first : (s : Req A) (x : A) (word : List Bool) (P Q : Req A → Type 0) (p : IsUpdatedFirst cmp s x word P) (q : IsUpdatedFirst cmp s x word Q) → IsSameSketch cmp p.after q.after
  one-first s x word P Q p q =
      let copies = copies-of-one s p.copy q.copy p.is_copy q.is_copy in
      let clones : cmp p.clone q.clone ≡ Equal = sym (order.congr x p.clone q.clone p.is_clone) ∙ q.is_clone in
      let k = p.updated.k ∙ p.is_copy.k in
      let accuracy = p.updated.accuracy ∙ p.is_copy.accuracy in
      let k' = q.updated.k ∙ q.is_copy.k in
      let accuracy' = q.updated.accuracy ∙ q.is_copy.accuracy in
      let same_moves : (h : ℕ) → is_moved (update_of q.copy q.clone) h ≡ is_moved (update_of p.copy p.clone) h = λ h.
      rw (copies.k, copies.accuracy, layouts-copied order p.copy.levels q.copy.levels copies.levels) refl in
      record {
        k = k' ∙ sym k;
        accuracy = accuracy' ∙ sym accuracy;
        n = omega (arith, p.updated.n, q.updated.n, p.is_copy.n, q.is_copy.n);
        levels =
            one-walk s.k s.accuracy (update_of p.copy p.clone) (update_of q.copy q.clone) same_moves _ _ p.after.levels q.after.levels
            (both-appended p.copy.levels q.copy.levels p.clone q.clone clones copies.levels) p.updated.moved q.updated.moved
            (laid-first order p ∙ sym (laid-first order q))
            (alike-trans order _ _ _ (alike-sym order _ _ (bag-first order s x word P p)) (bag-first order s x word Q q))
            (placed-as s.k s.accuracy p.after p.sound k accuracy) (placed-as s.k s.accuracy q.after q.sound k' accuracy');
        least = one_least order _ _ p.after.least q.after.least (ends s.least p.copy.least q.copy.least p.is_copy.least q.is_copy.least) p.updated.least q.updated.least;
        greatest = one_greatest order _ _ p.after.greatest q.after.greatest (ends s.greatest p.copy.greatest q.copy.greatest p.is_copy.greatest q.is_copy.greatest) p.updated.greatest q.updated.greatest;
      }
    where
      ends : (a b c : Option A) → SameAnswer cmp a b → SameAnswer cmp a c → SameItems cmp (option_to_list b ++ p.clone ∷ []) (option_to_list c ++ q.clone ∷ [])
      ends a b c m n =
          SameItems-trans cmp order _ (option_to_list a ++ x ∷ []) _ (with-clone order a b x p.clone m p.is_clone)
          (SameItems-back order _ _ (with-clone order a c x q.clone n q.is_clone))

  -- updates in turn make only one sketch
  one-in-turn : (s : Req A) (xs : List A) (word : List Bool) (t u : Req A) → AreUpdatedInTurn cmp s xs word t → AreUpdatedInTurn cmp s xs word u → IsSameSketch cmp t u
  one-in-turn s [] word t u p q = copies-of-one s t u p q
  one-in-turn s (x ∷ xs) word t u p q =
      one-in-turn p.after xs (drop (coins_of_update s x) word) t u p.rest
      (in-turn-from order p.after q.after u xs (drop (coins_of_update s x) word) (one-first s x word _ _ p q) q.rest)

  -- updates by a list make only one
  pub one-list : (s : Req A) (items : List A) (word : List Bool) (t u : Req A) → AreUpdated cmp s items word t → AreUpdated cmp s items word u → IsSameSketch cmp t u
  one-list s items word t u p q = one-in-turn s items word t u p.in_turn q.in_turn

  -- and so does an update
  pub one-update : (s : Req A) (x : A) (word : List Bool) (t u : Req A) → IsSound cmp t → IsSound cmp u → IsUpdated cmp s x word t → IsUpdated cmp s x word u → IsSameSketch cmp t u
  one-update s x word t u a b p q = one-list s (x ∷ []) word t u (one_updates order s x word t a p) (one_updates order s x word u b q)

  -- ---- merges

  -- a merge of two levels has only one result
  one-merged : (old other a b : Level A) → IsLevelMerged cmp old other a → IsLevelMerged cmp old other b → IsSameLevel cmp a b
  one-merged old other a b p q = record {
    items = items other.items p.none_came p.some_came q.none_came q.some_came;
    rest = q.rest_is ∙ sym (ap (λ (l : Level A). record l { items = b.items }) p.rest_is);
  }
    where
      items : (os : List A) → (os ≡ [] → a.items ≡ old.items) → (0 < length os → SameItems cmp (sort cmp (old.items ++ os)) a.items) →
          (os ≡ [] → b.items ≡ old.items) → (0 < length os → SameItems cmp (sort cmp (old.items ++ os)) b.items) → SameItems cmp a.items b.items
      items [] c d e f = rw (c refl, e refl) (SameItems-refl cmp order old.items)
      items (o ∷ os) c d e f = SameItems-trans cmp order a.items _ b.items (SameItems-back order _ a.items (d (omega arith))) (f (omega arith))

  one-merged-in : (k : ℕ) (accuracy : RankAccuracy) (ls others ms ns : List (Level A)) → AreMergedIn cmp k accuracy ls others ms → AreMergedIn cmp k accuracy ls others ns →
      AllZip (IsSameLevel cmp) ms ns
  one-merged-in k accuracy ls others ms ns p q =
      by-place ms ns (p.count ∙ sym q.count) (λ h none i.
      let a = p.each h none i in
      let b = q.each h none (omega (arith, i, p.count, q.count)) in
      elim (cases_lt h (length others)) [
        | inl low ↦ one-merged _ _ _ _ (a.merged none low) (b.merged none low)
        | inr high ↦
            subst (λ (l : Level A). IsSameLevel cmp l (get_or ns h none)) (sym (a.kept high))
            (subst (λ (m : Level A). IsSameLevel cmp (level_or_fresh k accuracy ls h) m) (sym (b.kept high)) (level-itself (level_or_fresh k accuracy ls h)))
      ])

  both-redrawn : (word : List Bool) (ls ms : List (Level A)) → AllZip (IsSameLevel cmp) ls ms → AllZip (IsSameLevel cmp) (redrawn word ls) (redrawn word ms)
  both-redrawn word [] [] c = tt
  both-redrawn word (l ∷ ls) (m ∷ ms) c = grind (arith, common_steps, both-redrawn (if turns_coin l.state then drop 1 word else word) ls ms c.1)
  both-redrawn word _ _ c = absurd c

  -- a merge has only one result
  pub one-merge : (redraws : Bool) (s other : Req A) (word : List Bool) (t u : Req A) → IsSound cmp t → IsSound cmp u → IsMergedBy cmp redraws s other word t →
      IsMergedBy cmp redraws s other word u → IsSameSketch cmp t u
  one-merge redraws s other word t u a b p q =
      let ends = option_to_list s.least ++ option_to_list other.least in
      let tops = option_to_list s.greatest ++ option_to_list other.greatest in
      record {
        k = q.k ∙ sym p.k;
        accuracy = q.accuracy ∙ sym p.accuracy;
        n = q.n ∙ sym p.n;
        levels =
            one-walk s.k s.accuracy (merge_by redraws s other) (merge_by redraws s other) (λ h. refl) _ _ t.levels u.levels
            (start redraws (one-merged-in s.k s.accuracy s.levels other.levels p.joined q.joined p.joined_are q.joined_are)) p.moved q.moved
            (p.layouts ∙ sym q.layouts) (alike-trans order _ _ _ (alike-sym order _ _ p.bag) q.bag)
            (placed-as s.k s.accuracy t a p.k p.accuracy) (placed-as s.k s.accuracy u b q.k q.accuracy);
        least = one_least order ends ends t.least u.least (SameItems-refl cmp order ends) p.least q.least;
        greatest = one_greatest order tops tops t.greatest u.greatest (SameItems-refl cmp order tops) p.greatest q.greatest;
      }
    where
      start : (redraws : Bool) → AllZip (IsSameLevel cmp) p.joined q.joined → AllZip (IsSameLevel cmp) (redrawn_if redraws word p.joined) (redrawn_if redraws word q.joined)
      start true c = both-redrawn word p.joined q.joined c
      start false c = c

  -- ---- images

  module _ {spelling : A → Option (List ℕ)} (tied : TiesSpellOne cmp spelling) where
    same-levels_text : (ls ms : List (Level A)) → AllZip (IsSameLevel cmp) ls ms → levels_text spelling ls ≡ levels_text spelling ms
    same-levels_text [] [] c = refl
    same-levels_text (l ∷ ls) (m ∷ ms) c =
        let front : front_of l 0 ≡ front_of m 0 = ap₂ (λ (v : Level A) (n : ℕ). record (front_of v 0) { count = n }) (level-but m.items l m c.0) (length_all_zip (λ x y. cmp x y ≡ Equal) l.items m.items c.0.items) in
        ap₂ (λ (a b : List ℕ). a ++ b) (ap₂ (λ (f : Front) (b : List ℕ). front_text f ++ b) front (same-text tied l.items m.items c.0.items)) (same-levels_text ls ms c.1)
      where
        level-but : (items : List A) (l m : Level A) → IsSameLevel cmp l m → record l { items = items } ≡ record m { items = items }
        level-but items l m c = sym (ap (λ (v : Level A). record v { items = items }) c.rest)
    same-levels_text _ _ c = absurd c

    first-sorted : (ls ms : List (Level A)) → AllZip (IsSameLevel cmp) ls ms → is_first_sorted ls ≡ is_first_sorted ms
    first-sorted [] [] c = refl
    first-sorted (l ∷ ls) (m ∷ ms) c = sym (ap (λ (v : Level A). v.is_sorted) c.0.rest)
    first-sorted _ _ c = absurd c

    -- sketches that are the same but for items that compare equal have one image
    pub one-image : (s t : Req A) → IsSameSketch cmp s t → image_text spelling s ≡ image_text spelling t
    one-image s t c =
        let count : length s.levels ≡ length t.levels = length_all_zip (IsSameLevel cmp) s.levels t.levels c.levels in
        let form : form_of s ≡ form_of t = ap₂ (λ (n m : ℕ). if n == 0 then Empty else if m == 1 then (if nat_le n 4 then Raw else One) else Several) (sym c.n) count in
        let header : header_by (form_of s) s ≡ header_by (form_of s) t = rw (c.k, c.accuracy, c.n, count, first-sorted s.levels t.levels c.levels) refl in
        ap₂ (λ (h : Header) (b : List ℕ). header_text h ++ b) header (body (form_of s))
        ∙ ap (λ (f : Form). header_text (header_by f t) ++ body_by spelling f t) form
      where
        ends : SameItems cmp (ends_of s) (ends_of t)
        ends = SameItems-append cmp (option_to_list s.least) (option_to_list t.least) (option_to_list s.greatest) (option_to_list t.greatest)
            (same-ends cmp s.least t.least c.least) (same-ends cmp s.greatest t.greatest c.greatest)

        body : (f : Form) → body_by spelling f s ≡ body_by spelling f t
        body Empty = refl
        body Raw = same-text tied (items_in s.levels) (items_in t.levels) (items-copied order s.levels t.levels c.levels)
        body One = same-levels_text s.levels t.levels c.levels
        body Several = rw (c.n, same-text tied (ends_of s) (ends_of t) ends, same-levels_text s.levels t.levels c.levels) refl
