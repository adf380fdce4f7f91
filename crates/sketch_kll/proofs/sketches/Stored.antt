-- Levels as they are stored: empty, those of a sound sketch, with items put in, after a compaction, after a merge, and copied.
use Rattle.std.proofs.lemmas.Grind.{common_steps}
use Rattle.std.proofs.Common.{◌≡◌, ℕ, ◌<◌, ◌≤◌, Bool, List, length, drop, Option, None, Some, refl, sym, ap, ◌∙◌, subst, arith, Ordering, ◌-◌, [], ◌∷◌, ◌++◌, replicate, set, length-drop, false, IsTrue, IsSorted, ap₂}
use Rattle.std.specs.Prelude.{MatchOption}
use Rattle.std.specs.Cmp.{IsTotalOrder, upto}
use Rattle.std.specs.Ordering.{is_gt}
use Rattle.sketch_base.specs.Bag.{SameItems}
use Rattle.sketch_base.specs.Queries.{SameAnswer}
use Rattle.sketch_kll.specs.Capacity.{total_of}
use Rattle.sketch_kll.specs.Copy.{IsCopy}
use Rattle.sketch_kll.specs.Flat.{flat, levels_in, IsFlat}
use Rattle.sketch_kll.specs.Levels.{retained_in, SameLevels, compacted, first_level, UpperSorted}
use Rattle.sketch_kll.specs.Stored.{AreStored, Stored, AreClones, KeepsLevels, stored_of}
use Rattle.sketch_base.specs.Extremes.{Ties, IsFrom, IsUpTo}
use Rattle.sketch_kll.specs.Sketch.{Kll, AreInOrder, IsSound, sketch_of}
use Rattle.sketch_kll.proofs.layout.Alike.{UpperSorted-same, first-same, flat-cut, same_cut, same_marks}
use Rattle.sketch_kll.proofs.layout.Legal.{AllItems-same, AllItems-map, from-same, up_to-same, ties-same}
use Rattle.sketch_kll.proofs.layout.Flats.{length-flat, is_flat, levels_of_flat, length-bounds, put_flat, length-put, UpperSorted-put, raised_is, Raised, Raises}
use Rattle.sketch_kll.proofs.layout.Compacted.{alike_size, length-same, known_sorted}
use Rattle.sketch_kll.specs.Join.{joined, joined_bounds}
use Rattle.sketch_kll.specs.declared.levels.merging.Incoming.{Incoming}
use Rattle.sketch_kll.proofs.merges.Joined.{prepared}
use Rattle.sketch_kll.proofs.merges.Merged.{joined_size}
use Rattle.sketch_kll.proofs.layout.Full.{few_compacted}
use Rattle.sketch_kll.specs.Steps.{needs_sorting, put_all}

-- A copy of a sketch keeps the invariant of sketches.

same_there : {A : Type 0} (cmp : A → A → Ordering) (n : ℕ) (a b : Option A) → SameAnswer cmp a b → MatchOption a (n ≡ 0) (λ _. 0 < n) → MatchOption b (n ≡ 0) (λ _. 0 < n)
same_there cmp n None None s h = h
same_there cmp n (Some x) (Some y) s h = h
same_there cmp n a b s h = absurd s

-- a copy of the sketch as callers see it
pub copy_seen : {A : Type 0} {cmp : A → A → Ordering} {s s' t : Kll A} → s ≡ s' → IsCopy cmp s t → IsCopy cmp s' t
copy_seen e copy = rw (← e) copy

module _ {A : Type 0} {cmp : A → A → Ordering} (o : IsTotalOrder cmp) where
  from_other : (a b : Option A) (x : A) → SameAnswer cmp a b → IsFrom cmp a x → IsFrom cmp b x
  from_other None b x s h = absurd h
  from_other (Some y) None x s h = absurd s
  from_other (Some y) (Some z) x s h = sym (ap is_gt (o.congr y z x s)) ∙ h

  up_to_other : (a b : Option A) (x : A) → SameAnswer cmp a b → IsUpTo cmp a x → IsUpTo cmp b x
  up_to_other None b x s h = absurd h
  up_to_other (Some y) None x s h = absurd s
  up_to_other (Some y) (Some z) x s h = upto o x y z h (ap is_gt s)

  ties_other : (a b : Option A) (x : A) → SameAnswer cmp a b → Ties cmp x a → Ties cmp x b
  ties_other None b x s h = absurd h
  ties_other (Some y) None x s h = absurd s
  ties_other (Some y) (Some z) x s h = o.congr x y z h ∙ s

  in_order_other : (a b c d : Option A) → SameAnswer cmp a b → SameAnswer cmp c d → AreInOrder cmp a c → AreInOrder cmp b d
  in_order_other None None c d s t h = tt
  in_order_other (Some x) (Some y) c d s t h = up_to-same o d x y s (up_to_other c d x t h)
  in_order_other a b c d s t h = absurd s

  same_stored : (k : ℕ) (items copy : List A) (bounds : List ℕ) (total : ℕ) → AreStored cmp k items bounds total → SameItems cmp items copy →
      AreStored cmp k copy bounds total × SameLevels cmp (levels_in items bounds) (levels_in copy bounds)
  unfolding levels_in
  same_stored k items copy bounds total i same =
      let ls = levels_in items bounds in
      let ms = levels_in copy bounds in
      let levels : SameLevels cmp ls ms = same_cut cmp items copy (drop 1 bounds) same in
      let marked = same_marks cmp ls ms levels in
      let size = alike_size cmp ls ms levels in
      let whole : length (flat ms) ≡ length copy =
      length-flat ms ∙ (sym marked.1 ∙ (sym (length-flat ls) ∙ (ap length i.flat.items_are ∙ length-same cmp items copy same))) in grind (arith, common_steps, flat-cut, UpperSorted-same)

  -- the levels of a copy as they are stored
  pub copied_levels : (k : ℕ) (items copy : List A) (bounds bounds' : List ℕ) (total : ℕ) → bounds' ≡ bounds → AreStored cmp k items bounds total → SameItems cmp items copy →
      AreStored cmp k copy bounds' total × SameLevels cmp (levels_in items bounds) (levels_in copy bounds')
  copied_levels k items copy bounds bounds' total e i same =
      rw e (same_stored k items copy bounds total i same)

  -- a copy of a sound sketch is sound
  pub copied_sketch : (k min_k n : ℕ) (flag : Bool) (ls ms : List (List A)) (least least' greatest greatest' : Option A) →
      SameLevels cmp ls ms → IsSound cmp (sketch_of k min_k n flag ls least greatest) → SameAnswer cmp least least' → SameAnswer cmp greatest greatest' →
      IsSound cmp (sketch_of k min_k n flag ms least' greatest') × IsCopy cmp (sketch_of k min_k n flag ls least greatest) (sketch_of k min_k n flag ms least' greatest')
  copied_sketch k min_k n flag ls ms least least' greatest greatest' levels s l g =
      let size = alike_size cmp ls ms levels in
      let sound : IsSound cmp (sketch_of k min_k n flag ms least' greatest') = record {
        eight_below_min_k = s.eight_below_min_k;
        min_k_below_k = s.min_k_below_k;
        k_fits = s.k_fits;
        weighs_n = omega (arith, s.weighs_n, size.weighs);
        has_level = omega (arith, s.has_level, size.counts);
        has_few_levels = omega (arith, s.has_few_levels, size.counts);
        within_capacity = subst (λ (m : ℕ). retained_in ms ≤ total_of k 8 m) size.counts (omega (arith, s.within_capacity, size.retains));
        upper_sorted = UpperSorted-same cmp o ls ms levels s.upper_sorted;
        flag_holds = λ f. first-same cmp o ls ms levels (s.flag_holds f);
        least_there = same_there cmp n least least' l s.least_there;
        greatest_there = same_there cmp n greatest greatest' g s.greatest_there;
        extremes_in_order = in_order_other least least' greatest greatest' l g s.extremes_in_order;
        items_between =
            AllItems-map (λ x. IsFrom cmp least x × IsUpTo cmp greatest x) (λ x. IsFrom cmp least' x × IsUpTo cmp greatest' x)
            (λ x h. (from_other least least' x l h.0, up_to_other greatest greatest' x g h.1)) ms
            (AllItems-same (λ x. IsFrom cmp least x × IsUpTo cmp greatest x) cmp (λ x y t q. (from-same o least x y t q.0, up_to-same o greatest x y t q.1)) ls ms levels s.items_between);
        one_level_at_first = λ h. omega (arith, s.one_level_at_first h, size.counts);
        min_k_at_first = s.min_k_at_first;
        one_item_ties = λ h.
            AllItems-map (λ x. Ties cmp x least × Ties cmp x greatest) (λ x. Ties cmp x least' × Ties cmp x greatest')
            (λ x h. (ties_other least least' x l h.0, ties_other greatest greatest' x g h.1)) ms
            (AllItems-same (λ x. Ties cmp x least × Ties cmp x greatest) cmp (λ x y t q. (ties-same o least x y t q.0, ties-same o greatest x y t q.1)) ls ms levels (s.one_item_ties h));
      } in
      (sound, record { k = refl; min_k = refl; n = refl; is_sorted = refl; levels = levels; least = l; greatest = g })

-- Levels as they are stored: empty, those of a sound sketch, with items put in, after a compaction, and after a merge.

-- no items, between two bounds of 0, are one empty level
pub new_levels : {A : Type 0} (items : List A) (bounds : List ℕ) → items ≡ [] → bounds ≡ 0 ∷ 0 ∷ [] →
    IsFlat items bounds × (levels_in items bounds ≡ [] ∷ [])
new_levels items bounds e f = (is_flat items bounds ([] ∷ []) e f, levels_of_flat items bounds ([] ∷ []) e f)

-- one empty level as it is stored
pub empty_stored : {A : Type 0} (cmp : A → A → Ordering) (k : ℕ) (items : List A) (bounds : List ℕ) (total : ℕ) → 8 ≤ k → items ≡ [] →
    bounds ≡ 0 ∷ 0 ∷ [] → total ≡ total_of k 8 1 → AreStored cmp k items bounds total
empty_stored {A} cmp k items bounds total h e f t =
    let n = new_levels items bounds e f in
    let c = ap length n.1 in
    grind (arith, common_steps)

-- the levels of a sketch as they are stored
pub sound_stored : {A : Type 0} (cmp : A → A → Ordering) (k min_k n : ℕ) (flag : Bool) (items : List A) (bounds : List ℕ) (total : ℕ) (least greatest : Option A) →
    IsFlat items bounds → total ≡ total_of k 8 (length (levels_in items bounds)) →
    IsSound cmp (sketch_of k min_k n flag (levels_in items bounds) least greatest) → AreStored cmp k items bounds total
sound_stored cmp k min_k n flag items bounds total least greatest f t s =
    record { k_above = omega (arith, s.eight_below_min_k, s.min_k_below_k); flat = f; total_is = t; some = s.has_level; few = s.has_few_levels; sorted = s.upper_sorted }

-- the total capacity depends on the number of bounds
pub known_total : {A : Type 0} {cmp : A → A → Ordering} {k total : ℕ} {items : List A} {bounds : List ℕ} → AreStored cmp k items bounds total →
    (len : ℕ) → len ≡ length bounds → total ≡ total_of k 8 (len - 1)
known_total {k = k} {items = items} {bounds = bounds} stored len len_is =
    stored.total_is ∙ ap (total_of k 8) (omega (arith, length-bounds items bounds stored.flat, len_is))

-- levels are still stored after items are appended to level 0
pub put_stored : {A : Type 0} {cmp : A → A → Ordering} {k total len : ℕ} {items items' : List A} {bounds : List ℕ} (xs : List A) →
    AreStored cmp k items bounds total → items' ≡ items ++ xs → len ≡ length items' →
    AreStored cmp k items' (set bounds 0 len) total × (levels_in items' (set bounds 0 len) ≡ put_all xs (levels_in items bounds))
put_stored {A} {cmp} {k} {total} {len} {items} {items'} {bounds} xs stored items_are len_is =
    let put = put_flat xs items items' bounds len stored.flat stored.some items_are len_is in
    let count = ap length put.1 ∙ length-put xs (levels_in items bounds) stored.some in
    let sorted : UpperSorted cmp (levels_in items' (set bounds 0 len)) = rw put.1 (UpperSorted-put cmp xs _ stored.sorted) in
    let total_is = stored.total_is ∙ ap (total_of k 8) (sym count) in
    (record { k_above = stored.k_above; flat = put.0; total_is = total_is; some = omega (arith, count, stored.some); few = omega (arith, count, stored.few); sorted = sorted }, put.1)

-- what a compaction leaves in the vectors; it is stored once the total capacity is adjusted to it
pub record CompactedStored {A : Type 0} (cmp : A → A → Ordering) (last coin : Bool) (k level : ℕ) (ls : List (List A)) (items : List A) (bounds : List ℕ) : Type 0 where
  pub flat : IsFlat items bounds
  pub few : length bounds ≤ 62
  pub same : SameLevels cmp (compacted cmp last coin level ls) (levels_in items bounds)
  pub sorted : UpperSorted cmp (levels_in items bounds)
  pub stored : (total len : ℕ) → len ≡ length bounds → total ≡ total_of k 8 (len - 1) → AreStored cmp k items bounds total

-- a compaction leaves such vectors
pub compacted_stored : {A : Type 0} {cmp : A → A → Ordering} {k total level : ℕ} {items items' : List A} {bounds wide bounds' : List ℕ} {ls : List (List A)} (last coin : Bool) →
    AreStored cmp k items bounds total → levels_in items bounds ≡ ls → level < length ls → level < 60 → Raises level bounds wide → IsFlat items' bounds' →
    SameLevels cmp (compacted cmp last coin level (levels_in items wide)) (levels_in items' bounds') →
    UpperSorted cmp (levels_in items' bounds') → CompactedStored cmp last coin k level ls items' bounds'
compacted_stored {A} {cmp} {k} {total} {level} {items} {items'} {bounds} {wide} {bounds'} {ls} last coin stored own within low widened flat alike sorted =
    let up = raised_is last coin stored own within widened in
    let inside : level < length (levels_in items bounds) = omega (arith, ap length own, within) in
    let few = few_compacted cmp level last coin (levels_in items bounds) (levels_in items wide) (levels_in items' bounds') stored.few inside low
    up.same alike in
    let bounds_len = length-bounds items' bounds' flat in
    record {
      flat = flat;
      few = omega (arith, bounds_len, few.1);
      same = rw (← own, ← up.same) alike;
      sorted = sorted;
      stored = λ total' len len_is total_is.
          record { k_above = stored.k_above; flat = flat; total_is = total_is ∙ ap (total_of k 8) (omega (arith, bounds_len, len_is)); some = few.0; few = few.1; sorted = sorted };
    }

-- a sketch that is sound with the view of its levels is sound with the levels that are stored
pub sound_inside : {A : Type 0} {cmp : A → A → Ordering} {inside seen : Stored A} {min_k n : ℕ} {least greatest : Option A} → inside ≡ seen →
    IsSound cmp (sketch_of seen.k min_k n seen.is_sorted seen.levels least greatest) →
    IsSound cmp (sketch_of inside.k min_k n inside.is_sorted inside.levels least greatest)
sound_inside view_is sound = rw view_is sound

-- levels that others were merged into from level 1 up
pub record JoinedStored {A : Type 0} (cmp : A → A → Ordering) (k : ℕ) (ls us : List (List A)) (items : List A) (bounds : List ℕ) (total : ℕ) : Type 0 where
  pub stored : AreStored cmp k items bounds total
  pub same : SameLevels cmp (joined cmp ls us) (levels_in items bounds)

-- a merge of the levels from 1 up leaves such levels
pub joined_stored : {A : Type 0} {cmp : A → A → Ordering} {k total total' : ℕ} {items upper taken merged items' : List A} {bounds wide bounds' : List ℕ} (runs : List ℕ) →
    AreStored cmp k items bounds total → IsFlat upper (drop 1 runs) → 2 ≤ length runs → length runs ≤ 62 →
    wide ≡ bounds ++ replicate (length runs - length bounds) 0 → taken ≡ items →
    IsFlat merged (joined_bounds wide runs) →
    SameLevels cmp (joined cmp (levels_in taken wide) (levels_in upper (drop 1 runs))) (levels_in merged (joined_bounds wide runs)) →
    UpperSorted cmp (levels_in merged (joined_bounds wide runs)) →
    items' ≡ merged → bounds' ≡ joined_bounds wide runs → (len : ℕ) → len ≡ length bounds' → total' ≡ total_of k 8 (len - 1) →
    JoinedStored cmp k (levels_in items bounds) (levels_in upper (drop 1 runs)) items' bounds' total'
joined_stored {A} {cmp} {k} {total} {total'} {items} {upper} {taken} {merged} {items'} {bounds} {wide} {bounds'} runs
    stored flat_upper two few widened took flat alike sorted items_are bounds_are len len_is total_is =
    let wide_is = prepared runs stored flat_upper two few widened took in
    let ls : List (List A) = levels_in items bounds in
    let us : List (List A) = levels_in upper (drop 1 runs) in
    let same : SameLevels cmp (joined cmp ls us) (levels_in merged (joined_bounds wide runs)) = rw (← wide_is.same) alike in
    let upper_len = length-bounds upper (drop 1 runs) flat_upper in
    let bounds_len = length-bounds merged (joined_bounds wide runs) flat in
    let total : total' ≡ total_of k 8 (length (levels_in merged (joined_bounds wide runs))) = total_is ∙ ap (total_of k 8) (omega (arith, bounds_len, len_is, ap length bounds_are)) in
    let sizes = joined_size cmp ls us (levels_in merged (joined_bounds wide runs)) stored.some stored.few (omega (arith, upper_len, length-drop 1 runs, few)) same in
    rw (items_are, bounds_are) (record { stored = record { k_above = stored.k_above; flat = flat; total_is = total; some = sizes.some; few = sizes.few; sorted = sorted }; same = same })

-- a level that needs no sorting is sorted, also once there is a level above it
pub raised_sorted : {A : Type 0} {cmp : A → A → Ordering} {needs is_sorted coin : Bool} {level : ℕ} {items : List A} {bounds wide : List ℕ}
    {ls : List (List A)} → Raised cmp needs coin level items bounds wide → UpperSorted cmp (levels_in items bounds) → levels_in items bounds ≡ ls →
    needs ≡ needs_sorting is_sorted level → (IsTrue is_sorted → level ≡ 0 → IsSorted cmp (first_level ls)) → needs ≡ false →
    IsSorted cmp (first_level (drop level (levels_in items wide)))
raised_sorted {A} {cmp} {is_sorted = is_sorted} {level = level} {items = items} {wide = wide} up sorted own needs_is flag left = grind (arith, common_steps, known_sorted)

-- ---- vectors that hold what they held

pub kept_still : {A : Type 0} {k room rooms room' rooms' : ℕ} {flag : Bool} {items items' : List A} {bounds bounds' : List ℕ}
    {seen : Stored A} → stored_of k flag items bounds room rooms ≡ seen → items' ≡ items → bounds' ≡ bounds →
    KeepsLevels seen (stored_of k flag items' bounds' room' rooms')
kept_still {A} view e f = record {
  k_is = ap (λ (y : Stored A). y.k) view;
  flag_is = ap (λ (y : Stored A). y.is_sorted) view;
  levels_are = ap₂ levels_in e f ∙ ap (λ (y : Stored A). y.levels) view;
}

-- clones of the levels between these bounds
pub clones_told : {A : Type 0} {cmp : A → A → Ordering} {items : List A} {bounds given : List ℕ} {ls : List (List A)} (y : Incoming A) → IsFlat items bounds →
    given ≡ bounds → levels_in items bounds ≡ ls → SameLevels cmp (levels_in items given) (y.low.items ∷ levels_in y.upper.items (drop 1 given)) →
    IsFlat y.upper.items (drop 1 given) → AreClones cmp ls y
clones_told {A} {cmp} {items} y flat given_is own same fits = grind (arith, common_steps)
