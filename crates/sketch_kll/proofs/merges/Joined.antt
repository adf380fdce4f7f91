-- Levels merged with others from their ends: the runs so far, and what is left.
use Rattle.std.proofs.lemmas.Grind.{common_steps, get_or_after_one}
use Rattle.std.proofs.Common.{◌≡◌, ℕ, zero, suc, ◌+◌, ◌-◌, ◌<◌, ◌≤◌, List, [], ◌∷◌, ◌++◌, length, get_or, take, drop, reverse, refl, sym, ap, ap₂, ◌∙◌, subst, arith, Ordering, IsSorted, IsPermutation, append_assoc, append-nil, take_at, length-append, length-drop, take-append-drop, ext_get_or, replicate}
use Rattle.std.specs.Cmp.{IsTotalOrder}
use Rattle.std.proofs.lemmas.Bool.{cases_eq}
use Rattle.std.proofs.lemmas.List.{drop_all, length-replicate, reverse-append}
use Rattle.sketch_base.specs.Bag.{sort, SameItems}
use Rattle.sketch_kll.specs.Flat.{flat, marks, levels_in, IsFlat}
use Rattle.sketch_kll.specs.Join.{joined_upper, joined, added, joined_bounds}
use Rattle.sketch_kll.specs.Stored.{AreStored}
use Rattle.sketch_kll.specs.Levels.{retained_in, first_level, SameLevels, AllSorted, UpperSorted}
use Rattle.sketch_kll.proofs.layout.Alike.{same_marks}
use Rattle.sketch_kll.proofs.layout.Flats.{AllSorted-first, above_sorted, bound_at, bound_within, length-bounds, is_flat, levels_of_flat, length-flat, length-marks, marks_head, SameLevels-refl, AllSorted-none, UpperSorted-append, levels_with_tops}
use Rattle.sketch_kll.proofs.plays.Compresses.{SameLevels-trans}
use Rattle.sketch_base.proofs.bags.Parts.{all-drop}
use Rattle.sketch_base.proofs.bags.Alike.{SameItems-refl}
use Rattle.sketch_base.proofs.plays.Plays.{length-sort}
use Rattle.sketch_base.proofs.order.Order.{same_as_sort}
use Rattle.sketch_base.proofs.moving.Moving.{reverse_back}

-- levels joined with none stay as they are
pub joined_none : {A : Type 0} (cmp : A → A → Ordering) (ls : List (List A)) → joined cmp ls [] ≡ ls
joined_none cmp [] = refl
joined_none cmp (l ∷ ls) = refl

joined_upper_none : {A : Type 0} (cmp : A → A → Ordering) (ls us : List (List A)) → us ≡ [] → joined_upper cmp ls us ≡ ls
joined_upper_none cmp ls us e = ap (joined_upper cmp ls) e

-- ---- runs in one list

-- the flat list of the levels from level h up ends with level h
flat_next : {A : Type 0} (ls : List (List A)) (h : ℕ) → flat (drop h ls) ≡ flat (drop (suc h) ls) ++ first_level (drop h ls)
flat_next (l ∷ ls) (suc h) = flat_next ls h
flat_next [] (suc h) = refl
flat_next ls h = refl

flat-append : {A : Type 0} (ls ms : List (List A)) → flat (ls ++ ms) ≡ flat ms ++ flat ls
flat-append [] ms = sym (append-nil (flat ms))
flat-append (l ∷ ls) ms = ap (λ x. x ++ l) (flat-append ls ms) ∙ append_assoc (flat ms) (flat ls) l

drop_one : {A : Type 0} (h : ℕ) (xs : List A) → drop 1 (drop h xs) ≡ drop (suc h) xs
drop_one (suc h) (x ∷ xs) = drop_one h xs
drop_one h xs = refl

-- the run at the end of a list
pub record IsRunAt {A : Type 0} (h : ℕ) (ls : List (List A)) (items : List A) (keep : ℕ) : Type 0 where
  pub within : keep ≤ length items
  pub rest : take keep items ≡ flat (drop (suc h) ls)
  pub run : drop keep items ≡ first_level (drop h ls)

-- where the run of a level begins in the flat list
pub run_at : {A : Type 0} (h : ℕ) (ls : List (List A)) (items : List A) (keep : ℕ) → items ≡ flat (drop h ls) → keep ≡ retained_in (drop (suc h) ls) → IsRunAt h ls items keep
run_at h ls items keep e k = grind (arith, common_steps, flat_next, length-flat, length-append)

-- level 0 and the h levels above it are merged
pub record AreJoining {A : Type 0} (cmp : A → A → Ordering) (h : ℕ) (ls us : List (List A)) (items upper merged : List A) : Type 0 where
  pub done : List (List A)
  pub some : 0 < length done
  pub items_are : items ≡ flat (drop (suc h) ls)
  pub upper_are : upper ≡ flat (drop h us)
  pub merged_are : reverse merged ≡ flat done
  pub same : SameLevels cmp (joined cmp ls us) (done ++ joined_upper cmp (drop (suc h) ls) (drop h us))
  pub sorted : UpperSorted cmp done

-- at the start only level 0 is moved
pub joining_start : {A : Type 0} {cmp : A → A → Ordering} → IsTotalOrder cmp → {ls us : List (List A)} {items upper merged : List A} →
    0 < length ls → items ≡ flat (drop 1 ls) → upper ≡ flat us → reverse merged ≡ first_level ls ++ [] → AreJoining cmp 0 ls us items upper merged
joining_start o {ls = []} h e f r = absurd (omega arith)
joining_start {cmp = cmp} o {ls = l ∷ ls} {us = us} h e f r = record {
  done = l ∷ [];
  some = omega arith;
  items_are = e;
  upper_are = f;
  merged_are = r ∙ append-nil l;
  same = SameLevels-refl cmp o (l ∷ joined_upper cmp ls us);
  sorted = tt;
}

joined_upper_at : {A : Type 0} (cmp : A → A → Ordering) (ls us : List (List A)) → 0 < length ls → 0 < length us →
    joined_upper cmp ls us ≡ sort cmp (first_level ls ++ first_level us) ∷ joined_upper cmp (drop 1 ls) (drop 1 us)
joined_upper_at cmp (l ∷ ls) (u ∷ us) h k = refl
joined_upper_at cmp ls us h k = absurd (omega arith)

same_at : {A : Type 0} (cmp : A → A → Ordering) → IsTotalOrder cmp → (done rest : List (List A)) (a b : List A) → SameItems cmp a b → SameLevels cmp (done ++ a ∷ rest) ((done ++ b ∷ []) ++ rest)
same_at cmp o [] rest a b s = (s, SameLevels-refl cmp o rest)
same_at cmp o (d ∷ done) rest a b s = (SameItems-refl cmp o d, same_at cmp o done rest a b s)

-- the next level of both lists is merged: its run goes after those before it, the last item first
pub joining_more : {A : Type 0} {cmp : A → A → Ordering} → IsTotalOrder cmp →
    {h : ℕ} {ls us : List (List A)} {items upper merged items' upper' merged' x y r : List A} → suc h < length ls → h < length us →
    items' ≡ flat (drop (suc (suc h)) ls) → upper' ≡ flat (drop (suc h) us) → reverse merged' ≡ r ++ reverse merged →
    x ≡ first_level (drop (suc h) ls) → y ≡ first_level (drop h us) → IsPermutation (x ++ y) r → IsSorted cmp r →
    AreJoining cmp h ls us items upper merged → AreJoining cmp (suc h) ls us items' upper' merged'
joining_more {A} {cmp} o {h} {ls} {us} {items} {upper} {merged} {items'} {upper'} {merged'} {x} {y} {r} hl hu ei eu em ex ey moved up j =
    let xs : List (List A) = drop (suc h) ls in
    let vs : List (List A) = drop h us in
    let s : List A = sort cmp (first_level xs ++ first_level vs) in
    let rest : List (List A) = joined_upper cmp (drop (suc (suc h)) ls) (drop (suc h) us) in
    let run : SameItems cmp s r = rw (ex, ey) at (same_as_sort cmp o (x ++ y) (x ++ y) r (SameItems-refl cmp o (x ++ y)) moved up) in
    let at : joined_upper cmp xs vs ≡ s ∷ rest =
    joined_upper_at cmp xs vs (omega (arith, length-drop (suc h) ls, hl)) (omega (arith, length-drop h us, hu))
    ∙ ap₂ (λ (a b : List (List A)). s ∷ joined_upper cmp a b) (drop_one (suc h) ls) (drop_one h us) in
    record {
      done = j.done ++ r ∷ [];
      some = omega (arith, j.some, length-append j.done (r ∷ []));
      items_are = ei;
      upper_are = eu;
      merged_are = em ∙ (ap (λ (y : List A). r ++ y) j.merged_are ∙ sym (flat-append j.done (r ∷ [])));
      same = SameLevels-trans cmp o (joined cmp ls us) (j.done ++ s ∷ rest) ((j.done ++ r ∷ []) ++ rest)
          (subst (λ (y : List (List A)). SameLevels cmp (joined cmp ls us) (j.done ++ y)) at j.same) (same_at cmp o j.done rest s r run);
      sorted = UpperSorted-append cmp j.done (r ∷ []) j.some j.sorted (up, tt);
    }

-- the items of a run go after those that were moved before, and the rest of the run after them
pub moved_run : {A : Type 0} (to0 to to' rest : List A) → take (length to0) to ≡ to0 → to' ≡ to ++ reverse rest → reverse to' ≡ (rest ++ reverse (drop (length to0) to)) ++ reverse to0
moved_run to0 to to' rest e f =
    let n = length to0 in
    let back : reverse to ≡ reverse (drop n to) ++ reverse to0 = ap reverse (sym (take-append-drop n to)) ∙ (reverse-append (take n to) (drop n to) ∙ ap (λ ys. reverse (drop n to) ++ reverse ys) e) in
    ap reverse f ∙ (reverse_back to rest ∙ (ap (λ ys. rest ++ ys) back ∙ sym (append_assoc rest (reverse (drop n to)) (reverse to0))))

-- ---- the next level

-- the two sorted runs that are merged for the next level
pub record NextRuns {A : Type 0} (cmp : A → A → Ordering) (h : ℕ) (ls us : List (List A)) (items upper : List A) (left right : ℕ) : Type 0 where
  pub left_at : IsRunAt (suc h) ls items left
  pub right_at : IsRunAt h us upper right
  pub left_sorted : IsSorted cmp (drop left items)
  pub right_sorted : IsSorted cmp (drop right upper)

-- the bounds say where the runs of the next level begin in both lists
pub next_runs : {A : Type 0} {cmp : A → A → Ordering} (level : ℕ) {items0 upper0 items upper merged : List A} {bounds : List ℕ} (runs : List ℕ) →
    IsFlat items0 bounds → IsFlat upper0 (drop 1 runs) → UpperSorted cmp (levels_in items0 bounds) → AllSorted cmp (levels_in upper0 (drop 1 runs)) → 1 ≤
    level →
    AreJoining cmp (level - 1) (levels_in items0 bounds) (levels_in upper0 (drop 1 runs)) items upper merged →
    NextRuns cmp (level - 1) (levels_in items0 bounds) (levels_in upper0 (drop 1 runs)) items upper (get_or bounds (level + 1) 0) (get_or runs (level + 1) 0)
next_runs {A} {cmp} level {items0} {upper0} {items} {upper} {merged} {bounds} runs f g u v low j =
    let h : ℕ = level - 1 in
    let ls : List (List A) = levels_in items0 bounds in
    let us : List (List A) = levels_in upper0 (drop 1 runs) in
    let e : level + 1 ≡ suc (suc h) = omega arith in
    let k : get_or bounds (level + 1) 0 ≡ retained_in (drop (suc (suc h)) ls) = ap (λ (i : ℕ). get_or bounds i 0) e ∙ bound_at items0 bounds f (suc (suc h)) in
    let n : get_or runs (level + 1) 0 ≡ retained_in (drop (suc h) us) = ap (λ i. get_or runs i 0) (omega arith) ∙ (sym (get_or_after_one runs (suc h) 0) ∙ bound_at upper0 (drop 1 runs) g (suc h)) in
    let l = run_at (suc h) ls items _ j.items_are k in
    let r = run_at h us upper _ j.upper_are n in
    grind (arith, common_steps, AllSorted-first, above_sorted, all-drop)

added-none : (xs : List ℕ) → added xs [] ≡ xs
added-none [] = refl
added-none (x ∷ xs) = refl

marks_joined_upper : {A : Type 0} (cmp : A → A → Ordering) (ls us : List (List A)) → length us ≤ length ls →
    (marks (joined_upper cmp ls us) ≡ added (marks ls) (marks us)) × (retained_in (joined_upper cmp ls us) ≡ retained_in ls + retained_in us)
marks_joined_upper cmp [] [] h = (refl, omega arith)
marks_joined_upper cmp [] (u ∷ us) h = absurd (omega arith)
marks_joined_upper cmp (l ∷ ls) [] h = grind (arith, common_steps, added-none)
marks_joined_upper cmp (l ∷ ls) (u ∷ us) h = grind (arith, common_steps, length-sort, length-append, marks_joined_upper cmp ls us (omega arith))

marks_joined : {A : Type 0} (cmp : A → A → Ordering) (ls us : List (List A)) (runs : List ℕ) → 0 < length ls → length us < length ls → drop 1 runs ≡ marks us →
    marks (joined cmp ls us) ≡ joined_bounds (marks ls) runs
marks_joined cmp [] us runs h k e = absurd (omega arith)
marks_joined cmp (l ∷ ls) us [] h k e = absurd (omega (arith, ap length e, length-marks us))
marks_joined cmp (l ∷ ls) us (r ∷ rs) h k e =
    let m = marks_joined_upper cmp ls us (omega arith) in
    let f : get_or rs 0 0 ≡ retained_in us = ap (λ (x : List ℕ). get_or x 0 0) (e ∙ marks_head us) in
    let n : length l + retained_in (joined_upper cmp ls us) ≡ length l + retained_in ls + get_or rs 0 0 = omega (arith, m.1, f) in
    ap₂ (λ (x : ℕ) (y : List ℕ). x ∷ y) n (m.0 ∙ ap (added (marks ls)) (sym e))

added_is : (xs ys zs : List ℕ) → length ys ≤ length xs → length zs ≡ length xs → ((j : ℕ) → get_or zs j 0 ≡ get_or xs j 0 + get_or ys j 0) → zs ≡ added xs ys
added_is [] [] [] h n each = refl
added_is (x ∷ xs) [] (z ∷ zs) h n each = ext_get_or 0 (z ∷ zs) (x ∷ xs) n (λ j b. omega (arith, each j))
added_is (x ∷ xs) (y ∷ ys) (z ∷ zs) h n each = cc (each 0, added_is xs ys zs (omega arith) (omega (arith, n)) (λ j. each (suc j)))
added_is xs ys zs h n each = absurd (omega (arith, n))

-- the sums of both bounds, level by level, are the joined bounds
pub joined_bounds_is : (xs ys zs : List ℕ) → 2 ≤ length ys → length ys ≤ length xs → length zs ≡ length xs → get_or zs 0 0 ≡ get_or xs 0 0 + get_or ys 1 0 →
    ((j : ℕ) → 0 < j → get_or zs j 0 ≡ get_or xs j 0 + get_or ys j 0) → zs ≡ joined_bounds xs ys
joined_bounds_is (x ∷ xs) (y ∷ ys) (w ∷ zs) two h n z each = cc (z, added_is xs ys zs (omega arith) (omega (arith, n)) (λ j. each (suc j) (omega arith)))
joined_bounds_is xs ys zs two h n z each = absurd (omega (arith, n))

-- ---- all levels

-- the items and bounds of all levels joined
pub record HasJoined {A : Type 0} (cmp : A → A → Ordering) (ls us : List (List A)) (items : List A) (bounds : List ℕ) : Type 0 where
  pub fits : IsFlat items bounds
  pub same : SameLevels cmp (joined cmp ls us) (levels_in items bounds)
  pub sorted : UpperSorted cmp (levels_in items bounds)

-- once all levels of the others are merged and the rest is moved, the list holds the joined levels
pub joining_end : {A : Type 0} {cmp : A → A → Ordering} {h : ℕ} {ls us : List (List A)} {items upper merged : List A} (merged' : List A)
    {bounds : List ℕ} (runs : List ℕ) → length us ≤ h → 0 < length ls → length us < length ls → UpperSorted cmp ls → marks ls ≡ bounds →
    drop 1 runs ≡ marks us → reverse merged' ≡ items ++ reverse merged → AreJoining cmp h ls us items upper merged →
    HasJoined cmp ls us (reverse merged') (joined_bounds bounds runs)
joining_end {A} {cmp} {h} {ls} {us} {items} {upper} {merged} merged' {bounds} runs over some fewer u eb er em j =
    let xs : List (List A) = drop (suc h) ls in
    let all : List (List A) = j.done ++ xs in
    let left : joined_upper cmp xs (drop h us) ≡ xs = joined_upper_none cmp xs (drop h us) (drop_all h us over) in
    let same : SameLevels cmp (joined cmp ls us) all = rw left at j.same in
    let e1 : reverse merged' ≡ flat all = em ∙ (ap₂ (λ (x y : List A). x ++ y) j.items_are j.merged_are ∙ sym (flat-append j.done xs)) in
    let e2 : joined_bounds bounds runs ≡ marks all = ap (λ (b : List ℕ). joined_bounds b runs) (sym eb)
    ∙ (sym (marks_joined cmp ls us runs some fewer er) ∙ (same_marks cmp (joined cmp ls us) all same).0) in
    let e3 = levels_of_flat (reverse merged') (joined_bounds bounds runs) all e1 e2 in
    grind (arith, common_steps, is_flat, UpperSorted-append, above_sorted)

joined_upper_tops : {A : Type 0} (cmp : A → A → Ordering) (j : ℕ) (ls us : List (List A)) → length ls + j ≤ length us → joined_upper cmp (ls ++ replicate j []) us ≡ joined_upper cmp ls us
joined_upper_tops cmp j (l ∷ ls) (u ∷ us) h = ap (λ y. sort cmp (l ++ u) ∷ y) (joined_upper_tops cmp j ls us (omega arith))
joined_upper_tops cmp zero [] us h = refl
joined_upper_tops cmp (suc j) [] (u ∷ us) h = ap (λ y. sort cmp u ∷ y) (joined_upper_tops cmp j [] us (omega arith))
joined_upper_tops cmp j ls [] h = absurd (omega arith)

joined_tops : {A : Type 0} (cmp : A → A → Ordering) (j : ℕ) (ls us : List (List A)) → 0 < length ls → (j ≡ 0 → ⊥) → length ls + j ≤ length us + 1 →
    joined cmp (ls ++ replicate j []) us ≡ joined cmp ls us
joined_tops cmp j [] us k n h = absurd (omega arith)
joined_tops cmp j (l ∷ ls) us k n h = ap (λ y. l ∷ y) (joined_upper_tops cmp j ls us (omega arith))

-- ---- bounds

-- levels that have no fewer bounds than the others
pub record Prepared {A : Type 0} (cmp : A → A → Ordering) (items taken : List A) (bounds runs wide : List ℕ) (us : List (List A)) : Type 0 where
  pub fits : IsFlat taken wide
  pub sorted : UpperSorted cmp (levels_in taken wide)
  pub same : joined cmp (levels_in taken wide) us ≡ joined cmp (levels_in items bounds) us
  pub fewer : length runs ≤ length wide
  pub few : length wide ≤ 62

-- bounds of 0 are added until there are enough
pub prepared : {A : Type 0} {cmp : A → A → Ordering} {k total : ℕ} {items upper taken : List A} {bounds wide : List ℕ} (runs : List ℕ) → AreStored cmp k items bounds total →
    IsFlat upper (drop 1 runs) → 2 ≤ length runs → length runs ≤ 62 → wide ≡ bounds ++ replicate (length runs - length bounds) 0 → taken ≡ items →
    Prepared cmp items taken bounds runs wide (levels_in upper (drop 1 runs))
prepared {A} {cmp} {k} {total} {items} {upper} {taken} {bounds} {wide} runs stored flat_upper two few widened took =
    let j : ℕ = length runs - length bounds in
    let tops = levels_with_tops j items bounds stored.flat in
    let ls : List (List A) = levels_in items bounds in
    let us : List (List A) = levels_in upper (drop 1 runs) in
    let bounds_len = length-bounds items bounds stored.flat in
    let tops_join : joined cmp (ls ++ replicate j []) us ≡ joined cmp ls us =
    grind (arith, common_steps, cases_eq, append-nil, joined_tops, length-bounds, length-drop) in
    let zeros_len : length (replicate j zero) ≡ j = length-replicate j zero in
    let wide_len = ap length widened ∙ length-append bounds (replicate j zero) in
    rw took (record {
      fits = rw widened tops.0;
      sorted = rw (widened, tops.1) (UpperSorted-append cmp ls (replicate j []) stored.some stored.sorted (AllSorted-none cmp j));
      same = rw (widened, tops.1) tops_join;
      fewer = omega (arith, wide_len, zeros_len);
      few = omega (arith, wide_len, zeros_len, bounds_len, stored.few);
    })

-- the sum of two bounds is at most the number of all items
pub joined_fit : {A : Type 0} (items upper : List A) (wide runs : List ℕ) → IsFlat items wide → IsFlat upper (drop 1 runs) →
    (get_or wide 0 0 + get_or runs 1 0 ≤ length items + length upper) × ((j : ℕ) → 0 < j → get_or wide j 0 + get_or runs j 0 ≤ length items + length upper)
joined_fit items upper wide runs flat flat_upper = grind (arith, common_steps, bound_within, get_or_after_one)

-- a vector holds what a call wrote over all of it
pub whole_slice : {A : Type 0} (xs old : List A) (len : ℕ) → length xs ≡ len → take len (xs ++ drop (length xs) old) ≡ xs
whole_slice xs old len e = take_at xs (drop (length xs) old) len e
