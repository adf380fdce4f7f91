-- Two layouts of one text are the same, up to items that compare equal, and what was read keeps the invariant of sketches.
use Rattle.std.proofs.lemmas.Grind.{common_steps}
use Rattle.std.proofs.Common.{◌≡◌, ℕ, ◌^◌, ◌<◌, Bool, true, false, List, [], ◌∷◌, ◌++◌, length, map, Option, Ordering, Equal, is_gt, sym, ap, ◌∙◌, arith, ◌≤◌, Some, None, refl, subst}
use Rattle.std.specs.Prelude.{reverse}
use Rattle.std.specs.Cmp.{IsTotalOrder}
use Rattle.std.specs.List.{flat_map, AllZip}
use Rattle.std.proofs.lemmas.Cmp.{alike_right, tied_itself, tied_back}
use Rattle.std.proofs.lemmas.List.{reverse-append, length-reverse}
use Rattle.sketch_kll.specs.Levels.{SameLevels, AllItems, total}
use Rattle.sketch_kll.specs.Flat.{levels_in, IsFlat}
use Rattle.sketch_base.specs.Spelling.{BeginsAll, SpellingsTie}
use Rattle.sketch_kll.specs.Sketch.{Kll, IsSound, sketch_of}
use Rattle.sketch_base.specs.Extremes.{IsBetween, Ties, newer_or}
use Rattle.sketch_kll.specs.Image.{stored, IsLayout, IsLegal, BeginsLevels, IsItemSketch}
use Rattle.sketch_kll.specs.Reading.{laid_out, ReadsLevels}
use Rattle.sketch_kll.specs.declared.image.reading.Numbers.{Numbers}
use Rattle.sketch_base.proofs.images.Spelled.{same_cell, IsPrefixFree, Twins, same_items, same_from}
use Rattle.sketch_kll.proofs.layout.Legal.{AllItems-map, AllItems-same, length_bounds_of, total_turned, lengths_by_bounds}
use Rattle.sketch_kll.proofs.layout.Alike.{UpperSorted-same, first-same, length-lengths}
use Rattle.sketch_kll.proofs.images.Places.{SameNumbersAndLengths, same_levels}
use Rattle.sketch_kll.proofs.layout.Compacted.{alike_size}
use Rattle.sketch_kll.specs.Capacity.{total_of}
use Rattle.sketch_kll.specs.Steps.{put}
use Rattle.sketch_base.proofs.order.Extremes.{newer_or-none}
use Rattle.sketch_kll.proofs.layout.Full.{capacity_eight}

-- Two layouts of one text are the same, up to items that compare equal.

-- ---- lists side by side

zip_front : {A : Type 0} (R : A → A → Type 0) (xs ys us vs : List A) → length xs ≡ length ys → AllZip R (xs ++ us) (ys ++ vs) → AllZip R xs ys × AllZip R us vs
zip_front R [] [] us vs l z = (tt, z)
zip_front R (x ∷ xs) (y ∷ ys) us vs l z = let h = zip_front R xs ys us vs (omega (arith, l)) z.1 in ((z.0, h.0), h.1)
zip_front R xs ys us vs l z = absurd (omega (arith, l))

zip_reverse : {A : Type 0} (R : A → A → Type 0) (xs ys : List A) → length xs ≡ length ys → AllZip R (reverse xs) (reverse ys) → AllZip R xs ys
zip_reverse R [] [] l z = tt
zip_reverse {A} R (x ∷ xs) (y ∷ ys) l z =
    let n : length xs ≡ length ys = omega (arith, l) in
    let w = rw (reverse-append (x ∷ []) xs, reverse-append (y ∷ []) ys) at z in
    let h = zip_front R (reverse xs) (reverse ys) (x ∷ []) (y ∷ []) (length-reverse xs ∙ n ∙ sym (length-reverse ys)) w in
    (h.1.0, zip_reverse R xs ys n h.0)
zip_reverse R xs ys l z = absurd (omega (arith, l))

zip_levels : {A : Type 0} (R : A → A → Type 0) (ls ms : List (List A)) → map length ls ≡ map length ms → AllZip R (flat_map (λ l. l) ls) (flat_map (λ l. l) ms) → AllZip (AllZip R) ls ms
zip_levels R [] [] e z = tt
zip_levels R (l ∷ ls) (m ∷ ms) e z =
    let p = same_cell (length l) (length m) (map length ls) (map length ms) e in
    let h = zip_front R l m (flat_map (λ l. l) ls) (flat_map (λ l. l) ms) p.0 z in
    (h.0, zip_levels R ls ms p.1 h.1)
zip_levels R ls ms e z = absurd cc

zip_stored : {A : Type 0} (R : A → A → Type 0) (is_sorted : Bool) (ls ms : List (List A)) → map length ls ≡ map length ms → AllZip R (stored is_sorted ls) (stored is_sorted ms) →
    AllZip (AllZip R) ls ms
zip_stored R is_sorted [] [] e z = tt
zip_stored R true (l ∷ ls) (m ∷ ms) e z = zip_levels R (l ∷ ls) (m ∷ ms) e z
zip_stored R false (l ∷ ls) (m ∷ ms) e z = grind (arith, common_steps, same_cell, zip_front, length-reverse, zip_reverse, zip_levels)
zip_stored R is_sorted ls ms e z = absurd cc

-- ---- items that compare equal

alike_from : {A : Type 0} (cmp : A → A → Ordering) (spelling : A → Option (List ℕ)) → SpellingsTie cmp spelling → (ls ms : List (List A)) → AllZip (AllZip (Twins spelling)) ls ms →
    SameLevels cmp ls ms
alike_from cmp spelling t [] [] z = tt
alike_from cmp spelling t (l ∷ ls) (m ∷ ms) z = (same_from cmp spelling t l m z.0, alike_from cmp spelling t ls ms z.1)
alike_from cmp spelling t ls ms z = absurd z

-- if a compares equal to b, and c to d, then a compares to c as b does to d
pub cmp_same : {A : Type 0} {cmp : A → A → Ordering} → IsTotalOrder cmp → (a b c d : A) → cmp a b ≡ Equal → cmp c d ≡ Equal → cmp a c ≡ cmp b d
cmp_same {A} {cmp} o a b c d p q = o.congr a b c p ∙ alike_right o c d b q

all_between_same : {A : Type 0} {cmp : A → A → Ordering} → IsTotalOrder cmp → (a a' b b' : A) → cmp a a' ≡ Equal → cmp b b' ≡ Equal →
    (ls ms : List (List A)) → SameLevels cmp ls ms → AllItems (IsBetween cmp a b) ls → AllItems (IsBetween cmp a' b') ms
all_between_same {cmp = cmp} o a a' b b' p q ls ms z h =
    AllItems-map (IsBetween cmp a b) (IsBetween cmp a' b') (λ y t. (ap is_gt (sym (o.congr a a' y p)) ∙ t.0, ap is_gt (sym (alike_right o b b' y q)) ∙ t.1)) ms
    (AllItems-same (IsBetween cmp a b) cmp (λ x y e t. (ap is_gt (sym (alike_right o x y a e)) ∙ t.0, ap is_gt (sym (o.congr x y b e)) ∙ t.1)) ls ms z h)

-- ---- layouts

-- the levels that are read have two bounds or more
pub two_bounds : {k n min_k : ℕ} {text bounds rest : List ℕ} → ReadsLevels k text n min_k bounds rest → 1 < length bounds
two_bounds r = omega (arith, ap length r.bounds_are, length_bounds_of r.lengths, r.begins.some_level)

-- a layout of a text has the numbers and lengths that were read
pub layout_levels : {A : Type 0} (spelling : A → Option (List ℕ)) (k : ℕ) (text : List ℕ) (s : Kll A) (x y : A) (n m : ℕ) (bounds mid : List ℕ) → k < 2 ^ 16 → s.k ≡ k →
    (l : IsLayout spelling text s x y) → (r : ReadsLevels k text n m bounds mid) → SameNumbersAndLengths s.n s.min_k n m (map length s.levels) r.lengths l.rest mid
layout_levels spelling k text s x y n m bounds mid fits e l r =
    same_levels k text s.n s.min_k n m (map length s.levels) r.lengths l.rest mid fits (rw e at l.numbers) r.begins

-- what is read of an image of two items or more
pub record IsRead {A : Type 0} (spelling : A → Option (List ℕ)) (k : ℕ) (text : List ℕ) (numbers : Numbers) (flag : Bool) (items : List A) (least greatest : A) : Type 0 where
  pub layout : IsLayout spelling text (laid_out k numbers flag items least greatest) least greatest
  pub flat : IsFlat items numbers.bounds.items

-- the reader makes such items
pub full_read : {A : Type 0} {spelling : A → Option (List ℕ)} {k : ℕ} {text rest : List ℕ} (numbers : Numbers) {flag : Bool} {given slice arranged items : List A} {bounds : List ℕ}
    {least greatest : A} →
    ReadsLevels k text numbers.n numbers.min_k numbers.bounds.items rest → BeginsAll spelling rest (least ∷ greatest ∷ given) [] → slice ≡ given → bounds ≡ numbers.bounds.items →
    IsFlat arranged bounds → stored flag (levels_in arranged bounds) ≡ slice → items ≡ arranged → IsRead spelling k text numbers flag items least greatest
full_read {A} {spelling} {k} {text} {rest} numbers {flag} {given} {slice} {arranged} {items} {bounds} {least} {greatest} reads begins slice_is bounds_are flat turned items_are =
    let own = rw bounds_are at flat in
    let behind = rw (bounds_are, slice_is) at turned in
    rw items_are (record { layout = grind (arith, begins, behind, own, reads, common_steps, lengths_by_bounds); flat = own })

pub record SameLayout {A : Type 0} (cmp : A → A → Ordering) (s t : Kll A) (x x' y y' : A) : Type 0 where
  pub n : s.n ≡ t.n
  pub min_k : s.min_k ≡ t.min_k
  pub levels : SameLevels cmp s.levels t.levels
  pub least : cmp x x' ≡ Equal
  pub greatest : cmp y y' ≡ Equal

-- two layouts of one text are the same, up to items that compare equal
pub same_layouts : {A : Type 0} (cmp : A → A → Ordering) (spelling : A → Option (List ℕ)) → IsPrefixFree spelling → SpellingsTie cmp spelling →
    (text : List ℕ) (s t : Kll A) (x x' y y' : A) → t.k < 2 ^ 16 → s.k ≡ t.k → s.is_sorted ≡ t.is_sorted → IsLayout spelling text s x y → IsLayout spelling text t x' y' → SameLayout cmp s t x x' y y'
same_layouts {A} cmp spelling free ties text s t x x' y y' fits e f a b =
    let v = same_levels t.k text s.n s.min_k t.n t.min_k (map length s.levels) (map length t.levels) a.rest b.rest fits (rw e at a.numbers) b.numbers in
    let its = rw (f, v.rest_is) at a.items in
    let h = same_items spelling free (x ∷ y ∷ stored t.is_sorted s.levels) (x' ∷ y' ∷ stored t.is_sorted t.levels) b.rest [] []
    (omega (arith, ap total v.lengths_are, total_turned t.is_sorted s.levels, total_turned t.is_sorted t.levels)) its b.items in
    let z = h.0 in
    record {
      n = v.n_is;
      min_k = v.min_k_is;
      levels = alike_from cmp spelling ties s.levels t.levels (zip_stored (Twins spelling) t.is_sorted s.levels t.levels v.lengths_are z.1.1);
      least = ties x x' z.0.spelled z.0.same;
      greatest = ties y y' z.1.0.spelled z.1.0.same;
    }

-- one layout is legal if the other is
pub same_legal : {A : Type 0} {cmp : A → A → Ordering} → IsTotalOrder cmp → (s t : Kll A) (x x' y y' : A) → s.k ≡ t.k → s.is_sorted ≡ t.is_sorted → SameLayout cmp s t x x' y y' →
    IsLegal cmp s x y → IsLegal cmp t x' y'
same_legal {A} {cmp} o s t x x' y y' e f l h = record {
  min_k_above = omega (arith, l.min_k, h.min_k_above);
  min_k_below = omega (arith, l.min_k, h.min_k_below, e);
  some_items = omega (arith, l.n, h.some_items);
  weighs_n = sym (alike_size cmp s.levels t.levels l.levels).weighs ∙ h.weighs_n ∙ l.n;
  in_order = ap is_gt (sym (cmp_same o x x' y y' l.least l.greatest)) ∙ h.in_order;
  runs = record {
    upper_sorted = UpperSorted-same cmp o s.levels t.levels l.levels h.runs.upper_sorted;
    flag_holds = λ i. first-same cmp o s.levels t.levels l.levels (h.runs.flag_holds (f ∙ i));
    between = all_between_same o x x' y y' l.least l.greatest s.levels t.levels l.levels h.runs.between;
  };
}

-- What was read keeps the invariant of sketches.

-- a sketch of one item is sound
item_sound : {A : Type 0} {cmp : A → A → Ordering} → IsTotalOrder cmp → (k : ℕ) (flag : Bool) (x : A) (least greatest : Option A) → 8 ≤ k → k < 2 ^ 16 →
    Ties cmp x least → Ties cmp x greatest → IsSound cmp (sketch_of k k 1 flag ((x ∷ []) ∷ []) least greatest)
item_sound {A} {cmp} o k flag x (Some a) (Some b) h w p q = grind (arith, common_steps, capacity_eight, cmp_same, tied_itself, tied_back)
item_sound o k flag x None greatest h w p q = absurd p
item_sound o k flag x (Some a) None h w p q = absurd q

-- the fields of a sketch of one item are sound, and are what the image says
pub item_holds : {A : Type 0} {cmp : A → A → Ordering} → IsTotalOrder cmp → {k' k : ℕ} {flag told : Bool} {levels before : List (List A)} (x : A) {least greatest : Option A} →
    8 ≤ k → k < 2 ^ 16 → k' ≡ k → flag ≡ told → levels ≡ put x before → before ≡ [] ∷ [] → Ties cmp x (newer_or least None) → Ties cmp x (newer_or greatest None) →
    IsSound cmp (sketch_of k' k 1 flag levels least greatest) × IsItemSketch cmp k told x (sketch_of k' k 1 flag levels least greatest)
item_holds {A} {cmp} o {k'} {k} {flag} {told} {levels} x {least} {greatest} h w e flag_is put_is none p q =
    let one : levels ≡ (x ∷ []) ∷ [] = put_is ∙ ap (put x) none in
    let whole : sketch_of k' k 1 flag levels least greatest ≡ sketch_of k k 1 flag ((x ∷ []) ∷ []) least greatest =
    λ j. record { k = e j; min_k = k; n = 1; is_sorted = flag; levels = one j; least = least; greatest = greatest } in
    let low = subst (Ties cmp x) (newer_or-none least) p in
    let high = subst (Ties cmp x) (newer_or-none greatest) q in (
      subst (IsSound cmp) (sym whole) (item_sound o k flag x least greatest h w low high),
      record { k_is = e; min_k_is = refl; n_is = refl; flag_is = flag_is; levels_are = one; least_is = low; greatest_is = high },
    )

-- a legal image of two items or more gives a sound sketch
pub full_holds : {A : Type 0} (cmp : A → A → Ordering) (s : Kll A) (x y : A) (text rest : List ℕ) → 8 ≤ s.k → s.k < 2 ^ 16 →
    BeginsLevels s.k text s.n s.min_k (map length s.levels) rest → IsLegal cmp s x y → s.least ≡ Some x → s.greatest ≡ Some y → IsSound cmp s
full_holds cmp s x y text rest h w b l e f =
    let len : length (map length s.levels) ≡ length s.levels = length-lengths s.levels in
    let cap : total_of s.k 8 (length (map length s.levels)) ≡ total_of s.k 8 (length s.levels) = ap (total_of s.k 8) len in
    record {
      eight_below_min_k = l.min_k_above;
      min_k_below_k = l.min_k_below;
      k_fits = w;
      weighs_n = l.weighs_n;
      has_level = omega (arith, len, b.some_level);
      has_few_levels = omega (arith, len, b.few_levels);
      within_capacity = omega (arith, cap, b.within_capacity);
      upper_sorted = l.runs.upper_sorted;
      flag_holds = l.runs.flag_holds;
      least_there = rw e (omega (arith, l.some_items));
      greatest_there = rw f (omega (arith, l.some_items));
      extremes_in_order = rw (e, f) l.in_order;
      items_between = rw (e, f) l.runs.between;
      one_level_at_first = λ e. absurd (omega (arith, l.some_items, e));
      min_k_at_first = λ e. absurd (omega (arith, l.some_items, e));
      one_item_ties = λ e. absurd (omega (arith, l.some_items, e));
    }

-- ---- sketches that are made from empty ones

-- ---- a sketch that a text is an image of keeps the invariant of sketches
