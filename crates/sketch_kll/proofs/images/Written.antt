-- What is written: levels and places one after the other, each item as its spelling, and how many bytes that takes.
use Rattle.std.proofs.lemmas.Grind.{common_steps}
use Rattle.std.proofs.Common.{◌≡◌, ℕ, zero, suc, ◌+◌, ◌*◌, ◌<◌, ◌≤◌, Bool, true, false, List, [], ◌∷◌, ◌++◌, length, Option, Ordering, refl, ap, subst, ◌∙◌, arith, length-append, ◌-◌, cond, not, take, drop, get_or, sym, append-nil, append_assoc}
use Rattle.std.specs.Prelude.{IsSome, reverse}
use Rattle.std.specs.List.{flat_map, AllByRecursion}
use Rattle.std.proofs.lemmas.List.{reverse-append, take_more, get_or-reverse, length-reverse}
use Rattle.std.proofs.lemmas.List.Concat.{flat_map-append}
use Rattle.sketch_kll.specs.Flat.{flat, bounds_of}
use Rattle.std.specs.Option.{option_to_list}
use Rattle.sketch_kll.specs.Image.{stored, offsets}
use Rattle.sketch_kll.specs.Sketch.{Kll, IsSound}
use Rattle.sketch_base.specs.Spelling.{bytes_of, AllSpelled, items_text}
use Rattle.sketch_base.proofs.bags.Parts.{all-append, all-parts}
use Rattle.sketch_kll.specs.Written.{image_text, items_by_count, written_items, ends_of}
use Rattle.sketch_kll.proofs.images.Texts.{above_two, no_items}
use Rattle.sketch_kll.proofs.images.Places.{length_places, length-offsets}
use Rattle.sketch_kll.proofs.layout.Alike.{length-lengths}
use Rattle.sketch_kll.specs.Levels.{first_level, total}
use Rattle.sketch_kll.proofs.layout.Legal.{bound_of, index_total}

-- The total length of the spellings of items.

text_append : {A : Type 0} (spelling : A → Option (List ℕ)) (xs ys : List A) → length (items_text spelling (xs ++ ys)) ≡ length (items_text spelling xs) + length (items_text spelling ys)
text_append spelling xs ys = ap length (flat_map-append (bytes_of spelling) xs ys) ∙ length-append (items_text spelling xs) (items_text spelling ys)

text_one : {A : Type 0} (spelling : A → Option (List ℕ)) (x : A) → length (items_text spelling (x ∷ [])) ≡ length (bytes_of spelling x)
text_one spelling x = let h = length-append (bytes_of spelling x) [] in omega (arith, h)

-- ---- the order of the text does not matter

text_reverse : {A : Type 0} (spelling : A → Option (List ℕ)) (xs : List A) → length (items_text spelling (reverse xs)) ≡ length (items_text spelling xs)
text_reverse spelling [] = refl
text_reverse {A} spelling (x ∷ xs) = grind (arith, common_steps, reverse-append, text_one, length-append, text_append, text_reverse spelling xs)

text_joined : {A : Type 0} (spelling : A → Option (List ℕ)) (ls : List (List A)) → length (items_text spelling (flat_map (λ l. l) ls)) ≡ length (items_text spelling (flat ls))
text_joined spelling [] = refl
text_joined spelling (l ∷ ls) =
    omega (arith, text_joined spelling ls, text_append spelling l (flat_map (λ l. l) ls), text_append spelling (flat ls) l)

text_stored : {A : Type 0} (spelling : A → Option (List ℕ)) (is_sorted : Bool) (ls : List (List A)) → length (items_text spelling (stored is_sorted ls)) ≡ length (items_text spelling (flat ls))
text_stored spelling is_sorted [] = refl
text_stored spelling true (l ∷ ls) = text_joined spelling (l ∷ ls)
text_stored spelling false (l ∷ ls) =
    omega (arith, text_joined spelling ls, text_append spelling (reverse l) (flat_map (λ l. l) ls), text_append spelling (flat ls) l, text_reverse spelling l)

all_reverse : {A : Type 0} (P : A → Type 0) (xs : List A) → AllByRecursion P (reverse xs) → AllByRecursion P xs
all_reverse P [] h = tt
all_reverse {A} P (x ∷ xs) h =
    let e : reverse (x ∷ xs) ≡ reverse xs ++ x ∷ [] = reverse-append (x ∷ []) xs in
    let q = all-parts P (reverse xs) (x ∷ []) (subst (AllByRecursion P) e h) in
    (q.1.0, all_reverse P xs q.0)

all_joined : {A : Type 0} (P : A → Type 0) (ls : List (List A)) → AllByRecursion P (flat_map (λ l. l) ls) → AllByRecursion P (flat ls)
all_joined P [] h = tt
all_joined P (l ∷ ls) h = let q = all-parts P l (flat_map (λ l. l) ls) h in all-append P (flat ls) l (all_joined P ls q.1) q.0

all_stored : {A : Type 0} (P : A → Type 0) (is_sorted : Bool) (ls : List (List A)) → AllByRecursion P (stored is_sorted ls) → AllByRecursion P (flat ls)
all_stored P is_sorted [] h = tt
all_stored P true (l ∷ ls) h = all_joined P (l ∷ ls) h
all_stored P false (l ∷ ls) h =
    let q = all-parts P (reverse l) (flat_map (λ l. l) ls) h in
    all-append P (flat ls) l (all_joined P ls q.1) (all_reverse P l q.0)

-- ---- whole images

pub record SpelledParts {A : Type 0} (spelling : A → Option (List ℕ)) (s : Kll A) (items : List A) : Type 0 where
  pub least : AllSpelled spelling (option_to_list s.least)
  pub greatest : AllSpelled spelling (option_to_list s.greatest)
  pub retained : AllSpelled spelling items

-- if what is written for two or more items has spellings, so do the extremes and all retained items
pub spelled_full : {A : Type 0} (spelling : A → Option (List ℕ)) (s : Kll A) (items : List A) → 2 ≤ s.n → flat s.levels ≡ items → AllSpelled spelling (written_items s) → SpelledParts spelling s items
spelled_full {A} spelling s items two e h =
    let P : A → Type 0 = λ x. IsSome (spelling x) in
    let n = above_two s.n two in
    let w : AllSpelled spelling (items_by_count s (suc (suc n.0))) = subst (λ (i : ℕ). AllSpelled spelling (items_by_count s i)) n.1 h in
    let q = all-parts P (ends_of s) (stored s.is_sorted s.levels) w in
    let r = all-parts P (option_to_list s.least) (option_to_list s.greatest) q.0 in
    record { least = r.0; greatest = r.1; retained = subst (AllSpelled spelling) e (all_stored P s.is_sorted s.levels q.1) }

-- the length of an image of two or more items
pub length_full : {A : Type 0} (spelling : A → Option (List ℕ)) (s : Kll A) (items : List A) → 2 ≤ s.n → flat s.levels ≡ items →
    length (image_text spelling s) ≡ 20 + 4 * length s.levels + length (items_text spelling (option_to_list s.least)) + length (items_text spelling (option_to_list s.greatest)) +
    length (items_text spelling items)
length_full {A} spelling s items two e = grind (arith, common_steps, above_two, length-offsets, text_append, text_stored, length-append, length_places, length-lengths)

-- if there is no item, none is retained and none is written
no_item : {A : Type 0} (cmp : A → A → Ordering) (s : Kll A) → IsSound cmp s → s.n ≡ 0 → (flat s.levels ≡ []) × (stored s.is_sorted s.levels ≡ [])
no_item {A} cmp s h none = grind (arith, common_steps, no_items)

-- the length of an image of at most one item
pub length_small : {A : Type 0} (cmp : A → A → Ordering) (spelling : A → Option (List ℕ)) (s : Kll A) (items : List A) → IsSound cmp s → s.n < 2 → flat s.levels ≡ items →
    length (image_text spelling s) ≡ 8 + length (items_text spelling items)
length_small {A} cmp spelling s items h few e = grind (arith, common_steps, no_item, text_stored)

-- if what is written for at most one item has a spelling, so do all retained items
pub spelled_small : {A : Type 0} (cmp : A → A → Ordering) (spelling : A → Option (List ℕ)) (s : Kll A) (items : List A) → IsSound cmp s → s.n < 2 → flat s.levels ≡ items →
    AllSpelled spelling (written_items s) → AllSpelled spelling items
spelled_small {A} cmp spelling s items h few e spelled = grind (arith, common_steps, no_item, all_stored)

-- ---- the parts of an image, one after the other

-- if the items of the levels have spellings and, if there are two or more items, the extremes do too, so does all that is written
pub spelled_whole : {A : Type 0} (spelling : A → Option (List ℕ)) (s : Kll A) → AllSpelled spelling (stored s.is_sorted s.levels) →
    (2 ≤ s.n → AllSpelled spelling (ends_of s)) → AllSpelled spelling (written_items s)
spelled_whole {A} spelling s inner ends = go s.n refl
  where
    go : (n : ℕ) → s.n ≡ n → AllSpelled spelling (items_by_count s n)
    go zero is = tt
    go (suc zero) is = inner
    go (suc (suc n)) is = all-append (λ (x : A). IsSome (spelling x)) (ends_of s) (stored s.is_sorted s.levels) (ends (omega (arith, is))) inner

-- Levels and places, written one after the other.

-- the next item of a reversed level, from the level's end
pub turned_step : {A : Type 0} (xs : List A) (i : ℕ) (e : A) → i < length xs → e ≡ get_or xs (length xs - 1 - i) e → take (i + 1) (reverse xs) ≡ take i (reverse xs) ++ e ∷ []
turned_step xs i e lt is = grind (arith, common_steps, length-reverse, take_more, get_or-reverse)

joined_step : {A : Type 0} (h : ℕ) (ls : List (List A)) → h < length ls → flat_map (λ l. l) (take (suc h) ls) ≡ flat_map (λ l. l) (take h ls) ++ first_level (drop h ls)
joined_step h [] lt = absurd (omega arith)
joined_step zero (l ∷ ls) lt = append-nil l
joined_step (suc h) (l ∷ ls) lt = rw (joined_step h ls (omega arith)) (simp append_assoc)

-- which levels are written reversed
pub record IsTurned (is_sorted turned : Bool) (h : ℕ) : Type 0 where
  pub first : h ≡ 0 → turned ≡ not is_sorted
  pub later : 0 < h → turned ≡ false

-- a level as it is written, reversed or not
abbrev pub run_of : {A : Type 0} → List A → Bool → List A
run_of run turned = cond turned (reverse run) run

-- what is stored with one more level
pub stored_turn : {A : Type 0} (is_sorted turned : Bool) (h : ℕ) (ls : List (List A)) → h < length ls → IsTurned is_sorted turned h →
    stored is_sorted (take (h + 1) ls) ≡ stored is_sorted (take h ls) ++ run_of (first_level (drop h ls)) turned
stored_turn true turned zero (l ∷ ls) lt t = rw (t.first refl) (append-nil l)
stored_turn false turned zero (l ∷ ls) lt t = rw (t.first refl) (append-nil (reverse l))
stored_turn true turned (suc h) (l ∷ ls) lt t = let one : suc h + 1 ≡ suc (suc h) = omega arith in rw (t.later (omega arith), one, joined_step h ls (omega arith)) (simp append_assoc)
stored_turn false turned (suc h) (l ∷ ls) lt t = let one : suc h + 1 ≡ suc (suc h) = omega arith in rw (t.later (omega arith), one, joined_step h ls (omega arith)) (simp append_assoc)
stored_turn is_sorted turned h ls lt t = absurd (omega arith)

all_part : {A : Type 0} (P : A → Type 0) (h : ℕ) (ls : List (List A)) → h < length ls → AllByRecursion P (flat_map (λ l. l) ls) → AllByRecursion P (first_level (drop h ls))
all_part P h [] lt a = absurd (omega arith)
all_part P zero (l ∷ ls) lt a = (all-parts P l (flat_map (λ l. l) ls) a).0
all_part P (suc h) (l ∷ ls) lt a = all_part P h ls (omega arith) (all-parts P l (flat_map (λ l. l) ls) a).1

-- what holds for all items that are stored holds for those of one level
pub stored_run : {A : Type 0} (P : A → Type 0) (is_sorted turned : Bool) (h : ℕ) (ls : List (List A)) → h < length ls → IsTurned is_sorted turned h →
    AllByRecursion P (stored is_sorted ls) → AllByRecursion P (run_of (first_level (drop h ls)) turned)
stored_run P true turned zero (l ∷ ls) lt t a = rw (t.first refl) (all-parts P l (flat_map (λ l. l) ls) a).0
stored_run P false turned zero (l ∷ ls) lt t a = rw (t.first refl) (all-parts P (reverse l) (flat_map (λ l. l) ls) a).0
stored_run P true turned (suc h) (l ∷ ls) lt t a = rw (t.later (omega arith)) (all_part P h ls (omega arith) (all-parts P l (flat_map (λ l. l) ls) a).1)
stored_run P false turned (suc h) (l ∷ ls) lt t a = rw (t.later (omega arith)) (all_part P h ls (omega arith) (all-parts P (reverse l) (flat_map (λ l. l) ls) a).1)
stored_run P is_sorted turned h ls lt t a = absurd (omega arith)

-- ---- places

total_drop : (ns : List ℕ) (h : ℕ) → total (drop h ns) ≤ total ns
total_drop (n ∷ ns) (suc h) = omega (arith, total_drop ns h)
total_drop [] (suc h) = omega arith
total_drop ns zero = omega arith

-- no bound is above the first
pub bound_below : (bounds ns : List ℕ) → bounds ≡ bounds_of ns → (h : ℕ) → get_or bounds h 0 ≤ get_or bounds 0 0
bound_below bounds ns e h = grind (arith, common_steps, bound_of, index_total, total_drop)

offset_at : (start end h : ℕ) (ns : List ℕ) → start + total ns ≡ end → h < length ns → get_or (offsets start ns) h 0 ≡ end - total (drop h ns)
offset_at start end h [] e lt = absurd (omega arith)
offset_at start end zero (n ∷ ns) e lt = omega (arith, e)
offset_at start end (suc h) (n ∷ ns) e lt = offset_at (start + n) end h ns (omega (arith, e)) (omega arith)

-- the place of a level, by its bound
pub place_at : (bounds ns : List ℕ) (end h : ℕ) → bounds ≡ bounds_of ns → total ns ≤ end → h < length ns → get_or (offsets (end - total ns) ns) h 0 ≡ end - get_or bounds h 0
place_at bounds ns end h e w lt = offset_at (end - total ns) end h ns (omega arith) lt ∙ ap (λ (x : ℕ). end - x) (sym (ap (λ (xs : List ℕ). get_or xs h 0) e ∙ bound_of ns h))

-- ---- one write after the other

-- the parts that were written one after the other, in one text
pub joined : (b0 b1 b2 b3 b4 b5 b6 u v p x y : List ℕ) (l : ℕ) → b1 ≡ b0 ++ u → b2 ≡ b1 ++ v → b3 ≡ b2 ++ (l ∷ 0 ∷ []) → b4 ≡ b3 ++ p → b5 ≡ b4 ++ x → b6 ≡ b5 ++ y →
    b6 ≡ b0 ++ ((u ++ (v ++ (l ∷ 0 ∷ []))) ++ (p ++ (x ++ y)))
joined b0 b1 b2 b3 b4 b5 b6 u v p x y l w1 w2 w3 w4 w5 w6 = grind (arith, common_steps, append_assoc)
