-- Numbers and places in an image: one text can be read in only one way. The header decides the case.
use Rattle.std.proofs.Common.{◌≡◌, ℕ, ◌^◌, ◌<◌, true, false, List, ◌++◌, Option, Some, None, Ordering, Result, Ok, Err, refl, sym, subst, ◌∙◌, inl, inr, ◌+◌, ◌-◌, ◌*◌, ◌≤◌, [], ◌∷◌, length, map, min, ap, ap₂, arith, append_assoc, length-append, append-nil, Bool, nat_le}
use Rattle.std.specs.Result.{IfErr}
use Rattle.std.specs.Cmp.{IsTotalOrder}
use Rattle.std.proofs.lemmas.Cmp.{tied_itself}
use Rattle.sketch_base.specs.declared.codec.Header.{Header}
use Rattle.sketch_base.specs.Heads.{header_text}
use Rattle.sketch_kll.specs.Image.{IsHead, IsEmptyBody, IsItemBody, IsFullBody, IsBody, IsImage, numbers_text, offsets, BeginsLevels}
use Rattle.sketch_kll.specs.Sketch.{Kll}
use Rattle.sketch_kll.specs.Copy.{IsCopy}
use Rattle.sketch_base.specs.Queries.{SameAnswer}
use Rattle.sketch_kll.proofs.layout.Flats.{SameLevels-refl}
use Rattle.sketch_base.proofs.images.Spelled.{same_header, same_16, same_32, same_64, same_cell}
use Rattle.std.proofs.lemmas.Grind.{common_steps}
use Rattle.std.specs.Prelude.{◌&&◌}
use Rattle.std.specs.Int.{w16, w32, w64, to_le_bytes}
use Rattle.std.specs.List.{flat_map, AllByRecursion}
use Rattle.std.proofs.lemmas.Bool.{leb-true, le-leb, and_parts}
use Rattle.std.proofs.lemmas.List.{flat_map_more}
use Rattle.sketch_kll.specs.Capacity.{total_of}
use Rattle.sketch_kll.specs.Levels.{total}
use Rattle.sketch_kll.specs.Flat.{bounds_of}
use Rattle.sketch_kll.specs.Reading.{AreLengths}
use Rattle.sketch_base.proofs.bags.Parts.{all-append}
use Rattle.sketch_kll.proofs.layout.Full.{total_bound}

-- Whole images: the header decides the case.

-- k fits in 16 bits in each case
pub head_fits : {A : Type 0} (cmp : A → A → Ordering) (spelling : A → Option (List ℕ)) (h : Header) (rest : List ℕ) (s : Kll A) → IsBody cmp spelling h rest s → h.k < 2 ^ 16
head_fits cmp spelling h rest s (inl b) = b.head.k_fits
head_fits cmp spelling h rest s (inr (inl b)) = b.head.k_fits
head_fits cmp spelling h rest s (inr (inr b)) = b.head.k_fits

-- what follows a header that was read is the body of the image
pub body_of_image : {A : Type 0} (cmp : A → A → Ordering) (spelling : A → Option (List ℕ)) (text : List ℕ) (s : Kll A) (h : Header) (rest : List ℕ) → h.k < 2 ^ 16 →
    text ≡ header_text h ++ rest → IsImage cmp spelling text s → IsBody cmp spelling h rest s
body_of_image cmp spelling text s h rest fits e i =
    let w = same_header i.head h i.rest rest (head_fits cmp spelling i.head i.rest s i.body) fits (sym i.parts ∙ e) in
    subst (λ (x : List ℕ). IsBody cmp spelling h x s) w.1 (subst (λ (x : Header). IsBody cmp spelling x i.rest s) w.0 i.body)

same_option : {A : Type 0} {cmp : A → A → Ordering} → IsTotalOrder cmp → (x : Option A) → SameAnswer cmp x x
same_option o None = tt
same_option o (Some x) = tied_itself o x

-- a sketch is a copy of itself
pub same_itself : {A : Type 0} {cmp : A → A → Ordering} → IsTotalOrder cmp → (s : Kll A) → IsCopy cmp s s
same_itself {A} {cmp} o s = record { k = refl; min_k = refl; n = refl; is_sorted = refl; levels = SameLevels-refl cmp o s.levels; least = same_option o s.least; greatest = same_option o s.greatest }

-- ---- no item

-- ---- the header names the case

-- a header of no item has the body of no item
pub empty_alone : {A : Type 0} (cmp : A → A → Ordering) (spelling : A → Option (List ℕ)) {h : Header} {rest : List ℕ} {s : Kll A} →
    IsHead h 2 1 true false → IsBody cmp spelling h rest s → IsEmptyBody h rest s
empty_alone cmp spelling x (inl b) = b
empty_alone cmp spelling x (inr (inl b)) = let z : true ≡ false = sym x.empty_is ∙ b.head.empty_is in absurd cc
empty_alone cmp spelling x (inr (inr b)) = let z : true ≡ false = sym x.empty_is ∙ b.head.empty_is in absurd cc

-- a header of one item has the body of one item
pub item_alone : {A : Type 0} (cmp : A → A → Ordering) (spelling : A → Option (List ℕ)) {h : Header} {rest : List ℕ} {s : Kll A} →
    IsHead h 2 2 false true → IsBody cmp spelling h rest s → IsItemBody cmp spelling h rest s
item_alone cmp spelling x (inl b) = let z : false ≡ true = sym x.empty_is ∙ b.head.empty_is in absurd cc
item_alone cmp spelling x (inr (inl b)) = b
item_alone cmp spelling x (inr (inr b)) = let z : true ≡ false = sym x.item_is ∙ b.head.item_is in absurd cc

-- a header of two or more items has the body of two or more items
pub full_alone : {A : Type 0} (cmp : A → A → Ordering) (spelling : A → Option (List ℕ)) {h : Header} {rest : List ℕ} {s : Kll A} →
    IsHead h 5 1 false false → IsBody cmp spelling h rest s → IsFullBody cmp spelling h rest s
full_alone cmp spelling x (inl b) = let z : false ≡ true = sym x.empty_is ∙ b.head.empty_is in absurd cc
full_alone cmp spelling x (inr (inl b)) = let z : false ≡ true = sym x.item_is ∙ b.head.item_is in absurd cc
full_alone cmp spelling x (inr (inr b)) = b

-- if no sketch has the body, the text is no image
pub no_image : {A X E : Type 0} (cmp : A → A → Ordering) (spelling : A → Option (List ℕ)) (h : Header) (r : Result X E)
    (D : E → Type 0) (Body : Kll A → Type 0) {text rest : List ℕ} →
    h.k < 2 ^ 16 → text ≡ header_text h ++ rest → ((s : Kll A) → IsBody cmp spelling h rest s → Body s) →
    IfErr r (λ e. D e → (s : Kll A) → Body s → ⊥) → IfErr r (λ e. D e → (s : Kll A) → IsImage cmp spelling text s → ⊥)
no_image cmp spelling h (Ok x) D Body fits parts alone f = tt
no_image cmp spelling h (Err e) D Body {text = text} {rest = rest} fits parts alone f =
    λ d s i. f d s (alone s (body_of_image cmp spelling text s h rest fits parts i))

-- Numbers and places in an image: one text can be read in only one way.

-- ---- numbers

pub record SameNumbers (n m n' m' l l' : ℕ) (r s : List ℕ) : Type 0 where
  pub n_is : n ≡ n'
  pub min_k_is : m ≡ m'
  pub levels_are : l ≡ l'
  pub rest_is : r ≡ s

same_numbers : (n m l u n' m' l' u' : ℕ) (r s : List ℕ) → n < 2 ^ 64 → n' < 2 ^ 64 → m < 2 ^ 16 → m' < 2 ^ 16 → numbers_text n m l u ++ r ≡ numbers_text n' m' l' u' ++ s →
    SameNumbers n m n' m' l l' r s
same_numbers n m l u n' m' l' u' r s p p' q q' e = grind (arith, common_steps, same_64, same_16, same_cell)

-- ---- places

-- the places never decrease, the first is at least `low`, and none is above `end`
abbrev pub rises : ℕ → ℕ → List ℕ → Bool
rises low end [] = true
rises low end (x ∷ xs) = nat_le low x && nat_le x end && rises x end xs

-- a place takes four bytes
pub length_places : (xs : List ℕ) → length (flat_map (to_le_bytes w32) xs) ≡ 4 * length xs
length_places [] = refl
length_places (x ∷ xs) = omega (arith, length_places xs)

same_places : (xs ys r s : List ℕ) → length xs ≡ length ys → AllByRecursion (λ x. x < 2 ^ 32) xs → AllByRecursion (λ x. x < 2 ^ 32) ys →
    flat_map (to_le_bytes w32) xs ++ r ≡ flat_map (to_le_bytes w32) ys ++ s → (xs ≡ ys) × (r ≡ s)
same_places [] [] r s l p q e = (refl, e)
same_places (x ∷ xs) (y ∷ ys) r s l p q e =
    let a = same_32 x y (flat_map (to_le_bytes w32) xs ++ r) (flat_map (to_le_bytes w32) ys ++ s) p.0 q.0 e in
    let b = same_places xs ys r s (omega (arith, l)) p.1 q.1 a.1 in
    (cc (a.0, b.0), b.1)
same_places xs ys r s l p q e = absurd (omega (arith, l))

-- there is one place for each level
pub length-offsets : (start : ℕ) (ns : List ℕ) → length (offsets start ns) ≡ length ns
length-offsets start [] = refl
length-offsets start (n ∷ ns) = omega (arith, length-offsets (start + n) ns)

offsets_below : (start end : ℕ) (ns : List ℕ) → start + total ns ≤ end → end < 2 ^ 32 → AllByRecursion (λ x. x < 2 ^ 32) (offsets start ns)
offsets_below start end [] h k = tt
offsets_below start end (n ∷ ns) h k = (omega arith, offsets_below (start + n) end ns (omega arith) k)

same_lengths : (start start' end : ℕ) (ns ms : List ℕ) → start + total ns ≡ end → start' + total ms ≡ end → offsets start ns ≡ offsets start' ms → ns ≡ ms
same_lengths start start' end [] [] h k e = refl
same_lengths start start' end (n ∷ ns) (m ∷ ms) h k e =
    let c = same_cell start start' (offsets (start + n) ns) (offsets (start' + m) ms) e in
    let rest = same_lengths (start + n) (start' + m) end ns ms (omega arith) (omega arith) c.1 in
    let first : n ≡ m = omega (arith, ap total rest, c.0) in
    cc (first, rest)
same_lengths start start' end ns ms h k e = absurd cc

pub record IsStep (low end x : ℕ) (xs : List ℕ) : Type 0 where
  pub above : low ≤ x
  pub below : x ≤ end
  pub later : rises x end xs ≡ true

-- if places rise, the first is at least `low` and at most `end`, and the others rise from it
pub step_of : (low end x : ℕ) (xs : List ℕ) → rises low end (x ∷ xs) ≡ true → IsStep low end x xs
step_of low end x xs e = grind (arith, common_steps, and_parts, leb-true)

-- the places of levels rise
pub lengths_rise : (low start end : ℕ) (ns : List ℕ) → start + total ns ≡ end → low ≤ start → rises low end (offsets start ns) ≡ true
lengths_rise low start end [] e h = refl
lengths_rise low start end (n ∷ ns) e h =
    rw (le-leb low start h, le-leb start end (omega arith)) (lengths_rise start (start + n) end ns (omega arith) (omega arith))

pub record Found (low end : ℕ) (xs ns : List ℕ) : Type 0 where
  pub bounds_are : map (λ x. end - x) xs ++ 0 ∷ [] ≡ bounds_of ns
  pub as_many : length ns ≡ length xs
  pub begin : xs ≡ offsets (end - total ns) ns
  pub within : total ns ≤ end - low

-- places that rise are those of some levels
pub lengths_of : (low end : ℕ) (xs : List ℕ) → rises low end xs ≡ true → (ns : List ℕ) × Found low end xs ns
lengths_of low end [] e = ([], record { bounds_are = refl; as_many = refl; begin = refl; within = omega arith })
lengths_of low end (x ∷ xs) e =
    let s = step_of low end x xs e in
    let h = lengths_of x end xs s.later in
    let f = h.1 in
    let n : ℕ = end - x - total h.0 in
    let first : end - x ≡ n + total h.0 = omega (arith, f.within) in
    let start : x ≡ end - (n + total h.0) = omega (arith, f.within, s.below) in
    let next : end - total h.0 ≡ end - (n + total h.0) + n = omega (arith, f.within) in (
      n ∷ h.0,
      record {
        bounds_are = cc (first, f.bounds_are);
        as_many = omega (arith, f.as_many);
        begin = ap₂ (λ (z : ℕ) (zs : List ℕ). z ∷ zs) start (f.begin ∙ ap (λ (z : ℕ). offsets z h.0) next);
        within = omega (arith, f.within, s.above, s.below);
      },
    )

-- ---- levels

-- two readings of one text agree
pub record SameNumbersAndLengths (n m n' m' : ℕ) (ns ms r s : List ℕ) : Type 0 where
  pub n_is : n ≡ n'
  pub min_k_is : m ≡ m'
  pub lengths_are : ns ≡ ms
  pub rest_is : r ≡ s

-- one text begins with the numbers and lengths of only one sketch
pub same_levels : (k : ℕ) (text : List ℕ) (n m n' m' : ℕ) (ns ms r s : List ℕ) → k < 2 ^ 16 → BeginsLevels k text n m ns r → BeginsLevels k text n' m' ms s → SameNumbersAndLengths n m n' m' ns ms r s
same_levels k text n m n' m' ns ms r s fits a b =
    let c = same_numbers n m (length ns) a.unused n' m' (length ms) b.unused
    (flat_map (to_le_bytes w32) (offsets (total_of k 8 (length ns) - total ns) ns) ++ r) (flat_map (to_le_bytes w32) (offsets (total_of k 8 (length ms) - total ms) ms) ++ s)
    a.n_fits b.n_fits a.min_k_fits b.min_k_fits (sym a.parts ∙ b.parts) in
    let cap : total_of k 8 (length ns) ≡ total_of k 8 (length ms) = ap (total_of k 8) c.levels_are in
    let first : ℕ = total_of k 8 (length ns) - total ns in
    let first' : ℕ = total_of k 8 (length ms) - total ms in
    let d = same_places (offsets first ns) (offsets first' ms) r s (length-offsets first ns ∙ c.levels_are ∙ sym (length-offsets first' ms))
    (offsets_below first (total_of k 8 (length ns)) ns (omega (arith, a.within_capacity)) (omega (arith, a.few_levels, fits, total_bound k (length ns) fits a.few_levels)))
    (offsets_below first' (total_of k 8 (length ms)) ms (omega (arith, b.within_capacity)) (omega (arith, b.few_levels, fits, total_bound k (length ms) fits b.few_levels))) c.rest_is in
    let l = same_lengths first first' (total_of k 8 (length ns)) ns ms (omega (arith, a.within_capacity)) (omega (arith, cap, b.within_capacity)) d.0 in
    record { n_is = c.n_is; min_k_is = c.min_k_is; lengths_are = l; rest_is = d.1 }

-- ---- what the reader finds

abbrev pub places_text : ℕ → List ℕ → List ℕ
places_text k ns = flat_map (to_le_bytes w32) (offsets (total_of k 8 (length ns) - total ns) ns)

-- the numbers that begin the text of a full image
pub record NumbersRead (text : List ℕ) (n m count unused : ℕ) (mid : List ℕ) : Type 0 where
  pub n_fits : n < 2 ^ 64
  pub m_fits : m < 2 ^ 16
  pub text_is : text ≡ numbers_text n m count unused ++ mid

-- what three calls read makes up the numbers at the front
pub numbers_read : {text a b c : List ℕ} {n m count unused : ℕ} → n < 2 ^ 64 → m < 2 ^ 16 →
    text ≡ to_le_bytes w64 n ++ a → a ≡ to_le_bytes w16 m ++ b → b ≡ count ∷ unused ∷ c → NumbersRead text n m count unused c
numbers_read {n = n} {m = m} n_fits m_fits first second third = grind (arith, common_steps)

-- if levels begin the text, their number is the one that was read
pub levels_count : {k : ℕ} {text : List ℕ} {n m : ℕ} {ns r : List ℕ} {n' m' count u : ℕ} {mid : List ℕ} →
    BeginsLevels k text n m ns r → NumbersRead text n' m' count u mid → (length ns ≡ count) × (places_text k ns ++ r ≡ mid)
levels_count {k} {text} {n} {m} {ns} {r} {n'} {m'} {count} {u} {mid} b num = grind (arith, common_steps)

-- if the places are those of levels of these lengths, such levels begin the text
pub levels_found : (k : ℕ) {text : List ℕ} {n m count u end : ℕ} {mid : List ℕ} (places rest : List ℕ) {ns : List ℕ} → NumbersRead text n m count u mid →
    mid ≡ flat_map (to_le_bytes w32) places ++ rest → length places ≡ count → end ≡ total_of k 8 count → 1 ≤ count → count ≤ 61 → AreLengths end places ns → BeginsLevels k text n m ns rest
levels_found k {n = n} {m = m} {count = count} {u = u} {end = end} places rest {ns = ns} num f len cap some few a =
    let many : length ns ≡ count = a.as_many ∙ len in
    let here : end ≡ total_of k 8 (length ns) = cap ∙ ap (total_of k 8) (sym many) in
    record {
      unused = u;
      parts = rw (num.text_is, f, a.begin, here, many);
      n_fits = num.n_fits;
      min_k_fits = num.m_fits;
      some_level = omega (arith, many);
      few_levels = omega (arith, many);
      within_capacity = omega (arith, here, a.within);
    }

-- if levels begin the text, the places of their lengths follow the numbers
pub levels_follow : {k : ℕ} {text : List ℕ} {n m : ℕ} {ns r : List ℕ} {n' m' count u end : ℕ} {mid : List ℕ} → BeginsLevels k text n m ns r →
    NumbersRead text n' m' count u mid → end ≡ total_of k 8 count →
    (places : List ℕ) × (length places ≡ count) × (mid ≡ flat_map (to_le_bytes w32) places ++ r) × AreLengths end places ns
levels_follow {k} {ns = ns} b num cap =
    let s = levels_count b num in
    let here = ap (total_of k 8) s.0 ∙ sym cap in
    let first : ℕ = total_of k 8 (length ns) - total ns in (
      offsets first ns,
      length-offsets first ns ∙ s.0,
      sym s.1,
      record {
        as_many = sym (length-offsets first ns);
        within = omega (arith, here, b.within_capacity);
        begin = ap (λ (end : ℕ). offsets (end - total ns) ns) here;
      },
    )

-- ---- texts that end too soon

-- ---- items that are read one after the other

module _ {X : Type 0} (f : X → List ℕ) where
  pub one_read : (text : List ℕ) (xs ys : List X) (x : X) (between rest : List ℕ) → text ≡ flat_map f xs ++ between → between ≡ f x ++ rest → ys ≡ xs ++ x ∷ [] →
      text ≡ flat_map f ys ++ rest
  one_read text xs ys x between rest read next is = grind (arith, common_steps, read, append_assoc, flat_map_more)

-- where the items take more bytes than there are, if each takes the fewest that one may, no such items follow
pub too_few_left : (count : ℕ) {left len size least capped n : ℕ} → left ≡ len → size ≡ least → capped ≡ min (count * size) 18446744073709551615 →
    left < capped → n ≡ count →
    n * least ≤ len → ⊥
too_few_left count {least = least} e same cap few many there = omega (arith, e, ap (λ (s : ℕ). count * s) same, cap, few, ap (λ (m : ℕ). m * least) many, there)

pub all_counted : {n at count : ℕ} → n ≡ at → count ≤ at → at ≤ count → n ≡ count
all_counted is past within = omega (arith, is, past, within)

-- ---- bounds of levels, made of places that are read one after the other

-- the places that were read, and what they say of those that follow
pub record BoundsRead (text now : List ℕ) (limit low count : ℕ) (bounds : List ℕ) : Type 0 where
  pub places : List ℕ
  pub read : text ≡ flat_map (to_le_bytes w32) places ++ now
  pub as_many : length places ≡ count
  pub fit : AllByRecursion (λ x. x < 2 ^ 32) places
  pub bounds_are : bounds ≡ map (λ x. limit - x) places
  pub rise : (more : List ℕ) → rises 0 limit (places ++ more) ≡ rises low limit more

map-last : (f : ℕ → ℕ) (xs : List ℕ) (y : ℕ) → map f (xs ++ y ∷ []) ≡ map f xs ++ f y ∷ []
map-last f [] y = refl
map-last f (x ∷ xs) y = ap (λ (ys : List ℕ). f x ∷ ys) (map-last f xs y)

pub one_bound : {text now next : List ℕ} {limit low count : ℕ} {bounds bounds' : List ℕ} (x : ℕ) → BoundsRead text now limit low count bounds →
    now ≡ to_le_bytes w32 x ++ next → x < 2 ^ 32 → low ≤ x → x ≤ limit → bounds' ≡ bounds ++ (limit - x) ∷ [] →
    BoundsRead text next limit x (count + 1) bounds'
one_bound {text} {now} {next} {limit} {low} x b next_is fits above below is = record {
  places = b.places ++ x ∷ [];
  read = one_read (to_le_bytes w32) text b.places (b.places ++ x ∷ []) x now next b.read next_is refl;
  as_many = length-append b.places (x ∷ []) ∙ ap (λ (n : ℕ). n + 1) b.as_many;
  fit = all-append (λ (y : ℕ). y < 2 ^ 32) b.places (x ∷ []) b.fit (fits, tt);
  bounds_are = is ∙ ap (λ (ys : List ℕ). ys ++ (limit - x) ∷ []) b.bounds_are ∙ sym (map-last (λ y. limit - y) b.places x);
  rise = grind (arith, common_steps, append_assoc, le-leb);
}

-- they are the bounds of levels
pub bounds_found : {text now : List ℕ} {limit low count num : ℕ} {bounds all : List ℕ} → BoundsRead text now limit low count bounds → count ≡ num →
    all ≡ bounds ++ 0 ∷ [] →
    (places : List ℕ) × (lengths : List ℕ) × (all ≡ bounds_of lengths) × AreLengths limit places lengths × (length places ≡ num)
    × (text ≡ flat_map (to_le_bytes w32) places ++ now)
bounds_found {limit = limit} b counted is =
    let h = lengths_of 0 limit b.places (ap (rises 0 limit) (sym (append-nil b.places)) ∙ b.rise []) in
    let f = h.1 in
    let within : total h.0 ≤ limit - 0 = f.within in (
      b.places,
      h.0,
      is ∙ ap (λ (ys : List ℕ). ys ++ 0 ∷ []) b.bounds_are ∙ f.bounds_are,
      record { as_many = f.as_many; within = omega (arith, within); begin = f.begin },
      b.as_many ∙ counted,
      b.read,
    )

-- places that begin a text are among any others that begin it
first_places : (xs ys now rest : List ℕ) → length xs ≤ length ys → AllByRecursion (λ x. x < 2 ^ 32) xs → AllByRecursion (λ x. x < 2 ^ 32) ys →
    flat_map (to_le_bytes w32) xs ++ now ≡ flat_map (to_le_bytes w32) ys ++ rest →
    (zs : List ℕ) × (ys ≡ xs ++ zs) × AllByRecursion (λ x. x < 2 ^ 32) zs × (now ≡ flat_map (to_le_bytes w32) zs ++ rest)
first_places [] ys now rest l p q e = (ys, refl, q, e)
first_places (x ∷ xs) (y ∷ ys) now rest l p q e =
    let a = same_32 x y (flat_map (to_le_bytes w32) xs ++ now) (flat_map (to_le_bytes w32) ys ++ rest) p.0 q.0 e in
    let b = first_places xs ys now rest (omega (arith, l)) p.1 q.1 a.1 in
    (b.0, cc (a.0, b.1), b.2, b.3)
first_places (x ∷ xs) [] now rest l p q e = absurd (omega (arith, l))

-- if no place can follow, levels of that number have no such places
pub no_more_bounds : {text now : List ℕ} {limit low count num : ℕ} {bounds : List ℕ} → BoundsRead text now limit low count bounds → limit < 2 ^ 32 → count < num →
    ((x : ℕ) (more : List ℕ) → x < 2 ^ 32 → now ≡ to_le_bytes w32 x ++ more → low ≤ x → x ≤ limit → ⊥) →
    (places lengths rest : List ℕ) → length places ≡ num → text ≡ flat_map (to_le_bytes w32) places ++ rest → AreLengths limit places lengths → ⊥
no_more_bounds {text} {now} {limit} {low} {count} {num} b limit_fits fewer bad places lengths rest many begins a =
    let start : ℕ = limit - total lengths in
    let fit = subst (AllByRecursion (λ (x : ℕ). x < 2 ^ 32)) (sym a.begin) (offsets_below start limit lengths (omega (arith, a.within)) limit_fits) in
    let rising = ap (rises 0 limit) a.begin ∙ lengths_rise 0 start limit lengths (omega (arith, a.within)) (omega arith) in
    let f = first_places b.places places now rest (omega (arith, many, fewer, b.as_many)) b.fit fit (sym b.read ∙ begins) in
    go f.0 (omega (arith, ap length f.1, length-append b.places f.0, many, fewer, b.as_many)) f.2 f.3
    (sym (b.rise f.0) ∙ (ap (rises 0 limit) (sym f.1) ∙ rising))
  where
    go : (zs : List ℕ) → 0 < length zs → AllByRecursion (λ x. x < 2 ^ 32) zs → now ≡ flat_map (to_le_bytes w32) zs ++ rest → rises low limit zs ≡ true → ⊥
    go [] some fit is rising = absurd (omega (arith, some))
    go (x ∷ zs) some fit is rising =
        let s = step_of low limit x zs rising in
        bad x (flat_map (to_le_bytes w32) zs ++ rest) fit.0 is s.above s.below
