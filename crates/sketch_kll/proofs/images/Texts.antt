-- The laws of images: a text is an image of only one sketch, and what is written is an image.
use Rattle.std.proofs.lemmas.Grind.{common_steps}
use Rattle.std.proofs.Common.{◌≡◌, ℕ, zero, suc, ◌-◌, ◌^◌, ◌<◌, ◌≤◌, Bool, false, List, [], ◌∷◌, ◌++◌, length, map, Option, Some, None, Ordering, refl, sym, ap, ap₂, ◌∙◌, arith, inl, inr, append-nil, append_assoc}
use Rattle.std.specs.Prelude.{MatchOption}
use Rattle.std.specs.Option.{option_to_list}
use Rattle.std.specs.Cmp.{IsTotalOrder}
use Rattle.std.specs.Int.{w32, to_le_bytes}
use Rattle.std.specs.List.{flat_map}
use Rattle.std.specs.Ordering.{is_eq}
use Rattle.sketch_base.specs.declared.codec.Header.{Header}
use Rattle.sketch_kll.specs.Capacity.{total_of}
use Rattle.sketch_kll.specs.Levels.{weight_in}
use Rattle.sketch_kll.specs.Copy.{IsCopy}
use Rattle.sketch_kll.specs.Sketch.{Kll, IsSound}
use Rattle.sketch_base.specs.Heads.{has_flag}
use Rattle.sketch_kll.specs.Image.{numbers_text, places, stored, IsHead, IsBody, IsLegal, IsImage}
use Rattle.sketch_base.specs.Spelling.{AllSpelled, items_text, SpellingsTie}
use Rattle.sketch_kll.specs.Written.{image_text, written_items, header_of, flags_of, ends_of, text_by_count, items_by_count}
use Rattle.sketch_kll.specs.ImageLaws.{OneSketch, AllReadBack}
use Rattle.sketch_base.proofs.images.Spelled.{IsPrefixFree}
use Rattle.sketch_kll.proofs.images.Read.{same_layouts}
use Rattle.sketch_kll.proofs.layout.Alike.{copy_is_equal, length-lengths}
use Rattle.sketch_kll.proofs.merges.Merged.{alike-same}
use Rattle.sketch_kll.proofs.images.Places.{body_of_image, same_itself, head_fits, empty_alone, item_alone, full_alone}

-- ---- one sketch

same_bodies : {A : Type 0} {cmp : A → A → Ordering} → IsTotalOrder cmp → (spelling : A → Option (List ℕ)) → IsPrefixFree spelling → SpellingsTie cmp spelling →
    (h : Header) (rest : List ℕ) (s t : Kll A) → IsBody cmp spelling h rest s → IsBody cmp spelling h rest t → IsCopy cmp s t
same_bodies {A} {cmp} o spelling free ties h rest s t (inl a) body = grind (arith, common_steps, empty_alone, same_itself)
same_bodies {A} {cmp} o spelling free ties h rest s t (inr (inl a)) body = grind (arith, common_steps, item_alone)
same_bodies {A} {cmp} o spelling free ties h rest s t (inr (inr a)) body =
    let b = full_alone cmp spelling a.head body in
    let e = a.k_is ∙ sym b.k_is in
    let f = a.flag_is ∙ sym b.flag_is in
    let l = same_layouts cmp spelling free ties rest s t a.least b.least a.greatest b.greatest (rw b.k_is b.head.k_fits) e f a.layout b.layout in
    grind (arith, common_steps)

-- sketches with the same image are equal
pub one_sketch_lem : {A : Type 0} {cmp : A → A → Ordering} → IsTotalOrder cmp → (eq : A → A → Bool) → ((x y : A) → eq x y ≡ is_eq (cmp x y)) → (spelling : A → Option (List ℕ)) →
    IsPrefixFree spelling → SpellingsTie cmp spelling → OneSketch cmp eq spelling
one_sketch_lem {A} {cmp} o eq ties_eq spelling free ties text s t a b =
    let c = same_bodies o spelling free ties a.head a.rest s t a.body (body_of_image cmp spelling text t a.head a.rest (head_fits cmp spelling a.head a.rest s a.body) a.parts b) in
    record {
      equal = copy_is_equal o eq ties_eq s t c;
      copied = c;
      alike = rw c.is_sorted (alike-same cmp o s.is_sorted s.levels t.levels c.levels);
    }

-- ---- what a sound sketch holds

some_of : {A : Type 0} (o : Option A) (n : ℕ) → MatchOption o (n ≡ 0) (λ _. 0 < n) → 0 < n → (x : A) × (o ≡ Some x)
some_of None n m p = absurd (omega (arith, m))
some_of (Some x) n m p = (x, refl)

none_of : {A : Type 0} (o : Option A) (n : ℕ) → MatchOption o (n ≡ 0) (λ _. 0 < n) → n ≡ 0 → o ≡ None
none_of None n m e = refl
none_of (Some x) n m e = absurd (omega (arith, m, e))

-- one level that weighs nothing is empty
pub no_items : {A : Type 0} (ls : List (List A)) → length ls ≡ 1 → weight_in ls ≡ 0 → ls ≡ [] ∷ []
no_items ([] ∷ []) l w = refl
no_items ls l w = absurd (omega (arith, l, w))

one_item : {A : Type 0} (ls : List (List A)) → length ls ≡ 1 → weight_in ls ≡ 1 → (x : A) × (ls ≡ (x ∷ []) ∷ [])
one_item ((x ∷ []) ∷ []) l w = (x, refl)
one_item ls l w = absurd (omega (arith, l, w))

legal_of : {A : Type 0} (cmp : A → A → Ordering) (s : Kll A) (x y : A) → IsSound cmp s → 2 ≤ s.n → s.least ≡ Some x → s.greatest ≡ Some y → IsLegal cmp s x y
legal_of {A} cmp s x y h some e f = record {
  min_k_above = h.eight_below_min_k;
  min_k_below = h.min_k_below_k;
  some_items = some;
  weighs_n = h.weighs_n;
  in_order = rw (e, f) at h.extremes_in_order;
  runs = record { upper_sorted = h.upper_sorted; flag_holds = h.flag_holds; between = rw (e, f) at h.items_between };
}

-- ---- what is written

head_of : {A : Type 0} {cmp : A → A → Ordering} (s : Kll A) (p v n : ℕ) (a b : Bool) → IsSound cmp s → s.n ≡ n → has_flag (flags_of n s.is_sorted) 1 ≡ a →
    has_flag (flags_of n s.is_sorted) 4 ≡ b → IsHead (header_of s p v) p v a b
head_of s p v n a b h e one four = grind (arith, common_steps)

written_empty : {A : Type 0} (cmp : A → A → Ordering) (spelling : A → Option (List ℕ)) (s : Kll A) → IsSound cmp s → s.n ≡ zero → IsImage cmp spelling (text_by_count spelling s zero) s
written_empty {A} cmp spelling s h e =
    let k = h.min_k_at_first (omega (arith, e)) in
    let ls = no_items s.levels (h.one_level_at_first (omega (arith, e))) (h.weighs_n ∙ e) in
    let low = none_of s.least s.n h.least_there e in
    let high = none_of s.greatest s.n h.greatest_there e in
    record {
      head = header_of s 2 1;
      rest = [];
      parts = sym (append-nil _);
      body = grind (arith, common_steps);
    }

written_item : {A : Type 0} (cmp : A → A → Ordering) (spelling : A → Option (List ℕ)) (s : Kll A) → IsSound cmp s → s.n ≡ suc zero →
    AllSpelled spelling (items_by_count s (suc zero)) → IsImage cmp spelling (text_by_count spelling s (suc zero)) s
written_item {A} cmp spelling s h e spelled =
    let one = one_item s.levels (h.one_level_at_first (omega (arith, e))) (h.weighs_n ∙ e) in
    let is : stored s.is_sorted s.levels ≡ one.0 ∷ [] = ap (stored s.is_sorted) one.1 ∙ (grind arith) in
    let ties = rw one.1 at (h.one_item_ties e) in
    record {
      head = header_of s 2 2;
      rest = items_text spelling (stored s.is_sorted s.levels);
      parts = refl;
      body = grind (arith, common_steps);
    }

-- a number of at least 2 is two more than another number
pub above_two : (n : ℕ) → 2 ≤ n → (m : ℕ) × (n ≡ suc (suc m))
above_two n le = (n - 2, omega arith)

written_full : {A : Type 0} (cmp : A → A → Ordering) (spelling : A → Option (List ℕ)) (s : Kll A) (n : ℕ) → IsSound cmp s → s.n < 2 ^ 64 → s.n ≡ suc (suc n) →
    AllSpelled spelling (items_by_count s (suc (suc n))) → IsImage cmp spelling (text_by_count spelling s (suc (suc n))) s
written_full {A} cmp spelling s n h n_fits e spelled =
    let low = some_of s.least s.n h.least_there (omega (arith, e)) in
    let high = some_of s.greatest s.n h.greatest_there (omega (arith, e)) in
    let its : List ℕ = items_text spelling (stored s.is_sorted s.levels) in
    let ends : List ℕ = items_text spelling (ends_of s) in
    let begins : List ℕ = flat_map (to_le_bytes w32) (places s.k (map length s.levels)) in
    let len : length (map length s.levels) ≡ length s.levels = length-lengths s.levels in
    let cap : total_of s.k 8 (length (map length s.levels)) ≡ total_of s.k 8 (length s.levels) = ap (total_of s.k 8) len in
    record {
      head = header_of s 5 1;
      rest = numbers_text s.n s.min_k (length s.levels) 0 ++ (begins ++ (ends ++ its));
      parts = refl;
      body = inr (inr (record {
        head = head_of s 5 1 (suc (suc n)) false false h e (grind arith) (grind arith);
        least = low.0;
        greatest = high.0;
        k_is = refl;
        flag_is = grind arith;
        layout = record {
          rest = ends ++ its;
          numbers = record {
            unused = 0;
            parts = rw len;
            n_fits = n_fits;
            min_k_fits = omega (arith, h.min_k_below_k, h.k_fits);
            some_level = omega (arith, len, h.has_level);
            few_levels = omega (arith, len, h.has_few_levels);
            within_capacity = omega (arith, cap, h.within_capacity);
          };
          items = record {
            spelled = rw (low.1, high.1) at spelled;
            parts = ap₂ (λ (p q : Option A). items_text spelling (option_to_list p ++ option_to_list q) ++ its) low.1 high.1 ∙ simp (append_assoc, append-nil);
          };
          least_is = low.1;
          greatest_is = high.1;
        };
        legal = legal_of cmp s low.0 high.0 h (omega (arith, e)) low.1 high.1;
      }));
    }

-- what is written is an image
pub written_lem : {A : Type 0} (cmp : A → A → Ordering) (spelling : A → Option (List ℕ)) (s : Kll A) → IsSound cmp s → s.n < 2 ^ 64 → AllSpelled spelling (written_items s) →
    IsImage cmp spelling (image_text spelling s) s
written_lem {A} cmp spelling s h n_fits spelled = go s.n refl spelled
  where
    go : (n : ℕ) → s.n ≡ n → AllSpelled spelling (items_by_count s n) → IsImage cmp spelling (text_by_count spelling s n) s
    go zero e p = written_empty cmp spelling s h e
    go (suc zero) e p = written_item cmp spelling s h e p
    go (suc (suc n)) e p = written_full cmp spelling s n h n_fits e p

-- what is written reads back as the sketch
pub reads_back : {A : Type 0} {cmp : A → A → Ordering} → IsTotalOrder cmp → (eq : A → A → Bool) → ((x y : A) → eq x y ≡ is_eq (cmp x y)) → (spelling : A → Option (List ℕ)) →
    IsPrefixFree spelling → SpellingsTie cmp spelling → AllReadBack cmp eq spelling
reads_back {A} {cmp} o eq ties_eq spelling free ties s sound fits has =
    let image = written_lem cmp spelling s sound fits has.spelled in
    record {
      image = image;
      equal = λ t other. (one_sketch_lem o eq ties_eq spelling free ties (image_text spelling s) s t image other).equal;
    }
