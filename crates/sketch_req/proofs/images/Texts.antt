-- A text begins with an image of at most one sketch.
use Rattle.std.proofs.lemmas.Grind.{common_steps}
use Rattle.std.proofs.Common.{◌≡◌, ℕ, ◌^◌, ◌<◌, Bool, true, List, [], ◌∷◌, ◌++◌, length, Option, Result, Ok, Err, Ordering, Equal, IsSorted, refl, sym, ap, ◌∙◌, subst, arith, append-nil, length-append}
use Rattle.std.proofs.lemmas.List.Sums.{sum_by-cons}
use Rattle.std.specs.Prelude.{IfOk, IfErr, IsSome}
use Rattle.std.specs.List.{AllByRecursion, AllZip}
use Rattle.std.specs.Cmp.{IsTotalOrder, both_ways}
use Rattle.std.specs.Int.{w64, to_le_bytes}
use Rattle.std.proofs.lemmas.List.Elements.{length_all_zip}
use Rattle.sketch_base.specs.Bag.{SameItems}
use Rattle.sketch_base.specs.Extremes.{IsBetween}
use Rattle.sketch_base.specs.Queries.{SameAnswer}
use Rattle.sketch_base.specs.Spelling.{Begins, BeginsAll, SpellingsTie}
use Rattle.sketch_base.proofs.bags.Alike.{SameItems-append}
use Rattle.sketch_base.proofs.order.Extremes.{at_most_same, one_least, one_greatest}
use Rattle.sketch_base.proofs.images.Spelled.{same_64, same_header, IsPrefixFree, Twins, same_items, same_from, first_of_all, behind}
use Rattle.sketch_req.specs.Sections.{IsLegalK}
use Rattle.sketch_req.specs.Level.{Level, fresh}
use Rattle.sketch_req.specs.Stored.{level_of}
use Rattle.sketch_req.specs.LevelImage.{Place, next_place, IsImaged, BeginsLevels}
use Rattle.sketch_req.specs.Sketch.{Req}
use Rattle.sketch_req.specs.Imaged.{items_in, IsSameLevel, IsSameSketch}
use Rattle.sketch_req.specs.Schedule.{Layout, layout_of, layouts_of, retained_of, weight_of}
use Rattle.sketch_base.specs.Heads.{header_text, has_flag}
use Rattle.sketch_req.specs.Image.{accuracy_in, first_place, form_in, IsHead, IsTold, IsSeveralBody, IsLegal, IsBody, BeginsImage, NoImage}
use Rattle.sketch_base.specs.declared.codec.Header.{Header}
use Rattle.sketch_base.specs.declared.error.ErrorKind.{ErrorKind}
use Rattle.sketch_base.specs.declared.error.ErrorKind.TheVariants.{InvalidData}
use Rattle.sketch_req.specs.declared.image.Form.{Form}
use Rattle.sketch_req.specs.declared.image.Form.TheVariants.{Empty, Raw, One, Several}
use Rattle.sketch_req.proofs.sketches.Copies.{levels-itself}
use Rattle.sketch_req.proofs.images.Levels.{AreTwins, same_level}
use Rattle.sketch_req.proofs.level.Changes.{SameItems-back, sorted_same}

-- ---- levels

-- levels that begin the same text are twins
pub same_levels : {A : Type 0} (cmp : A → A → Ordering) (spelling : A → Option (List ℕ)) → IsPrefixFree spelling → (place : Place) →
    IsLegalK place.k → (text : List ℕ) (xs ys : List (Level A)) (r s : List ℕ) → length xs ≡ length ys →
    BeginsLevels cmp spelling place text xs r → BeginsLevels cmp spelling place text ys s → AllZip (AreTwins spelling) xs ys × (r ≡ s)
same_levels cmp spelling free place legal text [] [] r s e a b = (tt, sym a ∙ b)
same_levels cmp spelling free place legal text (x ∷ xs) (y ∷ ys) r s e a b =
    let one = same_level cmp spelling free place legal text x y a.0 b.0 a.1 b.1 in
    let all = same_levels cmp spelling free (next_place place) legal a.0 xs ys r s (omega (arith, e)) a.2 (rw (← one.1) at b.2) in
    ((one.0, all.0), all.1)
same_levels cmp spelling free place legal text xs ys r s e a b = absurd (omega (arith, e))

-- levels that hold equally many items and have equal weights
pub record SameNumbers {A : Type 0} (xs ys : List (Level A)) : Type 0 where
  pub items : length (items_in xs) ≡ length (items_in ys)
  pub retained : retained_of (layouts_of xs) ≡ retained_of (layouts_of ys)
  pub weight : weight_of (layouts_of xs) ≡ weight_of (layouts_of ys)

-- twins hold equally many items and have equal weights
pub same_numbers : {A : Type 0} (spelling : A → Option (List ℕ)) (xs ys : List (Level A)) → AllZip (AreTwins spelling) xs ys → SameNumbers xs ys
same_numbers spelling [] [] h = record { items = refl; retained = refl; weight = refl }
same_numbers spelling (x ∷ xs) (y ∷ ys) h =
    let one = length_all_zip (Twins spelling) x.items y.items h.0.items in
    let all = same_numbers spelling xs ys h.1 in
    record {
      items = omega (arith, one, all.items, length-append x.items (items_in xs), length-append y.items (items_in ys));
      retained = omega (arith, one, all.retained, sum_by-cons (λ (layout : Layout). layout.count) (layout_of x) (layouts_of xs), sum_by-cons (λ (layout : Layout). layout.count) (layout_of y) (layouts_of ys));
      weight = omega (arith, one, all.weight);
    }
same_numbers spelling xs ys h = absurd h

all_same_from : {A : Type 0} (cmp : A → A → Ordering) (spelling : A → Option (List ℕ)) → SpellingsTie cmp spelling → (xs ys : List (Level A)) → AllZip (AreTwins spelling) xs ys →
    SameItems cmp (items_in xs) (items_in ys)
all_same_from cmp spelling t [] [] z = tt
all_same_from cmp spelling t (x ∷ xs) (y ∷ ys) z = SameItems-append cmp x.items y.items (items_in xs) (items_in ys) (same_from cmp spelling t x.items y.items z.0.items)
    (all_same_from cmp spelling t xs ys z.1)
all_same_from cmp spelling t xs ys z = absurd z

-- if the same is said of two levels whose items compare equal, their sorted flags are equal
same_flags : {A : Type 0} {cmp : A → A → Ordering} → IsTotalOrder cmp → (said a b : Bool) (xs ys : List A) → SameItems cmp xs ys →
    (a ≡ true → (said ≡ true) × IsSorted cmp xs) → ((said ≡ true) × IsSorted cmp xs → a ≡ true) → (b ≡ true → (said ≡ true) × IsSorted cmp ys) → ((said ≡ true) × IsSorted cmp ys → b ≡ true) → a ≡ b
same_flags o said a b xs ys z p q r s =
    both_ways a b (λ e. let h = p e in s (h.0, sorted_same o xs ys z h.1)) (λ e. let h = r e in q (h.0, sorted_same o ys xs (SameItems-back o xs ys z) h.1))

level_same : {A : Type 0} {cmp : A → A → Ordering} → IsTotalOrder cmp → (spelling : A → Option (List ℕ)) → SpellingsTie cmp spelling → (place : Place) (l m : Level A) →
    IsImaged cmp place l → IsImaged cmp place m → AreTwins spelling l m → IsSameLevel cmp l m
level_same {A} {cmp} o spelling t place l m a b w =
    let items = same_from cmp spelling t l.items m.items w.items in
    let flag : l.is_sorted ≡ m.is_sorted = same_flags o place.is_said_sorted l.is_sorted m.is_sorted l.items m.items items a.sorted.0 a.sorted.1 b.sorted.0 b.sorted.1 in
    let same : level_of m.items m.is_sorted m.state m.doublings m.coin m.lg_weight m.k m.accuracy ≡ level_of m.items l.is_sorted l.state l.doublings l.coin l.lg_weight l.k l.accuracy = cc in
    record { items = items; rest = same }

levels_same : {A : Type 0} {cmp : A → A → Ordering} → IsTotalOrder cmp → (spelling : A → Option (List ℕ)) → SpellingsTie cmp spelling →
    (place : Place) (text text' : List ℕ) (xs ys : List (Level A)) (r s : List ℕ) →
    BeginsLevels cmp spelling place text xs r → BeginsLevels cmp spelling place text' ys s → AllZip (AreTwins spelling) xs ys → AllZip (IsSameLevel cmp) xs ys
levels_same o spelling t place text text' [] [] r s a b z = tt
levels_same o spelling t place text text' (x ∷ xs) (y ∷ ys) r s a b z =
    (level_same o spelling t place x y a.1.imaged b.1.imaged z.0, levels_same o spelling t (next_place place) a.0 b.0 xs ys r s a.2 b.2 z.1)
levels_same o spelling t place text text' xs ys r s a b z = absurd z

-- ---- extremes

module _ {A : Type 0} {cmp : A → A → Ordering} (o : IsTotalOrder cmp) where
  between_same : (x x' y y' : A) → cmp x x' ≡ Equal → cmp y y' ≡ Equal → (xs ys : List A) → SameItems cmp xs ys → AllByRecursion (IsBetween cmp x y) xs → AllByRecursion (IsBetween cmp x' y') ys
  between_same x x' y y' p q [] [] z h = tt
  between_same x x' y y' p q (v ∷ xs) (w ∷ ys) z h = ((at_most_same o x x' v w p z.0 h.0.0, at_most_same o v w y y' z.0 q h.0.1), between_same x x' y y' p q xs ys z.1 h.1)
  between_same x x' y y' p q xs ys z h = absurd z

  -- if some levels are legal, so are their twins, with extremes that compare equal
  same_legal : (spelling : A → Option (List ℕ)) → SpellingsTie cmp spelling → (n n' : ℕ) (xs ys : List (Level A)) (x x' y y' : A) → n ≡ n' → AllZip (AreTwins spelling) xs ys →
      cmp x x' ≡ Equal → cmp y y' ≡ Equal → IsLegal cmp n xs x y → IsLegal cmp n' ys x' y'
  same_legal spelling t n n' xs ys x x' y y' e z p q h =
      let m = same_numbers spelling xs ys z in
      record {
        some_weight = omega (arith, e, h.some_weight);
        n_fits = omega (arith, e, h.n_fits);
        weighs_n = omega (arith, e, h.weighs_n, m.weight);
        few_items = omega (arith, m.retained, h.few_items);
        ends = record {
          in_order = at_most_same o x x' y y' p q h.ends.in_order;
          between = between_same x x' y y' p q (items_in xs) (items_in ys) (all_same_from cmp spelling t xs ys z) h.ends.between;
        };
      }

-- ---- headers

k_fits : (h : Header) → IsHead h → h.k < 2 ^ 16
k_fits h head = omega (arith, head.legal_k.at_most)

-- the body that follows a header that was read
body_of_image : {A : Type 0} (cmp : A → A → Ordering) (spelling : A → Option (List ℕ)) (text : List ℕ) (s : Req A) (rest : List ℕ) (h : Header) (after : List ℕ) → h.k < 2 ^ 16 →
    text ≡ header_text h ++ after →
    BeginsImage cmp spelling text s rest → IsHead h × IsBody cmp spelling (form_in h) h after s rest
body_of_image cmp spelling text s rest h after fits e i =
    let w = same_header i.head h i.after after (k_fits i.head i.legal) fits (sym i.parts ∙ e) in
    (rw w.0 at i.legal, rw (w.0, w.1) at i.body)

-- ---- what comes before several levels

module _ {A : Type 0} {cmp : A → A → Ordering} (spelling : A → Option (List ℕ)) (free : IsPrefixFree spelling) (h : Header) (text : List ℕ) (s : Req A) (rest : List ℕ)
    (b : IsSeveralBody cmp spelling h text s rest) where
  -- n and what is behind it are the image's
  pub weight_read : (n : ℕ) (behind : List ℕ) → n < 2 ^ 64 → text ≡ to_le_bytes w64 n ++ behind → (n ≡ s.n) × (behind ≡ b.behind)
  weight_read n behind fits e = same_64 n s.n behind b.behind fits b.legal.n_fits (sym e ∙ b.weight)

  -- the least item that was read is the image's
  pub least_read : (n : ℕ) (mid : List ℕ) (x : A) (mid' : List ℕ) → n < 2 ^ 64 → text ≡ to_le_bytes w64 n ++ mid → Begins spelling mid x mid' →
      Twins spelling x b.least × BeginsAll spelling mid' (b.greatest ∷ []) b.mid
  least_read n mid x mid' fits e p =
      let all : BeginsAll spelling mid (b.least ∷ b.greatest ∷ []) b.mid = rw (weight_read n mid fits e).1 b.extremes in
      let first = first_of_all spelling mid b.least (b.greatest ∷ []) b.mid all in
      (record { spelled = p.spelled; same = free x b.least mid mid' _ p first }, behind spelling free x b.least (b.greatest ∷ []) mid mid' b.mid p all)

  -- so is the greatest
  pub greatest_read : (n : ℕ) (mid : List ℕ) (x : A) (mid' : List ℕ) (y : A) (mid'' : List ℕ) → n < 2 ^ 64 → text ≡ to_le_bytes w64 n ++ mid → Begins spelling mid x mid' →
      Begins spelling mid' y mid'' → Twins spelling y b.greatest × (mid'' ≡ b.mid)
  greatest_read n mid x mid' y mid'' fits e p q =
      let one = (least_read n mid x mid' fits e p).1 in
      let first = first_of_all spelling mid' b.greatest [] b.mid one in
      (record { spelled = q.spelled; same = free y b.greatest mid' mid'' _ q first }, (behind spelling free y b.greatest [] mid' mid'' b.mid q one).parts)

  -- levels that were read after these are legal, since those of the image are
  pub legal_read : (o : IsTotalOrder cmp) → SpellingsTie cmp spelling → IsLegalK h.k → (n : ℕ) (mid : List ℕ) (x : A) (mid' : List ℕ) (y : A) (mid'' : List ℕ)
      (xs : List (Level A)) (after : List ℕ) → n < 2 ^ 64 → text ≡ to_le_bytes w64 n ++ mid → Begins spelling mid x mid' → Begins spelling mid' y mid'' →
      length xs ≡ h.first → BeginsLevels cmp spelling (first_place h) mid'' xs after → IsLegal cmp n xs x y
  legal_read o tie legal n mid x mid' y mid'' xs after fits e p q many read =
      let low = (least_read n mid x mid' fits e p).0 in
      let high = greatest_read n mid x mid' y mid'' fits e p q in
      let own = subst (λ (t : List ℕ). BeginsLevels cmp spelling (first_place h) t s.levels rest) (sym high.1) b.levels in
      let twins = (same_levels cmp spelling free (first_place h) legal mid'' s.levels xs rest after (b.as_many ∙ sym many) own read).0 in
      same_legal o spelling tie s.n n s.levels xs b.least x b.greatest y (sym (weight_read n mid fits e).0) twins
      (tie b.least x (subst IsSome low.same low.spelled) (sym low.same)) (tie b.greatest y (subst IsSome high.0.same high.0.spelled) (sym high.0.same)) b.legal

-- ---- what the reader for the header's form says of the whole image

module _ {A : Type 0} (cmp : A → A → Ordering) (spelling : A → Option (List ℕ)) (text : List ℕ) (h : Header) (after : List ℕ) (form : Form)
    (e : text ≡ header_text h ++ after) (head : IsHead h) (f : form ≡ form_in h) where
  -- it found a body, so an image begins the text
  pub image_found : {E : Type 0} (rest : List ℕ) (r : Result (Req A) E) → IfOk r (λ s. IsBody cmp spelling form h after s rest) →
      IfOk r (λ s. (rest : List ℕ) × BeginsImage cmp spelling text s rest)
  image_found rest (Ok s) b =
      (rest, record { head = h; after = after; parts = e; legal = head; body = subst (λ (x : Form). IsBody cmp spelling x h after s rest) f b })
  image_found rest (Err y) b = tt

  -- it found that there is no body, so no image begins the text
  pub image_refused : (r : Result (Req A) ErrorKind) →
      IfErr r (λ y. y ≡ InvalidData → (s : Req A) (rest : List ℕ) → IsBody cmp spelling form h after s rest → ⊥) →
      IfErr r (λ y. y ≡ InvalidData → NoImage cmp spelling text)
  image_refused (Ok s) none = tt
  image_refused (Err y) none = λ q s rest i.
      let body = (body_of_image cmp spelling text s rest h after (k_fits h head) e i).1 in
      none q s rest (subst (λ (x : Form). IsBody cmp spelling x h after s rest) (sym f) body)

-- ---- one sketch

module _ {A : Type 0} {cmp : A → A → Ordering} (o : IsTotalOrder cmp) (spelling : A → Option (List ℕ)) (free : IsPrefixFree spelling) (tie : SpellingsTie cmp spelling) where
  -- sketches with the same levels under one header are the same
  told_same : (h : Header) (s t : Req A) → AllZip (IsSameLevel cmp) s.levels t.levels → SameItems cmp (items_in s.levels) (items_in t.levels) → IsTold cmp h s → IsTold cmp h t → IsSameSketch cmp s t
  told_same h s t levels items a b = grind (arith, common_steps, length_all_zip, items, one_least, one_greatest)

  one_body : (h : Header) → IsLegalK h.k → (form : Form) (after : List ℕ) (s t : Req A) (r r' : List ℕ) →
      IsBody cmp spelling form h after s r → IsBody cmp spelling form h after t r' → IsSameSketch cmp s t × (r ≡ r')
  one_body h legal Empty after s t r r' b d = grind (arith, common_steps, levels-itself)
  one_body h legal Raw after s t r r' b d =
      let z = same_items spelling free b.items d.items after r r' (b.as_many ∙ sym d.as_many) b.begins d.begins in
      let items = same_from cmp spelling tie b.items d.items z.0 in
      let flag : b.is_sorted ≡ d.is_sorted = same_flags o (has_flag h.flags 32) b.is_sorted d.is_sorted b.items d.items items b.sorted.0 b.sorted.1 d.sorted.0 d.sorted.1 in
      let l : Level A = fresh b.items b.is_sorted 0 h.k (accuracy_in h.flags) in
      let m : Level A = fresh d.items d.is_sorted 0 h.k (accuracy_in h.flags) in
      let one : IsSameLevel cmp l m = record { items = items; rest = ap (λ is_sorted. fresh d.items is_sorted 0 h.k (accuracy_in h.flags)) (sym flag) } in
      let levels : AllZip (IsSameLevel cmp) s.levels t.levels = rw (b.levels_are, d.levels_are) (one, tt) in
      let left : items_in s.levels ≡ b.items = ap items_in b.levels_are ∙ append-nil b.items in
      let right : items_in t.levels ≡ d.items = ap items_in d.levels_are ∙ append-nil d.items in
      (told_same h s t levels (rw (left, right) items) b.told d.told, z.1)
  one_body h legal One after s t r r' b d =
      let z = same_levels cmp spelling free (first_place h) legal after s.levels t.levels r r' (b.one_level ∙ sym d.one_level) b.levels d.levels in
      (told_same h s t (levels_same o spelling tie (first_place h) after after s.levels t.levels r r' b.levels d.levels z.0) (all_same_from cmp spelling tie s.levels t.levels z.0) b.told d.told, z.1)
  one_body h legal Several after s t r r' b d =
      let w = weight_read spelling free h after t r' d s.n b.behind b.legal.n_fits b.weight in
      let e = same_items spelling free (b.least ∷ b.greatest ∷ []) (d.least ∷ d.greatest ∷ []) b.behind b.mid d.mid refl b.extremes (rw (← w.1) at d.extremes) in
      let z = same_levels cmp spelling free (first_place h) legal b.mid s.levels t.levels r r' (b.as_many ∙ sym d.as_many) b.levels (rw (← e.1) at d.levels) in
      let ends = same_from cmp spelling tie (b.least ∷ b.greatest ∷ []) (d.least ∷ d.greatest ∷ []) e.0 in
      let low : SameAnswer cmp s.least t.least = rw (b.least_is, d.least_is) ends.0 in
      let high : SameAnswer cmp s.greatest t.greatest = rw (b.greatest_is, d.greatest_is) ends.1.0 in (
        record {
          k = d.k_is ∙ sym b.k_is;
          accuracy = d.accuracy_is ∙ sym b.accuracy_is;
          n = sym w.0;
          levels = levels_same o spelling tie (first_place h) b.mid d.mid s.levels t.levels r r' b.levels d.levels z.0;
          least = low;
          greatest = high;
        },
        z.1,
      )

  -- sketches whose images begin the same text are the same
  pub one_sketch : (text : List ℕ) (s t : Req A) (r r' : List ℕ) → BeginsImage cmp spelling text s r → BeginsImage cmp spelling text t r' → IsSameSketch cmp s t × (r ≡ r')
  one_sketch text s t r r' i j =
      one_body i.head i.legal.legal_k (form_in i.head) i.after s t r r' i.body (body_of_image cmp spelling text t r' i.head i.after (k_fits i.head i.legal) i.parts j).1
