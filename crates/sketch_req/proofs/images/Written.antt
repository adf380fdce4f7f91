-- What is written for a sketch is an image of it, except for coins.
use Rattle.std.proofs.Common.{◌≡◌, ◌^◌, ◌<◌, ◌↔◌, ℕ, suc, ◌≤◌, Bool, true, false, eqb, leb, List, [], ◌∷◌, ◌++◌, length, map, Option, Ordering, IsSorted, refl, sym, ap, ap₂, ◌∙◌, subst, arith, append_assoc}
use Rattle.std.specs.Prelude.{IsSome, nat_lt, if◌then◌else◌}
use Rattle.std.specs.List.{AllByRecursion}
use Rattle.std.specs.Option.{option_to_list}
use Rattle.std.specs.Int.{w64, to_le_bytes}
use Rattle.std.proofs.lemmas.List.Folds.{flat_map-map}
use Rattle.std.proofs.lemmas.List.{length-map}
use Rattle.std.proofs.lemmas.Bool.{eqb-true, eqb-false, leb-true, leb-false, lt-ltb}
use Rattle.sketch_base.specs.Spelling.{AllSpelled, items_text}
use Rattle.sketch_req.specs.Sections.{IsLegalK}
use Rattle.sketch_req.specs.Level.{Level, IsLevel, fresh}
use Rattle.sketch_req.specs.LevelImage.{Place, place_at, place_of, front_text, front_of, IsImaged, BeginsLevel, BeginsLevels, level_text, levels_text, forgotten}
use Rattle.sketch_req.specs.Sketch.{Req, IsSound, empty_sketch}
use Rattle.sketch_req.specs.Imaged.{items_in}
use Rattle.sketch_req.specs.Schedule.{Layout, layout_of, layouts_of, retained_of, weight_of}
use Rattle.sketch_req.specs.Walk.{AreLevels}
use Rattle.sketch_base.specs.Heads.{header_text, has_flag}
use Rattle.sketch_req.specs.Image.{accuracy_in, form_in, first_place, IsHead, IsTold, IsRawBody, IsSeveralBody, IsBody, BeginsImage}
use Rattle.sketch_req.specs.ImageLaws.{without_coins}
use Rattle.sketch_req.specs.Written.{form_of, is_first_sorted, flags_by, preamble_by, num_levels_by, raw_count_by, header_by, ends_of, body_by, items_by, written_items, image_text}
use Rattle.sketch_req.specs.declared.RankAccuracy.{RankAccuracy}
use Rattle.sketch_req.specs.declared.RankAccuracy.TheVariants.{HighRank, LowRank}
use Rattle.sketch_base.specs.declared.codec.Header.{Header}
use Rattle.sketch_req.specs.declared.image.Form.{Form}
use Rattle.sketch_req.specs.declared.image.Form.TheVariants.{Empty, Raw, One, Several}
use Rattle.sketch_base.proofs.bags.Parts.{all-parts}
use Rattle.sketch_req.proofs.sketches.Sound.{one_of, alone}

-- ---- levels without coins

items_forgotten : {A : Type 0} (levels : List (Level A)) → items_in (map forgotten levels) ≡ items_in levels
items_forgotten {A} levels = flat_map-map (λ (level : Level A). level.items) forgotten levels

-- no layout has a coin
pub layouts_forgotten : {A : Type 0} (levels : List (Level A)) → layouts_of (map forgotten levels) ≡ layouts_of levels
layouts_forgotten [] = refl
layouts_forgotten (l ∷ ls) = ap (λ (more : List Layout). layout_of l ∷ more) (layouts_forgotten ls)

-- ---- levels

-- a level's sorted flag agrees with what is said of it
pub record GoesWith {A : Type 0} (cmp : A → A → Ordering) (said : Bool) (level : Level A) : Type 0 where
  pub marked : level.is_sorted ≡ true → said ≡ true
  -- if it is said to be sorted and its items are sorted, the flag is true
  pub in_order : said ≡ true → IsSorted cmp level.items → level.is_sorted ≡ true

level_imaged : {A : Type 0} (cmp : A → A → Ordering) (k : ℕ) (accuracy : RankAccuracy) (h : ℕ) (said : Bool) (level : Level A) → IsLevel cmp level → level.k ≡ k →
    level.accuracy ≡ accuracy → level.lg_weight ≡ h → GoesWith cmp said level → IsImaged cmp (place_at k accuracy h said) (forgotten level)
level_imaged cmp k accuracy h said level sound k_is accuracy_is place_is goes =
    let sorted : (level.is_sorted ≡ true) ↔ ((said ≡ true) × IsSorted cmp level.items) = (λ t. (goes.marked t, sound.in_order t), λ p. goes.in_order p.0 p.1) in
    assumption

level_begins : {A : Type 0} (cmp : A → A → Ordering) (spelling : A → Option (List ℕ)) (k : ℕ) (accuracy : RankAccuracy) (h : ℕ) (said : Bool) (level : Level A) (rest : List ℕ) →
    IsLevel cmp level → level.k ≡ k → level.accuracy ≡ accuracy → level.lg_weight ≡ h → GoesWith cmp said level → AllSpelled spelling level.items →
    BeginsLevel cmp spelling (place_at k accuracy h said) (level_text spelling level ++ rest) (forgotten level) rest
level_begins cmp spelling k accuracy h said level rest sound k_is accuracy_is place_is goes spelled = record {
  padding = 0;
  padding_fits = omega arith;
  after = items_text spelling level.items ++ rest;
  parts = append_assoc (front_text (front_of level 0)) (items_text spelling level.items) rest;
  items = record { spelled = spelled; parts = refl };
  imaged = level_imaged cmp k accuracy h said level sound k_is accuracy_is place_is goes;
}

-- a level by itself
pub level_image : {A : Type 0} (cmp : A → A → Ordering) (spelling : A → Option (List ℕ)) (level : Level A) (rest : List ℕ) → IsLevel cmp level → AllSpelled spelling level.items →
    BeginsLevel cmp spelling (place_of level) (level_text spelling level ++ rest) (forgotten level) rest
level_image cmp spelling level rest kept spelled =
    level_begins cmp spelling level.k level.accuracy level.lg_weight level.is_sorted level rest kept refl refl refl (record { marked = λ t. t; in_order = λ t up. t }) spelled

-- the first of some levels agrees with what is said of it
abbrev FirstGoes : {A : Type 0} → (A → A → Ordering) → Bool → List (Level A) → Type 0
FirstGoes cmp said [] = Unit {0}
FirstGoes cmp said (l ∷ ls) = GoesWith cmp said l

upper_goes : {A : Type 0} (cmp : A → A → Ordering) (k : ℕ) (accuracy : RankAccuracy) (h : ℕ) (levels : List (Level A)) → 0 < h → AreLevels cmp k accuracy h levels → FirstGoes cmp true levels
upper_goes cmp k accuracy h [] low at = tt
upper_goes cmp k accuracy h (l ∷ ls) low at = record { marked = λ t. refl; in_order = λ t up. at.0.marked low up }

lowest_goes : {A : Type 0} (cmp : A → A → Ordering) (levels : List (Level A)) → FirstGoes cmp (is_first_sorted levels) levels
lowest_goes cmp [] = tt
lowest_goes cmp (l ∷ ls) = record { marked = λ t. t; in_order = λ t up. t }

levels_begin : {A : Type 0} (cmp : A → A → Ordering) (spelling : A → Option (List ℕ)) (k : ℕ) (accuracy : RankAccuracy) (h : ℕ) (said : Bool) (levels : List (Level A)) (rest : List ℕ) →
    AreLevels cmp k accuracy h levels → FirstGoes cmp said levels → AllSpelled spelling (items_in levels) →
    BeginsLevels cmp spelling (place_at k accuracy h said) (levels_text spelling levels ++ rest) (map forgotten levels) rest
levels_begin cmp spelling k accuracy h said [] rest at goes spelled = refl
levels_begin cmp spelling k accuracy h said (l ∷ ls) rest at goes spelled =
    let parts = all-parts (λ x. IsSome (spelling x)) l.items (items_in ls) spelled in
    let behind : List ℕ = levels_text spelling ls ++ rest in
    let one = level_begins cmp spelling k accuracy h said l behind at.0.sound at.0.k_is at.0.accuracy_is at.0.place_is goes parts.0 in (
      behind,
      rw (append_assoc (level_text spelling l) (levels_text spelling ls) rest) one,
      levels_begin cmp spelling k accuracy (suc h) true ls rest at.1 (upper_goes cmp k accuracy (suc h) ls (omega arith) at.1) parts.1,
    )

-- ---- headers

one_level : (levels : ℕ) → levels ≡ 1 → One ≡ (if eqb levels 1 then One else Several)
one_level levels e = rw e refl

several_levels : (levels : ℕ) → 2 ≤ levels → Several ≡ (if eqb levels 1 then One else Several)
several_levels levels h = let e : eqb levels 1 ≡ false = grind (arith, eqb-false) in rw e refl

-- what the written header says
record IsHeaderOf (form : Form) (accuracy : RankAccuracy) (is_sorted : Bool) (h : Header) : Type 0 where
  pub form_is : form ≡ form_in h
  pub accuracy_is : accuracy_in h.flags ≡ accuracy
  pub sorted_is : (form ≡ Empty → ⊥) → has_flag h.flags 32 ≡ is_sorted

-- the number of levels that an image of each form has
abbrev pub FitsForm : Form → ℕ → Type 0
FitsForm Empty levels = Unit {0}
FitsForm Raw levels = levels ≡ 1
FitsForm One levels = levels ≡ 1
FitsForm Several levels = 2 ≤ levels

abbrev head_by : Form → RankAccuracy → Bool → ℕ → ℕ → ℕ → Header
head_by form accuracy is_sorted k levels n = record {
  preamble = preamble_by form;
  version = 1;
  family = 17;
  flags = flags_by form accuracy is_sorted;
  k = k;
  first = num_levels_by form levels;
  second = raw_count_by form n;
}

header_says : (form : Form) (accuracy : RankAccuracy) (is_sorted : Bool) (k levels n : ℕ) → FitsForm form levels → IsHeaderOf form accuracy is_sorted (head_by form accuracy is_sorted k levels n)
header_says Empty HighRank is_sorted k levels n f = record { form_is = refl; accuracy_is = refl; sorted_is = λ no. absurd (no refl) }
header_says Empty LowRank is_sorted k levels n f = record { form_is = refl; accuracy_is = refl; sorted_is = λ no. absurd (no refl) }
header_says Raw HighRank true k levels n f = record { form_is = refl; accuracy_is = refl; sorted_is = λ no. refl }
header_says Raw HighRank false k levels n f = record { form_is = refl; accuracy_is = refl; sorted_is = λ no. refl }
header_says Raw LowRank true k levels n f = record { form_is = refl; accuracy_is = refl; sorted_is = λ no. refl }
header_says Raw LowRank false k levels n f = record { form_is = refl; accuracy_is = refl; sorted_is = λ no. refl }
header_says One HighRank true k levels n f = record { form_is = one_level levels f; accuracy_is = refl; sorted_is = λ no. refl }
header_says One HighRank false k levels n f = record { form_is = one_level levels f; accuracy_is = refl; sorted_is = λ no. refl }
header_says One LowRank true k levels n f = record { form_is = one_level levels f; accuracy_is = refl; sorted_is = λ no. refl }
header_says One LowRank false k levels n f = record { form_is = one_level levels f; accuracy_is = refl; sorted_is = λ no. refl }
header_says Several HighRank true k levels n f = record { form_is = several_levels levels f; accuracy_is = refl; sorted_is = λ no. refl }
header_says Several HighRank false k levels n f = record { form_is = several_levels levels f; accuracy_is = refl; sorted_is = λ no. refl }
header_says Several LowRank true k levels n f = record { form_is = several_levels levels f; accuracy_is = refl; sorted_is = λ no. refl }
header_says Several LowRank false k levels n f = record { form_is = several_levels levels f; accuracy_is = refl; sorted_is = λ no. refl }

head_legal : (form : Form) (accuracy : RankAccuracy) (is_sorted : Bool) (k levels n : ℕ) → IsLegalK k → FitsForm form levels → IsHead (head_by form accuracy is_sorted k levels n)
head_legal Empty accuracy is_sorted k levels n legal f = record { version_is = refl; family_is = refl; preamble_is = refl; legal_k = legal }
head_legal Raw accuracy is_sorted k levels n legal f = record { version_is = refl; family_is = refl; preamble_is = rw f refl; legal_k = legal }
head_legal One accuracy is_sorted k levels n legal f = record { version_is = refl; family_is = refl; preamble_is = rw f refl; legal_k = legal }
head_legal Several accuracy is_sorted k levels n legal f = let e : nat_lt 1 levels ≡ true = lt-ltb 1 levels f in
    record { version_is = refl; family_is = refl; preamble_is = rw e refl; legal_k = legal }

-- ---- the form that a sketch is written in

abbrev pub IsOfForm : {A : Type 0} → Form → Req A → Type 0
IsOfForm Empty s = s.n ≡ 0
IsOfForm Raw s = (1 ≤ s.n) × (s.n ≤ 4) × (length s.levels ≡ 1)
IsOfForm One s = (5 ≤ s.n) × (length s.levels ≡ 1)
IsOfForm Several s = (1 ≤ s.n) × (2 ≤ length s.levels)

form_fits : {A : Type 0} (s : Req A) → 1 ≤ length s.levels → IsOfForm (form_of s) s
form_fits s some = go (eqb s.n 0) (eqb (length s.levels) 1) (leb s.n 4) refl refl refl
  where
    go : (a b c : Bool) → eqb s.n 0 ≡ a → eqb (length s.levels) 1 ≡ b → leb s.n 4 ≡ c → IsOfForm (if a then Empty else if b then (if c then Raw else One) else Several) s
    go true b c p q r = eqb-true s.n 0 p
    go false true true p q r = (let h = eqb-false s.n 0 p in omega (arith, h), leb-true s.n 4 r, eqb-true (length s.levels) 1 q)
    go false true false p q r = (let h = leb-false s.n 4 r in omega (arith, h), eqb-true (length s.levels) 1 q)
    go false false c p q r = (let h = eqb-false s.n 0 p in omega (arith, h), let h = eqb-false (length s.levels) 1 q in omega (arith, h, some))

levels_fit : {A : Type 0} (form : Form) (s : Req A) → IsOfForm form s → FitsForm form (length s.levels)
levels_fit Empty s h = tt
levels_fit Raw s h = h.2
levels_fit One s h = h.1
levels_fit Several s h = h.1

-- ---- bodies

module _ {A : Type 0} {cmp : A → A → Ordering} (spelling : A → Option (List ℕ)) (s : Req A) (rest : List ℕ) (sound : IsSound cmp s) where
  one_weight : length s.levels ≡ 1 → s.n ≡ length (items_in s.levels)
  one_weight one =
      let only = one_of s.levels one in
      let alone = alone s.levels only.0 only.1 in
      sym sound.weighs_n ∙ alone.weight ∙ sym (ap length alone.items)

  told : (h : Header) → h.k ≡ s.k → accuracy_in h.flags ≡ s.accuracy → length s.levels ≡ 1 → IsTold cmp h (without_coins s)
  told h k accuracy one =
      let items = items_forgotten s.levels in
      let small = sound.one_level one in
      record { k_is = sym k; accuracy_is = sym accuracy; n_is = rw items (one_weight one); least_is = rw items small.least_is; greatest_is = rw items small.greatest_is }

  raw_written : IsHeaderOf Raw s.accuracy (is_first_sorted s.levels) (header_by Raw s) → AllSpelled spelling (items_in s.levels) → IsOfForm Raw s →
      IsRawBody cmp spelling (header_by Raw s) (items_text spelling (items_in s.levels) ++ rest) (without_coins s) rest
  raw_written says spelled (some, few, one) =
      let h : Header = header_by Raw s in
      let only = one_of s.levels one in
      let l : Level A = only.0 in
      let items = (alone s.levels l only.1).items in
      let at : AreLevels cmp s.k s.accuracy 0 (l ∷ []) = subst (AreLevels cmp s.k s.accuracy 0) only.1 sound.placed in
      let new = subst (AllByRecursion (λ (x : Level A). (x.state ≡ 0) × (x.doublings ≡ 0))) only.1 ((sound.one_level one).fresh_if_few few) in
      let flag : has_flag h.flags 32 ≡ l.is_sorted = says.sorted_is (λ e. absurd cc) ∙ ap is_first_sorted only.1 in
      let made : forgotten l ≡ fresh (items_in s.levels) l.is_sorted 0 h.k (accuracy_in h.flags) = λ i. record {
        items = sym items i;
        is_sorted = l.is_sorted;
        state = new.0.0 i;
        doublings = new.0.1 i;
        coin = false;
        lg_weight = at.0.place_is i;
        k = at.0.k_is i;
        accuracy = (at.0.accuracy_is ∙ sym says.accuracy_is) i;
      } in
      record {
        one_level = one;
        some_items = some;
        few_items = few;
        items = items_in s.levels;
        begins = record { spelled = spelled; parts = refl };
        as_many = sym (one_weight one);
        is_sorted = l.is_sorted;
        sorted = (λ t. (flag ∙ t, rw items (at.0.sound.in_order t)), λ p. sym flag ∙ p.0);
        levels_are = ap (map forgotten) only.1 ∙ ap (λ (x : Level A). x ∷ []) made;
        told = told h refl says.accuracy_is one;
      }

  -- what is written for the levels begins with their images, if the header says of level 0 what its flag says
  begun : (h : Header) → AllSpelled spelling (items_in s.levels) → h.k ≡ s.k → accuracy_in h.flags ≡ s.accuracy → has_flag h.flags 32 ≡ is_first_sorted s.levels →
      BeginsLevels cmp spelling (first_place h) (levels_text spelling s.levels ++ rest) (map forgotten s.levels) rest
  begun h spelled k accuracy flag =
      let place : place_at s.k s.accuracy 0 (is_first_sorted s.levels) ≡ first_place h = λ i. place_at (sym k i) (sym accuracy i) 0 (sym flag i) in
      subst (λ (p : Place). BeginsLevels cmp spelling p (levels_text spelling s.levels ++ rest) (map forgotten s.levels) rest) place
      (levels_begin cmp spelling s.k s.accuracy 0 (is_first_sorted s.levels) s.levels rest sound.placed (lowest_goes cmp s.levels) spelled)

  several_written : IsHeaderOf Several s.accuracy (is_first_sorted s.levels) (header_by Several s) → AllSpelled spelling (ends_of s ++ items_in s.levels) → IsOfForm Several s →
      IsSeveralBody cmp spelling (header_by Several s) ((to_le_bytes w64 s.n ++ (items_text spelling (ends_of s) ++ levels_text spelling s.levels)) ++ rest) (without_coins s) rest
  several_written says spelled (some, two) =
      let e = sound.ends some in
      let parts = all-parts (λ x. IsSome (spelling x)) (ends_of s) (items_in s.levels) spelled in
      let both : ends_of s ≡ e.least ∷ e.greatest ∷ [] = ap₂ (λ (a b : Option A). option_to_list a ++ option_to_list b) e.least_is e.greatest_is in
      let behind : List ℕ = levels_text spelling s.levels ++ rest in
      record {
        none_raw = refl;
        several = two;
        few = sound.has_few_levels;
        as_many = length-map s.levels forgotten;
        least = e.least;
        greatest = e.greatest;
        behind = items_text spelling (ends_of s) ++ behind;
        mid = behind;
        weight = simp append_assoc;
        extremes = record { spelled = subst (AllSpelled spelling) both parts.0; parts = ap (λ (l : List A). items_text spelling l ++ behind) both };
        levels = begun (header_by Several s) parts.1 refl says.accuracy_is (says.sorted_is (λ e. absurd cc));
        k_is = refl;
        accuracy_is = sym says.accuracy_is;
        least_is = e.least_is;
        greatest_is = e.greatest_is;
        legal = record {
          some_weight = some;
          n_fits = sound.n_fits;
          weighs_n = ap weight_of (layouts_forgotten s.levels) ∙ sound.weighs_n;
          few_items = subst (λ (layouts : List Layout). retained_of layouts < 2 ^ 32) (sym (layouts_forgotten s.levels)) sound.few_items;
          ends = record { in_order = e.ends.in_order; between = rw (items_forgotten s.levels) e.ends.between };
        };
      }

  -- ---- the whole

  body_written : (form : Form) → IsHeaderOf form s.accuracy (is_first_sorted s.levels) (header_by form s) → IsOfForm form s → AllSpelled spelling (items_by form s) →
      IsBody cmp spelling form (header_by form s) (body_by spelling form s ++ rest) (without_coins s) rest
  body_written Empty says none spelled =
      record { no_level = refl; none_raw = refl; sketch = ap without_coins (sound.empty_at_first none) ∙ ap (λ (a : RankAccuracy). empty_sketch s.k a) (sym says.accuracy_is); ends = refl }
  body_written Raw says of spelled = raw_written says spelled of
  body_written One says (many, one) spelled = record {
    none_raw = refl;
    one_level = length-map s.levels forgotten ∙ one;
    levels = begun (header_by One s) spelled refl says.accuracy_is (says.sorted_is (λ e. absurd cc));
    many_items = omega (arith, many, one_weight one, ap length (items_forgotten s.levels));
    told = told (header_by One s) refl says.accuracy_is one;
  }
  body_written Several says of spelled = several_written says spelled of

-- what is written begins with an image of the sketch
pub written_lem : {A : Type 0} {cmp : A → A → Ordering} (spelling : A → Option (List ℕ)) (s : Req A) (rest : List ℕ) → IsSound cmp s → AllSpelled spelling (written_items s) →
    BeginsImage cmp spelling (image_text spelling s ++ rest) (without_coins s) rest
written_lem {A} {cmp} spelling s rest sound spelled =
    let form : Form = form_of s in
    let of = form_fits s sound.has_level in
    let levels = levels_fit form s of in
    let says = header_says form s.accuracy (is_first_sorted s.levels) s.k (length s.levels) s.n levels in
    let head : Header = header_by form s in
    record {
      head = head;
      after = body_by spelling form s ++ rest;
      parts = append_assoc (header_text (header_by form s)) (body_by spelling form s) rest;
      legal = head_legal form s.accuracy (is_first_sorted s.levels) s.k (length s.levels) s.n sound.legal_k levels;
      body = subst (λ (x : Form). IsBody cmp spelling x head (body_by spelling form s ++ rest) (without_coins s) rest) says.form_is (body_written spelling s rest sound form says of spelled);
    }
