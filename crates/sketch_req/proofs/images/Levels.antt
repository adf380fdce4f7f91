-- The image of a level: what was read is one, and a text begins with at most one.
use Rattle.std.proofs.Common.{◌≡◌, ℕ, length, List, ◌∷◌, ◌++◌, ◌∙◌, append_assoc, append-nil, [], Option, sym, ap, ◌↔◌, ◌%◌, ◌*◌, zero, suc, ◌+◌, ◌^◌, ◌<◌, ◌≤◌, Bool, true, false, length-append, Ordering, IsSorted, refl, subst, arith}
use Rattle.std.specs.Int.{w16, w32, w64, to_le_bytes}
use Rattle.sketch_base.proofs.images.Spelled.{same_16, same_32, same_64, same_cell, IsPrefixFree, Twins, same_items}
use Rattle.sketch_base.specs.Spelling.{items_text, BeginsAll, ReadsItems}
use Rattle.sketch_req.specs.declared.compactor.image.Front.{Front}
use Rattle.sketch_req.specs.Fronts.{IsFront}
use Rattle.sketch_req.specs.Level.{Level, section_size_of, fresh}
use Rattle.sketch_req.specs.LevelImage.{front_of, front_text, level_text, Place, place_at, next_place, IsImaged, BeginsLevel, BeginsLevels, NoLevel}
use Rattle.sketch_req.specs.Sections.{sections_of, IsLegalK, IsLegalLayout, IsLegalState, IsReached, size_of}
use Rattle.std.proofs.lemmas.Grind.{common_steps}
use Rattle.std.specs.List.{AllZip}
use Rattle.sketch_req.specs.Stored.{level_of}
use Rattle.sketch_req.specs.declared.RankAccuracy.{RankAccuracy}
use Rattle.sketch_req.proofs.sections.Sections.{sections_apart, size_of_is, size_at_most, doublings_known}

-- The front of a level: a text begins with at most one.

-- one write after another
four_written : (b0 b1 b2 b3 b4 u v w x : List ℕ) → b1 ≡ b0 ++ u → b2 ≡ b1 ++ v → b3 ≡ b2 ++ w → b4 ≡ b3 ++ x → b4 ≡ b0 ++ (u ++ (v ++ (w ++ x)))
four_written b0 b1 b2 b3 b4 u v w x e1 e2 e3 e4 =
    let all : b4 ≡ (((b0 ++ u) ++ v) ++ w) ++ x = cc in
    all ∙ simp append_assoc

pub front_written : {A : Type 0} {start level : Level A} {size sections count : ℕ} (b0 : List ℕ) {b1 b2 b3 b4 : List ℕ} → start ≡ level →
    size ≡ section_size_of start →
    sections ≡ sections_of level.doublings → count ≡ length level.items → b1 ≡ b0 ++ to_le_bytes w64 start.state → b2 ≡ b1 ++ to_le_bytes w32 size →
    b3 ≡ b2 ++ (start.lg_weight ∷ sections ∷ 0 ∷ 0 ∷ []) → b4 ≡ b3 ++ to_le_bytes w32 count → b4 ≡ b0 ++ front_text (front_of level 0)
front_written {A} {start} {level} {size} {sections} {count} b0 {b1} {b2} {b3} {b4} same size_is sections_are count_is e1 e2 e3 e4 =
    let front : Front = record { state = start.state; section_size = size; lg_weight = start.lg_weight; num_sections = sections; padding = 0; count = count } in
    let size_too : size ≡ section_size_of level = size_is ∙ ap (λ (l : Level A). section_size_of l) same in
    let front_is : front ≡ front_of level 0 = λ i. record {
      state = (same i).state;
      section_size = size_too i;
      lg_weight = (same i).lg_weight;
      num_sections = sections_are i;
      padding = 0;
      count = count_is i;
    } in
    four_written b0 b1 b2 b3 b4 (to_le_bytes w64 start.state) (to_le_bytes w32 size) (start.lg_weight ∷ sections ∷ 0 ∷ 0 ∷ []) (to_le_bytes w32 count)
    e1 e2 e3 e4
    ∙ ap (λ (f : Front). b0 ++ front_text f) front_is

-- and what follows
pub level_written : {A : Type 0} (f : A → Option (List ℕ)) {start level : Level A} {xs : List A} (b0 : List ℕ) {b1 b2 : List ℕ} → start ≡ level →
    xs ≡ start.items →
    b1 ≡ b0 ++ front_text (front_of level 0) → b2 ≡ b1 ++ items_text f xs → b2 ≡ b0 ++ level_text f level
level_written {A} f {level = level} b0 {b1} same items_are e1 e2 =
    e2 ∙ ap (λ (ys : List A). b1 ++ items_text f ys) (items_are ∙ ap (λ (l : Level A). l.items) same) ∙ ap (λ (b : List ℕ). b ++ items_text f level.items) e1
    ∙ append_assoc b0 (front_text (front_of level 0)) (items_text f level.items)

-- a text begins with at most one front
pub same_front : (f g : Front) (r s : List ℕ) → IsFront f → IsFront g → front_text f ++ r ≡ front_text g ++ s → (f ≡ g) × (r ≡ s)
same_front f g r s p q e =
    let a = same_64 f.state g.state (to_le_bytes w32 f.section_size ++ (f.lg_weight ∷ f.num_sections ∷ (to_le_bytes w16 f.padding ++ (to_le_bytes w32 f.count ++ r))))
    (to_le_bytes w32 g.section_size ++ (g.lg_weight ∷ g.num_sections ∷ (to_le_bytes w16 g.padding ++ (to_le_bytes w32 g.count ++ s)))) p.state_fits q.state_fits e in
    let b = same_32 f.section_size g.section_size (f.lg_weight ∷ f.num_sections ∷ (to_le_bytes w16 f.padding ++ (to_le_bytes w32 f.count ++ r)))
    (g.lg_weight ∷ g.num_sections ∷ (to_le_bytes w16 g.padding ++ (to_le_bytes w32 g.count ++ s))) p.size_fits q.size_fits a.1 in
    let c = same_cell f.lg_weight g.lg_weight (f.num_sections ∷ (to_le_bytes w16 f.padding ++ (to_le_bytes w32 f.count ++ r)))
    (g.num_sections ∷ (to_le_bytes w16 g.padding ++ (to_le_bytes w32 g.count ++ s))) b.1 in
    let d = same_cell f.num_sections g.num_sections (to_le_bytes w16 f.padding ++ (to_le_bytes w32 f.count ++ r)) (to_le_bytes w16 g.padding ++ (to_le_bytes w32 g.count ++ s)) c.1 in
    let h = same_16 f.padding g.padding (to_le_bytes w32 f.count ++ r) (to_le_bytes w32 g.count ++ s) p.padding_fits q.padding_fits d.1 in
    let k = same_32 f.count g.count r s p.count_fits q.count_fits h.1 in
    (λ i. record { state = a.0 i; section_size = b.0 i; lg_weight = c.0 i; num_sections = d.0 i; padding = h.0 i; count = k.0 i }, k.1)

-- a text that begins with another
abbrev pub Extends : List ℕ → List ℕ → Type 0
Extends old new = (x : List ℕ) × (new ≡ old ++ x)

pub not_extended : {old new : List ℕ} → new ≡ old → Extends old new
not_extended {old} e = ([], e ∙ sym (append-nil old))

pub extended : (old : List ℕ) {mid new : List ℕ} (more : List ℕ) → Extends old mid → new ≡ mid ++ more → Extends old new
extended old more h e = (h.0 ++ more, e ∙ ap (λ (t : List ℕ). t ++ more) h.1 ∙ append_assoc old h.0 more)

-- The image of a level: what was read is one, and a text begins with at most one.

-- what was read for a level
pub record IsRead {A : Type 0} (cmp : A → A → Ordering) (spelling : A → Option (List ℕ)) (place : Place) (text : List ℕ) (f : Front) (after : List ℕ) (doublings : ℕ)
    (items : List A) (is_sorted : Bool) (rest : List ℕ) : Type 0 where
  pub legal_k : IsLegalK place.k
  pub front : text ≡ front_text f ++ after
  pub fits : IsFront f
  pub legal : IsLegalState place.k place.lg_weight f.state f.section_size f.lg_weight f.num_sections
  pub few : doublings ≤ 5
  pub sections : f.num_sections ≡ sections_of doublings
  pub items_are : ReadsItems spelling after f.count items rest
  pub sorted : is_sorted ≡ true → (place.is_said_sorted ≡ true) × IsSorted cmp items
  pub unsorted : place.is_said_sorted ≡ true → IsSorted cmp items → is_sorted ≡ true

-- the doublings that the section count gives
doublings_are : (k lg state size lg' sections doublings : ℕ) (h : IsLegalState k lg state size lg' sections) → sections ≡ sections_of doublings → h.layout.doublings ≡ doublings
doublings_are k lg state size lg' sections doublings h e = sections_apart h.layout.doublings doublings (sym h.layout.sections ∙ e)

-- the level that was read
abbrev pub level_read : {A : Type 0} → Place → Front → ℕ → List A → Bool → Level A
level_read place f doublings items is_sorted = level_of items is_sorted f.state doublings false f.lg_weight place.k place.accuracy

-- the level that was read begins the text
pub read_found : {A : Type 0} (cmp : A → A → Ordering) (spelling : A → Option (List ℕ)) (place : Place) (text : List ℕ) (f : Front) (after : List ℕ) (doublings : ℕ)
    (items : List A) (is_sorted : Bool) (rest : List ℕ) →
    IsRead cmp spelling place text f after doublings items is_sorted rest → BeginsLevel cmp spelling place text (level_read place f doublings items is_sorted) rest
read_found {A} cmp spelling place text f after doublings items is_sorted rest r =
    let d = doublings_are place.k place.lg_weight f.state f.section_size f.lg_weight f.num_sections doublings r.legal r.sections in
    let size : f.section_size ≡ size_of place.k doublings = r.legal.layout.size ∙ ap (size_of place.k) d in
    let level : Level A = level_read place f doublings items is_sorted in
    let front : f ≡ front_of level f.padding = λ i. record {
      state = f.state;
      section_size = size i;
      lg_weight = f.lg_weight;
      num_sections = r.sections i;
      padding =
          f.padding;
      count = sym r.items_are.as_many i;
    } in
    record {
      padding = f.padding;
      padding_fits = r.fits.padding_fits;
      after = after;
      parts = r.front ∙ ap (λ (x : Front). front_text x ++ after) front;
      items = r.items_are.begins;
      imaged =
          let sorted : (is_sorted ≡ true) ↔ ((place.is_said_sorted ≡ true) × IsSorted cmp items) = (r.sorted, λ p. r.unsorted p.0 p.1) in
          let few_items : length items < 2 ^ 32 = omega (arith, r.items_are.as_many, r.fits.count_fits) in
          let size_at_least : 4 ≤ size_of place.k doublings = omega (arith, size, r.legal.layout.at_least) in
          let reached = subst (IsReached f.state) d r.legal.layout.reached in
          assumption;
    }

-- ---- what a text begins with

-- the numbers of a level fit their fields
image_fits : {A : Type 0} (cmp : A → A → Ordering) (place : Place) (level : Level A) (padding : ℕ) → IsLegalK place.k → IsImaged cmp place level → padding < 2 ^ 16 → IsFront (front_of level padding)
image_fits cmp place level padding legal h p =
    let e : level.k ≡ place.k = h.k_is in
    let even : level.k % 2 ≡ 0 = ap (λ (k : ℕ). k % 2) e ∙ legal.even in
    let low = size_at_most level.k level.doublings (section_size_of level) even (size_of_is level.k level.doublings) in
    record { state_fits = h.state_fits; size_fits = omega (arith, low, e, legal.at_most); padding_fits = p; count_fits = h.few_items }

image_legal : {A : Type 0} (cmp : A → A → Ordering) (place : Place) (level : Level A) → IsLegalK place.k → IsImaged cmp place level →
    IsLegalState place.k place.lg_weight level.state (section_size_of level) level.lg_weight (sections_of level.doublings)
image_legal cmp place level legal h =
    let layout : IsLegalLayout place.k level.state (section_size_of level) (sections_of level.doublings) = record {
      doublings = level.doublings;
      few = h.few_doublings;
      sections = refl;
      reached = h.reached;
      size = ap (λ (k : ℕ). size_of k level.doublings) h.k_is;
      at_least = h.size_at_least;
    } in
    assumption

-- the front that was read is that of each level that begins the text, and its items follow
front_is : {A : Type 0} (cmp : A → A → Ordering) (spelling : A → Option (List ℕ)) (place : Place) (text : List ℕ) (f : Front) (after : List ℕ) (level : Level A) (rest : List ℕ) →
    IsLegalK place.k → text ≡ front_text f ++ after → IsFront f →
    (b : BeginsLevel cmp spelling place text level rest) → (f ≡ front_of level b.padding) × (after ≡ b.after)
front_is cmp spelling place text f after level rest legal e fits b =
    same_front f (front_of level b.padding) after b.after fits (image_fits cmp place level b.padding legal b.imaged b.padding_fits) (sym e ∙ b.parts)

-- if the front is refused, no level begins the text
pub front_refused : {A : Type 0} (cmp : A → A → Ordering) (spelling : A → Option (List ℕ)) (place : Place) (text : List ℕ) (f : Front) (after : List ℕ) → IsLegalK place.k →
    text ≡ front_text f ++ after → IsFront f →
    (IsLegalState place.k place.lg_weight f.state f.section_size f.lg_weight f.num_sections → ⊥) → NoLevel cmp spelling place text
front_refused cmp spelling place text f after legal e fits none level rest b =
    let same = (front_is cmp spelling place text f after level rest legal e fits b).0 in
    none (subst (λ (x : Front). IsLegalState place.k place.lg_weight x.state x.section_size x.lg_weight x.num_sections) (sym same) (image_legal cmp place level legal b.imaged))

-- ---- a text begins with at most one level

-- two levels with the same numbers whose items have the same spellings
pub record AreTwins {A : Type 0} (spelling : A → Option (List ℕ)) (l m : Level A) : Type 0 where
  pub items : AllZip (Twins spelling) l.items m.items
  pub state : l.state ≡ m.state
  pub doublings : l.doublings ≡ m.doublings

-- levels that begin the same text are twins
pub same_level : {A : Type 0} (cmp : A → A → Ordering) (spelling : A → Option (List ℕ)) → IsPrefixFree spelling → (place : Place) → IsLegalK place.k → (text : List ℕ) (l m : Level A) (r s : List ℕ) →
    BeginsLevel cmp spelling place text l r → BeginsLevel cmp spelling place text m s → AreTwins spelling l m × (r ≡ s)
same_level {A} cmp spelling free place legal text l m r s a b =
    let f : Front = front_of l a.padding in
    let same = front_is cmp spelling place text f a.after m s legal a.parts (image_fits cmp place l a.padding legal a.imaged a.padding_fits) b in
    let count : length l.items ≡ length m.items = ap (λ (x : Front). x.count) same.0 in
    let sections : sections_of l.doublings ≡ sections_of m.doublings = ap (λ (x : Front). x.num_sections) same.0 in
    let its = same_items spelling free l.items m.items a.after r s count a.items (subst (λ (t : List ℕ). BeginsAll spelling t m.items s) (sym same.1) b.items) in
    (record { items = its.0; state = ap (λ (x : Front). x.state) same.0; doublings = sections_apart l.doublings m.doublings sections }, its.1)

-- ---- several levels

-- the place that is n places higher
abbrev pub place_up : ℕ → Place → Place
place_up zero place = place
place_up (suc n) place = place_up n (next_place place)

place_higher : (n k : ℕ) (accuracy : RankAccuracy) (h : ℕ) → place_up n (place_at k accuracy h true) ≡ place_at k accuracy (h + n) true
place_higher zero k accuracy h = ap (λ (i : ℕ). place_at k accuracy i true) (omega arith)
place_higher (suc n) k accuracy h = place_higher n k accuracy (suc h) ∙ ap (λ (i : ℕ). place_at k accuracy i true) (omega arith)

-- the place of level n: above level 0 a level may count as sorted, and level 0 may if the flag says so
pub place_here : (n k : ℕ) (accuracy : RankAccuracy) (said sorted : Bool) → (0 < n → sorted ≡ true) → (n ≤ 0 → sorted ≡ said) → place_up n (place_at k accuracy 0 said) ≡ place_at k accuracy n sorted
place_here zero k accuracy said sorted above first = ap (place_at k accuracy 0) (sym (first (omega arith)))
place_here (suc n) k accuracy said sorted above first = rw (above (omega arith)) (place_higher n k accuracy 1 ∙ ap (λ (i : ℕ). place_at k accuracy i true) (omega arith))

-- one more level
pub levels_last : {A : Type 0} (cmp : A → A → Ordering) (spelling : A → Option (List ℕ)) (place : Place) (text : List ℕ) (xs : List (Level A)) (mid : List ℕ) (level : Level A) (rest : List ℕ) →
    BeginsLevels cmp spelling place text xs mid → BeginsLevel cmp spelling (place_up (length xs) place) mid level rest → BeginsLevels cmp spelling place text (xs ++ level ∷ []) rest
levels_last cmp spelling place text [] mid level rest e b = (rest, subst (λ (t : List ℕ). BeginsLevel cmp spelling place t level rest) (sym e) b, refl)
levels_last cmp spelling place text (x ∷ xs) mid level rest h b = (h.0, h.1, levels_last cmp spelling (next_place place) h.0 xs mid level rest h.2 b)

-- after the levels that were read, another one begins
pub levels_go_on : {A : Type 0} (cmp : A → A → Ordering) (spelling : A → Option (List ℕ)) → IsPrefixFree spelling → (place : Place) → IsLegalK place.k →
    (text : List ℕ) (read xs : List (Level A)) (mid rest : List ℕ) → length read < length xs →
    BeginsLevels cmp spelling place text read mid → BeginsLevels cmp spelling place text xs rest →
    (z : Level A) × (after : List ℕ) × BeginsLevel cmp spelling (place_up (length read) place) mid z after
levels_go_on cmp spelling free place legal text read [] mid rest lt a b = absurd (omega (arith, lt))
levels_go_on cmp spelling free place legal text [] (x ∷ xs) mid rest lt a b = (x, b.0, subst (λ (t : List ℕ). BeginsLevel cmp spelling place t x b.0) a b.1)
levels_go_on cmp spelling free place legal text (y ∷ read) (x ∷ xs) mid rest lt a b =
    let e = (same_level cmp spelling free place legal text x y b.0 a.0 b.1 a.1).1 in
    levels_go_on cmp spelling free (next_place place) legal a.0 read xs mid rest (omega arith) a.2 (subst (λ (t : List ℕ). BeginsLevels cmp spelling (next_place place) t xs rest) e b.2)

-- a level takes at least twenty bytes, and so does each of several
pub level_long : {A : Type 0} (cmp : A → A → Ordering) (spelling : A → Option (List ℕ)) (place : Place) (text : List ℕ) (level : Level A) (rest : List ℕ) →
    BeginsLevel cmp spelling place text level rest → 20 + length rest ≤ length text
level_long cmp spelling place text level rest b = grind (arith, common_steps, length-append)

pub levels_long : {A : Type 0} (cmp : A → A → Ordering) (spelling : A → Option (List ℕ)) (place : Place) (text : List ℕ) (levels : List (Level A)) (rest : List ℕ) →
    BeginsLevels cmp spelling place text levels rest → length levels * 20 + length rest ≤ length text
levels_long cmp spelling place text [] rest b = omega (arith, ap length b)
levels_long cmp spelling place text (l ∷ ls) rest b =
    omega (arith, level_long cmp spelling place text l b.0 b.1, levels_long cmp spelling (next_place place) b.0 ls rest b.2)

-- A level that is read: its items are filled into a new one, and then its state and its sections are set.

filled_new : {A : Type 0} {start filled made : Level A} {xs : List A} {flag : Bool} {lg_weight k : ℕ} {accuracy : RankAccuracy} → start ≡ filled →
    made ≡ fresh [] true lg_weight k accuracy →
    filled ≡ record made { items = xs; is_sorted = flag } → start ≡ fresh xs flag lg_weight k accuracy
filled_new {A} {xs = xs} {flag} same made_is filled_is = same ∙ filled_is ∙ ap
    (λ (l : Level A). let m : Level A = record l { items = xs; is_sorted = flag } in m) made_is

-- the text begins with it
pub read_begins : {A : Type 0} {cmp : A → A → Ordering} (spelling : A → Option (List ℕ)) (place : Place) {text after rest : List ℕ} (f : Front)
    {doublings : ℕ} {xs : List A} {flag : Bool}
    {start filled made : Level A} → start ≡ filled → made ≡ fresh [] true f.lg_weight place.k place.accuracy →
    filled ≡ record made { items = xs; is_sorted = flag } → IsLegalState place.k place.lg_weight f.state f.section_size f.lg_weight f.num_sections →
    ((j : ℕ) → j ≤ 5 → f.num_sections ≡ sections_of j → doublings ≡ j) → text ≡ front_text f ++ after → IsFront f → ReadsItems spelling after f.count xs rest →
    (flag ≡ true → (place.is_said_sorted ≡ true) × IsSorted cmp xs) → (place.is_said_sorted ≡ true → IsSorted cmp xs → flag ≡ true) →
    BeginsLevel cmp spelling place text (record start { state = f.state; doublings = doublings }) rest
read_begins {A} {cmp} spelling place {text} {after} {rest} f {doublings} {xs} {flag} begun empty filled_is legal known front fits items sorted unsorted =
    let made_is = filled_new begun empty filled_is in
    let sections = doublings_known place.k f.state f.section_size f.num_sections doublings legal.layout known in
    subst (λ (l : Level A). BeginsLevel cmp spelling place text l rest)
    (ap (λ (l : Level A). let m : Level A = record l { state = f.state; doublings = doublings } in m) (sym made_is))
    (read_found cmp spelling place text f after doublings xs flag rest (record {
      legal_k = legal.legal_k;
      front = front;
      fits = fits;
      legal = legal;
      few = sections.0;
      sections = sections.1;
      items_are = items;
      sorted = sorted;
      unsorted = unsorted;
    }))
