-- The least and the greatest item of a list, found item by item, and of two lists together. They are unique up to comparing equal.
use Rattle.std.proofs.Common.{◌≡◌, ℕ, ◌+◌, ◌<◌, List, [], ◌∷◌, ◌++◌, length, take, get_or, sym, ap, ◌∙◌, zero, suc, ◌≤◌, true, false, Ordering, is_gt, is_lt, inl, inr, arith, Bool, if◌then◌else◌, ⊎_elim, Option, None, Some, refl, subst, append-nil, Equal, count_by, ◌-◌, IsSorted}
use Rattle.std.proofs.lemmas.List.{take_more}
use Rattle.std.specs.List.{AllByRecursion}
use Rattle.std.specs.Cmp.{IsTotalOrder}
use Rattle.std.proofs.lemmas.Cmp.{upto, tied_itself, tied_back, alike_right}
use Rattle.sketch_base.proofs.order.Order.{gt_not_gt, lt_not_gt, not_lt_gt, equal-from_neither, not_gt_lt, counted-parts, Ordered, Ordered-from_sorted}
use Rattle.sketch_base.specs.Extremes.{TiesWithOne, IsAtMost, IsExtreme, IsExtremeOf, IsLeastOf, IsGreatestOf, Ties, IsFrom, IsUpTo, least_with, greatest_with, newer_or, IsBetween}
use Rattle.sketch_base.proofs.bags.Parts.{all-append, all-map}
use Rattle.std.proofs.lemmas.Grind.{common_steps}
use Rattle.std.specs.Option.{option_to_list}
use Rattle.sketch_base.specs.Bag.{SameItems}
use Rattle.sketch_base.specs.Queries.{SameAnswer, IsSplitAt}
use Rattle.sketch_base.proofs.bags.Alike.{SameItems-back}
use Rattle.std.specs.List.Sorted.{IsPartitionedBy}
use Rattle.std.proofs.lemmas.Bool.{false≢true}

-- A prefix of a list with one more element.

-- the next element of the list is appended
pub take_longer : {A : Type 0} (xs : List A) (i : ℕ) (x : A) → i < length xs → x ≡ get_or xs i x → take (i + 1) xs ≡ take i xs ++ x ∷ []
take_longer xs i x lt e = take_more xs i x lt ∙ ap (λ l. take i xs ++ l ∷ []) (sym e)

-- The least and the greatest item of a list, found item by item.

module _ {A : Type 0} {cmp : A → A → Ordering} (o : IsTotalOrder cmp) where
  -- the item at a place ties with one of the list
  pub ties_at : (xs : List A) (i : ℕ) (x : A) → i < length xs → x ≡ get_or xs i x → TiesWithOne cmp xs x
  ties_at [] i x lt e = absurd (omega arith)
  ties_at (y ∷ ys) zero x lt e = inl (ap (λ z. cmp x z) (sym e) ∙ tied_itself o x)
  ties_at (y ∷ ys) (suc i) x lt e = inr (ties_at ys i x (omega arith) e)

  -- an item that ties with one of the list and bounds its first `count` items
  pub record IsSoFar (Bounds : A → A → Type 0) (items : List A) (count : ℕ) (x : A) : Type 0 where
    pub ties : TiesWithOne cmp items x
    pub bounds : AllByRecursion (Bounds x) (take count items)

  module _ (Bounds : A → A → Type 0) (trans : (x y z : A) → Bounds x y → Bounds y z → Bounds x z) where
    -- the next item isn't better, is better, or doesn't exist
    pub kept_so_far : (items : List A) (i : ℕ) (x y : A) → i < length items → y ≡ get_or items i y → Bounds x y → IsSoFar Bounds items i x → IsSoFar Bounds items (i + 1) x
    kept_so_far items i x y lt e b h = record { ties = h.ties; bounds = rw (take_longer items i y lt e) (all-append (Bounds x) (take i items) (y ∷ []) h.bounds (b, tt)) }

    pub next_so_far : (items : List A) (i : ℕ) (x y : A) → i < length items → y ≡ get_or items i y → Bounds y x → Bounds y y → IsSoFar Bounds items i x → IsSoFar Bounds items (i + 1) y
    next_so_far items i x y lt e b self h = record {
      ties = ties_at items i y lt e;
      bounds = rw (take_longer items i y lt e) (all-append (Bounds y) (take i items) (y ∷ []) (all-map (Bounds x) (Bounds y) (λ z. trans y x z b) (take i items) h.bounds) (self, tt));
    }

  -- the bounds of the least and of the greatest item; both are transitive, and each item bounds itself
  abbrev pub Least : A → A → Type 0
  Least x y = IsAtMost cmp x y

  abbrev pub Greatest : A → A → Type 0
  Greatest x y = IsAtMost cmp y x

  pub least_trans : (x y z : A) → Least x y → Least y z → Least x z
  least_trans x y z a b = upto o x y z a b

  pub greatest_trans : (x y z : A) → Greatest x y → Greatest y z → Greatest x z
  greatest_trans x y z a b = upto o z y x b a

  pub least_self : (x : A) → IsAtMost cmp x x
  least_self x = ap is_gt (tied_itself o x)

  -- what the result of a comparison tells
  pub below : (x y : A) → is_lt (cmp x y) ≡ true → IsAtMost cmp x y
  below x y h = lt_not_gt (cmp x y) h

  pub not_below : (x y : A) → is_lt (cmp x y) ≡ false → IsAtMost cmp y x
  not_below x y h = not_lt_gt (cmp x y) (cmp y x) (o.antisymm x y) h

  pub above : (x y : A) → is_gt (cmp x y) ≡ true → IsAtMost cmp y x
  above x y h = gt_not_gt (cmp x y) (cmp y x) (o.antisymm x y) h

  pub not_above : (x y : A) → is_gt (cmp x y) ≡ false → IsAtMost cmp x y
  not_above x y h = h

-- The extremes of two lists together, and the extremes with one more item.

-- where there was no extreme, there is what is new
pub newer_or-none : {A : Type 0} (new : Option A) → newer_or new None ≡ new
newer_or-none new = grind (arith, common_steps)

module _ {A : Type 0} {cmp : A → A → Ordering} (o : IsTotalOrder cmp) where
  ties-through : (x y : A) (zs : List A) → cmp x y ≡ Equal → TiesWithOne cmp zs y → TiesWithOne cmp zs x
  ties-through x y [] e t = absurd t
  ties-through x y (z ∷ zs) e (inl t) = inl (o.congr x y z e ∙ t)
  ties-through x y (z ∷ zs) e (inr t) = inr (ties-through x y zs e t)

  ties-left : (x : A) (ys zs : List A) → TiesWithOne cmp ys x → TiesWithOne cmp (ys ++ zs) x
  ties-left x [] zs t = absurd t
  ties-left x (y ∷ ys) zs (inl t) = inl t
  ties-left x (y ∷ ys) zs (inr t) = inr (ties-left x ys zs t)

  ties-right : (x : A) (ys zs : List A) → TiesWithOne cmp zs x → TiesWithOne cmp (ys ++ zs) x
  ties-right x [] zs t = t
  ties-right x (y ∷ ys) zs t = inr (ties-right x ys zs t)

  module _ (Bounds : A → A → Type 0) (trans : (x y z : A) → Bounds x y → Bounds y z → Bounds x z) where
    through : (x y : A) (zs : List A) → IsExtreme cmp Bounds (y ∷ []) x → IsExtreme cmp Bounds zs y → IsExtreme cmp Bounds zs x
    through x y zs e f = record {
      ties = ⊎_elim (λ t. ties-through x y zs t f.ties) (λ t. absurd t) e.ties;
      bounds = all-map (Bounds y) (Bounds x) (λ z. trans x y z e.bounds.0) zs f.bounds;
    }

    both : (x a b : A) (ys zs : List A) → IsExtreme cmp Bounds (a ∷ b ∷ []) x → IsExtreme cmp Bounds ys a → IsExtreme cmp Bounds zs b → IsExtreme cmp Bounds (ys ++ zs) x
    both x a b ys zs e f g = record {
      ties = ⊎_elim (λ t. ties-left x ys zs (ties-through x a ys t f.ties)) (⊎_elim (λ t. ties-right x ys zs (ties-through x b zs t g.ties)) (λ t. absurd t)) e.ties;
      bounds = all-append (Bounds x) ys zs (all-map (Bounds a) (Bounds x) (λ z. trans x a z e.bounds.0) ys f.bounds) (all-map (Bounds b) (Bounds x) (λ z. trans x b z e.bounds.1.0) zs g.bounds);
    }

    one-of : (zs : List A) (m n : Option A) → IsExtremeOf cmp Bounds zs m → IsExtremeOf cmp Bounds (option_to_list m) n → IsExtremeOf cmp Bounds zs n
    one-of zs None None g e = g
    one-of zs None (Some x) g e = absurd e.ties
    one-of zs (Some b) None g e = cc
    one-of zs (Some b) (Some x) g e = through x b zs e g

    parts : (ys zs : List A) (l m n : Option A) → IsExtremeOf cmp Bounds ys l → IsExtremeOf cmp Bounds zs m →
        IsExtremeOf cmp Bounds (option_to_list l ++ option_to_list m) n → IsExtremeOf cmp Bounds (ys ++ zs) n
    parts ys zs None m n f g e = subst (λ (xs : List A). IsExtremeOf cmp Bounds (xs ++ zs) n) (sym f) (one-of zs m n g e)
    parts ys zs (Some a) None n f g e = subst (λ (xs : List A). IsExtremeOf cmp Bounds (ys ++ xs) n) (sym g) (rw append-nil (one-of ys (Some a) n f e))
    parts ys zs (Some a) (Some b) None f g e = cc
    parts ys zs (Some a) (Some b) (Some x) f g e = both x a b ys zs e f g

    -- the extreme of two lists, from that of the first list and the items of the second
    on : (ys zs : List A) (l n : Option A) → IsExtremeOf cmp Bounds ys l → IsExtremeOf cmp Bounds (option_to_list l ++ zs) n → IsExtremeOf cmp Bounds (ys ++ zs) n
    on ys zs None n f e = subst (λ (xs : List A). IsExtremeOf cmp Bounds (xs ++ zs) n) (sym f) e
    on ys zs (Some a) None f e = cc
    on ys zs (Some a) (Some x) f e = record {
      ties = ⊎_elim (λ t. ties-left x ys zs (ties-through x a ys t f.ties)) (λ t. ties-right x ys zs t) e.ties;
      bounds = all-append (Bounds x) ys zs (all-map (Bounds a) (Bounds x) (λ z. trans x a z e.bounds.0) ys f.bounds) e.bounds.1;
    }

  -- the extremes of two lists, from the extremes of each
  pub least-parts : (ys zs : List A) (l m n : Option A) → IsLeastOf cmp ys l → IsLeastOf cmp zs m → IsLeastOf cmp (option_to_list l ++ option_to_list m) n → IsLeastOf cmp (ys ++ zs) n
  least-parts = parts (λ x y. IsAtMost cmp x y) (λ x y z. upto o x y z)

  pub greatest-parts : (ys zs : List A) (l m n : Option A) → IsGreatestOf cmp ys l → IsGreatestOf cmp zs m → IsGreatestOf cmp (option_to_list l ++ option_to_list m) n → IsGreatestOf cmp (ys ++ zs) n
  greatest-parts = parts (λ x y. IsAtMost cmp y x) (λ x y z b c. upto o z y x c b)

  -- the extremes of two lists, from those of the first list and the items of the second
  pub least-on : (ys zs : List A) (l n : Option A) → IsLeastOf cmp ys l → IsLeastOf cmp (option_to_list l ++ zs) n → IsLeastOf cmp (ys ++ zs) n
  least-on = on (λ x y. IsAtMost cmp x y) (λ x y z. upto o x y z)

  pub greatest-on : (ys zs : List A) (l n : Option A) → IsGreatestOf cmp ys l → IsGreatestOf cmp (option_to_list l ++ zs) n → IsGreatestOf cmp (ys ++ zs) n
  greatest-on = on (λ x y. IsAtMost cmp y x) (λ x y z b c. upto o z y x c b)

  -- the extremes of one item
  pub least-one : (x : A) → IsLeastOf cmp (x ∷ []) (Some x)
  least-one x = record { ties = inl (tied_itself o x); bounds = (ap is_gt (tied_itself o x), tt) }

  pub greatest-one : (x : A) → IsGreatestOf cmp (x ∷ []) (Some x)
  greatest-one x = record { ties = inl (tied_itself o x); bounds = (ap is_gt (tied_itself o x), tt) }

  -- an item, or none, is the least of itself
  pub least_itself : (a : Option A) → IsLeastOf cmp (option_to_list a) a
  least_itself a = grind (arith, common_steps, least-one)

  -- it is the greatest of itself too
  pub greatest_itself : (a : Option A) → IsGreatestOf cmp (option_to_list a) a
  greatest_itself a = grind (arith, common_steps, greatest-one)

module _ {A : Type 0} {cmp : A → A → Ordering} (o : IsTotalOrder cmp) where
  -- the new extreme bounds a new item and all items that the old one bounds
  pub record Lowers (x : A) (old new : Option A) : Type 0 where
    pub here : IsFrom cmp new x
    pub below : (y : A) → IsFrom cmp old y → IsFrom cmp new y

  pub record Raises (x : A) (old new : Option A) : Type 0 where
    pub here : IsUpTo cmp new x
    pub above : (y : A) → IsUpTo cmp old y → IsUpTo cmp new y

  -- an item that ties with the better of x and l bounds x, and all items that l bounds
  better : (Bounds : A → A → Type 0) → ((x y z : A) → Bounds x y → Bounds y z → Bounds x z) → ((a z y : A) → cmp a z ≡ Equal → Bounds a y → Bounds z y) → ((x : A) → Bounds x x) →
      (b : Bool) (x l z : A) → (b ≡ true → Bounds x l) → (b ≡ false → Bounds l x) → cmp (if b then x else l) z ≡ Equal → Bounds z x × ((y : A) → Bounds l y → Bounds z y)
  better Bounds trans moves self b x l z upper lower t = grind (arith, common_steps)

  lowers : (x : A) (old new : Option A) → Ties cmp (least_with cmp x old) new → Lowers x old new
  lowers x old new t = grind (arith, common_steps, tied_back, below, better, upto, least_self, not_below)

  raises : (x : A) (old new : Option A) → Ties cmp (greatest_with cmp x old) new → Raises x old new
  raises x old new t = grind (arith, common_steps, above, better, greatest_trans, alike_right, least_self, not_above)

  both-tied : (b : Bool) (x l z : A) → cmp (if b then x else l) z ≡ Equal → TiesWithOne cmp (l ∷ x ∷ []) z
  both-tied b x l z t = grind (arith, common_steps, tied_back)

  -- the new least item is the least of the old one and the item
  pub least_of_both : (x : A) (old new : Option A) → Ties cmp (least_with cmp x old) new → IsLeastOf cmp (option_to_list old ++ x ∷ []) new
  least_of_both x old new t = grind (arith, common_steps, tied_back, lowers, both-tied, below, least_self)

  -- the new greatest item is the greatest of the old one and the item
  pub greatest_of_both : (x : A) (old new : Option A) → Ties cmp (greatest_with cmp x old) new → IsGreatestOf cmp (option_to_list old ++ x ∷ []) new
  greatest_of_both x old new t = grind (arith, common_steps, tied_back, raises, both-tied, above, least_self)

  -- the least of the old least item and the least of some items is the least of the old one and all of these
  pub least_with_all : (x : A) (old new : Option A) (items : List A) → IsExtreme cmp (λ x y. IsAtMost cmp x y) items x → Ties cmp (least_with cmp x old) new →
      IsLeastOf cmp (option_to_list old ++ items) new
  least_with_all x old new items h t = least-parts o (option_to_list old) items old (Some x) new (least_itself o old) h (least_of_both x old new t)

  -- the same for the greatest
  pub greatest_with_all : (x : A) (old new : Option A) (items : List A) → IsExtreme cmp (λ x y. IsAtMost cmp y x) items x → Ties cmp (greatest_with cmp x old) new →
      IsGreatestOf cmp (option_to_list old ++ items) new
  greatest_with_all x old new items h t = greatest-parts o (option_to_list old) items old (Some x) new (greatest_itself o old) h (greatest_of_both x old new t)

  -- the least item so far stays the least if no further item is below it
  pub least_kept : (old : Option A) (items : List A) → AllByRecursion (IsFrom cmp old) items → IsLeastOf cmp (option_to_list old ++ items) old
  least_kept None [] h = refl
  least_kept None (x ∷ items) h = absurd h.0
  least_kept (Some y) items h = grind (arith, common_steps, least-one)

  -- the greatest item so far stays the greatest if no further item is above it
  pub greatest_kept : (old : Option A) (items : List A) → AllByRecursion (IsUpTo cmp old) items → IsGreatestOf cmp (option_to_list old ++ items) old
  greatest_kept None [] h = refl
  greatest_kept None (x ∷ items) h = absurd h.0
  greatest_kept (Some y) items h = grind (arith, common_steps, greatest-one)

  pub from-same : (least : Option A) (x y : A) → cmp x y ≡ Equal → IsFrom cmp least x → IsFrom cmp least y
  from-same least x y e h = grind (arith, common_steps, alike_right)

  pub up_to-same : (greatest : Option A) (x y : A) → cmp x y ≡ Equal → IsUpTo cmp greatest x → IsUpTo cmp greatest y
  up_to-same greatest x y e h = grind (arith, common_steps)

  pub ties-same : (extreme : Option A) (x y : A) → cmp x y ≡ Equal → Ties cmp x extreme → Ties cmp y extreme
  ties-same extreme x y e h = grind (arith, common_steps)

-- The least item of a list is unique up to comparing equal, and so is the greatest.

module _ {A : Type 0} {cmp : A → A → Ordering} (o : IsTotalOrder cmp) where
  -- items may be replaced by items that compare equal
  pub at_most_same : (a b c d : A) → cmp a b ≡ Equal → cmp c d ≡ Equal → IsAtMost cmp a c → IsAtMost cmp b d
  at_most_same a b c d p q h = ap is_gt (sym (o.congr a b c p ∙ alike_right o c d b q)) ∙ h

  ties_same : (x : A) (xs ys : List A) → SameItems cmp xs ys → TiesWithOne cmp xs x → TiesWithOne cmp ys x
  ties_same x [] [] z t = t
  ties_same x (w ∷ xs) (y ∷ ys) z (inl t) = inl (sym (alike_right o w y x z.0) ∙ t)
  ties_same x (w ∷ xs) (y ∷ ys) z (inr t) = inr (ties_same x xs ys z.1 t)
  ties_same x _ _ z t = absurd z

  tied_both : (x y : A) → IsAtMost cmp x y → IsAtMost cmp y x → cmp x y ≡ Equal
  tied_both x y a b = equal-from_neither (cmp x y) (not_gt_lt (cmp x y) (cmp y x) (o.antisymm x y) b) a

  module _ (Bounds : A → A → Type 0) (moves : (x w y : A) → cmp x w ≡ Equal → Bounds y w → Bounds y x) (ties : (x y : A) → Bounds x y → Bounds y x → cmp x y ≡ Equal) where
    bound_tied : (x y : A) (ys : List A) → AllByRecursion (Bounds y) ys → TiesWithOne cmp ys x → Bounds y x
    bound_tied x y [] h t = absurd t
    bound_tied x y (w ∷ ys) h (inl t) = moves x w y t h.0
    bound_tied x y (w ∷ ys) h (inr t) = bound_tied x y ys h.1 t

    one_extreme : (xs ys : List A) (a b : Option A) → SameItems cmp xs ys → IsExtremeOf cmp Bounds xs a → IsExtremeOf cmp Bounds ys b → SameAnswer cmp a b
    one_extreme xs ys None None z p q = tt
    one_extreme xs ys None (Some y) z p q = absurd (ties_same y ys [] (SameItems-back o [] ys (subst (λ (l : List A). SameItems cmp l ys) p z)) q.ties)
    one_extreme xs ys (Some x) None z p q = absurd (ties_same x xs [] (subst (λ (l : List A). SameItems cmp xs l) q z) p.ties)
    one_extreme xs ys (Some x) (Some y) z p q = ties x y (bound_tied y x xs p.bounds (ties_same y ys xs (SameItems-back o xs ys z) q.ties)) (bound_tied x y ys q.bounds (ties_same x xs ys z p.ties))

  -- lists that compare equal have least items that compare equal, and greatest ones
  pub one_least : (xs ys : List A) (a b : Option A) → SameItems cmp xs ys → IsLeastOf cmp xs a → IsLeastOf cmp ys b → SameAnswer cmp a b
  one_least = one_extreme (λ x y. IsAtMost cmp x y) (λ x w y t h. ap is_gt (alike_right o x w y t) ∙ h) tied_both

  pub one_greatest : (xs ys : List A) (a b : Option A) → SameItems cmp xs ys → IsGreatestOf cmp xs a → IsGreatestOf cmp ys b → SameAnswer cmp a b
  one_greatest = one_extreme (λ x y. IsAtMost cmp y x) (λ x w y t h. ap is_gt (o.congr x w y t) ∙ h) (λ x y a b. tied_both x y b a)

-- A prefix of a list whose items pass a test: what one item tells of its length, and where it ends in a part of the list.

module _ {A : Type 0} (test : A → Bool) where
  rest-parted : (x : A) (xs : List A) → IsPartitionedBy test (x ∷ xs) → IsPartitionedBy test xs
  rest-parted x xs up i j d le l h = up (suc i) (suc j) d (omega arith) (omega arith) h

  fails-after : (xs : List A) (k : ℕ) (d : A) (b : Bool) → test (get_or xs k d) ≡ b → IsPartitionedBy test xs → k < length xs → test (get_or xs 0 d) ≡ false → test (get_or xs k d) ≡ false
  fails-after xs k d b e up l none = grind (arith, common_steps, false≢true)

  front : (xs : List A) → IsPartitionedBy test xs → (i : ℕ) × ((i ≤ length xs) × IsSplitAt test xs i)
  front [] up = (0, (omega arith, ((λ k d l m. absurd (omega arith)), (λ k d l m. absurd (omega arith)))))
  front (x ∷ xs) up = go (test x) refl (front xs (rest-parted x xs up))
    where
      go : (b : Bool) → test x ≡ b → ((i : ℕ) × ((i ≤ length xs) × IsSplitAt test xs i)) → (i : ℕ) × ((i ≤ length (x ∷ xs)) × IsSplitAt test (x ∷ xs) i)
      go false e r = (0, (omega arith, ((λ k d l m. absurd (omega arith)), (λ k d l m. fails-after (x ∷ xs) k d (test (get_or (x ∷ xs) k d)) refl up m e))))
      go true e r = (suc r.0, (omega (arith, r.1.0), (passes, λ k d l m. fails k d l m)))
        where
          passes : (k : ℕ) (d : A) → 0 ≤ k → k < suc r.0 → test (get_or (x ∷ xs) k d) ≡ true
          passes k d l m = grind (arith, common_steps)

          fails : (k : ℕ) (d : A) → suc r.0 ≤ k → k < length (x ∷ xs) → test (get_or (x ∷ xs) k d) ≡ false
          fails k d l m = grind (arith, common_steps)

  -- if the items that pass come before the others, the list is split at their number
  pub parts-count : (xs : List A) → IsPartitionedBy test xs → IsSplitAt test xs (count_by test xs)
  parts-count xs up = let r = front xs up in subst (IsSplitAt test xs) (counted-parts test xs r.0 r.1.0 r.1.1) r.1.1

  -- an item that passes lies before the split, and one that fails doesn't
  pub counts-passed : (xs : List A) (i : ℕ) (d : A) → IsPartitionedBy test xs → i < length xs → test (get_or xs i d) ≡ true → i + 1 ≤ count_by test xs
  counts-passed xs i d up l h = grind (arith, (parts-count xs up).1 i d)

  pub counts-failed : (xs : List A) (i : ℕ) (d : A) → IsPartitionedBy test xs → i < length xs → test (get_or xs i d) ≡ false → count_by test xs ≤ i
  counts-failed xs i d up l h = grind (arith, (parts-count xs up).0 i d)

-- Sorted items of which the first and the last lie between two others.

module _ {A : Type 0} {cmp : A → A → Ordering} (o : IsTotalOrder cmp) (low high : A) where
  between : (xs : List A) (d e : A) → 0 < length xs → Ordered o xs → IsAtMost cmp low (get_or xs 0 d) → IsAtMost cmp (get_or xs (length xs - 1) e) high →
      AllByRecursion (IsBetween cmp low high) xs
  between [] d e l up f g = absurd (omega arith)
  between (x ∷ []) d e l up f g = ((f, g), tt)
  between (x ∷ (y ∷ ys)) d e l up f g =
      let n : length (x ∷ (y ∷ ys)) - 1 ≡ suc (length (y ∷ ys) - 1) = omega arith in
      let next = up.0.0 in
      let rest = between (y ∷ ys) d e (omega arith) up.1 (least_trans o low x y f next) (rw n at g) in
      ((f, least_trans o x y high next rest.0.1), rest)

  -- then all do
  pub between-ends : (xs : List A) (d e : A) → 0 < length xs → IsSorted cmp xs → IsAtMost cmp low (get_or xs 0 d) → IsAtMost cmp (get_or xs (length xs - 1) e) high →
      AllByRecursion (IsBetween cmp low high) xs
  between-ends xs d e l up = between xs d e l (Ordered-from_sorted cmp o xs up)
