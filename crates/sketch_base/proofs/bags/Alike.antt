-- Bags that are alike: their items compare equal place by place. Such bags answer alike, and stay alike under the same actions and bits,
-- so that clones and items that compare equal never matter.
use Rattle.std.proofs.Common.{◌≡◌, ℕ, zero, suc, Bool, true, false, List, [], ◌∷◌, ◌++◌, take, drop, ◌∙◌, Ordering, Equal, ◌+◌, ◌-◌, ◌*◌, ◌^◌, ◌%◌, cond, not, ◌&&◌, ◌==◌, IsTrue, length, count_by, refl, sym, ap, ap₂, subst, arith, if◌then◌else◌, Option, IsSorted}
use Rattle.std.specs.Cmp.{IsTotalOrder}
use Rattle.std.specs.List.{AllZip, AllByRecursion}
use Rattle.std.proofs.lemmas.Cmp.{tied_itself, tied_back}
use Rattle.sketch_base.specs.Bag.{SameItems, half, Bag, Taken, AllButLeftover, Lowest, Greatest, Alike, AlikeKll, AlikeReq, sort, cut, parity_up, level_at, with_level, compaction, weigh, weighted_rank}
use Rattle.std.proofs.lemmas.Grind.{common_steps}
use Rattle.std.proofs.lemmas.Bool.{false≢true, and_parts, eqb-true}
use Rattle.sketch_base.specs.declared.common.SearchCriteria.{SearchCriteria}
use Rattle.sketch_base.specs.Query.{counted}
use Rattle.sketch_base.proofs.bags.Acts.{sum_by-expanded}
use Rattle.sketch_base.specs.Trace.{Action, Put, Pull, Join, Compact, Forget, Redraw, Clear, Fresh, Turned, Work, changed, draws, next_bit, act, acts, is_kll_action, is_req_action, is_req}
use Rattle.sketch_base.proofs.order.Order.{SameCounts, SameCounts-append, SameCounts-from_items, SameCounts-from_sorted, sorted_items, same_length, parity-same, Ordered-from_sorted, sort-ordered}
use Rattle.sketch_base.proofs.unbiased.Mirrored.{level_at-none}
use Rattle.std.specs.Option.{option_to_list, unwrap_or}
use Rattle.sketch_base.specs.Queries.{SameAnswer}
use Rattle.sketch_base.specs.Spelling.{items_text}
use Rattle.sketch_base.specs.Tied.{TiesSpellOne}

-- Lists that compare equal place by place, and their parts.

-- each list compares equal to itself
pub SameItems-refl : {A : Type 0} (cmp : A → A → Ordering) → IsTotalOrder cmp → (xs : List A) → SameItems cmp xs xs
SameItems-refl cmp o [] = tt
SameItems-refl cmp o (x ∷ xs) = (tied_itself o x, SameItems-refl cmp o xs)

-- comparing equal is transitive
pub SameItems-trans : {A : Type 0} (cmp : A → A → Ordering) → IsTotalOrder cmp → (xs ys zs : List A) → SameItems cmp xs ys → SameItems cmp ys zs → SameItems cmp xs zs
SameItems-trans cmp o [] [] [] s t = tt
SameItems-trans cmp o (x ∷ xs) (y ∷ ys) (z ∷ zs) s t = (o.congr x y z s.0 ∙ t.0, SameItems-trans cmp o xs ys zs s.1 t.1)
SameItems-trans cmp o [] (y ∷ ys) zs s t = absurd s
SameItems-trans cmp o (x ∷ xs) [] zs s t = absurd s
SameItems-trans cmp o _ _ _ s t = absurd t

-- if two lists compare equal, so do their prefixes
pub SameItems-take : {A : Type 0} (cmp : A → A → Ordering) (n : ℕ) (xs ys : List A) → SameItems cmp xs ys → SameItems cmp (take n xs) (take n ys)
SameItems-take cmp (suc n) (x ∷ xs) (y ∷ ys) s = (s.0, SameItems-take cmp n xs ys s.1)
SameItems-take cmp (suc n) [] (y ∷ ys) s = absurd s
SameItems-take cmp (suc n) (x ∷ xs) [] s = absurd s
SameItems-take cmp _ _ _ s = tt

-- so do their suffixes
pub SameItems-drop : {A : Type 0} (cmp : A → A → Ordering) (n : ℕ) (xs ys : List A) → SameItems cmp xs ys → SameItems cmp (drop n xs) (drop n ys)
SameItems-drop cmp zero xs ys s = s
SameItems-drop cmp (suc n) [] [] s = tt
SameItems-drop cmp (suc n) (x ∷ xs) (y ∷ ys) s = SameItems-drop cmp n xs ys s.1
SameItems-drop cmp (suc n) _ _ s = absurd s

-- so do their halves
pub SameItems-half : {A : Type 0} (cmp : A → A → Ordering) (odd : Bool) (xs ys : List A) → SameItems cmp xs ys → SameItems cmp (half odd xs) (half odd ys)
SameItems-half cmp false [] [] s = tt
SameItems-half cmp true [] [] s = tt
SameItems-half cmp false (x ∷ xs) (y ∷ ys) s = (s.0, SameItems-half cmp true xs ys s.1)
SameItems-half cmp true (x ∷ xs) (y ∷ ys) s = SameItems-half cmp false xs ys s.1
SameItems-half cmp _ _ _ s = absurd s

-- so do the lists followed by lists that compare equal
pub SameItems-append : {A : Type 0} (cmp : A → A → Ordering) → (xs ys us vs : List A) → SameItems cmp xs ys → SameItems cmp us vs → SameItems cmp (xs ++ us) (ys ++ vs)
SameItems-append cmp [] [] us vs s t = t
SameItems-append cmp (x ∷ xs) (y ∷ ys) us vs s t = (s.0, SameItems-append cmp xs ys us vs s.1 t)
SameItems-append cmp _ _ us vs s t = absurd s

-- one or the other of two items that compare equal is appended
pub SameItems-last : {A : Type 0} (cmp : A → A → Ordering) → IsTotalOrder cmp → (x y : A) → cmp x y ≡ Equal → (xs : List A) → SameItems cmp (xs ++ x ∷ []) (xs ++ y ∷ [])
SameItems-last cmp o x y e xs = SameItems-append cmp xs xs (x ∷ []) (y ∷ []) (SameItems-refl cmp o xs) (e, tt)

-- comparing equal is symmetric
pub SameItems-back : {A : Type 0} {cmp : A → A → Ordering} → IsTotalOrder cmp → (xs ys : List A) → SameItems cmp xs ys → SameItems cmp ys xs
SameItems-back o [] [] s = tt
SameItems-back o (x ∷ xs) (y ∷ ys) s = (tied_back o x y s.0, SameItems-back o xs ys s.1)
SameItems-back o _ _ s = absurd s

-- clones compare equal to their originals
pub SameItems-clones : {A : Type 0} (cmp : A → A → Ordering) (is_clone : A → A → Type 0) → ((x y : A) → is_clone x y → cmp x y ≡ Equal) → (xs ys : List A) → AllZip is_clone xs ys → SameItems cmp xs ys
SameItems-clones cmp is_clone same [] [] h = tt
SameItems-clones cmp is_clone same (x ∷ xs) (y ∷ ys) h = (same x y h.0, SameItems-clones cmp is_clone same xs ys h.1)
SameItems-clones cmp is_clone same _ _ h = absurd h

-- Alike bags stay alike under the same actions and bits.

module _ {B : Type 0} where
  -- lists of levels that are related level by level stay so if both change level h to related levels
  zip-with_level : (R : List B → List B → Type 0) → R [] [] → (h : ℕ) (change change' : List B → List B) (xs ys : List (List B)) → AllZip R xs ys →
      R (change (level_at xs h)) (change' (level_at ys h)) → AllZip R (with_level [] h change xs) (with_level [] h change' ys)
  zip-with_level R r zero change change' [] [] z here = (here, tt)
  zip-with_level R r zero change change' (x ∷ xs) (y ∷ ys) z here = (here, z.1)
  zip-with_level R r (suc h) change change' [] [] z here = (r, zip-with_level R r h change change' [] [] tt (rw (level_at-none h) here))
  zip-with_level R r (suc h) change change' (x ∷ xs) (y ∷ ys) z here = (z.0, zip-with_level R r h change change' xs ys z.1 here)
  zip-with_level R r _ change change' _ _ z here = absurd z

  levels-from_zip : (R : List B → List B → Type 0) → R [] [] → (xs ys : List (List B)) → AllZip R xs ys → (i : ℕ) → R (level_at xs i) (level_at ys i)
  levels-from_zip R r [] [] h i = subst (λ l. R l l) (sym (level_at-none i)) r
  levels-from_zip R r (x ∷ xs) (y ∷ ys) h zero = h.0
  levels-from_zip R r (x ∷ xs) (y ∷ ys) h (suc i) = levels-from_zip R r xs ys h.1 i
  levels-from_zip R r _ _ h i = absurd h

module _ {A : Type 0} {cmp : A → A → Ordering} (order : IsTotalOrder cmp) where
  -- two bags are alike, as those of KLL if `in_list` is true, else as those of REQ
  record Like (in_list : Bool) (a b : Bag A) : Type 0 where
    levels : Alike cmp a b
    level_zero : in_list ≡ true → SameItems cmp (level_at a.levels 0) (level_at b.levels 0)
    flag : in_list ≡ true → a.is_sorted ≡ b.is_sorted
    kept : in_list ≡ false → (h : ℕ) → a.kept h ≡ b.kept h

  -- every query counts the same in corresponding levels
  counts : {in_list : Bool} (a b : Bag A) → Like in_list a b → (i : ℕ) → SameCounts order (level_at a.levels i) (level_at b.levels i)
  counts a b l i =
      SameCounts-from_sorted order (level_at a.levels i) (level_at b.levels i) (levels-from_zip (λ xs ys. SameItems cmp (sort cmp xs) (sort cmp ys)) tt a.levels b.levels l.levels i)

  kll-from : (a b : Bag A) → Like true a b → AlikeKll cmp a b
  kll-from a b h = record { levels = h.levels; level_zero = h.level_zero refl; flag = h.flag refl }

  req-from : (a b : Bag A) → Like false a b → AlikeReq cmp a b
  req-from a b h = record { levels = h.levels; kept = h.kept refl }

  -- two bags stay alike if level h of both changes alike
  like-changed : (in_list : Bool) (h : ℕ) (change change' : List A → List A) (flag flag' : Bool) (a b : Bag A) → Like in_list a b →
      SameCounts order (change (level_at a.levels h)) (change' (level_at b.levels h)) →
      (in_list ≡ true → h ≡ 0 → SameItems cmp (change (level_at a.levels h)) (change' (level_at b.levels h))) → (in_list ≡ true → flag ≡ flag') →
      Like in_list (record { levels = with_level [] h change a.levels; is_sorted = flag; kept = a.kept }) (record { levels = with_level [] h change' b.levels; is_sorted = flag'; kept = b.kept })
  like-changed in_list h change change' flag flag' a b l same items flags = grind (arith, common_steps, zip-with_level, sorted_items)

  at_zero : (in_list : Bool) (h : ℕ) (a b : Bag A) → Like in_list a b → in_list ≡ true → h ≡ 0 → SameItems cmp (level_at a.levels h) (level_at b.levels h)
  at_zero in_list h a b l e z = subst (λ j. SameItems cmp (level_at a.levels j) (level_at b.levels j)) (sym z) (l.level_zero e)

  -- cuts of alike levels leave and take items that compare equal
  cut-kll : (flag : Bool) (xs ys : List A) → (flag ≡ true → SameItems cmp xs ys) → SameCounts order xs ys →
      SameItems cmp (cut cmp AllButLeftover flag xs).0 (cut cmp AllButLeftover flag ys).0 × SameItems cmp (cut cmp AllButLeftover flag xs).1 (cut cmp AllButLeftover flag ys).1
  cut-kll true xs ys items counts =
      let n = length xs - length xs % 2 in
      let e : n ≡ length ys - length ys % 2 = ap (λ m. m - m % 2) (same_length order xs ys counts) in
      let pairs = items refl in (
        subst (λ m. SameItems cmp (drop n xs) (drop m ys)) e (SameItems-drop cmp n xs ys pairs),
        subst (λ m. SameItems cmp (sort cmp (take n xs)) (sort cmp (take m ys))) e
            (sorted_items order (take n xs) (take n ys) (SameCounts-from_items order (take n xs) (take n ys) (SameItems-take cmp n xs ys pairs))),
      )
  cut-kll false xs ys items counts =
      let n = length xs % 2 in
      let e : n ≡ length ys % 2 = ap (λ m. m % 2) (same_length order xs ys counts) in
      let pairs = sorted_items order xs ys counts in (
        subst (λ m. SameItems cmp (take n (sort cmp xs)) (take m (sort cmp ys))) e (SameItems-take cmp n (sort cmp xs) (sort cmp ys) pairs),
        subst (λ m. SameItems cmp (drop n (sort cmp xs)) (drop m (sort cmp ys))) e (SameItems-drop cmp n (sort cmp xs) (sort cmp ys) pairs),
      )

  cut-req : (taken : Taken) (flag flag' : Bool) (xs ys : List A) → is_req taken ≡ true → SameCounts order xs ys →
      SameItems cmp (cut cmp taken flag xs).0 (cut cmp taken flag' ys).0 × SameItems cmp (cut cmp taken flag xs).1 (cut cmp taken flag' ys).1
  cut-req AllButLeftover flag flag' xs ys req counts = absurd (false≢true req)
  cut-req (Lowest n) flag flag' xs ys req counts =
      let pairs = sorted_items order xs ys counts in
      (SameItems-drop cmp n (sort cmp xs) (sort cmp ys) pairs, SameItems-take cmp n (sort cmp xs) (sort cmp ys) pairs)
  cut-req (Greatest n) flag flag' xs ys req counts =
      let rest = length xs - n in
      let e : rest ≡ length ys - n = ap (λ m. m - n) (same_length order xs ys counts) in
      let pairs = sorted_items order xs ys counts in (
        subst (λ m. SameItems cmp (take rest (sort cmp xs)) (take m (sort cmp ys))) e (SameItems-take cmp rest (sort cmp xs) (sort cmp ys) pairs),
        subst (λ m. SameItems cmp (drop rest (sort cmp xs)) (drop m (sort cmp ys))) e (SameItems-drop cmp rest (sort cmp xs) (sort cmp ys) pairs),
      )

  -- two bags stay alike after compactions by the same bit, if what the cuts leave and take compares equal
  like-compact : (in_list : Bool) (h : ℕ) (taken : Taken) (bit bit' : Bool) (a b : Bag A) → Like in_list a b → bit ≡ bit' →
      SameItems cmp (cut cmp taken (h == 0 && not a.is_sorted) (level_at a.levels h)).0 (cut cmp taken (h == 0 && not b.is_sorted) (level_at b.levels h)).0
      × SameItems cmp (cut cmp taken (h == 0 && not a.is_sorted) (level_at a.levels h)).1 (cut cmp taken (h == 0 && not b.is_sorted) (level_at b.levels h)).1 →
      Like in_list (record (compaction cmp h taken bit a) { kept = changed a.kept h bit }) (record (compaction cmp h taken bit' b) { kept = changed b.kept h bit' })
  like-compact in_list h taken bit bit' a b l e parts =
      let left = (cut cmp taken (h == 0 && not a.is_sorted) (level_at a.levels h)).0 in
      let left' = (cut cmp taken (h == 0 && not b.is_sorted) (level_at b.levels h)).0 in
      let items = (cut cmp taken (h == 0 && not a.is_sorted) (level_at a.levels h)).1 in
      let items' = (cut cmp taken (h == 0 && not b.is_sorted) (level_at b.levels h)).1 in
      let above = level_at a.levels (suc h) in
      let above' = level_at b.levels (suc h) in
      let up = half (parity_up taken bit above) items in
      let up' = half (parity_up taken bit' above') items' in
      let parity : parity_up taken bit above ≡ parity_up taken bit' above' = parity-same order taken bit above above' (counts a b l (suc h)) ∙ ap (λ b. parity_up taken b above') e in
      let ups : SameItems cmp up up' = subst (λ p. SameItems cmp up (half p items')) parity (SameItems-half cmp (parity_up taken bit above) items items' parts.1) in
      let inner = like-changed in_list h (λ level. left) (λ level. left') a.is_sorted b.is_sorted a b l (SameCounts-from_items order left left' parts.0) (λ _ _. parts.0) l.flag in
      let one : Bag A = record { levels = with_level [] h (λ level. left) a.levels; is_sorted = a.is_sorted; kept = a.kept } in
      let one' : Bag A = record { levels = with_level [] h (λ level. left') b.levels; is_sorted = b.is_sorted; kept = b.kept } in
      let outer = like-changed in_list (suc h) (λ level. level ++ up) (λ level. level ++ up') a.is_sorted b.is_sorted one one' inner
      (SameCounts-append order (level_at one.levels (suc h)) (level_at one'.levels (suc h)) up up' (counts one one' inner (suc h)) (SameCounts-from_items order up up' ups))
      (λ _ z. absurd (omega (arith, z))) l.flag in
      record {
        levels = outer.levels;
        level_zero = outer.level_zero;
        flag = outer.flag;
        kept = λ no_list i. ap₂ (λ (k : Bool) bit. if i == h then bit else k) (l.kept no_list i) e;
      }

  may_act : Bool → Action A → Bool
  may_act true action = is_kll_action action
  may_act false action = is_req_action action

  like-act : (in_list : Bool) (action : Action A) (next : Bool) (a b : Work (Bag A)) → may_act in_list action ≡ true → Like in_list a.bag b.bag → Like in_list a.scratch b.scratch →
      Like in_list (act cmp action next a).bag (act cmp action next b).bag × Like in_list (act cmp action next a).scratch (act cmp action next b).scratch
  unfolding may_act
  like-act in_list (Put h x) next a b may l s = (
    like-changed in_list h (λ level. level ++ x ∷ []) (λ level. level ++ x ∷ []) (a.bag.is_sorted && not (h == 0)) (b.bag.is_sorted && not (h == 0)) a.bag b.bag l
        (SameCounts-append order (level_at a.bag.levels h) (level_at b.bag.levels h) (x ∷ []) (x ∷ []) (counts a.bag b.bag l h) (λ z c. refl))
        (λ e z. SameItems-append cmp (level_at a.bag.levels h) (level_at b.bag.levels h) (x ∷ []) (x ∷ []) (at_zero in_list h a.bag b.bag l e z) (tied_itself order x, tt))
        (λ e. ap (λ f. f && not (h == 0)) (l.flag e)),
    s,
  )
  like-act true Pull next a b may l s =
      let top = level_at a.scratch.levels 0 in
      let top' = level_at b.scratch.levels 0 in
      let fronts = SameItems-take cmp 1 top top' (s.level_zero refl) in
      let rests = SameItems-drop cmp 1 top top' (s.level_zero refl) in (
        like-changed true 0 (λ level. level ++ take 1 top) (λ level. level ++ take 1 top') false false a.bag b.bag l
            (SameCounts-append order (level_at a.bag.levels 0) (level_at b.bag.levels 0) (take 1 top) (take 1 top') (counts a.bag b.bag l 0)
            (SameCounts-from_items order (take 1 top) (take 1 top') fronts))
            (λ e z. SameItems-append cmp (level_at a.bag.levels 0) (level_at b.bag.levels 0) (take 1 top) (take 1 top') (l.level_zero e) fronts) (λ e. refl),
        like-changed true 0 (λ level. drop 1 top) (λ level. drop 1 top') a.scratch.is_sorted b.scratch.is_sorted a.scratch b.scratch s
            (SameCounts-from_items order (drop 1 top) (drop 1 top') rests) (λ e z. rests) s.flag,
      )
  like-act in_list (Join h) next a b may l s =
      let top = level_at a.scratch.levels h in
      let top' = level_at b.scratch.levels h in (
        like-changed in_list h (λ level. level ++ top) (λ level. level ++ top') a.bag.is_sorted b.bag.is_sorted a.bag b.bag l
            (SameCounts-append order (level_at a.bag.levels h) (level_at b.bag.levels h) top top' (counts a.bag b.bag l h) (counts a.scratch b.scratch s h))
            (λ e z. SameItems-append cmp (level_at a.bag.levels h) (level_at b.bag.levels h) top top' (at_zero in_list h a.bag b.bag l e z) (at_zero in_list h a.scratch b.scratch s e z))
            l.flag,
        like-changed in_list h (λ level. []) (λ level. []) a.scratch.is_sorted b.scratch.is_sorted a.scratch b.scratch s (λ z c. refl) (λ e z. tt) s.flag,
      )
  like-act true (Compact h Fresh AllButLeftover) next a b may l s = (
    like-compact true h AllButLeftover next next a.bag b.bag l refl (subst (λ f. SameItems cmp (cut cmp AllButLeftover (h == 0 && not a.bag.is_sorted) (level_at a.bag.levels h)).0
        (cut cmp AllButLeftover (h == 0 && not f) (level_at b.bag.levels h)).0
        × SameItems cmp (cut cmp AllButLeftover (h == 0 && not a.bag.is_sorted) (level_at a.bag.levels h)).1 (cut cmp AllButLeftover (h == 0 && not f) (level_at b.bag.levels h)).1)
        (l.flag refl) (cut-kll (h == 0 && not a.bag.is_sorted) (level_at a.bag.levels h) (level_at b.bag.levels h)
        (λ e. at_zero true h a.bag b.bag l refl (eqb-true h 0 (and_parts (h == 0) (not a.bag.is_sorted) e).0)) (counts a.bag b.bag l h))),
    s,
  )
  like-act false (Compact h Fresh taken) next a b may l s = (
    like-compact false h taken next next a.bag b.bag l refl
        (cut-req taken (h == 0 && not a.bag.is_sorted) (h == 0 && not b.bag.is_sorted) (level_at a.bag.levels h) (level_at b.bag.levels h) may (counts a.bag b.bag l h)),
    s,
  )
  like-act false (Compact h Turned taken) next a b may l s = (
    like-compact false h taken (not (a.bag.kept h)) (not (b.bag.kept h)) a.bag b.bag l (ap not (l.kept refl h))
        (cut-req taken (h == 0 && not a.bag.is_sorted) (h == 0 && not b.bag.is_sorted) (level_at a.bag.levels h) (level_at b.bag.levels h) may (counts a.bag b.bag l h)),
    s,
  )
  like-act in_list Forget next a b may l s = (record { levels = l.levels; level_zero = l.level_zero; flag = l.flag; kept = λ e h. refl }, s)
  like-act false (Redraw h) next a b may l s =
      (record { levels = l.levels; level_zero = l.level_zero; flag = l.flag; kept = λ e i. ap (λ (k : Bool). if i == h then next else k) (l.kept e i) }, s)
  like-act in_list Clear next a b may l s = (record { levels = (tt, tt); level_zero = λ e. tt; flag = λ e. refl; kept = λ e h. refl }, s)
  like-act _ _ next a b may l s = absurd (false≢true may)

  like-acts : (in_list : Bool) (actions : List (Action A)) (word : List Bool) (a b : Work (Bag A)) → AllByRecursion (λ action. may_act in_list action ≡ true) actions →
      Like in_list a.bag b.bag → Like in_list a.scratch b.scratch → Like in_list (acts cmp actions word a).bag (acts cmp actions word b).bag
  like-acts in_list [] word a b may l s = l
  like-acts in_list (action ∷ rest) word a b may l s =
      let both = like-act in_list action (next_bit word) a b may.0 l s in
      like-acts in_list rest (if draws action then drop 1 word else word) (act cmp action (next_bit word) a) (act cmp action (next_bit word) b) may.1 both.0 both.1

  -- alike bags stay alike under a KLL sketch's actions
  pub acts-kll : (actions : List (Action A)) (word : List Bool) (a b : Work (Bag A)) → AllByRecursion (λ action. IsTrue (is_kll_action action)) actions → AlikeKll cmp a.bag b.bag →
      AlikeKll cmp a.scratch b.scratch → AlikeKll cmp (acts cmp actions word a).bag (acts cmp actions word b).bag
  unfolding may_act
  acts-kll actions word a b may l s = kll-from _ _ (like-acts true actions word a b may (grind (arith, common_steps, false≢true)) (grind (arith, common_steps, false≢true)))

  -- alike bags stay alike under a REQ sketch's actions
  pub acts-req : (actions : List (Action A)) (word : List Bool) (a b : Work (Bag A)) → AllByRecursion (λ action. IsTrue (is_req_action action)) actions → AlikeReq cmp a.bag b.bag →
      AlikeReq cmp a.scratch b.scratch → AlikeReq cmp (acts cmp actions word a).bag (acts cmp actions word b).bag
  unfolding may_act
  acts-req actions word a b may l s = req-from _ _ (like-acts false actions word a b may (grind (arith, common_steps, false≢true)) (grind (arith, common_steps, false≢true)))

  -- a query has the same weighted count over alike levels
  weigh-alike : (z : A) (criteria : SearchCriteria) (h : ℕ) (xs ys : List (List A)) → AllZip (λ xs ys. SameItems cmp (sort cmp xs) (sort cmp ys)) xs ys →
      weigh (count_by (counted cmp z criteria)) h xs ≡ weigh (count_by (counted cmp z criteria)) h ys
  weigh-alike z criteria h [] [] e = refl
  weigh-alike z criteria h (x ∷ xs) (y ∷ ys) e = ap₂ (λ m n. 2 ^ h * m + n) (SameCounts-from_sorted order x y e.0 z criteria) (weigh-alike z criteria (suc h) xs ys e.1)
  weigh-alike z criteria h _ _ e = absurd e

  -- alike bags have the same ranks
  pub rank-alike : (z : A) (criteria : SearchCriteria) (a b : Bag A) → Alike cmp a b → weighted_rank cmp (counted cmp z criteria) a ≡ weighted_rank cmp (counted cmp z criteria) b
  rank-alike z criteria a b e = sum_by-expanded (λ x. cond (counted cmp z criteria x) 1 0) cmp a ∙
      (weigh-alike z criteria 0 a.levels b.levels e ∙ sym (sum_by-expanded (λ x. cond (counted cmp z criteria x) 1 0) cmp b))

-- Lists that compare equal place by place: sorted ones of the same items, and what is spelled for them.

-- the items of answers that compare equal
pub same-ends : {A : Type 0} (cmp : A → A → Ordering) (a b : Option A) → SameAnswer cmp a b → SameItems cmp (option_to_list a) (option_to_list b)
same-ends cmp a b s = grind (arith, common_steps)

module _ {A : Type 0} {cmp : A → A → Ordering} where
  -- sorted lists of the same items compare equal
  pub same-sorted : IsTotalOrder cmp → (xs ys : List A) → SameItems cmp (sort cmp xs) (sort cmp ys) → IsSorted cmp xs → IsSorted cmp ys → SameItems cmp xs ys
  same-sorted order xs ys s a b =
      SameItems-trans cmp order xs (sort cmp xs) ys (SameItems-back order (sort cmp xs) xs (put xs a)) (SameItems-trans cmp order (sort cmp xs) (sort cmp ys) ys s (put ys b))
    where
      put : (zs : List A) → IsSorted cmp zs → SameItems cmp (sort cmp zs) zs
      put zs h = sort-ordered cmp order zs (Ordered-from_sorted cmp order zs h)

  module _ {spelling : A → Option (List ℕ)} (tied : TiesSpellOne cmp spelling) where
    -- what is spelled for lists that compare equal is the same
    pub same-text : (xs ys : List A) → SameItems cmp xs ys → items_text spelling xs ≡ items_text spelling ys
    same-text [] [] s = refl
    same-text (x ∷ xs) (y ∷ ys) s = ap₂ (λ (a b : List ℕ). a ++ b) (ap (λ (o : Option (List ℕ)). unwrap_or o []) (tied x y s.0)) (same-text xs ys s.1)
    same-text _ _ s = absurd s
