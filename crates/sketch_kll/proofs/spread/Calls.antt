-- Updates and merges keep the bound on the spread, and so does each list of them if no coin comes in twice. What calls do to the shares of a sketch.
use Rattle.std.proofs.lemmas.Grind.{common_steps}
use Rattle.std.proofs.Common.{◌≡◌, ℕ, zero, suc, ◌+◌, ◌-◌, ◌*◌, ◌/◌, ◌%◌, ◌^◌, ◌<◌, ◌≤◌, min, List, [], ◌∷◌, ◌++◌, length, sum, slice_index, refl, arith, inl, inr, mul-le-mul_right, sym, ap, subst, leb-true, ltb-false, Bool, true, false, ◌&&◌, ◌==◌, if◌then◌else◌, IsTrue, map, ◌∙◌}
use Rattle.std.specs.Prelude.{⊤}
use Rattle.std.proofs.lemmas.Bool.{cases_lt, cases_Bool, or_parts, ne_eqb, eqb-false, and_right}
use Rattle.std.proofs.lemmas.List.Sums.{sum_by-cons}
use Rattle.sketch_base.specs.Bag.{AllButLeftover}
use Rattle.sketch_base.specs.Trace.{Action, Pull, Join, Compact, Fresh, Work, Put, joins_actions, Snap, At, changed}
use Rattle.sketch_base.specs.Lengths.{act_on_lengths, acts_on_lengths}
use Rattle.sketch_kll.specs.Capacity.{capacity_at}
use Rattle.sketch_kll.proofs.layout.Full.{capacity_top, capacity_eight}
use Rattle.sketch_kll.proofs.spread.Rolled.{along, four, eight, rising_weight, along-up, IsRolled, CompactsMany, rolled-like, rolled-move, rolled-compact, many-further, flat, next-two, length-with, rolled-put, rolled-little}
use Rattle.sketch_base.proofs.bags.Acts.{acts_on-append, changed-there}
use Rattle.sketch_kll.specs.Schedule.{lengths_after_actions, actions_if_full, updated_lengths, walk_actions, update_actions, updates_actions, passes_at, compress_actions}
use Rattle.sketch_kll.specs.Merge.{pull_actions, pulls_actions, taking_actions, merge_actions}
use Rattle.sketch_kll.proofs.plays.Updates.{lowest_full_due, length-with_level, work_of, update_is}
use Rattle.sketch_kll.proofs.plays.Compresses.{step_passed, step_compacted}
use Rattle.sketch_kll.proofs.merges.Actions.{room_full, room_spare, pulls_are, merge_is}
use Rattle.sketch_base.specs.Shares.{shares_after, all_shares, share_no_coin, once_after, takes_once}
use Rattle.sketch_base.proofs.spread.Squares.{AreAsMany, squared, squared-both, squared-compact, once-put}
use Rattle.sketch_kll.specs.Weighted.{puts_actions, weighted_actions}
use Rattle.sketch_kll.specs.Spread.{IsLittle, UpdatesAreSharp}

-- The actions of an update and of a merge keep the bound on the level lengths of a sketch and on its spread.

-- ---- sketches side by side

-- a sketch with no item is within the bound
pub rolled-none : (k : ℕ) → IsRolled k (0 ∷ []) [] 0 0
rolled-none k = grind (arith, common_steps)

-- the bound on the spread under a higher top
lifted : (k : ℕ) (bag : List ℕ) (n s : ℕ) (i : IsRolled k bag [] n s) (more : ℕ) → 8 * (k * s * 2 ^ (more + i.top)) ≤ 30 * along (rising_weight (more + i.top)) bag
lifted k bag n s i zero =
    let same : zero + i.top ≡ i.top = omega arith in
    elim (cases_lt 0 i.top) [
      | inl l ↦ rw same (omega (arith, i.steep l))
      | inr le ↦ rw (flat k bag [] n s i (omega (arith, le))) (omega arith)
    ]
lifted k bag n s i (suc more) =
    let higher : suc more + i.top ≡ suc (more + i.top) = omega arith in
    rw (higher, next-two (more + i.top), along-up (more + i.top) bag (omega (arith, i.bag_fits))) (omega (arith, lifted k bag n s i more))

beside-below : (j k k' : ℕ) (bag other : List ℕ) (n s n' s' : ℕ) → j ≤ k → j ≤ k' → (a : IsRolled k bag [] n s) (b : IsRolled k' other [] n' s') → b.top ≤ a.top →
    IsRolled j bag other (n + n') (s + s')
beside-below j k k' bag other n s n' s' l l' a b h =
    let is : (a.top - b.top) + b.top ≡ a.top = omega (arith, h) in
    let most : j * (8 * (s * 2 ^ a.top) + 5 * eight a.top) ≤ k * (8 * (s * 2 ^ a.top) + 5 * eight a.top) = mul-le-mul_right (8 * (s * 2 ^ a.top) + 5 * eight a.top) l in
    record {
      top = a.top;
      bag_fits = a.bag_fits;
      scratch_fits = omega (arith, b.bag_fits, h);
      weighs = omega (arith, a.weighs, b.weighs);
      squares = omega (arith, a.squares, b.squares);
      high = λ i e. omega (arith, mul-le-mul_right (2 ^ i) l, a.high i e);
      steep = λ t. omega (arith, a.steep t, rw is at (lifted k' other n' s' b (a.top - b.top)), most, mul-le-mul_right (s' * 2 ^ a.top) l');
    }

-- the bound holds for two sketches side by side that share no coin, so that their spreads add up
pub rolled-beside : (j k k' : ℕ) (bag other : List ℕ) (n s n' s' : ℕ) → j ≤ k → j ≤ k' → IsRolled k bag [] n s → IsRolled k' other [] n' s' → IsRolled j bag other (n + n') (s + s')
rolled-beside j k k' bag other n s n' s' l l' a b =
    elim (cases_lt a.top b.top) [
      | inl less ↦
          let items : n' + n ≡ n + n' = omega arith in
          let coins : s' + s ≡ s + s' = omega arith in
          let beside = beside-below j k' k other bag n' s' n s l' l b a (omega (arith, less)) in
          rw (items, coins) at (rolled-like j other bag bag other (n' + n) (s' + s) beside beside.scratch_fits beside.bag_fits (λ f. omega arith))
      | inr le ↦ beside-below j k k' bag other n s n' s' l l' a b le
    ]

along-none : (f : ℕ → ℕ) (ns : List ℕ) → sum ns ≡ 0 → along f ns ≡ 0
along-none f [] e = refl
along-none f (n ∷ ns) e =
    let parts = sum_by-cons (λ (m : ℕ). m) n ns in
    let none : n ≡ 0 = omega (arith, e, parts) in
    rw none (omega (arith, along-none (λ h. f (suc h)) ns (omega (arith, e, parts))))

-- a scratch that holds nothing may be left out
pub rolled-emptied : (k : ℕ) (bag scratch : List ℕ) (n s : ℕ) → IsRolled k bag scratch n s → sum scratch ≡ 0 → IsRolled k bag [] n s
rolled-emptied k bag scratch n s i e = rolled-like k bag scratch bag [] n s i i.bag_fits (omega arith) (λ f. omega (arith, along-none f scratch e))

-- an empty scratch adds nothing
pub rolled-spare : (k : ℕ) (bag : List ℕ) (n s : ℕ) → IsRolled k bag [] n s → IsRolled k bag (0 ∷ []) n s
rolled-spare k bag n s i = rolled-like k bag [] bag (0 ∷ []) n s i i.bag_fits (omega arith) (λ f. omega arith)

-- if there is only one level, k does not matter
pub rolled-flat : (k j : ℕ) (bag : List ℕ) (n s : ℕ) → IsRolled k bag [] n s → length bag ≤ 1 → IsRolled j bag [] n s
rolled-flat k j bag n s i b = grind (arith, common_steps)

-- ---- compactions that are due

compacts-many : (j k top h : ℕ) (bag : List ℕ) → j ≤ k → length bag ≤ top + 1 → h < length bag → capacity_at k 8 (length bag - 1 - h) ≤ slice_index bag h →
    (let l = slice_index bag h in CompactsMany j bag top h (l - (l - l % 2)) ((l - l % 2) / 2))
compacts-many j k top h bag le fits there due =
    let l = slice_index bag h in
    let e : 2 * ((l - l % 2) / 2) ≡ l - l % 2 = omega arith in
    record {
      there = there;
      splits = omega arith;
      eight_go = omega (arith, capacity_eight k (length bag - 1 - h), due);
      many_go = rw e (many-further j k (length bag - 1 - h) (top - h) l le (omega (arith, fits)) due);
      many_are = grind (arith, common_steps, capacity_top);
    }

module _ {A : Type 0} where
  -- Pulls, Joins, and compactions of levels at or over their capacity
  abbrev pub IsDue : ℕ → List (Action A) → Work (List ℕ) → Type 0
  IsDue k [] work = ⊤
  IsDue k (Compact h Fresh AllButLeftover ∷ rest) work =
      (h < length work.bag) × (capacity_at k 8 (length work.bag - 1 - h) ≤ slice_index work.bag h) × IsDue k rest (act_on_lengths {A = A} (Compact h Fresh AllButLeftover) work)
  IsDue k (Pull ∷ rest) work = (0 < length work.scratch) × IsDue k rest (act_on_lengths {A = A} Pull work)
  IsDue k (Join h ∷ rest) work = (h < length work.scratch) × IsDue k rest (act_on_lengths {A = A} (Join h) work)
  IsDue k (action ∷ rest) work = ⊥

  -- due actions after due actions are due
  pub due-append : (k : ℕ) (xs ys : List (Action A)) (work : Work (List ℕ)) → IsDue k xs work → IsDue k ys (acts_on_lengths xs work) → IsDue k (xs ++ ys) work
  due-append k [] ys work f g = g
  due-append k (Compact h Fresh AllButLeftover ∷ rest) ys work f g = (f.0, f.1, due-append k rest ys _ f.2 g)
  due-append k (Pull ∷ rest) ys work f g = (f.0, due-append k rest ys _ f.1 g)
  due-append k (Join h ∷ rest) ys work f g = (f.0, due-append k rest ys _ f.1 g)
  due-append k (action ∷ rest) ys work f g = absurd f

  -- what the coins of these actions add to the spread
  abbrev pub cost : List (Action A) → ℕ
  cost [] = 0
  cost (Compact h coin taken ∷ rest) = four h + cost rest
  cost (action ∷ rest) = cost rest

  -- due actions keep the bound, with their cost added to the spread
  pub rolled-acts : (j k : ℕ) → j ≤ k → (actions : List (Action A)) (work : Work (List ℕ)) (n s : ℕ) → IsDue k actions work → IsRolled j work.bag work.scratch n s →
      IsRolled j (acts_on_lengths actions work).bag (acts_on_lengths actions work).scratch n (s + cost actions)
  rolled-acts j k l [] work n s f i = let same : s + 0 ≡ s = omega arith in rw same i
  rolled-acts j k l (Compact h Fresh AllButLeftover ∷ rest) work n s f i =
      let len : ℕ = slice_index work.bag h in
      let step = rolled-compact j h (len - (len - len % 2)) ((len - len % 2) / 2) work.bag work.scratch n s i (compacts-many j k i.top h work.bag l i.bag_fits f.0 f.1) in
      let e : s + (four h + cost rest) ≡ s + four h + cost rest = omega arith in
      rw e (rolled-acts j k l rest (act_on_lengths {A = A} (Compact h Fresh AllButLeftover) work) n (s + four h) f.2 step)
  rolled-acts j k l (Pull ∷ rest) work n s f i =
      let c : ℕ = slice_index work.scratch 0 in
      rolled-acts j k l rest (act_on_lengths {A = A} Pull work) n s f.1 (rolled-move j 0 (min 1 c) (c - 1) work.bag work.scratch n s i f.0 (omega arith))
  rolled-acts j k l (Join h ∷ rest) work n s f i =
      let c : ℕ = slice_index work.scratch h in
      rolled-acts j k l rest (act_on_lengths {A = A} (Join h) work) n s f.1 (rolled-move j h c 0 work.bag work.scratch n s i f.0 (omega arith))
  rolled-acts j k l (action ∷ rest) work n s f i = absurd f

-- An update and a merge keep the bound on the level lengths of a sketch and on its spread.

-- a level that holds an item exists
level_there : (h : ℕ) (ns : List ℕ) → 0 < slice_index ns h → h < length ns
level_there zero (n ∷ ns) b = omega arith
level_there (suc h) (n ∷ ns) b = omega (arith, level_there h ns b)
level_there h [] b = absurd (omega (arith, b))

module _ (A : Type 0) where
  -- actions that make room for an item: they are due, keep at least one level, and leave the scratch unchanged
  pub record RoomIs (k : ℕ) (work : Work (List ℕ)) (actions : List (Action A)) : Type 0 where
    pub due : IsDue k actions work
    pub some : 0 < length (acts_on_lengths actions work).bag
    pub keeps : (scratch : List ℕ) → work.scratch ≡ scratch → (acts_on_lengths actions work).scratch ≡ scratch

  -- the actions that make room are such actions
  pub room_is : (k : ℕ) (work : Work (List ℕ)) → 0 < length work.bag → RoomIs k work (actions_if_full k work.bag)
  room_is k work h = grind (arith, common_steps, cases_Bool, lowest_full_due, leb-true, length-with_level, room_full, room_spare)

  -- all Pulls are due
  pulls_due : (k n : ℕ) (rest : List ℕ) (work : Work (List ℕ)) → 0 < length work.bag → work.scratch ≡ n ∷ rest → IsDue {A = A} k (pulls_actions k n work) work
  pulls_due k zero rest work h e = tt
  pulls_due k (suc n) rest work h e =
      let room : List (Action A) = actions_if_full k work.bag in
      let r = room_is k work h in
      let mid : Work (List ℕ) = acts_on_lengths room work in
      let next : Work (List ℕ) = acts_on_lengths {A = A} (pull_actions k work.bag) work in
      let split : next ≡ act_on_lengths {A = A} Pull mid = acts_on-append room (Pull ∷ []) work in
      let held : mid.scratch ≡ suc n ∷ rest = r.keeps (suc n ∷ rest) e in
      let fewer : suc n - 1 ≡ n = omega arith in
      let left : next.scratch ≡ n ∷ rest = rw (split, held, fewer) in
      let some : 0 < length next.bag = rw split (length-with_level 0 (λ m. m + min 1 (slice_index mid.scratch 0)) mid.bag) in
      due-append k (pull_actions k work.bag) (pulls_actions k n next) work (due-append k room (Pull ∷ []) work r.due (rw held (omega arith), tt)) (pulls_due k n rest next some left)

  joins_due : (k more level : ℕ) (work : Work (List ℕ)) → level + more ≤ length work.scratch → IsDue {A = A} k (joins_actions more level) work
  joins_due k zero level work b = tt
  joins_due k (suc more) level work b =
      (omega (arith, b), joins_due k more (suc level) (act_on_lengths {A = A} (Join level) work) (omega (arith, b, length-with level (λ m. 0) work.scratch)))

  -- general compress is due, whatever is in the scratch
  walk_due : (k more level : ℕ) (work : Work (List ℕ)) → IsDue {A = A} k (walk_actions k more level work.bag) work
  unfolding walk_actions
  walk_due k zero level work = tt
  walk_due k (suc more) level work = grind (arith, common_steps, cases_Bool, step_passed, ltb-false, or_parts, level_there, capacity_eight, step_compacted, walk_due k more (suc level) work, walk_due k more (suc level) (act_on_lengths {A = A} (Compact level Fresh AllButLeftover) work))

  taking_due : (k : ℕ) (work : Work (List ℕ)) → 0 < length work.bag → IsDue {A = A} k (taking_actions k work) work
  taking_due k work h = go work.scratch refl
    where
      go : (scratch : List ℕ) → work.scratch ≡ scratch → IsDue {A = A} k (pulls_actions k (slice_index work.scratch 0) work ++ joins_actions (length work.scratch - 1) 1) work
      go [] e = rw e tt
      go (n ∷ rest) e =
          let pulls : List (Action A) = pulls_actions k n work in
          let joins : List (Action A) = joins_actions (suc (length rest) - 1) 1 in
          let left = (pulls_are {A = A} k n rest work h e).scratch in
          let P : List ℕ → Type 0 = λ (s : List ℕ). IsDue {A = A} k (pulls_actions k (slice_index s 0) work ++ joins_actions (length s - 1) 1) work in
          subst P (sym e) (due-append k pulls joins work (pulls_due k n rest work h e) (joins_due k (suc (length rest) - 1) 1 (acts_on_lengths pulls work) (omega (arith, ap length left))))

  -- the actions of a merge are due
  pub merge_due : (k : ℕ) (work : Work (List ℕ)) → 0 < length work.bag → IsDue {A = A} k (merge_actions k work) work
  merge_due k work h = grind (arith, common_steps, due-append, taking_due, walk_due)

  -- a merge of a sketch with which no coin is shared keeps the bound: both spreads and the cost of the merge add up
  pub rolled-merge : (j mine its k : ℕ) (bag other : List ℕ) (n s n' s' : ℕ) → j ≤ mine → j ≤ its → j ≤ k → 0 < length bag →
      IsRolled mine bag [] n s → IsRolled its other [] n' s' →
      (let work : Work (List ℕ) = record { bag = bag; scratch = other } in
      IsRolled j (acts_on_lengths {A = A} (merge_actions k work) work).bag [] (n + n') (s + s' + cost {A = A} (merge_actions k work)))
  rolled-merge j mine its k bag other n s n' s' a b c some i o =
      let work : Work (List ℕ) = record { bag = bag; scratch = other } in
      let r = rolled-acts {A = A} j k c (merge_actions k work) work (n + n') (s + s') (merge_due k work some) (rolled-beside j mine its bag other n s n' s' a b i o) in
      rolled-emptied j _ _ (n + n') _ r (merge_is {A = A} k work some).empties

  -- an update keeps the bound, if the sketch's `min_k` is at most its k
  pub rolled-update : (j k : ℕ) (bag : List ℕ) (n s : ℕ) (x : A) → j ≤ k → 0 < length bag → IsRolled j bag [] n s →
      IsRolled j (updated_lengths k bag x) [] (n + 1) (s + cost {A = A} (actions_if_full k bag))
  rolled-update j k bag n s x l some i =
      let work : Work (List ℕ) = work_of bag in
      let room : List (Action A) = actions_if_full k bag in
      let is = room_is k work some in
      let r = rolled-acts {A = A} j k l room work n s is.due (rolled-spare j bag n s i) in
      let put = rolled-put j _ _ n _ r in
      let out = rolled-emptied j _ _ (n + 1) _ put (ap sum (is.keeps (0 ∷ []) refl)) in
      rw (acts_on-append room (Put 0 x ∷ []) work, updated_lengths, lengths_after_actions) out

-- What calls do to the shares of a sketch, and to whether it took each coin in once: an update, updates alone, a merge, and an
-- update with a weight.

-- ---- actions that are due

module _ {A : Type 0} where
  -- they add the squares of their coins' shares
  acts-shares : (s k : ℕ) (actions : List (Action A)) (work : Work (List ℕ)) (shares : ℕ → List ℕ) → IsDue k actions work →
      squared (all_shares (map (λ action. At s action) actions) shares s) ≡ squared (shares s) + cost actions
  acts-shares s k [] work shares due = omega arith
  acts-shares s k (Compact h Fresh AllButLeftover ∷ rest) work shares due =
      let next : ℕ → List ℕ = shares_after {A = A} (At s (Compact h Fresh AllButLeftover)) shares in
      rw (acts-shares s k rest (act_on_lengths {A = A} (Compact h Fresh AllButLeftover) work) next due.2, squared-compact A s h AllButLeftover shares) (omega arith)
  acts-shares s k (Pull ∷ rest) work shares due = acts-shares s k rest (act_on_lengths {A = A} Pull work) shares due.1
  acts-shares s k (Join h ∷ rest) work shares due = acts-shares s k rest (act_on_lengths {A = A} (Join h) work) shares due.1
  acts-shares s k (action ∷ rest) work shares due = absurd due

  -- they bring no coin in twice
  acts-once : (s k : ℕ) (actions : List (Action A)) (work : Work (List ℕ)) (shares : ℕ → List ℕ) (once : ℕ → Bool) → IsDue k actions work →
      takes_once (map (λ action. At s action) actions) shares once ≡ once
  acts-once s k [] work shares once due = refl
  acts-once s k (Compact h Fresh AllButLeftover ∷ rest) work shares once due =
      acts-once s k rest (act_on_lengths {A = A} (Compact h Fresh AllButLeftover) work) (shares_after {A = A} (At s (Compact h Fresh AllButLeftover)) shares) once due.2
  acts-once s k (Pull ∷ rest) work shares once due = acts-once s k rest (act_on_lengths {A = A} Pull work) shares once due.1
  acts-once s k (Join h ∷ rest) work shares once due = acts-once s k rest (act_on_lengths {A = A} (Join h) work) shares once due.1
  acts-once s k (action ∷ rest) work shares once due = absurd due

module _ {A : Type 0} (s : ℕ) where
  abbrev once_by : List (Action A) → (ℕ → List ℕ) → (ℕ → Bool) → ℕ → Bool
  once_by actions shares once = takes_once (map (λ action. At s action) actions) shares once

  abbrev shares_by : List (Action A) → (ℕ → List ℕ) → ℕ → List ℕ
  shares_by actions shares = all_shares (map (λ action. At s action) actions) shares

  once_by-append : (xs ys : List (Action A)) (shares : ℕ → List ℕ) (once : ℕ → Bool) → once_by (xs ++ ys) shares once ≡ once_by ys (shares_by xs shares) (once_by xs shares once)
  once_by-append [] ys shares once = refl
  once_by-append (action ∷ xs) ys shares once = once_by-append xs ys (shares_after (At s action) shares) (once_after (At s action) shares once)

  shares_by-append : (xs ys : List (Action A)) (shares : ℕ → List ℕ) → shares_by (xs ++ ys) shares ≡ shares_by ys (shares_by xs shares)
  shares_by-append [] ys shares = refl
  shares_by-append (action ∷ xs) ys shares = shares_by-append xs ys (shares_after (At s action) shares)

module _ {A : Type 0} where
  -- ---- an update

  -- the squares of the shares after an update
  pub update-costs : (s k : ℕ) (lengths : List ℕ) (x : A) (shares : ℕ → List ℕ) → 0 < length lengths →
      squared (all_shares (map (λ action. At s action) (update_actions k lengths x)) shares s) ≡ squared (shares s) + cost {A = A} (actions_if_full k lengths)
  update-costs s k lengths x shares some =
      rw (shares_by-append s (actions_if_full k lengths) (Put 0 x ∷ []) shares) (acts-shares s k (actions_if_full k lengths) (work_of lengths) shares (room_is A k (work_of lengths) some).due)

  -- an update takes no coin in twice
  pub update-once : (s k : ℕ) (lengths : List ℕ) (x : A) (shares : ℕ → List ℕ) (once : ℕ → Bool) → 0 < length lengths → (j : ℕ) →
      takes_once (map (λ action. At s action) (update_actions k lengths x)) shares once j ≡ once j
  update-once s k lengths x shares once some j = grind (arith, common_steps, once_by-append, acts-once, work_of, room_is, once-put)

  -- ---- updates alone

  updates-rolled : (s k : ℕ) (lengths : List ℕ) (n m : ℕ) (shares : ℕ → List ℕ) (items : List A) → 0 < length lengths → IsRolled k lengths [] n (squared (shares s)) → m ≡ n + length items →
      IsLittle k m (squared (all_shares (map (λ action. At s action) (updates_actions k lengths items)) shares s))
  updates-rolled s k lengths n m shares [] some i e =
      let same : m ≡ n = omega (arith, e) in
      rw same (rolled-little k lengths n (squared (shares s)) i)
  updates-rolled s k lengths n m shares (x ∷ items) some i e =
      let first : List (Action A) = update_actions k lengths x in
      let next : List ℕ = updated_lengths k lengths x in
      let after : ℕ → List ℕ = shares_by s first shares in
      let rolled : IsRolled k next [] (n + 1) (squared (after s)) = rw (update-costs s k lengths x shares some) (rolled-update A k k lengths n (squared (shares s)) x (omega arith) some i) in
      rw (shares_by-append s first (updates_actions k next items) shares)
      (updates-rolled s k next (n + 1) m after items (update_is k lengths x some).some rolled (omega (arith, e)))

  -- the spread of updates alone
  pub updates-sharp : UpdatesAreSharp A
  updates-sharp slot k items = updates-rolled slot k (0 ∷ []) 0 (length items) (λ s. []) items (omega arith) (rolled-none k) (omega arith)

module _ (A : Type 0) where
  -- ---- a merge of sketches that share no coin

  -- the squares of the shares after a merge
  pub merge-costs : (s t k : ℕ) (work : Work (List ℕ)) (shares : ℕ → List ℕ) → 0 < length work.bag → AreAsMany shares → IsTrue (share_no_coin (shares t) (shares s)) →
      squared (all_shares (Snap s t ∷ map (λ action. At t action) (merge_actions {A = A} k work)) shares t) ≡ squared (shares t) + squared (shares s) + cost {A = A} (merge_actions k work)
  merge-costs s t k work shares some many apart =
      let actions : List (Action A) = merge_actions k work in
      let both : ℕ → List ℕ = shares_after {A = A} (Snap s t) shares in
      let added : squared (both t) ≡ squared (shares t) + squared (shares s) = ap squared (changed-there shares t _) ∙ squared-both (shares t) (shares s) (many t s) apart in
      acts-shares t k actions work both (merge_due A k work some) ∙ ap (λ (m : ℕ). m + cost actions) added

  -- a merge takes each coin in once if both sketches did and they share none
  pub merge-once : (s t k : ℕ) (work : Work (List ℕ)) (shares : ℕ → List ℕ) (once : ℕ → Bool) → 0 < length work.bag →
      takes_once (Snap s t ∷ map (λ action. At t action) (merge_actions {A = A} k work)) shares once ≡ changed once t (once t && (once s && share_no_coin (shares t) (shares s)))
  merge-once s t k work shares once some =
      acts-once t k (merge_actions {A = A} k work) work (shares_after {A = A} (Snap s t) shares) (once_after {A = A} (Snap s t) shares once) (merge_due A k work some)

-- ---- an update with a weight

module _ {A : Type 0} (s : ℕ) where
  puts-still : (more h n : ℕ) (x : A) (shares : ℕ → List ℕ) (once : ℕ → Bool) → once s ≡ false → once_by s (puts_actions more h n x) shares once s ≡ false
  unfolding puts_actions
  puts-still zero h n x shares once e = e
  puts-still (suc more) h n x shares once e = grind (arith, common_steps, cases_Bool, changed-there, puts-still more (suc h) (n / 2) x shares (once_after (At s (Put h x)) shares once) (changed-there once s _ ∙ ap (λ (b : Bool). b && h == 0) e), puts-still more (suc h) (n / 2) x shares once e)

  -- after Puts for the digits above the lowest one, the slot has not taken each coin in once
  puts-end : (more h n : ℕ) (x : A) (shares : ℕ → List ℕ) (once : ℕ → Bool) → 0 < n → n < 2 ^ more → 0 < h → once_by s (puts_actions more h n x) shares once s ≡ false
  unfolding puts_actions
  puts-end zero h n x shares once some few high = absurd (omega (arith, some, few))
  puts-end (suc more) h n x shares once some few high =
      elim (cases_Bool (n % 2 == 1)) [
        | inl z ↦
            grind (arith, common_steps, ne_eqb, puts-still, changed-there, and_right)
        | inr z ↦ rw z (puts-end more (suc h) (n / 2) x shares once (omega (arith, some, eqb-false (n % 2) 1 z)) (omega (arith, few)) (omega arith))
      ]

module _ (A : Type 0) (s : ℕ) where
  walk-once : (k more level : ℕ) (lengths : List ℕ) (shares : ℕ → List ℕ) (once : ℕ → Bool) → once_by s (walk_actions {A = A} k more level lengths) shares once ≡ once
  unfolding walk_actions
  walk-once k zero level lengths shares once = refl
  walk-once k (suc more) level lengths shares once =
      elim (cases_Bool (passes_at k lengths level)) [
        | inl e ↦ rw (step_passed k level lengths e) (walk-once k more (suc level) lengths shares once)
        | inr e ↦ rw (step_compacted k level lengths e) (walk-once k more (suc level) _ _ once)
      ]

  compress-once : (k : ℕ) (lengths : List ℕ) (b : Bool) (shares : ℕ → List ℕ) (once : ℕ → Bool) → once_by s (if b then compress_actions {A = A} k lengths else []) shares once ≡ once
  compress-once k lengths true shares once = walk-once k 61 0 lengths shares once
  compress-once k lengths false shares once = refl

module _ {A : Type 0} (s : ℕ) where
  -- nor has it after an update with a weight of 2 or more, whose item does not come in one by one
  pub weighted-once : (k weight : ℕ) (lengths : List ℕ) (x : A) (shares : ℕ → List ℕ) (once : ℕ → Bool) → 2 ≤ weight → weight < 2 ^ 61 →
      takes_once (map (λ action. At s action) (weighted_actions k lengths x weight)) shares once s ≡ false
  weighted-once k weight lengths x shares once two few = grind (arith, common_steps, once_by-append, compress-once, puts-end)
