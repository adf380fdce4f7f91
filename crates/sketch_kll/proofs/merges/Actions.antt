-- A merge by its actions: Pulls do what updates do, and Joins do what joining levels in list order does. Its schedule obeys the scratch rule,
-- its compactions find at least 8 items, and its lengths are those of the bags.
use Rattle.std.proofs.lemmas.Grind.{common_steps}
use Rattle.std.proofs.Common.{◌≡◌, ℕ, zero, suc, Bool, if◌then◌else◌, List, [], ◌∷◌, ◌++◌, length, drop, refl, sym, ap, ◌∙◌, arith, append_assoc, length-append, Ordering, ◌+◌, ◌-◌, ◌<◌, ◌≤◌, true, false, ◌||◌, eqb, map, sum, take, slice_index, ap₂, subst, IsTrue, leb-true, ltb-false, take_all}
use Rattle.std.specs.List.{AllZip, AllByRecursion}
use Rattle.std.specs.Cmp.{IsTotalOrder}
use Rattle.std.proofs.lemmas.Bool.{and_right, cases_Bool, eq-eqb, or_right, or_parts}
use Rattle.std.proofs.lemmas.List.Sums.{sum_by-cons}
use Rattle.sketch_base.specs.Bag.{Bag, AllButLeftover, sort, level_at, with_level}
use Rattle.sketch_base.specs.Trace.{Action, Put, Join, Compact, Fresh, Work, act, acts, alone, bag_after, draws, draws_of, joins_actions, Pull, At, World, is_kll_action}
use Rattle.sketch_base.proofs.bags.Alike.{SameItems-refl}
use Rattle.sketch_base.proofs.plays.Plays.{draws-append, in_turn-append, lengths-acts}
use Rattle.sketch_kll.specs.Levels.{first_level}
use Rattle.sketch_kll.specs.Join.{joined_upper, joined}
use Rattle.sketch_kll.specs.Merge.{pull_actions, pulls_actions, taking_actions, merge_actions, merge_events, lengths_of_slots, IsLegalFrom}
use Rattle.sketch_kll.specs.Schedule.{update_actions, updated_lengths, updates_actions, lowest_full, are_full, actions_if_full, walk_actions}
use Rattle.sketch_kll.specs.Sketch.{bag_in}
use Rattle.sketch_kll.proofs.layout.Alike.{SameSorted, LikeLevels, sort-twice, zip-refl}
use Rattle.sketch_kll.proofs.plays.Updates.{Fine, lowest_full_at, length-with_level}
use Rattle.std.specs.Prelude.{⊤}
use Rattle.sketch_base.specs.Lengths.{act_on_lengths, acts_on_lengths, lengths_after, bag_lengths}
use Rattle.sketch_base.proofs.bags.Acts.{changed-there, acts_on-append}
use Rattle.sketch_kll.proofs.layout.Full.{capacity_eight}

-- A merge by its actions: Pulls do what updates do, and Joins do what joining levels in list order does.

module _ {A : Type 0} (cmp : A → A → Ordering) where
  -- a bag with items waiting in the scratch
  abbrev pub beside : Bag A → Bool → List (List A) → Work (Bag A)
  beside bag flag os = record { bag = bag; scratch = bag_in flag os }

  -- one Pull, after room is made for it, does what an update does
  pub record PullStep (k : ℕ) (lengths : List ℕ) (x : A) (xs : List A) (us : List (List A)) (flag : Bool) (bag : Bag A) (word : List Bool) (pull update : List (Action A)) : Type 0 where
    pub works : acts cmp pull word (beside bag flag ((x ∷ xs) ∷ us)) ≡ beside (bag_after cmp update word bag) flag (xs ∷ us)
    pub updates : acts cmp update word (alone bag) ≡ alone (bag_after cmp update word bag)
    pub drawn : draws_of pull ≡ draws_of update

  pull_step : (k : ℕ) (lengths : List ℕ) (x : A) (xs : List A) (us : List (List A)) (flag : Bool) (bag : Bag A) (word : List Bool) →
      PullStep k lengths x xs us flag bag word (pull_actions k lengths) (update_actions k lengths x)
  pull_step k lengths x xs us flag bag word = grind (arith, common_steps, and_right, cases_Bool)

  -- all Pulls together do what updates by the items do
  pub record PullsAct (k : ℕ) (lengths rest : List ℕ) (xs : List A) (us : List (List A)) (flag : Bool) (bag : Bag A) (word : List Bool) (pulls : List (Action A)) : Type 0 where
    pub works : acts cmp pulls word (beside bag flag (xs ∷ us)) ≡ beside (bag_after cmp (updates_actions k lengths xs) word bag) flag ([] ∷ us)
    pub drawn : draws_of pulls ≡ draws_of (updates_actions k lengths xs)

  -- the Pulls of a merge do this
  pub pulls_act : (k : ℕ) (lengths rest : List ℕ) (xs : List A) (us : List (List A)) (flag : Bool) (bag : Bag A) (word : List Bool) →
      PullsAct k lengths rest xs us flag bag word (pulls_actions k (length xs) (record { bag = lengths; scratch = length xs ∷ rest }))
  pulls_act k lengths rest [] us flag bag word = record { works = refl; drawn = refl }
  pulls_act k lengths rest (x ∷ xs) us flag bag word =
      let pull : List (Action A) = pull_actions k lengths in
      let update : List (Action A) = update_actions k lengths x in
      let step = pull_step k lengths x xs us flag bag word in
      let lengths' : List ℕ = updated_lengths k lengths x in
      let bag' : Bag A = bag_after cmp update word bag in
      let later : List (Action A) = updates_actions k lengths' xs in
      let word' : List Bool = drop (draws_of update) word in
      let ih = pulls_act k lengths' rest xs us flag bag' word' in
      let more : List (Action A) = pulls_actions k (length xs) (record { bag = lengths'; scratch = length xs ∷ rest }) in
      let same : acts cmp later word' (acts cmp update word (alone bag)) ≡ acts cmp (update ++ later) word (alone bag) = sym (in_turn-append draws (act cmp) update later word (alone bag)) in
      grind (arith, common_steps, in_turn-append, draws-append)

  -- levels appended to others level by level, without sorting
  abbrev pub raw_upper : List (List A) → List (List A) → List (List A)
  raw_upper [] us = us
  raw_upper (l ∷ ls) [] = l ∷ ls
  raw_upper (l ∷ ls) (u ∷ us) = (l ++ u) ∷ raw_upper ls us

  level_at-there : (h : ℕ) (front back : List (List A)) (u : List A) → h ≡ length front → level_at (front ++ u ∷ back) h ≡ u
  level_at-there zero [] back u e = refl
  level_at-there (suc h) (f ∷ front) back u e = level_at-there h front back u (omega arith)
  level_at-there h front back u e = absurd (omega arith)

  raw_upper-next : (back us : List (List A)) (u : List A) → raw_upper back (u ∷ us) ≡ (first_level back ++ u) ∷ raw_upper (drop 1 back) us
  raw_upper-next [] us u = refl
  raw_upper-next (b ∷ back) us u = refl

  with_level-next : (h : ℕ) (change : List A → List A) (front back : List (List A)) → h ≡ length front →
      with_level [] h change (front ++ back) ≡ (front ++ change (first_level back) ∷ []) ++ drop 1 back
  with_level-next zero change [] [] e = refl
  with_level-next zero change [] (b ∷ back) e = refl
  with_level-next (suc h) change (f ∷ front) back e = ap (λ l. f ∷ l) (with_level-next h change front back (omega arith))
  with_level-next h change front back e = absurd (omega arith)

  -- all Joins from level h up append level by level
  pub joins_act : (h : ℕ) (front done back us : List (List A)) (kept flag : Bool) (word : List Bool) → h ≡ length front → h ≡ length done →
      (acts cmp (joins_actions (length us) h) word (beside (bag_in kept (front ++ back)) flag (done ++ us))).bag ≡ bag_in kept (front ++ raw_upper back us)
  joins_act h front done [] [] kept flag word e d = refl
  joins_act h front done (b ∷ back) [] kept flag word e d = refl
  joins_act h front done back (u ∷ us) kept flag word e d =
      let joined : List A = first_level back ++ u in
      let ls : with_level [] h (λ level. level ++ level_at (done ++ u ∷ us) h) (front ++ back) ≡ (front ++ joined ∷ []) ++ drop 1 back =
      rw (level_at-there h done us u d) (with_level-next h (λ level. level ++ u) front back e) in
      let go = joins_act (suc h) (front ++ joined ∷ []) (done ++ [] ∷ []) (drop 1 back) us kept flag word
      (omega (arith, e, length-append front (joined ∷ []))) (omega (arith, d, length-append done ([] ∷ []))) in
      grind (arith, common_steps, with_level-next, append_assoc, raw_upper-next)

  -- Joins draw no coin
  pub joins_draw : (more h : ℕ) → draws_of {A = A} (joins_actions more h) ≡ 0
  joins_draw zero h = refl
  joins_draw (suc more) h = sum_by-cons (λ (a : Action A). if draws a then 1 else 0) (Join h) (joins_actions more (suc h)) ∙ omega (arith, joins_draw more (suc h))

  -- Puts and compactions do the same whatever is in the scratch
  pub bag_alone : (actions : List (Action A)) (lengths : Work (List ℕ)) (word : List Bool) (bag s t : Bag A) → Fine actions lengths →
      (acts cmp actions word (record { bag = bag; scratch = s })).bag ≡ (acts cmp actions word (record { bag = bag; scratch = t })).bag
  bag_alone [] lengths word bag s t f = refl
  bag_alone (Put h x ∷ rest) lengths word bag s t f = bag_alone rest _ word _ s t f
  bag_alone (Compact h Fresh AllButLeftover ∷ rest) lengths word bag s t f = bag_alone rest _ _ _ s t f.1
  bag_alone actions lengths word bag s t f = absurd f

-- levels joined in list order are alike to those that the Joins give
module _ {A : Type 0} (cmp : A → A → Ordering) (o : IsTotalOrder cmp) where
  zip-joined : (ls us : List (List A)) → AllZip (SameSorted cmp o) (raw_upper cmp ls us) (joined_upper cmp ls us)
  zip-joined [] [] = tt
  zip-joined (l ∷ ls) [] = zip-refl cmp o (l ∷ ls)
  zip-joined [] (u ∷ us) = (sort-twice cmp o u, zip-joined [] us)
  zip-joined (l ∷ ls) (u ∷ us) = (sort-twice cmp o (l ++ u), zip-joined ls us)

  -- what the Joins give is alike to levels joined in list order
  pub joined_like : (l : List A) (ls us : List (List A)) → LikeLevels cmp o (l ∷ raw_upper cmp ls us) (joined cmp (l ∷ ls) us)
  joined_like l ls us = record { levels = (SameItems-refl cmp o (sort cmp l), zip-joined ls us); zeroth = SameItems-refl cmp o l }

-- The schedule of a merge: it obeys the scratch rule, compactions find at least 8 items, and its lengths are those of the bags.

-- if the levels of the scratch below level h are empty and level h is emptied by a Join, those below level h + 1 are empty
zeroed : (h : ℕ) (ns : List ℕ) → h < length ns → sum (take h ns) ≡ 0 → (sum (take (suc h) (with_level 0 h (λ m. 0) ns)) ≡ 0) × (length (with_level 0 h (λ m. 0) ns) ≡ length ns)
zeroed h [] b e = absurd (omega arith)
zeroed zero (n ∷ ns) b e = (refl, refl)
zeroed (suc h) (n ∷ ns) b e =
    let s = sum_by-cons (λ (m : ℕ). m) n (take h ns) in
    let z = zeroed h ns (omega arith) (omega (arith, s, e)) in
    (omega (arith, s, e, sum_by-cons (λ (m : ℕ). m) n (take (suc h) (with_level 0 h (λ m. 0) ns)), z.0), ap suc z.1)

module _ {A : Type 0} where
  -- if the levels are full, the lowest full one is compacted
  pub room_full : (k : ℕ) (lengths : List ℕ) → are_full k lengths ≡ true → actions_if_full {A = A} k lengths ≡ Compact (lowest_full k lengths) Fresh AllButLeftover ∷ []
  room_full k lengths e = rw e refl

  -- if they are not full, nothing is compacted
  pub room_spare : (k : ℕ) (lengths : List ℕ) → are_full k lengths ≡ false → actions_if_full {A = A} k lengths ≡ []
  room_spare k lengths e = rw e refl

  -- Pulls, Joins, and compactions of at least 8 items
  abbrev pub Goes : (actions : List (Action A)) (work : Work (List ℕ)) → Type 0
  Goes [] work = ⊤
  Goes (Compact h Fresh AllButLeftover ∷ rest) work = (8 ≤ slice_index work.bag h) × Goes rest (act_on_lengths {A = A} (Compact h Fresh AllButLeftover) work)
  Goes (Pull ∷ rest) work = Goes rest (act_on_lengths {A = A} Pull work)
  Goes (Join h ∷ rest) work = Goes rest (act_on_lengths {A = A} (Join h) work)
  Goes (action ∷ rest) work = ⊥

  goes-append : (xs ys : List (Action A)) (work : Work (List ℕ)) → Goes xs work → Goes ys (acts_on_lengths xs work) → Goes (xs ++ ys) work
  goes-append [] ys work f g = g
  goes-append (Compact h Fresh AllButLeftover ∷ rest) ys work f g = (f.0, goes-append rest ys (act_on_lengths {A = A} (Compact h Fresh AllButLeftover) work) f.1 g)
  goes-append (Pull ∷ rest) ys work f g = goes-append rest ys (act_on_lengths {A = A} Pull work) f g
  goes-append (Join h ∷ rest) ys work f g = goes-append rest ys (act_on_lengths {A = A} (Join h) work) f g
  goes-append actions ys work f g = absurd f

  abbrev on_both : Action A → List ℕ → List ℕ → List ℕ
  on_both action bag scratch = (act_on_lengths action (record { bag = bag; scratch = scratch })).bag

  abbrev on_scratch : Action A → List ℕ → List ℕ → List ℕ
  on_scratch action bag scratch = (act_on_lengths action (record { bag = bag; scratch = scratch })).scratch

  -- such actions of the target are legal in a world whose scratch they empty
  goes-legal : (actions : List (Action A)) (s : ℕ) (work : Work (List ℕ)) (world : World (List ℕ)) → Goes actions work → world.slots s ≡ work.bag → world.scratch ≡ work.scratch → world.target ≡ s →
      sum (acts_on_lengths actions work).scratch ≡ 0 → IsLegalFrom (map (λ action. At s action) actions) world
  goes-legal [] s work world f e c t z = record { kll = tt; scratch = ap sum c ∙ z; sizes = tt }
  goes-legal (Compact h Fresh AllButLeftover ∷ rest) s work world f e c t z =
      let action : Action A = Compact h Fresh AllButLeftover in
      let e' = changed-there world.slots s _ ∙ ap (λ (bag : List ℕ). (act_on_lengths action (record { bag = bag; scratch = world.scratch })).bag) e in
      let r = goes-legal rest s (act_on_lengths action work) (lengths_after (At s action) world) f.1 e' c t z in
      record { kll = (refl, r.kll); scratch = (or_right _ _ (eq-eqb s world.target (sym t)), r.scratch); sizes = (subst (λ (l : List ℕ). 8 ≤ slice_index l h) (sym e) f.0, r.sizes) }
  goes-legal (Pull ∷ rest) s work world f e c t z = grind (arith, common_steps, changed-there, or_right, eq-eqb, goes-legal rest s _ (lengths_after {A = A} (At s Pull) world) f (changed-there world.slots s _ ∙ ap₂ (on_both Pull) e c) (ap₂ (on_scratch Pull) e c) t z)
  goes-legal (Join h ∷ rest) s work world f e c t z = grind (arith, common_steps, changed-there, or_right, eq-eqb, goes-legal rest s _ (lengths_after {A = A} (At s (Join h)) world) f (changed-there world.slots s _ ∙ ap₂ (on_both (Join h)) e c) (ap₂ (on_scratch (Join h)) e c) t z)
  goes-legal actions s work world f e c t z = absurd f

  -- such actions are KLL actions
  pub goes-kll : (actions : List (Action A)) (work : Work (List ℕ)) → Goes actions work → AllByRecursion (λ action. IsTrue (is_kll_action action)) actions
  goes-kll [] work f = tt
  goes-kll (Compact h Fresh AllButLeftover ∷ rest) work f = (refl, goes-kll rest _ f.1)
  goes-kll (Pull ∷ rest) work f = (refl, goes-kll rest _ f)
  goes-kll (Join h ∷ rest) work f = (refl, goes-kll rest _ f)
  goes-kll actions work f = absurd f

  -- such actions that keep at least one level and leave `left` in the scratch
  pub record Leaves (left : List ℕ) (work : Work (List ℕ)) (actions : List (Action A)) : Type 0 where
    pub goes : Goes actions work
    pub some : 0 < length (acts_on_lengths actions work).bag
    pub scratch : (acts_on_lengths actions work).scratch ≡ left

  -- one Pull, after room is made for it
  pull_is : (k : ℕ) (work : Work (List ℕ)) → 0 < length work.bag → Leaves (act_on_lengths {A = A} Pull work).scratch work (pull_actions k work.bag)
  pull_is k work h = grind (arith, common_steps, length-with_level, cases_Bool, lowest_full_at, leb-true)

  -- all Pulls leave level 0 of the scratch empty
  pub pulls_are : (k n : ℕ) (rest : List ℕ) (work : Work (List ℕ)) → 0 < length work.bag → work.scratch ≡ n ∷ rest → Leaves (0 ∷ rest) work (pulls_actions k n work)
  pulls_are k zero rest work h e = record { goes = tt; some = h; scratch = e }
  pulls_are k (suc n) rest work h e =
      let p = pull_is k work h in
      let next : Work (List ℕ) = acts_on_lengths {A = A} (pull_actions k work.bag) work in
      let m : suc n - 1 ≡ n = omega arith in
      let s : next.scratch ≡ n ∷ rest = p.scratch ∙ rw (e, m) refl in
      let r = pulls_are k n rest next p.some s in
      let w = acts_on-append {A = A} (pull_actions k work.bag) (pulls_actions k n next) work in
      record { goes = goes-append (pull_actions k work.bag) (pulls_actions k n next) work p.goes r.goes; some = rw w r.some; scratch = rw w r.scratch }

module _ (A : Type 0) where
  -- all Joins are such actions
  pub goes-joins : (more level : ℕ) (work : Work (List ℕ)) → Goes {A = A} (joins_actions more level) work
  goes-joins zero level work = tt
  goes-joins (suc more) level work = goes-joins more (suc level) (act_on_lengths {A = A} (Join level) work)

  joins-empty : (more level : ℕ) (work : Work (List ℕ)) → length work.scratch ≡ level + more → sum (take level work.scratch) ≡ 0 →
      sum (acts_on_lengths {A = A} (joins_actions more level) work).scratch ≡ 0
  joins-empty zero level work e z = ap sum (sym (take_all level work.scratch (omega (arith, e)))) ∙ z
  joins-empty (suc more) level work e z =
      let r = zeroed level work.scratch (omega (arith, e)) z in
      joins-empty more (suc level) (act_on_lengths {A = A} (Join level) work) (omega (arith, e, r.1)) r.0

  -- the actions of general compress are such actions, whatever is in the scratch
  goes-walk : (k more level : ℕ) (work : Work (List ℕ)) → Goes {A = A} (walk_actions k more level work.bag) work
  unfolding walk_actions
  goes-walk k zero level work = tt
  goes-walk k (suc more) level work = grind (arith, common_steps, cases_Bool, ltb-false, or_parts, capacity_eight, goes-walk k more (suc level) work, goes-walk k more (suc level) (act_on_lengths {A = A} (Compact level Fresh AllButLeftover) work))

  walk-scratch : (k more level : ℕ) (work : Work (List ℕ)) → (acts_on_lengths {A = A} (walk_actions k more level work.bag) work).scratch ≡ work.scratch
  unfolding walk_actions
  walk-scratch k zero level work = refl
  walk-scratch k (suc more) level work = grind (arith, common_steps, cases_Bool, walk-scratch k more (suc level) work, walk-scratch k more (suc level) (act_on_lengths {A = A} (Compact level Fresh AllButLeftover) work))

module _ {A : Type 0} where
  -- such actions that leave the scratch empty
  pub record MergeIs (work : Work (List ℕ)) (actions : List (Action A)) : Type 0 where
    pub goes : Goes actions work
    pub empties : sum (acts_on_lengths actions work).scratch ≡ 0

  -- the actions that take another sketch in are such, and leave the scratch empty
  pub taking_is : (k : ℕ) (work : Work (List ℕ)) → 0 < length work.bag → MergeIs work (taking_actions k work)
  taking_is k work h = go work.scratch
    where
      go : (scratch : List ℕ) → (let taken : Work (List ℕ) = record { bag = work.bag; scratch = scratch } in MergeIs taken (taking_actions k taken))
      go [] = record { goes = tt; empties = refl }
      go (n ∷ rest) =
          let taken : Work (List ℕ) = record { bag = work.bag; scratch = n ∷ rest } in
          let pulls : List (Action A) = pulls_actions k n taken in
          let joins : List (Action A) = joins_actions (suc (length rest) - 1) 1 in
          let p = pulls_are k n rest taken h refl in
          let next : Work (List ℕ) = acts_on_lengths pulls taken in
          let z = joins-empty A (suc (length rest) - 1) 1 next (ap length p.scratch ∙ omega arith) (ap (λ (l : List ℕ). sum (take 1 l)) p.scratch) in
          record { goes = goes-append pulls joins taken p.goes (goes-joins A (suc (length rest) - 1) 1 next); empties = ap (λ v. sum v.scratch) (acts_on-append pulls joins taken) ∙ z }

  -- the actions of a merge are such, and leave the scratch empty
  pub merge_is : (k : ℕ) (work : Work (List ℕ)) → 0 < length work.bag → MergeIs work (merge_actions k work)
  merge_is k work h =
      let t = taking_is k work h in
      let taking : List (Action A) = taking_actions k work in
      let next : Work (List ℕ) = acts_on_lengths taking work in
      let both : (rest : List (Action A)) → Goes rest next → (acts_on_lengths rest next).scratch ≡ next.scratch → MergeIs work (taking ++ rest) =
      λ rest g s. record { goes = goes-append taking rest work t.goes g; empties = ap (λ v. sum v.scratch) (acts_on-append taking rest work) ∙ (ap sum s ∙ t.empties) } in
      grind (arith, common_steps, goes-walk, walk-scratch)

  -- the events of a merge are legal
  pub merges_legal : (k source target : ℕ) (world : World (List ℕ)) → 0 < length (world.slots target) → sum world.scratch ≡ 0 → IsLegalFrom {A = A} (merge_events k source target world) world
  merges_legal k source target world h z =
      let work : Work (List ℕ) = lengths_of_slots world source target in
      let m = merge_is k work h in
      let r = goes-legal (merge_actions k work) target work (record { slots = world.slots; scratch = world.slots source; target = target }) m.goes refl refl refl m.empties in
      record { kll = (refl, r.kll); scratch = (ap (λ (n : ℕ). eqb n 0 || false) z, r.scratch); sizes = (tt, r.sizes) }

  -- the lengths after a merge are those of the bag that it gives
  pub merge_lengths : (cmp : A → A → Ordering) (k : ℕ) (work : Work (Bag A)) (word : List Bool) → 0 < length (bag_lengths work.bag) →
      (let lengths : Work (List ℕ) = record { bag = bag_lengths work.bag; scratch = bag_lengths work.scratch } in
      bag_lengths (acts cmp (merge_actions k lengths) word work).bag ≡ (acts_on_lengths {A = A} (merge_actions k lengths) lengths).bag)
  merge_lengths cmp k work word h =
      let lengths : Work (List ℕ) = record { bag = bag_lengths work.bag; scratch = bag_lengths work.scratch } in
      lengths-acts cmp (merge_actions k lengths) word work (goes-kll _ lengths (merge_is k lengths h).goes)
