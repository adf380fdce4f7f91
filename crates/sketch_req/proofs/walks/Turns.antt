-- The turns of a walk in the code: what a level gives up is pending until the turn of the level above. Together they are the walk's steps.
use Rattle.std.proofs.Common.{◌≡◌, ℕ, zero, suc, ◌+◌, ◌-◌, ◌/◌, ◌<◌, ◌≤◌, ◌&&◌, ◌^◌, Bool, true, false, if◌then◌else◌, List, [], ◌∷◌, ◌++◌, length, get_or, set, length-set, refl, sym, ap, ap₂, ◌∙◌, subst, arith, Ordering, le-leb, leb-true, leb-false, Vec, Global, ◌*◌}
use Rattle.std.specs.Cmp.{IsTotalOrder}
use Rattle.std.proofs.lemmas.Bool.{lt-leb, ne_eqb}
use Rattle.std.proofs.lemmas.List.{get_or-set_same}
use Rattle.sketch_req.specs.Arriving.{HasRoom}
use Rattle.sketch_req.specs.Level.{Level, IsLevel, IsCompacted, IsTakenIn, IsStepped, coin_of, draws_coin, is_full_with, nominal_of, taken_count, with_coming, fresh}
use Rattle.sketch_req.specs.Schedule.{Layout, layout_of, layouts_of, layout_at, is_full, taken, retained_of, steps_actions, steps_layouts, weight_of}
use Rattle.sketch_req.specs.Sections.{IsLegalK}
use Rattle.sketch_req.specs.Walk.{AreLevels, AreWalked, IsPlaced, taken_if_full}
use Rattle.sketch_req.specs.declared.RankAccuracy.{RankAccuracy}
use Rattle.sketch_req.proofs.level.Turns.{coin-coming, coming-sound, coming-taken, length-coming, nominal-coming}
use Rattle.sketch_req.proofs.walks.Walks.{count-within, acted-full, acted-none, acted-start, is-full-there, step-low, walked-more}
use Rattle.sketch_req.proofs.walks.Steps.{comes-up, coins-there, gives_up-there, length-taken_in, length-up, opened, placed-new, raised, stepped}

-- a place that is set twice, and one that is set to what it holds
set-twice : {A : Type 0} (xs : List A) (i : ℕ) (x y : A) → set (set xs i x) i y ≡ set xs i y
set-twice [] i x y = refl
set-twice (a ∷ xs) zero x y = refl
set-twice (a ∷ xs) (suc i) x y = ap (λ zs. a ∷ zs) (set-twice xs i x y)

set-there : {A : Type 0} (xs : List A) (i : ℕ) (x : A) → i < length xs → x ≡ get_or xs i x → set xs i x ≡ xs
set-there [] i x l e = refl
set-there (a ∷ xs) zero x l e = ap (λ y. y ∷ xs) e
set-there (a ∷ xs) (suc i) x l e = ap (λ zs. a ∷ zs) (set-there xs i x (omega (arith, l)) e)

-- levels stay at their places when a level is set at its own place
placed-set : {A : Type 0} (cmp : A → A → Ordering) (k : ℕ) (accuracy : RankAccuracy) (h n : ℕ) (ls : List (Level A)) (new : Level A) → AreLevels cmp k accuracy h ls →
    IsPlaced cmp k accuracy (h + n) new → AreLevels cmp k accuracy h (set ls n new)
placed-set cmp k accuracy h n [] new a p = tt
placed-set cmp k accuracy h zero (l ∷ ls) new a p = let e : h + 0 ≡ h = omega arith in (rw e at p, a.1)
placed-set cmp k accuracy h (suc n) (l ∷ ls) new a p = let e : h + suc n ≡ suc h + n = omega arith in (a.0, placed-set cmp k accuracy (suc h) n ls new a.1 (rw e at p))

module _ {A S : Type 0} {cmp : A → A → Ordering} (order : IsTotalOrder cmp) (bit : S → Bool) (next : S → S) (source : S) (k : ℕ) (accuracy : RankAccuracy) (start : List (Level A)) where
  -- levels after the first turns of a walk
  abbrev pub IsWalked : ℕ → S → List (Level A) → Type 0
  IsWalked n now ls = AreWalked cmp bit next source now k accuracy (steps_actions k accuracy n 0 (layouts_of start)) (steps_layouts k n 0 (layouts_of start)) start ls

  -- room for what a walk takes from level n, in the level above
  abbrev HasRise : ℕ → Vec A Global → Type 0
  HasRise n room = let now = steps_layouts k n 0 (layouts_of start) in let up = taken_if_full k (layout_at now n) / 2 in 0 < up → HasRoom (layout_at now (suc n)).count up room

  -- items that come up to the next level, if there are any, and the room for them there
  pub record IsPending (n : ℕ) (now : S) (ls : List (Level A)) (coming : List A) (room : Vec A Global) : Type 0 where
    pub none : coming ≡ [] → IsWalked n now ls
    pub some : 0 < length coming → (h : ℕ) → n ≡ h + 1 → (upper u : Level A) → upper ≡ get_or (raised k accuracy h ls) (h + 1) upper → IsTakenIn cmp upper coming u → IsLevel cmp u →
        IsWalked n now (set (raised k accuracy h ls) (h + 1) u)
    pub few : 0 < length coming → (h : ℕ) → n ≡ h + 1 → (upper : Level A) → upper ≡ get_or (raised k accuracy h ls) (h + 1) upper →
        length upper.items + length coming ≤ retained_of (layouts_of start)
    pub own : 0 < length coming → (h : ℕ) → n ≡ h + 1 → (upper : Level A) → upper ≡ get_or (raised k accuracy h ls) (h + 1) upper →
        HasRoom (length upper.items) (length coming) room
    pub low : 0 < length coming → n ≤ 60
    pub first : n ≡ 0 → coming ≡ []
    pub placed : AreLevels cmp k accuracy 0 ls

  -- the level whose turn it is, with what comes up, among the others
  pub record IsReady (n : ℕ) (now : S) (ls : List (Level A)) (old : Level A) (coming : List A) (room : Vec A Global) : Type 0 where
    pub all : List (Level A)
    pub walked : IsWalked n now all
    pub within : n < length all
    pub there : with_coming cmp old coming ≡ get_or all n (with_coming cmp old coming)
    pub after : (new : Level A) → set all n new ≡ set ls n new
    pub few : length old.items + length coming ≤ retained_of (layouts_of start)
    pub own : 0 < length coming → HasRoom (length old.items) (length coming) room

  -- at the start
  pub pending-start : (coming : List A) (room : Vec A Global) → coming ≡ [] → AreLevels cmp k accuracy 0 start → IsPending 0 source start coming room
  pending-start coming room none placed = record {
    none = λ e. acted-start order bit next source k accuracy start placed;
    some = λ s. absurd (omega (arith, s, ap length none));
    few = λ s. absurd (omega (arith, s, ap length none));
    own = λ s. absurd (omega (arith, s, ap length none));
    low = λ s. absurd (omega (arith, s, ap length none));
    first = λ e. none;
    placed = placed;
  }

  raised-below : (h : ℕ) (ls : List (Level A)) → h + 1 < length ls → raised k accuracy h ls ≡ ls
  raised-below h ls l = ap (λ (b : Bool). if b then ls ++ fresh [] true (h + 1) k accuracy ∷ [] else ls) (ne_eqb (h + 1) (length ls) (λ e. absurd (omega (arith, e, l))))

  pub is-ready : (n : ℕ) (now : S) (ls : List (Level A)) (old : Level A) (coming : List A) (room : Vec A Global) → retained_of (layouts_of start) < 2 ^ 32 → IsPending n now ls coming room →
      n < length ls → old ≡ get_or ls n old → IsReady n now ls old coming room
  is-ready n now ls old [] room small p within e =
      let w = p.none refl in
      let o = opened k accuracy n ls old p.placed within e in
      record {
        all = ls;
        walked = w;
        within = within;
        there = e;
        after = λ new. refl;
        few = omega (arith, w.acted.fewer, count-within n (layouts_of ls), ap (λ (l : Layout). l.count) o.layout);
        own = λ s. absurd (omega (arith, s));
      }
  is-ready zero now ls old (x ∷ more) room small p within e = absurd (omega (arith, ap length (p.first refl)))
  is-ready (suc h) now ls old (x ∷ more) room small p within e =
      let coming : List A = x ∷ more in
      let some : 0 < length coming = omega arith in
      let one : suc h ≡ h + 1 = omega arith in
      let same : raised k accuracy h ls ≡ ls = raised-below h ls (omega (arith, within)) in
      let upper : old ≡ get_or (raised k accuracy h ls) (h + 1) old = e ∙ ap₂ (λ (l : List (Level A)) (i : ℕ). get_or l i old) (sym same) one in
      let few = p.few some h one old upper in
      let o = opened k accuracy (suc h) ls old p.placed within e in
      let mid : Level A = with_coming cmp old coming in
      let sound = coming-sound order old coming (omega (arith, few, small)) o.placed.sound in
      let w = p.some some h one old mid upper (coming-taken order old coming some) sound in
      let place : set (raised k accuracy h ls) (h + 1) mid ≡ set ls (suc h) mid = ap₂ (λ (l : List (Level A)) (i : ℕ). set l i mid) same (sym one) in
      record {
        all = set ls (suc h) mid;
        walked = subst (λ (l : List (Level A)). IsWalked (suc h) now l) place w;
        within = rw (length-set ls (suc h) mid) within;
        there = sym (get_or-set_same ls (suc h) mid mid within);
        after = λ new. set-twice ls (suc h) mid new;
        few = few;
        own = λ s. p.own some h one old upper;
      }

  -- items come up only above level 0
  pub pending-above : (n : ℕ) (now : S) (ls : List (Level A)) (coming : List A) (room : Vec A Global) → IsPending n now ls coming room → 0 < length coming → n ≡ (n - 1) + 1
  pending-above zero now ls coming room p some = absurd (omega (arith, some, ap length (p.first refl)))
  pending-above (suc n) now ls coming room p some = omega arith

  -- a level that is full with what comes up is full among the others
  ready-full : (n : ℕ) (now : S) (ls : List (Level A)) (old : Level A) (coming : List A) (room : Vec A Global) (r : IsReady n now ls old coming room) →
      nominal_of old ≤ length old.items + length coming → is_full k (layout_at (layouts_of r.all) n) ≡ true
  ready-full n now ls old coming room r full =
      let mid : Level A = with_coming cmp old coming in
      is-full-there cmp k accuracy n r.all mid (length mid.items) (nominal_of mid) r.walked.acted.placed r.within r.there refl refl
      ∙ le-leb (nominal_of mid) (length mid.items) (omega (arith, full, length-coming order old coming, nominal-coming order old coming))

  -- how many items a walk takes from the level among the others
  taken-there : (n : ℕ) (now : S) (ls : List (Level A)) (old : Level A) (coming : List A) (room : Vec A Global) → IsReady n now ls old coming room → nominal_of old ≤ length old.items + length coming →
      taken_if_full k (layout_at (steps_layouts k n 0 (layouts_of start)) n) ≡ taken k (layout_of (with_coming cmp old coming))
  taken-there n now ls old coming room r full =
      let o = opened k accuracy n r.all (with_coming cmp old coming) r.walked.acted.placed r.within r.there in
      ap (λ (l : List Layout). taken_if_full k (layout_at l n)) (sym r.walked.acted.layouts_are)
      ∙ (ap (λ (b : Bool). if b then taken k (layout_at (layouts_of r.all) n) else 0) (ready-full n now ls old coming room r full) ∙ ap (taken k) o.layout)

  -- there is room for what it then gives up
  pub ready-up : (n space : ℕ) (now : S) (ls : List (Level A)) (old : Level A) (coming : List A) (room : Vec A Global) → IsReady n now ls old coming room →
      taken_if_full k (layout_at (steps_layouts k n 0 (layouts_of start)) n) / 2 ≤ space → is_full_with old coming ≡ true → taken_count (with_coming cmp old coming) ≤ 2 * space
  ready-up n space now ls old coming room r fits full =
      let more = leb-true _ _ full in
      let o = opened k accuracy n r.all (with_coming cmp old coming) r.walked.acted.placed r.within r.there in
      let g = gives_up-there order k accuracy n r.all (with_coming cmp old coming) o (ready-full n now ls old coming room r more) in
      omega (arith, g.count, g.even, fits, taken-there n now ls old coming room r more)

  -- a level that isn't full at its turn
  settled : (n : ℕ) (now : S) (ls : List (Level A)) (new : Level A) (room : Vec A Global) → IsWalked n now (set ls n new) → n < length ls → length new.items < nominal_of new →
      IsPending (n + 1) now (set ls n new) [] room
  settled n now ls new room w l less =
      let within : n < length (set ls n new) = rw (length-set ls n new) l in
      let there : new ≡ get_or (set ls n new) n new = sym (get_or-set_same ls n new new l) in
      let full = is-full-there cmp k accuracy n (set ls n new) new (length new.items) (nominal_of new) w.acted.placed within there refl refl ∙ lt-leb (nominal_of new) (length new.items) less in
      record {
        none = λ _. walked-more order bit next source now now k accuracy n start (set ls n new) (set ls n new) w (acted-none order bit next now k accuracy n (set ls n new) w.acted.placed full);
        some = λ s. absurd (omega (arith, s));
        few = λ s. absurd (omega (arith, s));
        own = λ s. absurd (omega (arith, s));
        low = λ s. absurd (omega (arith, s));
        first = λ e. refl;
        placed = w.acted.placed;
      }

  settled-turn : (n : ℕ) (now : S) (ls : List (Level A)) (old new : Level A) (coming : List A) (room above : Vec A Global) → IsPending n now ls coming room → n < length ls → old ≡ get_or ls n old →
      length old.items + length coming < nominal_of old → (coming ≡ [] → new ≡ old) → (0 < length coming → IsTakenIn cmp old coming new) → IsLevel cmp new →
      IsPending (n + 1) now (set ls n new) [] above
  settled-turn n now ls old new [] room above p within there less kept taken sound =
      let same : new ≡ old = kept refl in
      let all : ls ≡ set ls n new = sym (ap (set ls n) same ∙ set-there ls n old within there) in
      settled n now ls new above (subst (λ (l : List (Level A)). IsWalked n now l) all (p.none refl)) within (rw same (omega (arith, less)))
  settled-turn zero now ls old new (x ∷ more) room above p within there less kept taken sound = absurd (omega (arith, ap length (p.first refl)))
  settled-turn (suc h) now ls old new (x ∷ more) room above p within there less kept taken sound =
      let some : 0 < length (x ∷ more) = omega arith in
      let one : suc h ≡ h + 1 = omega arith in
      let same : raised k accuracy h ls ≡ ls = raised-below h ls (omega (arith, within)) in
      let upper : old ≡ get_or (raised k accuracy h ls) (h + 1) old = there ∙ ap₂ (λ (l : List (Level A)) (i : ℕ). get_or l i old) (sym same) one in
      let t = taken some in
      let place : set (raised k accuracy h ls) (h + 1) new ≡ set ls (suc h) new = ap₂ (λ (l : List (Level A)) (i : ℕ). set l i new) same (sym one) in
      settled (suc h) now ls new above (subst (λ (l : List (Level A)). IsWalked (suc h) now l) place (p.some some h one old new upper t sound)) within
      (omega (arith, less, length-taken_in old new (x ∷ more) t, ap (λ (l : Level A). nominal_of l) t.rest_is))

  -- a level that is full at its turn
  compacted-turn : (n : ℕ) (now after : S) (ls : List (Level A)) (old new : Level A) (coming up : List A) (room above : Vec A Global) → IsReady n now ls old coming room → AreLevels cmp k accuracy 0 ls →
      weight_of (layouts_of start) < 2 ^ 64 → IsLegalK k → HasRise n above →
      nominal_of old ≤ length old.items + length coming → IsCompacted cmp (with_coming cmp old coming) (coin_of old (bit now)) up new → IsLevel cmp new →
      after ≡ (if draws_coin (with_coming cmp old coming) then next now else now) → IsPending (n + 1) after (set ls n new) up above
  compacted-turn n now after ls old new coming up room above r placed fits legal space full c sound coins =
      let mid : Level A = with_coming cmp old coming in
      let levels = r.walked.acted.placed in
      let is = ready-full n now ls old coming room r full in
      let o = opened k accuracy n r.all mid levels r.within r.there in
      let g = gives_up-there order k accuracy n r.all mid o is in
      let c' : IsCompacted cmp mid (coin_of mid (bit now)) up new = subst (λ (b : Bool). IsCompacted cmp mid b up new) (sym (coin-coming order old coming (bit now))) c in
      let counts = length-up k mid new (coin_of mid (bit now)) up g c' in
      let some : 2 ≤ length up = omega (arith, counts.1, g.some) in
      let low = step-low order k accuracy n r.all mid legal levels r.within r.there is (omega (arith, r.walked.acted.weigh, fits)) in
      let higher : List (Level A) = raised k accuracy n (set ls n new) in
      let is-above : higher ≡ raised k accuracy n (set r.all n new) = ap (raised k accuracy n) (sym (r.after new)) in
      let rise : (upper u : Level A) → upper ≡ get_or higher (n + 1) upper → IsTakenIn cmp upper up u → IsLevel cmp u → IsWalked (n + 1) after (set higher (n + 1) u) = λ upper u e t s.
      let step = stepped order k accuracy n (bit now) r.all higher mid new upper u up levels r.within is r.there is-above e c' t sound s in
      let drawn = coins-there order k accuracy n r.all mid now (next now) after levels r.within is r.there coins in
      walked-more order bit next source now after k accuracy n start r.all (set higher (n + 1) u) r.walked
      (acted-full order bit next now after k accuracy n r.all (set higher (n + 1) u) mid levels r.within r.there is step drawn) in
      let comes = λ (upper : Level A) (e : upper ≡ get_or higher (n + 1) upper). comes-up order k accuracy n r.all higher mid new upper (coin_of mid (bit now)) up levels r.within is r.there is-above e c' in
      let few : (upper : Level A) → upper ≡ get_or higher (n + 1) upper → length upper.items + length up ≤ retained_of (layouts_of start) = λ upper e.
      omega (arith, (comes upper e).2, r.walked.acted.fewer) in
      let came : length up ≡ taken_if_full k (layout_at (steps_layouts k n 0 (layouts_of start)) n) / 2 = counts.1
      ∙ ap (λ (m : ℕ). m / 2) (sym (taken-there n now ls old coming room r full)) in
      let own : (upper : Level A) → upper ≡ get_or higher (n + 1) upper → HasRoom (length upper.items) (length up) above = λ upper e.
      let one : suc n ≡ n + 1 = omega arith in
      let count : length upper.items ≡ (layout_at (steps_layouts k n 0 (layouts_of start)) (suc n)).count =
      ap (λ (l : Layout). l.count) ((comes upper e).0 ∙ ap₂ (λ (ls : List Layout) (i : ℕ). layout_at ls i) r.walked.acted.layouts_are (sym one)) in
      rw (count, came) (space (omega (arith, came, some))) in
      let zero_n : 0 + n ≡ n = omega arith in
      record {
        none = λ e. absurd (omega (arith, some, ap length e));
        some = λ s h q. subst (λ (m : ℕ). (upper u : Level A) → upper ≡ get_or (raised k accuracy m (set ls n new)) (m + 1) upper → IsTakenIn cmp upper up u → IsLevel cmp u →
            IsWalked (n + 1) after (set (raised k accuracy m (set ls n new)) (m + 1) u)) (same-place h q) rise;
        few = λ s h q. subst (λ (m : ℕ). (upper : Level A) → upper ≡ get_or (raised k accuracy m (set ls n new)) (m + 1) upper → length upper.items + length up ≤ retained_of (layouts_of start))
            (same-place h q) few;
        own = λ s h q. subst (λ (m : ℕ). (upper : Level A) → upper ≡ get_or (raised k accuracy m (set ls n new)) (m + 1) upper → HasRoom (length upper.items) (length up) above) (same-place h q) own;
        low = λ s. omega (arith, low);
        first = λ e. absurd (omega (arith, e));
        placed = placed-set cmp k accuracy 0 n ls new placed
            (subst (λ (i : ℕ). IsPlaced cmp k accuracy i new) (sym zero_n) (placed-new k accuracy n mid new (coin_of mid (bit now)) up o.placed c' sound));
      }
    where
      same-place : (h : ℕ) → n + 1 ≡ h + 1 → n ≡ h
      same-place h q = omega (arith, q)

  -- the next turn
  pub next-pending : (n : ℕ) (now after : S) (ls : List (Level A)) (old new : Level A) (coming up : List A) (room above : Vec A Global) → retained_of (layouts_of start) < 2 ^ 32 →
      IsPending n now ls coming room → n < length ls → old ≡ get_or ls n old → weight_of (layouts_of start) < 2 ^ 64 → IsLegalK k → HasRise n above →
      IsStepped cmp old coming (bit now) up new → IsLevel cmp new →
      after ≡ (if is_full_with old coming && draws_coin (with_coming cmp old coming) then next now else now) → IsPending (n + 1) after (set ls n new) up above
  next-pending n now after ls old new coming up room above small p within there fits legal space t sound coins = go (is_full_with old coming) refl
    where
      go : (b : Bool) → is_full_with old coming ≡ b → IsPending (n + 1) after (set ls n new) up above
      go true e =
          compacted-turn n now after ls old new coming up room above (is-ready n now ls old coming room small p within there) p.placed fits legal space
          (leb-true _ _ e) (t.full e) sound (rw e at coins)
      go false e =
          let rest = settled-turn n now ls old new coming room above p within there (leb-false _ _ e) (t.kept e) (t.taken_in e) sound in
          let still : now ≡ after = sym (rw e at coins) in
          subst (λ (s : S). IsPending (n + 1) s (set ls n new) up above) still (subst (λ (xs : List A). IsPending (n + 1) now (set ls n new) xs above) (sym (t.nothing_up e)) rest)
