-- Two worlds that differ in the coins of one level, each the complement of the other: their bags agree below that level, and at it they hold
-- complementary halves. So what one loses the other gains.
use Rattle.std.proofs.Common.{rules, ◌≡◌, ◌≢◌, ℕ, zero, suc, ◌+◌, ◌*◌, ◌^◌, ◌≤◌, ◌<◌, Bool, true, not, ◌&&◌, ◌==◌, List, [], ◌∷◌, ◌++◌, sum_by, refl, sym, ap, ap₂, ◌∙◌, arith, eqb-true, Ordering, false, take, drop, if◌then◌else◌, subst}
use Rattle.std.proofs.lemmas.Grind.{common_steps}
use Rattle.std.proofs.lemmas.Bool.{cases_eq, eq-eqb, false≢true, ne_eqb}
use Rattle.sketch_base.specs.Bag.{Bag, Taken, half, cut, parity_up, level_at, with_level, compaction}
use Rattle.sketch_base.specs.Trace.{changed, is_req, Put, Pull, Join, Forget, Redraw, Clear, Action, Snap, At, World, happens, act}
use Rattle.sketch_base.specs.Words.{sum_over_words}
use Rattle.sketch_base.proofs.bags.Acts.{sum_by-halves, compacted, part, up, down, changed-own}
use Rattle.sketch_base.proofs.unbiased.Average.{sum_over_words-add, sum_over_words-const}

-- Changes of one level, and what a compaction does to two bags that agree up to a level, with complementary kept bits there.

-- sums over words of a constant and a rest
one_sum : (n c : ℕ) (f : List Bool → ℕ) → sum_over_words n (λ w. c + f w) ≡ 2 ^ n * c + sum_over_words n f
one_sum n c f = sum_over_words-add n (λ w. c) f ∙ ap (λ s. s + sum_over_words n f) (sum_over_words-const n c)

two_sums : (n c d : ℕ) (f g : List Bool → ℕ) → sum_over_words n (λ w. c + f w + (d + g w)) ≡ 2 ^ n * (c + d) + (sum_over_words n f + sum_over_words n g)
two_sums n c d f g = sum_over_words-add n (λ w. c + f w) (λ w. d + g w) ∙ omega (arith, one_sum n c f, one_sum n d g)

module _ {B : Type 0} where
  -- after a change of one level: that level, a level of an empty list, and another level
  pub level_at-same : (h : ℕ) (change : List B → List B) (levels : List (List B)) → level_at (with_level [] h change levels) h ≡ change (level_at levels h)
  level_at-same zero change [] = refl
  level_at-same zero change (level ∷ above) = refl
  level_at-same (suc h) change [] = level_at-same h change []
  level_at-same (suc h) change (level ∷ above) = level_at-same h change above

  pub level_at-none : (i : ℕ) → level_at {A = B} [] i ≡ []
  level_at-none i = grind (arith, common_steps)

  pub level_at-other : (h i : ℕ) (change : List B → List B) (levels : List (List B)) → i ≢ h → level_at (with_level [] h change levels) i ≡ level_at levels i
  level_at-other zero zero change levels ne = absurd (ne refl)
  level_at-other zero (suc i) change [] ne = level_at-none i
  level_at-other zero (suc i) change (level ∷ above) ne = refl
  level_at-other (suc h) zero change [] ne = refl
  level_at-other (suc h) zero change (level ∷ above) ne = refl
  level_at-other (suc h) (suc i) change [] ne = level_at-other h i change [] (λ e. ne (ap suc e)) ∙ level_at-none i
  level_at-other (suc h) (suc i) change (level ∷ above) ne = level_at-other h i change above (λ e. ne (ap suc e))

  -- lists of levels that are related level by level stay so if one level of both changes to related levels
  pub levels-related : (R : ℕ → List B → List B → Type 0) (h : ℕ) (change change' : List B → List B) (xs ys : List (List B)) → ((i : ℕ) → R i (level_at xs i) (level_at ys i)) →
      R h (change (level_at xs h)) (change' (level_at ys h)) → (i : ℕ) → R i (level_at (with_level [] h change xs) i) (level_at (with_level [] h change' ys) i)
  levels-related R h change change' xs ys all here i = grind (arith, common_steps, level_at-same, level_at-other, cases_eq)

  -- the levels up to g are the same
  abbrev pub Agree : ℕ → List (List B) → List (List B) → Type 0
  Agree g levels levels' = (i : ℕ) → i ≤ g → level_at levels i ≡ level_at levels' i

  -- they stay the same if one level of both changes to the same level
  pub agree-changed : (g h : ℕ) (change change' : List B → List B) (levels levels' : List (List B)) → Agree g levels levels' →
      (h ≤ g → change (level_at levels h) ≡ change' (level_at levels' h)) → Agree g (with_level [] h change levels) (with_level [] h change' levels')
  agree-changed g = levels-related (λ i level level'. i ≤ g → level ≡ level')

module _ {A : Type 0} (cmp : A → A → Ordering) (f : A → ℕ) where
  -- the bags agree up to level g, and in the kept bits below it; if level g drew a coin, its kept bits are complements
  pub record Mirrored (g : ℕ) (drawn : Bool) (bag bag' : Bag A) : Type 0 where
    pub levels : Agree g bag.levels bag'.levels
    pub below : (i : ℕ) → i < g → bag.kept i ≡ bag'.kept i
    pub turned : drawn ≡ true → bag'.kept g ≡ not (bag.kept g)

  cut-req : (taken : Taken) → is_req taken ≡ true → (flag flag' : Bool) (level : List A) → cut cmp taken flag level ≡ cut cmp taken flag' level
  cut-req taken req flag flag' level = grind (arith, common_steps, false≢true)

  parity_up-req : (taken : Taken) → is_req taken ≡ true → (bit : Bool) (above : List A) → parity_up taken bit above ≡ bit
  parity_up-req taken req bit above = grind (arith, common_steps, false≢true)

  part-req : (h : ℕ) (taken : Taken) → is_req taken ≡ true → (bag bag' : Bag A) → level_at bag.levels h ≡ level_at bag'.levels h → part cmp f h taken bag ≡ part cmp f h taken bag'
  part-req h taken req bag bag' e = ap (λ (p : List A × List A). p.1) (cut-req taken req _ _ (level_at bag.levels h) ∙ ap (cut cmp taken (h == 0 && not bag'.is_sorted)) e)

  -- the level above the compacted one after a REQ compaction
  pub level-up : (h : ℕ) (taken : Taken) (bit : Bool) (bag : Bag A) → is_req taken ≡ true →
      level_at (compaction cmp h taken bit bag).levels (suc h) ≡ level_at bag.levels (suc h) ++ half bit (part cmp f h taken bag)
  level-up h taken bit bag req = search (rules, level_at-same, part, level_at-other, parity_up-req)

  -- the compacted level after a compaction, and the levels that it doesn't touch
  pub level-own : (h : ℕ) (taken : Taken) (bit : Bool) (bag : Bag A) → level_at (compaction cmp h taken bit bag).levels h ≡ (cut cmp taken (h == 0 && not bag.is_sorted) (level_at bag.levels h)).0
  level-own h taken bit bag = search (rules, level_at-other, part, level_at-same)

  pub level-else : (h : ℕ) (taken : Taken) (bit : Bool) (bag : Bag A) (i : ℕ) → i ≢ h → i ≢ suc h → level_at (compaction cmp h taken bit bag).levels i ≡ level_at bag.levels i
  level-else h taken bit bag i ne ne' = search (rules, level_at-other, part)

  -- two bags stay mirrored if a level gets new kept bits: equal ones below level g, complements at level g
  pub mirror-kept : (g h : ℕ) (drawn drawn' bit bit' : Bool) (bag bag' : Bag A) → (h < g → bit ≡ bit') → (h ≡ g → drawn' ≡ true → bit' ≡ not bit) →
      (h ≢ g → drawn' ≡ true → drawn ≡ true) → Mirrored g drawn bag bag' →
      Mirrored g drawn' (record bag { kept = changed bag.kept h bit }) (record bag' { kept = changed bag'.kept h bit' })
  mirror-kept g h drawn drawn' bit bit' bag bag' low here other m = grind (arith, common_steps, eqb-true, eq-eqb)

  -- two bags stay mirrored after REQ compactions by such bits
  pub mirror-compact : (g h : ℕ) (taken : Taken) (drawn drawn' bit bit' : Bool) (bag bag' : Bag A) → is_req taken ≡ true → (h < g → bit ≡ bit') →
      (h ≡ g → drawn' ≡ true → bit' ≡ not bit) → (h ≢ g → drawn' ≡ true → drawn ≡ true) → Mirrored g drawn bag bag' →
      Mirrored g drawn' (compacted cmp f h taken bit bag) (compacted cmp f h taken bit' bag')
  mirror-compact g h taken drawn drawn' bit bit' bag bag' req low here other m =
      let kept = mirror-kept g h drawn drawn' bit bit' bag bag' low here other m in
      let left = λ (bag : Bag A). (cut cmp taken (h == 0 && not bag.is_sorted) (level_at bag.levels h)).0 in
      let up = λ (bit : Bool) (bag : Bag A). half (parity_up taken bit (level_at bag.levels (suc h))) (part cmp f h taken bag) in
      let lower = agree-changed g h (λ level. left bag) (λ level. left bag') bag.levels bag'.levels m.levels
      (λ le. ap (λ (p : List A × List A). p.0) (cut-req taken req _ _ (level_at bag.levels h) ∙ ap (cut cmp taken (h == 0 && not bag'.is_sorted)) (m.levels h le))) in
      let same : h < g → up bit bag ≡ up bit' bag' = λ lt.
      ap₂ half (parity_up-req taken req bit _ ∙ (low lt ∙ sym (parity_up-req taken req bit' _))) (part-req h taken req bag bag' (m.levels h (omega arith))) in
      record {
        levels = agree-changed g (suc h) (λ level. level ++ up bit bag) (λ level. level ++ up bit' bag') _ _ lower (λ le. ap₂ (λ (l r : List A). l ++ r) (lower (suc h) le) (same le));
        below = kept.below;
        turned = kept.turned;
      }

  -- the sums of the half of a bit and the half of its complement add up to the sum of the items
  both_halves : (bit : Bool) (items : List A) → sum_by f (half bit items) + sum_by f (half (not bit) items) ≡ sum_by f items
  both_halves bit items = grind (arith, common_steps, sum_by-halves)

  -- four sums over words, for two bags and two bits each
  pub draw_pairs : (n c0 c1 d0 d1 k l : ℕ) (g0 g1 h0 h1 p0 p1 q0 q1 : List Bool → ℕ) → c0 + c1 ≡ k + k → d0 + d1 ≡ l + l →
      sum_over_words n g0 + sum_over_words n g1 + (sum_over_words n h0 + sum_over_words n h1)
      ≡ sum_over_words n p0 + sum_over_words n p1 + (sum_over_words n q0 + sum_over_words n q1) →
      sum_over_words n (λ w. c0 + g0 w + (c1 + g1 w)) + sum_over_words n (λ w. d0 + h0 w + (d1 + h1 w)) ≡ sum_over_words n (λ w. k + p0 w + (k + p1 w)) + sum_over_words n (λ w. l + q0 w + (l + q1 w))
  draw_pairs n c0 c1 d0 d1 k l g0 g1 h0 h1 p0 p1 q0 q1 e e' s =
      omega (arith, two_sums n c0 c1 g0 g1, two_sums n d0 d1 h0 h1, two_sums n k k p0 p1, two_sums n l l q0 q1, ap (λ m. 2 ^ n * m) e, ap (λ m. 2 ^ n * m) e', s)

  -- two sums over words, with constants added on both sides
  pub turn_pairs : (n c d k l : ℕ) (g h p q : List Bool → ℕ) → c + d ≡ k + l → sum_over_words n g + sum_over_words n h ≡ sum_over_words n p + sum_over_words n q →
      sum_over_words n (λ w. c + g w) + sum_over_words n (λ w. d + h w) ≡ sum_over_words n (λ w. k + p w) + sum_over_words n (λ w. l + q w)
  turn_pairs n c d k l g h p q e s = omega (arith, one_sum n c g, one_sum n d h, one_sum n k p, one_sum n l q, ap (λ m. 2 ^ n * m) e, s)

  -- a turned coin and its complement together gain what both lose
  pub turned_up : (h : ℕ) (taken : Taken) (bit bit' : Bool) (bag bag' : Bag A) → is_req taken ≡ true → bit' ≡ not bit → level_at bag.levels h ≡ level_at bag'.levels h →
      up cmp f h taken bit bag + up cmp f h taken bit' bag' ≡ down cmp f h taken bag + down cmp f h taken bag'
  turned_up h taken bit bit' bag bag' req e same =
      let items = part-req h taken req bag bag' same in
      scaled (2 ^ h) (2 ^ suc h) _ _ _ _ _ _ _ (omega arith) (ap (λ b. 2 ^ suc h * sum_by f (half b (part cmp f h taken bag))) (parity_up-req taken req bit (level_at bag.levels (suc h))))
      ((ap (λ b. 2 ^ suc h * sum_by f (half b (part cmp f h taken bag'))) (parity_up-req taken req bit' (level_at bag'.levels (suc h)))) ∙ ap₂ (λ b items. 2 ^ suc h * sum_by f (half b items)) e (sym items))
      (both_halves bit (part cmp f h taken bag))
      refl (ap (λ items. 2 ^ h * sum_by f items) (sym items))
    where
      scaled : (w w2 u u' a b c d d' : ℕ) → w2 ≡ 2 * w → u ≡ w2 * a → u' ≡ w2 * b → a + b ≡ c → d ≡ w * c → d' ≡ w * c → u + u' ≡ d + d'
      scaled w w2 u u' a b c d d' e p q s k l = rw (p, q, k, l, e) (omega (arith, ap (λ n. w * n) s))

-- Two worlds whose slots agree up to a level, with complementary kept bits there if a coin was drawn, and the events
-- that keep them so.

-- a coin drawn for one level doesn't change whether another level drew one
pub still_drawn : (row : ℕ → Bool) (g h : ℕ) → h ≢ g → changed row h true g ≡ true → row g ≡ true
still_drawn row g h ne d = sym (ap (λ (b : Bool). if b then true else row g) (ne_eqb g h (λ e. ne (sym e)))) ∙ d

module _ {A : Type 0} (cmp : A → A → Ordering) (f : A → ℕ) where
  -- each slot is mirrored, given whether its level g drew a coin; of the scratch only the items matter
  pub record MirroredWorlds (g : ℕ) (drawn : ℕ → ℕ → Bool) (world world' : World (Bag A)) : Type 0 where
    pub slots : (s : ℕ) → Mirrored cmp f g (drawn s g) (world.slots s) (world'.slots s)
    pub scratch : Agree g world.scratch.levels world'.scratch.levels

  -- both bags get the same items at the end of a level
  mirror-appended : (g h : ℕ) (drawn flag flag' : Bool) (front front' : List A) (bag bag' : Bag A) → (h ≤ g → front ≡ front') → Mirrored cmp f g drawn bag bag' → Mirrored cmp f g drawn
      (record { levels = with_level [] h (λ level. level ++ front) bag.levels; is_sorted = flag; kept = bag.kept })
      (record { levels = with_level [] h (λ level. level ++ front') bag'.levels; is_sorted = flag'; kept = bag'.kept })
  mirror-appended g h drawn flag flag' front front' bag bag' same m = grind (arith, common_steps, agree-changed)

  -- a slot's bags are replaced by mirrored ones, and the levels that drew a coin change
  one-drawn : (g s : ℕ) (drawn : ℕ → ℕ → Bool) (row : ℕ → Bool) (slots slots' : ℕ → Bag A) (bag bag' : Bag A) → ((i : ℕ) → Mirrored cmp f g (drawn i g) (slots i) (slots' i)) →
      Mirrored cmp f g (row g) bag bag' → (i : ℕ) → Mirrored cmp f g (changed drawn s row i g) (changed slots s bag i) (changed slots' s bag' i)
  one-drawn g s drawn row slots slots' bag bag' all here i =
      elim (i == s) as (λ (b : Bool). Mirrored cmp f g ((if b then row else drawn i) g) (if b then bag else slots i) (if b then bag' else slots' i)) [ true ↦ here | false ↦ all i ]

  -- a slot's bags are replaced by mirrored ones, and the levels that drew a coin stay the same
  one-changed : (g s : ℕ) (drawn : ℕ → ℕ → Bool) (slots slots' : ℕ → Bag A) (bag bag' : Bag A) → ((i : ℕ) → Mirrored cmp f g (drawn i g) (slots i) (slots' i)) →
      Mirrored cmp f g (drawn s g) bag bag' → (i : ℕ) → Mirrored cmp f g (drawn i g) (changed slots s bag i) (changed slots' s bag' i)
  one-changed g s drawn slots slots' bag bag' all here i =
      subst (λ (row : ℕ → Bool). Mirrored cmp f g (row g) (changed slots s bag i) (changed slots' s bag' i)) (changed-own drawn s i) (one-drawn g s drawn (drawn s) slots slots' bag bag' all here i)

  -- a slot's bag after an action that draws no coin
  abbrev acted : ℕ → Action A → World (Bag A) → Bag A
  acted s action world = (act cmp action false (record { bag = world.slots s; scratch = world.scratch })).bag

  -- the world after a compaction of a slot by a bit
  abbrev pub compacted_at : ℕ → ℕ → Taken → Bool → World (Bag A) → World (Bag A)
  compacted_at s h taken bit world = record { slots = changed world.slots s (compacted cmp f h taken bit (world.slots s)); scratch = world.scratch; target = world.target }

module _ {A : Type 0} (cmp : A → A → Ordering) (f : A → ℕ) (g : ℕ) (drawn : ℕ → ℕ → Bool) (world world' : World (Bag A)) (m : MirroredWorlds cmp f g drawn world world') (s : ℕ) where
  -- each event keeps the worlds mirrored
  pub mirrored-snap : (t : ℕ) → MirroredWorlds cmp f g drawn (happens (act cmp) (Snap s t) false world) (happens (act cmp) (Snap s t) false world')
  mirrored-snap t = record { slots = m.slots; scratch = (m.slots s).levels }

  pub mirrored-put : (h : ℕ) (x : A) → MirroredWorlds cmp f g drawn (happens (act cmp) (At s (Put h x)) false world) (happens (act cmp) (At s (Put h x)) false world')
  mirrored-put h x = record {
    slots = one-changed cmp f g s drawn world.slots world'.slots (acted cmp f s (Put h x) world) (acted cmp f s (Put h x) world') m.slots
        (mirror-appended cmp f g h (drawn s g) _ _ (x ∷ []) (x ∷ []) (world.slots s) (world'.slots s) (λ le. refl) (m.slots s));
    scratch = m.scratch;
  }

  pub mirrored-pull : MirroredWorlds cmp f g drawn (happens (act cmp) (At s Pull) false world) (happens (act cmp) (At s Pull) false world')
  mirrored-pull =
      let top = level_at world.scratch.levels 0 in
      let top' = level_at world'.scratch.levels 0 in
      record {
        slots = one-changed cmp f g s drawn world.slots world'.slots (acted cmp f s Pull world) (acted cmp f s Pull world') m.slots
            (mirror-appended cmp f g 0 (drawn s g) false false (take 1 top) (take 1 top') (world.slots s) (world'.slots s) (λ le. ap (λ level. take 1 level) (m.scratch 0 (omega arith))) (m.slots s));
        scratch = agree-changed g 0 (λ level. drop 1 top) (λ level. drop 1 top') world.scratch.levels world'.scratch.levels m.scratch (λ le. ap (λ level. drop 1 level) (m.scratch 0 (omega arith)));
      }

  pub mirrored-join : (h : ℕ) → MirroredWorlds cmp f g drawn (happens (act cmp) (At s (Join h)) false world) (happens (act cmp) (At s (Join h)) false world')
  mirrored-join h = record {
    slots = one-changed cmp f g s drawn world.slots world'.slots (acted cmp f s (Join h) world) (acted cmp f s (Join h) world') m.slots
        (mirror-appended cmp f g h (drawn s g) _ _ (level_at world.scratch.levels h) (level_at world'.scratch.levels h) (world.slots s) (world'.slots s) (m.scratch h) (m.slots s));
    scratch = agree-changed g h (λ level. []) (λ level. []) world.scratch.levels world'.scratch.levels m.scratch (λ le. refl);
  }

  pub mirrored-forget : MirroredWorlds cmp f g (changed drawn s (λ h. false)) (happens (act cmp) (At s Forget) false world) (happens (act cmp) (At s Forget) false world')
  mirrored-forget = record {
    slots = one-drawn cmp f g s drawn (λ h. false) world.slots world'.slots (acted cmp f s Forget world) (acted cmp f s Forget world') m.slots
        (record { levels = (m.slots s).levels; below = λ i lt. refl; turned = λ e. absurd (false≢true e) });
    scratch = m.scratch;
  }

  pub mirrored-redraw : (h : ℕ) (bit bit' : Bool) → (h < g → bit ≡ bit') → (h ≡ g → bit' ≡ not bit) →
      MirroredWorlds cmp f g (changed drawn s (changed (drawn s) h true)) (happens (act cmp) (At s (Redraw h)) bit world) (happens (act cmp) (At s (Redraw h)) bit' world')
  mirrored-redraw h bit bit' low here = record {
    slots = one-drawn cmp f g s drawn (changed (drawn s) h true) world.slots world'.slots (record (world.slots s) { kept = changed (world.slots s).kept h bit })
        (record (world'.slots s) { kept = changed (world'.slots s).kept h bit' }) m.slots
        (mirror-kept cmp f g h (drawn s g) ((changed (drawn s) h true) g) bit bit' (world.slots s) (world'.slots s) low (λ e d. here e) (still_drawn (drawn s) g h) (m.slots s));
    scratch = m.scratch;
  }

  pub mirrored-clear : MirroredWorlds cmp f g (changed drawn s (λ h. false)) (happens (act cmp) (At s Clear) false world) (happens (act cmp) (At s Clear) false world')
  mirrored-clear = search (rules, one-drawn, false≢true)

  -- so does a compaction by a drawn coin
  pub mirrored-draw : (h : ℕ) (taken : Taken) (row : ℕ → Bool) (bit bit' : Bool) → is_req taken ≡ true → (h < g → bit ≡ bit') → (h ≡ g → row g ≡ true → bit' ≡ not bit) →
      (h ≢ g → row g ≡ true → drawn s g ≡ true) →
      MirroredWorlds cmp f g (changed drawn s row) (compacted_at cmp f s h taken bit world) (compacted_at cmp f s h taken bit' world')
  mirrored-draw h taken row bit bit' req low here other = record {
    slots = one-drawn cmp f g s drawn row world.slots world'.slots (compacted cmp f h taken bit (world.slots s)) (compacted cmp f h taken bit' (world'.slots s)) m.slots
        (mirror-compact cmp f g h taken (drawn s g) (row g) bit bit' (world.slots s) (world'.slots s) req low here other (m.slots s));
    scratch = m.scratch;
  }

  -- and so does one by a turned coin
  pub mirrored-turn : (h : ℕ) (taken : Taken) (bit bit' : Bool) → is_req taken ≡ true → (h < g → bit ≡ bit') → (h ≡ g → drawn s g ≡ true → bit' ≡ not bit) →
      MirroredWorlds cmp f g drawn (compacted_at cmp f s h taken bit world) (compacted_at cmp f s h taken bit' world')
  mirrored-turn h taken bit bit' req low here = record {
    slots = one-changed cmp f g s drawn world.slots world'.slots (compacted cmp f h taken bit (world.slots s)) (compacted cmp f h taken bit' (world'.slots s)) m.slots
        (mirror-compact cmp f g h taken (drawn s g) (drawn s g) bit bit' (world.slots s) (world'.slots s) req low here (λ ne d. d) (m.slots s));
    scratch = m.scratch;
  }
