-- A compaction of a level, with the merge into the level above, is an action on the bag of the levels.
use Rattle.std.proofs.lemmas.Grind.{common_steps}
use Rattle.std.proofs.Common.{◌≡◌, ◌≢◌, ℕ, zero, suc, ◌*◌, ◌≤◌, Bool, true, false, cond, ◌&&◌, ◌==◌, if◌then◌else◌, List, [], ◌∷◌, ◌++◌, length, refl, sym, ap, ◌∙◌, subst, arith, le-leb, Ordering}
use Rattle.std.specs.List.{AllZip}
use Rattle.std.specs.Cmp.{IsTotalOrder}
use Rattle.std.proofs.lemmas.Bool.{cases_eq}
use Rattle.sketch_base.specs.Bag.{Lowest, Greatest, SameItems, AlikeReq, sort, half, cut, parity_up, level_at, with_level, Bag}
use Rattle.sketch_base.specs.Trace.{act, alone, bit_of, changed, draws}
use Rattle.sketch_base.specs.Lengths.{TakesFew}
use Rattle.sketch_base.proofs.bags.Acts.{changed-there, changed-other, sum_by-sort}
use Rattle.sketch_base.proofs.order.Order.{SameCounts-from_items, SameCounts-append, sorted_items}
use Rattle.sketch_base.specs.Query.{counted}
use Rattle.sketch_req.specs.Level.{Level, IsLevel, IsCompacted, IsTakenIn, parted, takes_any, draws_coin, coin_of, nominal_of, taken_count, taken_side}
use Rattle.sketch_req.specs.Actions.{coins_of, bag_of, coin_kind, compact_action}
use Rattle.sketch_req.specs.Merged.{item_lists}
use Rattle.sketch_req.specs.declared.RankAccuracy.{RankAccuracy}
use Rattle.sketch_req.specs.declared.RankAccuracy.TheVariants.{HighRank, LowRank}
use Rattle.sketch_base.proofs.bags.Alike.{SameItems-refl, SameItems-back, SameItems-trans}
use Rattle.sketch_req.specs.Schedule.{layout_of}
use Rattle.sketch_req.proofs.layouts.Layouts.{gives}

-- A compaction of a level, with the merge into the level above, is an action on the bag of the levels.

-- the items and the coin of the level above the levels `below`
level_there : {A : Type 0} (below rest : List (Level A)) (level : Level A) → level_at (item_lists (below ++ level ∷ rest)) (length below) ≡ level.items
level_there [] rest level = refl
level_there (b ∷ below) rest level = level_there below rest level

coin_there : {A : Type 0} (below rest : List (Level A)) (level : Level A) → coins_of (below ++ level ∷ rest) (length below) ≡ level.coin
coin_there [] rest level = refl
coin_there (b ∷ below) rest level = coin_there below rest level

coin_other : {A : Type 0} (below rest rest' : List (Level A)) (level level' : Level A) (h : ℕ) → ((i : ℕ) → coins_of rest' i ≡ coins_of rest i) → h ≢ length below →
    coins_of (below ++ level' ∷ rest') h ≡ coins_of (below ++ level ∷ rest) h
coin_other [] rest rest' level level' zero same ne = absurd (ne refl)
coin_other [] rest rest' level level' (suc h) same ne = same h
coin_other (b ∷ below) rest rest' level level' zero same ne = refl
coin_other (b ∷ below) rest rest' level level' (suc h) same ne = coin_other below rest rest' level level' h same (λ e. ne (ap suc e))

kept_is : {A : Type 0} (below rest rest' : List (Level A)) (level level' : Level A) (bit : Bool) (h : ℕ) → level'.coin ≡ bit → ((i : ℕ) → coins_of rest' i ≡ coins_of rest i) →
    coins_of (below ++ level' ∷ rest') h ≡ changed (coins_of (below ++ level ∷ rest)) (length below) bit h
kept_is below rest rest' level level' bit h e same = grind (arith, common_steps, cases_eq, changed-there, coin_there, changed-other, coin_other)

-- REQ's cuts don't use the flag, and the half that goes up depends on the bit alone
cut_is : {A : Type 0} (cmp : A → A → Ordering) (accuracy : RankAccuracy) (n : ℕ) (flag : Bool) (xs ys : List A) → xs ≡ ys →
    cut cmp (taken_side accuracy n) flag xs ≡ cut cmp (taken_side accuracy n) false ys
cut_is cmp HighRank n flag xs ys e = ap (cut cmp (Lowest n) false) e
cut_is cmp LowRank n flag xs ys e = ap (cut cmp (Greatest n) false) e

parity_is : {A : Type 0} (accuracy : RankAccuracy) (n : ℕ) (bit : Bool) (above : List A) → parity_up (taken_side accuracy n) bit above ≡ bit
parity_is HighRank n bit above = refl
parity_is LowRank n bit above = refl

bit_is : {A : Type 0} (h : ℕ) (level : Level A) (next : Bool) (levels : List (Level A)) → coins_of levels h ≡ level.coin → bit_of (coin_kind level.state) h next (bag_of levels) ≡ coin_of level next
bit_is h level next levels e = grind (arith, common_steps)

-- the action of a level that gives up items draws a coin exactly if the level does
pub action_draws : {A : Type 0} (h : ℕ) (level : Level A) → takes_any level ≡ true → draws (compact_action h level) ≡ draws_coin level
action_draws {A} h level e = grind (arith, common_steps)

module _ {A : Type 0} {cmp : A → A → Ordering} (order : IsTotalOrder cmp) where
  abbrev SameSorted : List A → List A → Type 0
  SameSorted xs ys = SameItems cmp (sort cmp xs) (sort cmp ys)

  same_rest : (levels : List (Level A)) → AllZip SameSorted (item_lists levels) (item_lists levels)
  same_rest [] = tt
  same_rest (level ∷ levels) = (SameItems-refl cmp order (sort cmp level.items), same_rest levels)

  -- the levels, place by place
  same_levels : (below rest rest' : List (Level A)) (old new : Level A) (left up : List A) → SameSorted new.items left →
      AllZip SameSorted (item_lists rest') (with_level [] 0 (λ level. level ++ up) (item_lists rest)) →
      AllZip SameSorted (item_lists (below ++ new ∷ rest')) (with_level [] (suc (length below)) (λ xs. xs ++ up) (with_level [] (length below) (λ xs. left) (item_lists (below ++ old ∷ rest))))
  same_levels [] rest rest' old new left up s t = (s, t)
  same_levels (b ∷ below) rest rest' old new left up s t = (SameItems-refl cmp order (sort cmp b.items), same_levels below rest rest' old new left up s t)

  -- what stays and what is taken in
  same_kept : (old new : Level A) (coin : Bool) (up : List A) → IsCompacted cmp old coin up new → SameSorted new.items (parted cmp old).0
  same_kept old new coin up h = sorted_items order new.items (parted cmp old).0 (λ z c. sym (SameCounts-from_items order (parted cmp old).0 new.items h.items_are z c))

  same_upper : (old new upper upper' : Level A) (coin : Bool) (up : List A) → IsCompacted cmp old coin up new → IsTakenIn cmp upper up upper' →
      SameSorted upper'.items (upper.items ++ half coin (parted cmp old).1)
  same_upper old new upper upper' coin up h t =
      let taken : List A = half coin (parted cmp old).1 in
      sorted_items order upper'.items (upper.items ++ taken) (λ z c.
      sym (SameCounts-from_items order (sort cmp (upper.items ++ up)) upper'.items t.items_are z c)
      ∙ (sum_by-sort (λ x. cond (counted cmp z c x) 1 0) cmp (upper.items ++ up)
      ∙ sym (SameCounts-append order upper.items upper.items taken up (λ z c. refl) (SameCounts-from_items order taken up h.up_is) z c)))

  new_coin : (old new : Level A) (coin : Bool) (up : List A) → takes_any old ≡ true → IsCompacted cmp old coin up new → new.coin ≡ coin
  new_coin old new coin up e h = ap (λ (l : Level A). l.coin) h.rest_is ∙ ap (λ (b : Bool). if b then coin else old.coin) e

  -- a compaction is the action on the bag if the levels above take in what goes up and keep their coins
  is_action : (below rest rest' : List (Level A)) (old new : Level A) (next : Bool) (up : List A) → takes_any old ≡ true → IsCompacted cmp old (coin_of old next) up new →
      AllZip SameSorted (item_lists rest') (with_level [] 0 (λ level. level ++ half (coin_of old next) (parted cmp old).1) (item_lists rest)) → ((i : ℕ) → coins_of rest' i ≡ coins_of rest i) →
      AlikeReq cmp (bag_of (below ++ new ∷ rest')) (act cmp (compact_action (length below) old) next (alone (bag_of (below ++ old ∷ rest)))).bag
  is_action below rest rest' old new next up e h uppers coins =
      let h_at : ℕ = length below in
      let levels : List (Level A) = below ++ old ∷ rest in
      let n : ℕ = taken_count old in
      let side = taken_side old.accuracy n in
      let coin : Bool = bit_of (coin_kind old.state) h_at next (bag_of levels) in
      let above : List A = level_at (item_lists levels) (suc h_at) in
      let bit : coin ≡ coin_of old next = bit_is h_at old next levels (coin_there below rest old) in
      let parts = cut_is cmp old.accuracy n (h_at == 0 && true) (level_at (item_lists levels) h_at) old.items (level_there below rest old) in
      let parity : parity_up side coin above ≡ coin_of old next = parity_is old.accuracy n coin above ∙ bit in
      record {
        levels = same_levels below rest rest' old new _ _
            (subst (λ p. SameSorted new.items p.0) (sym parts) (same_kept old new (coin_of old next) up h))
            (subst (λ p. AllZip SameSorted (item_lists rest') (with_level [] 0 (λ level. level ++ half (parity_up side coin above) p.1) (item_lists rest))) (sym parts) (rw parity uppers));
        kept = λ i. kept_is below rest rest' old new _ i (new_coin old new (coin_of old next) up e h ∙ sym bit) coins;
      }

  -- a compaction into a level that exists is the action on the bag
  pub compaction_is_action : (below above : List (Level A)) (old new upper upper' : Level A) (next : Bool) (up : List A) →
      takes_any old ≡ true → IsCompacted cmp old (coin_of old next) up new → IsTakenIn cmp upper up upper' →
      AlikeReq cmp (bag_of (below ++ new ∷ upper' ∷ above)) (act cmp (compact_action (length below) old) next (alone (bag_of (below ++ old ∷ upper ∷ above)))).bag
  compaction_is_action below above old new upper upper' next up e h t =
      is_action below (upper ∷ above) (upper' ∷ above) old new next up e h (same_upper old new upper upper' (coin_of old next) up h t, same_rest above) coins
    where
      coins : (i : ℕ) → coins_of (upper' ∷ above) i ≡ coins_of (upper ∷ above) i
      coins zero = ap (λ (l : Level A). l.coin) t.rest_is
      coins (suc i) = refl

  -- so is one into a level that was added
  pub top_compaction_is_action : (below : List (Level A)) (old new upper upper' : Level A) (next : Bool) (up : List A) →
      upper.items ≡ [] → upper.coin ≡ false →
      takes_any old ≡ true → IsCompacted cmp old (coin_of old next) up new → IsTakenIn cmp upper up upper' →
      AlikeReq cmp (bag_of (below ++ new ∷ upper' ∷ [])) (act cmp (compact_action (length below) old) next (alone (bag_of (below ++ old ∷ [])))).bag
  top_compaction_is_action below old new upper upper' next up none low e h t =
      is_action below [] (upper' ∷ []) old new next up e h (rw none at (same_upper old new upper upper' (coin_of old next) up h t), tt) coins
    where
      coins : (i : ℕ) → coins_of (upper' ∷ []) i ≡ coins_of {A = A} [] i
      coins zero = ap (λ (l : Level A). l.coin) t.rest_is ∙ low
      coins (suc i) = refl

  -- a full level gives up items, but few of them
  pub gives_up_few : (level : Level A) → IsLevel cmp level → nominal_of level ≤ length level.items →
      (takes_any level ≡ true) × TakesFew (3 * level.k) (taken_side level.accuracy (taken_count level)) (length level.items)
  gives_up_few level l full =
      let g = gives level.k l.legal_k level.accuracy (layout_of level) (record { few = l.few_doublings; size = l.size_at_least }) (le-leb _ _ full) in
      (le-leb 2 (taken_count level) (omega (arith, g.four)), g.few)

-- Bags: being alike is reflexive, symmetric and transitive.

module _ {A : Type 0} {cmp : A → A → Ordering} (order : IsTotalOrder cmp) where
  -- levels whose items compare equal, in whatever order
  abbrev pub AlikeLevels : List (List A) → List (List A) → Type 0
  AlikeLevels = AllZip (λ xs ys. SameItems cmp (sort cmp xs) (sort cmp ys))

  pub levels-refl : (xs : List (List A)) → AlikeLevels xs xs
  levels-refl [] = tt
  levels-refl (x ∷ xs) = (SameItems-refl cmp order (sort cmp x), levels-refl xs)

  levels-sym : (xs ys : List (List A)) → AlikeLevels xs ys → AlikeLevels ys xs
  levels-sym [] [] s = tt
  levels-sym (x ∷ xs) (y ∷ ys) s = (SameItems-back order (sort cmp x) (sort cmp y) s.0, levels-sym xs ys s.1)
  levels-sym xs ys s = absurd s

  levels-trans : (xs ys zs : List (List A)) → AlikeLevels xs ys → AlikeLevels ys zs → AlikeLevels xs zs
  levels-trans [] [] zs s t = t
  levels-trans (x ∷ xs) (y ∷ ys) (z ∷ zs) s t = (SameItems-trans cmp order (sort cmp x) (sort cmp y) (sort cmp z) s.0 t.0, levels-trans xs ys zs s.1 t.1)
  levels-trans (x ∷ xs) (y ∷ ys) [] s t = absurd t
  levels-trans xs ys zs s t = absurd s

  pub alike-refl : (a : Bag A) → AlikeReq cmp a a
  alike-refl a = record { levels = levels-refl a.levels; kept = λ h. refl }

  pub alike-sym : (a b : Bag A) → AlikeReq cmp a b → AlikeReq cmp b a
  alike-sym a b s = record { levels = levels-sym a.levels b.levels s.levels; kept = λ h. sym (s.kept h) }

  pub alike-trans : (a b c : Bag A) → AlikeReq cmp a b → AlikeReq cmp b c → AlikeReq cmp a c
  alike-trans a b c s t = record { levels = levels-trans a.levels b.levels c.levels s.levels t.levels; kept = λ h. s.kept h ∙ t.kept h }
