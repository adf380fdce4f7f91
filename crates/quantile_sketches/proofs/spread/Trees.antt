-- A slot that took only updates and free slots took each coin in once, and no two free slots have a coin in common.
use Rattle.std.proofs.Common.{arith, ◌≡◌, ℕ, Bool, true, false, ◌&&◌, ◌==◌, if◌then◌else◌, List, [], ◌∷◌, Option, Some, refl, sym, ap, ◌∙◌, subst, inl, inr, eqb-true}
use Rattle.std.proofs.lemmas.Grind.{common_steps}
use Rattle.std.proofs.lemmas.Bool.{cases_Bool, and_from, eq-eqb, ne_eqb, false≢true}
use Rattle.sketch_base.specs.Shares.{shares_after, all_shares, share_no_coin, takes_once}
use Rattle.sketch_base.specs.Trace.{Action, Clear, Event, Snap, At, Work, changed, events_at}
use Rattle.sketch_base.proofs.bags.Acts.{changed-there}
use Rattle.sketch_base.proofs.spread.Squares.{AreAsMany, as_many-after, products, AreApart, apart-swapped, apart-cleared, apart-acts, apart-snapped, once-elsewhere}
use Rattle.sketch_kll.specs.Merge.{merge_actions}
use Rattle.sketch_kll.specs.Schedule.{update_actions}
use Rattle.sketch_kll.specs.Weighted.{weighted_actions}
use Rattle.sketch_kll.proofs.spread.Calls.{update-once, merge-once}
use Rattle.quantile_sketches.specs.declared.commands.Command.{Command}
use Rattle.quantile_sketches.specs.declared.commands.Command.TheVariants.{New, Update, UpdateWeighted, Merge, Reset, RoundTrip, Redraw, MergeRedrawn}
use Rattle.quantile_sketches.specs.KllRules.{KllShape, kll_rules}
use Rattle.quantile_sketches.specs.Plan.{Plan, start_plan, actions_on, shape_after, accepted_events}
use Rattle.quantile_sketches.specs.Rollup.{Standing, Free, Mixed, joined_standing, used, is_tree, accepted_standings, TreesTakeOnce}
use Rattle.quantile_sketches.proofs.kll.Rules.{kll_lawful}
use Rattle.quantile_sketches.proofs.spread.Rollups.{coins-from}
use Rattle.quantile_sketches.proofs.plans.Legal.{changed-away, at_slot, not-none, then-there, merge-either, IsSteady, steady-start}

-- ---- standings

used-free : (a : Standing) → used a ≡ Free → ⊥
used-free a e = grind (arith, common_steps)

used-tree : (a : Standing) → is_tree (used a) ≡ is_tree a
used-tree a = grind (arith, common_steps)

joined-free : (a b : Standing) → joined_standing a b ≡ Free → (a ≡ Free) × (b ≡ Free)
joined-free a b e = grind (arith, common_steps)

-- what two merged slots make is a tree only if it is free
joined-tree : (a b : Standing) → is_tree (joined_standing a b) ≡ true → joined_standing a b ≡ Free
joined-tree a b e = grind (arith, common_steps, false≢true)

turned : (a b : ℕ) → (a == b) ≡ false → (b == a) ≡ false
turned a b ne = ne_eqb b a (λ (same : b ≡ a). false≢true (sym ne ∙ eq-eqb a b (sym same)))

-- trees took each coin in once, and free slots have none in common
record AreTrees (stands : ℕ → Standing) (once : ℕ → Bool) (shares : ℕ → List ℕ) : Type 0 where
  taken : (j : ℕ) → is_tree (stands j) ≡ true → once j ≡ true
  apart : (i j : ℕ) → (i == j) ≡ false → stands i ≡ Free → stands j ≡ Free → AreApart shares i j

-- this holds after some events that give the slots this standing
abbrev TreesBy : {A : Type 0} → (ℕ → Standing) → (ℕ → Bool) → (ℕ → List ℕ) → List (Event A) → Type 0
TreesBy stands once shares events = AreTrees stands (takes_once events shares once) (all_shares events shares)

-- ---- what commands keep

module _ (A : Type 0) (stands : ℕ → Standing) (once : ℕ → Bool) (shares : ℕ → List ℕ) (many : AreAsMany shares) (i : AreTrees stands once shares) where
  -- a slot that is cleared
  trees-clear : (s : ℕ) → AreTrees (changed stands s Free) (changed once s true) (shares_after {A = A} (At s Clear) shares)
  trees-clear s = record {
    taken = at_slot s (λ j. is_tree (changed stands s Free j) ≡ true → changed once s true j ≡ true) (λ t. changed-there once s true)
        (λ j e t. changed-away once s true j e ∙ i.taken j (ap is_tree (sym (changed-away stands s Free j e)) ∙ t));
    apart = λ a b ne f g. apart-cleared A s a b shares (λ e h. i.apart a b ne (sym (changed-away stands s Free a e) ∙ f) (sym (changed-away stands s Free b h) ∙ g));
  }

  -- a slot that is acted on, if no slot becomes free
  trees-act : (stands' : ℕ → Standing) (once' : ℕ → Bool) (s : ℕ) (actions : List (Action A)) → ((j : ℕ) → is_tree (stands' j) ≡ true → once' j ≡ true) →
      ((j : ℕ) → stands' j ≡ Free → stands j ≡ Free) → AreTrees stands' once' (all_shares (events_at s actions) shares)
  trees-act stands' once' s actions taken less = record {
    taken = taken;
    apart = λ a b ne f g. apart-acts s a b ne actions shares many (i.apart a b ne (less a f) (less b g));
  }

  -- a slot that takes an item with a weight
  trees-mixed : (s : ℕ) (actions : List (Action A)) → TreesBy (changed stands s Mixed) once shares (events_at s actions)
  trees-mixed s actions = trees-act (changed stands s Mixed) (takes_once (events_at s actions) shares once) s actions
      (at_slot s (λ j. is_tree (changed stands s Mixed j) ≡ true → takes_once (events_at s actions) shares once j ≡ true)
      (λ t. absurd (false≢true (ap is_tree (sym (changed-there stands s Mixed)) ∙ t)))
      (λ j e t. once-elsewhere s j e actions shares once ∙ i.taken j (ap is_tree (sym (changed-away stands s Mixed j e)) ∙ t)))
      (at_slot s (λ j. changed stands s Mixed j ≡ Free → stands j ≡ Free) (λ f. absurd (cc (sym (changed-there stands s Mixed) ∙ f))) (λ j e f. sym (changed-away stands s Mixed j e) ∙ f))

  -- a slot that takes another one in
  module _ (into source : ℕ) where
    abbrev comes : Standing
    comes = if into == source then Mixed else joined_standing (stands into) (stands source)

    abbrev others : ℕ → Standing
    others = changed stands source (used (stands source))

    abbrev after : ℕ → Standing
    after = changed others into comes

    abbrev snapped : ℕ → List ℕ
    snapped = shares_after {A = A} (Snap source into) shares

    abbrev kept : Bool
    kept = once into && (once source && share_no_coin (shares into) (shares source))

    -- if a merge makes a free slot, its two slots are different and were free
    were_free : comes ≡ Free → ((into == source) ≡ false) × (stands into ≡ Free) × (stands source ≡ Free)
    were_free = elim (into == source) as (λ b. (if b then Mixed else joined_standing (stands into) (stands source)) ≡ Free → (b ≡ false) × (stands into ≡ Free) × (stands source ≡ Free)) [
      | true ↦ λ e. absurd (cc)
      | false ↦ λ e. let both = joined-free (stands into) (stands source) e in (refl, both.0, both.1)
    ]

    comes-tree : is_tree comes ≡ true → comes ≡ Free
    comes-tree = elim (into == source) as (λ b. let made = if b then Mixed else joined_standing (stands into) (stands source) in is_tree made ≡ true → made ≡ Free) [
      | true ↦ λ t. absurd (false≢true t)
      | false ↦ joined-tree (stands into) (stands source)
    ]

    -- another slot that is free isn't the source
    free-others : (j : ℕ) → others j ≡ Free → ((j == source) ≡ false) × (stands j ≡ Free)
    free-others j = elim (j == source) as (λ b. (if b then used (stands source) else stands j) ≡ Free → (b ≡ false) × (stands j ≡ Free)) [
      | true ↦ λ f. absurd (used-free (stands source) f)
      | false ↦ λ f. (refl, f)
    ]

    others-tree : (j : ℕ) → is_tree (others j) ≡ is_tree (stands j)
    others-tree = at_slot source (λ j. is_tree (others j) ≡ is_tree (stands j)) (ap is_tree (changed-there stands source (used (stands source))) ∙ used-tree (stands source))
        (λ j e. ap is_tree (changed-away stands source (used (stands source)) j e))

    -- a free slot that took the other one in shares no coin with a third free one
    apart-into : comes ≡ Free → (j : ℕ) → (j == into) ≡ false → others j ≡ Free → AreApart snapped into j
    apart-into e j ne f =
        let (differ, mine, its) = were_free e in
        let (far, free) = free-others j f in
        apart-snapped A source into j ne shares many (i.apart into j (turned j into ne) mine free) (i.apart source j (turned j source far) its free)

    apart-others : (a b : ℕ) → (a == into) ≡ false → (b == into) ≡ false → (a == b) ≡ false → others a ≡ Free → others b ≡ Free → AreApart snapped a b
    apart-others a b e f ne g h = ap (λ (l : List ℕ). products l (snapped b)) (changed-away shares into _ a e)
        ∙ (ap (λ (l : List ℕ). products (shares a) l) (changed-away shares into _ b f) ∙ i.apart a b ne (free-others a g).1 (free-others b h).1)

    -- no two free slots share a coin after that
    apart-after : (a b : ℕ) → (a == b) ≡ false → after a ≡ Free → after b ≡ Free → AreApart snapped a b
    apart-after a b ne f g = elim (cases_Bool (a == into)) [
      | inl e ↦
          let far : (b == into) ≡ false = ap (λ (m : ℕ). b == m) (sym (eqb-true a into e)) ∙ turned a b ne in
          subst (λ (m : ℕ). AreApart snapped m b) (sym (eqb-true a into e)) (apart-into (sym (here a e) ∙ f) b far (sym (changed-away others into comes b far) ∙ g))
      | inr e ↦
          elim (cases_Bool (b == into)) [
            | inl h ↦
                apart-swapped snapped b a (subst (λ (m : ℕ). AreApart snapped m a) (sym (eqb-true b into h)) (apart-into (sym (here b h) ∙ g) a e (sym (changed-away others into comes a e) ∙ f)))
            | inr h ↦ apart-others a b e h ne (sym (changed-away others into comes a e) ∙ f) (sym (changed-away others into comes b h) ∙ g)
          ]
    ]
      where
        here : (j : ℕ) → (j == into) ≡ true → after j ≡ comes
        here j e = ap (λ (b : Bool). if b then comes else others j) e

    -- all this holds after the actions of the merge
    trees-merge : (actions : List (Action A)) → takes_once (Snap source into ∷ events_at into actions) shares once ≡ changed once into kept →
        TreesBy after once shares (Snap source into ∷ events_at into actions)
    trees-merge actions taken = record {
      taken = λ j t. ap (λ (f : ℕ → Bool). f j) taken ∙ at_slot into (λ j. is_tree (after j) ≡ true → changed once into kept j ≡ true) (λ t.
          let (differ, mine_free, its_free) = were_free (comes-tree (ap is_tree (sym (changed-there others into comes)) ∙ t)) in
          changed-there once into kept ∙ and_from (once into) _ (i.taken into (ap is_tree mine_free)) (and_from (once source) _ (i.taken source (ap is_tree its_free)) (eq-eqb (products (shares into) (shares source)) 0 (i.apart into source differ mine_free its_free))))
          (λ j e t. changed-away once into kept j e ∙ i.taken j (sym (others-tree j) ∙ (ap is_tree (sym (changed-away others into comes j e)) ∙ t))) j t;
      apart = λ a b ne f g. apart-acts into a b ne actions snapped (as_many-after {A = A} (Snap source into) shares many) (apart-after a b ne f g);
    }

module _ {A : Type 0} where
  -- an accepted command
  accepted-trees : (plan : Plan KllShape) → IsSteady (kll_lawful {A = A}) plan → (stands : ℕ → Standing) (once : ℕ → Bool) (shares : ℕ → List ℕ) → AreAsMany shares → AreTrees stands once shares →
      (command : Command A ℕ) (t : KllShape) → shape_after kll_rules plan.shapes command ≡ Some t →
      TreesBy (accepted_standings kll_rules plan.shapes stands command) once shares (accepted_events kll_rules plan command)
  accepted-trees plan st stands once shares many i (New slot k) t e = trees-clear A stands once shares many i slot
  accepted-trees plan st stands once shares many i (Reset slot) t e = trees-clear A stands once shares many i slot
  accepted-trees plan st stands once shares many i (RoundTrip slot) t e = i
  accepted-trees plan st stands once shares many i (Update slot x) t e =
      let (s, held, u) = then-there (kll_rules {A = A}).updated (plan.shapes slot) t e in
      let actions : List (Action A) = update_actions s.k (plan.lengths.slots slot) x in
      subst (λ (o : Option KllShape). (λ (actions : List (Action A)). TreesBy stands once shares (events_at slot actions)) (actions_on o (λ shape. update_actions shape.k (plan.lengths.slots slot) x))) (sym held)
      (trees-act A stands once shares many i stands (takes_once (events_at slot actions) shares once) slot actions
      (λ j t. update-once slot s.k (plan.lengths.slots slot) x shares once (st.fits slot s held).0 j ∙ i.taken j t) (λ j f. f))
  accepted-trees plan st stands once shares many i (UpdateWeighted slot x weight) t e =
      trees-mixed A stands once shares many i slot (actions_on (plan.shapes slot) (λ shape. weighted_actions shape.k (plan.lengths.slots slot) x weight))
  accepted-trees plan st stands once shares many i (Merge into source) t e = merge-either kll_rules false plan into source t e
      (λ (b : Bool) (events : List (Event A)). TreesBy (if b then stands else after A stands once shares many i into source) once shares events) (λ s other held held_other m none. i)
      (λ s other held held_other m some.
      let work : Work (List ℕ) = record { bag = plan.lengths.slots into; scratch = plan.lengths.slots source } in
      trees-merge A stands once shares many i into source (merge_actions s.k work) (merge-once A source into s.k work shares once (st.fits into s held).0))
  accepted-trees plan st stands once shares many i (Redraw slot) t e =
      let (s, held, none) = then-there (kll_rules {A = A}).redrawn (plan.shapes slot) t e in absurd (not-none t none)
  accepted-trees plan st stands once shares many i (MergeRedrawn into source) t e = grind (arith, common_steps, then-there, not-none)

  -- so trees of merges take each coin in once
  pub trees-take_once : TreesTakeOnce A
  trees-take_once commands slot t =
      (coins-from (λ plan. accepted_standings kll_rules plan.shapes) (λ shapes world. AreTrees) accepted-trees start_plan (steady-start kll_lawful) (λ s. Free) (λ s. true) (λ s. []) (λ i j. refl)
      (record { taken = λ j t. refl; apart = λ i j ne f g. refl }) commands).taken slot t
