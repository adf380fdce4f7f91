-- Which slots stay ready and fair along the events of commands. With updates alone, each turned coin complements one that was drawn for its level;
-- after merges and images it does if coins are drawn anew.
use Rattle.std.proofs.Common.{ℕ, zero, suc, Bool, false, List, [], ◌∷◌, sym, subst, arith, ◌≡◌, ◌≢◌, true, not, ◌&&◌, if◌then◌else◌, ◌++◌, length, ap, ◌∙◌, inl, inr, eqb-true, ◌+◌, ◌*◌, ◌^◌, ◌≤◌, cond, count_by, refl, IsTrue, Ordering}
use Rattle.std.proofs.lemmas.Bool.{false≢true, cases_Bool, cases_eq, and_left, and_right}
use Rattle.sketch_base.specs.Trace.{Event, events_at, Action, Forget, Clear, Snap, At, changed, joins_actions, Coin, Compact, is_req, is_req_action, coins, play, start}
use Rattle.sketch_base.specs.Fair.{IsByUpdates, reaches}
use Rattle.sketch_req.specs.Schedule.{Layout, new_layout, update_actions, update_layouts, joined_layouts, are_full, redraw_actions, actions_if_full, walk_actions, merge_layouts, layout_at, taken, put_layouts, merge_actions_by}
use Rattle.sketch_req.specs.ScheduleLaws.{updates_actions, updates_trace, AreDrawn, merge_events}
use Rattle.sketch_req.specs.declared.RankAccuracy.{RankAccuracy}
use Rattle.sketch_req.proofs.unbiased.Drawn.{HoldsByDrawn, by-update, Rises, takes_req, IsFair, fair-update, fair-joins, fair-redraw, fair-merge_redrawn, fair-apart, reaches-own, reaches-joins, own-update, own-room}
use Rattle.sketch_req.proofs.plays.Legal.{at-append, holds-walk}
use Rattle.std.proofs.lemmas.Grind.{common_steps}
use Rattle.sketch_base.proofs.bags.Acts.{changed-there, changed-other, changed-itself}
use Rattle.sketch_req.specs.Walk.{AreOwn}
use Rattle.sketch_req.proofs.sketches.Copies.{own-redraws}
use Rattle.sketch_req.proofs.walks.Walks.{own-append, own-req}
use Rattle.std.specs.Prelude.{⊤}
use Rattle.std.specs.List.{AllByRecursion}
use Rattle.std.proofs.lemmas.List.Sums.{sum_by-cons}
use Rattle.sketch_base.specs.Bag.{Taken, weighted_rank}
use Rattle.sketch_base.specs.Ranks.{true_ranks}
use Rattle.sketch_base.specs.Words.{sum_over_words}
use Rattle.sketch_base.proofs.bags.Parts.{all-append}
use Rattle.sketch_base.proofs.unbiased.Fair.{unbiased_by_updates}

-- With updates alone, each turned coin complements one that was drawn for its level.

-- at the start no level has a coin to turn
pub none_drawn : (drawn : ℕ → Bool) → AreDrawn (new_layout ∷ []) drawn
none_drawn drawn zero p = absurd (false≢true p)
none_drawn drawn (suc zero) p = absurd (false≢true p)
none_drawn drawn (suc (suc h)) p = absurd (false≢true p)

module _ {A : Type 0} where
  pub are_by_updates : (s : ℕ) → HoldsByDrawn {A = A} s IsByUpdates
  are_by_updates s = record { put = λ x es drawn p. p; fresh = λ h taken es drawn r p. (r, p); turned = λ h taken es drawn r d p. (r, d, p) }

  by-updates : (k : ℕ) (accuracy : RankAccuracy) (s : ℕ) (ls : List Layout) (items : List A) (drawn : ℕ → ℕ → Bool) → AreDrawn ls (drawn s) →
      IsByUpdates (events_at s (updates_actions k accuracy ls items)) drawn
  by-updates k accuracy s ls [] drawn a = tt
  by-updates k accuracy s ls (x ∷ xs) drawn a =
      let rest = updates_actions k accuracy (update_layouts k ls) xs in
      subst (λ (trace : List (Event A)). IsByUpdates trace drawn) (sym (at-append s (update_actions k accuracy ls x) rest))
      (by-update IsByUpdates k accuracy s (are_by_updates s) (events_at s rest) ls x drawn a (λ more up a'. by-updates k accuracy s (update_layouts k ls) xs more a'))

  -- updates of an empty sketch make a trace by updates
  pub trace_by-updates : (s k : ℕ) (accuracy : RankAccuracy) (items : List A) → IsByUpdates (updates_trace s k accuracy items) (λ s h. false)
  trace_by-updates s k accuracy items = by-updates k accuracy s (new_layout ∷ []) items (λ s h. false) (none_drawn (λ h. false))

-- Which slots stay ready and fair along the events of commands. Ready: each level whose next compaction turns its coin
-- has drawn one. Fair: each coin that was turned for what is in the slot complements one that was drawn.

-- the ready slots have drawn the coins that they turn next
abbrev pub AreReady : (layouts : ℕ → List Layout) (ready : ℕ → Bool) (drawn : ℕ → ℕ → Bool) → Type 0
AreReady layouts ready drawn = (j : ℕ) → ready j ≡ true → AreDrawn (layouts j) (drawn j)

-- after a command on one slot: the others stay as they were, and this one is ready if the flag says so
ready-after : (s : ℕ) (layouts : ℕ → List Layout) (after : List Layout) (ready : ℕ → Bool) (is_ready : Bool) (drawn more : ℕ → ℕ → Bool) → AreReady layouts ready drawn →
    ((j : ℕ) → j ≢ s → (h : ℕ) → drawn j h ≡ true → more j h ≡ true) → (is_ready ≡ true → AreDrawn after (more s)) → AreReady (changed layouts s after) (changed ready s is_ready) more
ready-after s layouts after ready is_ready drawn more a up here j r = grind (arith, common_steps, cases_eq, changed-there, changed-other)

-- the same if its layouts stay
ready-kept : (s : ℕ) (layouts : ℕ → List Layout) (ready : ℕ → Bool) (is_ready : Bool) (drawn more : ℕ → ℕ → Bool) → AreReady layouts ready drawn →
    ((j : ℕ) → j ≢ s → (h : ℕ) → drawn j h ≡ true → more j h ≡ true) → (is_ready ≡ true → AreDrawn (layouts s) (more s)) → AreReady layouts (changed ready s is_ready) more
ready-kept s layouts ready is_ready drawn more a up here =
    subst (λ (ls : ℕ → List Layout). AreReady ls (changed ready s is_ready) more) (changed-itself layouts s) (ready-after s layouts (layouts s) ready is_ready drawn more a up here)

-- if one slot has no drawn coin left, the others keep theirs
none-drawn_up : (drawn : ℕ → ℕ → Bool) (s j : ℕ) → j ≢ s → (h : ℕ) → drawn j h ≡ true → changed drawn s (λ h. false) j h ≡ true
none-drawn_up drawn s j other h d = ap (λ (f : ℕ → Bool). f h) (changed-other drawn s (λ h. false) j other) ∙ d

-- flags that are false stay false if the changed one does
lowered : (flags : ℕ → Bool) (s : ℕ) (b : Bool) (j : ℕ) → (flags s ≡ false → b ≡ false) → flags j ≡ false → changed flags s b j ≡ false
lowered flags s b j here e = grind (arith, common_steps, cases_Bool, eqb-true)

module _ {A : Type 0} (slot : ℕ) where
  -- what comes after is fair to the asked slot if the slots said to be ready are; and no slot that is not fair gets into it
  pub record Stands (layouts : ℕ → List Layout) (ready fair : ℕ → Bool) (rest : List (Event A)) : Type 0 where
    pub fairs : (drawn : ℕ → ℕ → Bool) → AreReady layouts ready drawn → IsFair slot rest drawn
    pub apart : (j : ℕ) → fair j ≡ false → reaches rest slot j ≡ false

  -- at the end, if the slot is fair
  pub stands-end : (layouts : ℕ → List Layout) (ready fair : ℕ → Bool) → fair slot ≡ true → Stands layouts ready fair []
  stands-end layouts ready fair e = grind (arith, common_steps, cases_Bool, false≢true, eqb-true)

  -- equal flags and layouts
  pub stands-same : (layouts layouts' : ℕ → List Layout) (ready ready' fair fair' : ℕ → Bool) (rest : List (Event A)) →
      ((j : ℕ) → layouts j ≡ layouts' j) → ((j : ℕ) → ready j ≡ ready' j) → ((j : ℕ) → fair j ≡ fair' j) → Stands layouts ready fair rest → Stands layouts' ready' fair' rest
  stands-same layouts layouts' ready ready' fair fair' rest l r f n = grind (arith, common_steps)

  -- a sketch that is made or emptied
  pub stands-clear : (s : ℕ) (layouts : ℕ → List Layout) (ready fair : ℕ → Bool) (rest : List (Event A)) →
      Stands (changed layouts s (new_layout ∷ [])) (changed ready s true) (changed fair s true) rest → Stands layouts ready fair (At s Clear ∷ rest)
  stands-clear s layouts ready fair rest n = grind (arith, common_steps, ready-after, none-drawn_up, none_drawn, cases_Bool, and_left, and_right)

  -- a round trip
  pub stands-forget : (s : ℕ) (layouts : ℕ → List Layout) (ready fair : ℕ → Bool) (rest : List (Event A)) →
      Stands layouts (changed ready s false) fair rest → Stands layouts ready fair (At s Forget ∷ rest)
  stands-forget s layouts ready fair rest n = grind (arith, common_steps, ready-kept, none-drawn_up, false≢true)

  -- redrawn coins
  pub stands-redraw : (s : ℕ) (layouts : ℕ → List Layout) (ready fair : ℕ → Bool) (rest : List (Event A)) →
      Stands layouts (changed ready s true) fair rest → Stands layouts ready fair (events_at s (redraw_actions (layouts s)) ++ rest)
  stands-redraw s layouts ready fair rest n = grind (arith, common_steps, fair-redraw, ready-kept, reaches-own, own-redraws)

  -- an update: in a slot that is not ready it may turn a coin that complements no drawn one
  pub stands-update : (k : ℕ) (accuracy : RankAccuracy) (s : ℕ) (x : A) (layouts : ℕ → List Layout) (ready fair : ℕ → Bool) (rest : List (Event A)) →
      Stands (changed layouts s (update_layouts k (layouts s))) ready (changed fair s (fair s && ready s)) rest →
      Stands layouts ready fair (events_at s (update_actions k accuracy (layouts s) x) ++ rest)
  stands-update k accuracy s x layouts ready fair rest n = record { fairs = fairs; apart = apart }
    where
      actions : List (Action A)
      actions = update_actions k accuracy (layouts s) x

      goes : (drawn more : ℕ → ℕ → Bool) → AreReady layouts ready drawn → Rises drawn more → (ready s ≡ true → AreDrawn (update_layouts k (layouts s)) (more s)) → IsFair slot rest more
      goes drawn more a up here =
          n.fairs more (subst (λ (flags : ℕ → Bool). AreReady (changed layouts s (update_layouts k (layouts s))) flags more) (changed-itself ready s)
          (ready-after s layouts (update_layouts k (layouts s)) ready (ready s) drawn more a (λ j _. up j) here))

      fairs : (drawn : ℕ → ℕ → Bool) → AreReady layouts ready drawn → IsFair slot (events_at s actions ++ rest) drawn
      fairs drawn a = elim (cases_Bool (ready s)) [
        | inl e ↦ fair-update slot k accuracy s rest (layouts s) x drawn (a s e) (λ more up d. goes drawn more a up (λ _. d))
        | inr e ↦
            fair-apart slot s actions rest drawn (own-update A k accuracy (layouts s) x) (n.apart s (changed-there fair s _ ∙ and_right (fair s) (ready s) e))
            (λ more up. goes drawn more a up (λ r. absurd (false≢true (sym e ∙ r))))
      ]

      apart : (j : ℕ) → fair j ≡ false → reaches (events_at s actions ++ rest) slot j ≡ false
      apart j f =
          reaches-own slot s j actions rest (own-update A k accuracy (layouts s) x)
          ∙ n.apart j (lowered fair s (fair s && ready s) j (λ e. and_left (fair s) (ready s) e) f)

  -- a merge: neither of the two slots gets in if it is not fair
  merged-apart : (source into : ℕ) (fair : ℕ → Bool) (b : Bool) (actions : List (Action A)) (rest : List (Event A)) → AreOwn actions → (more : ℕ) →
      (fair into ≡ false → b ≡ false) → (fair source ≡ false → b ≡ false) → ((j : ℕ) → changed fair into b j ≡ false → reaches rest slot j ≡ false) →
      (j : ℕ) → fair j ≡ false → reaches (Snap source into ∷ events_at into (joins_actions more 0 ++ actions) ++ rest) slot j ≡ false
  merged-apart source into fair b actions rest own more mine its next j f = grind (arith, common_steps, lowered, reaches-joins, reaches-own, cases_Bool, and_right, changed-there, eqb-true, and_left)

  -- a merge that redraws coins
  pub stands-merge_redrawn : (k : ℕ) (accuracy : RankAccuracy) (source into : ℕ) (layouts : ℕ → List Layout) (ready fair : ℕ → Bool) (rest : List (Event A)) →
      Stands (changed layouts into (merge_layouts k (layouts into) (layouts source))) (changed ready into true) (changed fair into (fair into && fair source)) rest →
      Stands layouts ready fair (merge_events true k accuracy source into (layouts into) (layouts source) ++ rest)
  stands-merge_redrawn k accuracy source into layouts ready fair rest n = record {
    fairs = λ drawn a. fair-merge_redrawn slot k accuracy into rest (layouts into) (layouts source) drawn
        (λ more up d. n.fairs more (ready-after into layouts _ ready true drawn more a (λ j _. up j) (λ _. d)));
    apart = merged-apart source into fair (fair into && fair source) (redraw_actions joined ++ actions_if_full k accuracy joined) rest
        (own-append (redraw_actions joined) (actions_if_full k accuracy joined) (own-redraws A 0 joined) (own-room A k accuracy joined)) (length (layouts source))
        (λ e. and_left (fair into) (fair source) e) (λ e. and_right (fair into) (fair source) e) n.apart;
  }
    where
      joined : List Layout
      joined = joined_layouts k (layouts into) (layouts source)

  -- any other merge: fair if it makes no walk
  pub stands-merge : (k : ℕ) (accuracy : RankAccuracy) (source into : ℕ) (layouts : ℕ → List Layout) (ready fair : ℕ → Bool) (rest : List (Event A)) →
      Stands (changed layouts into (merge_layouts k (layouts into) (layouts source))) (changed ready into false)
      (changed fair into (not (are_full k (joined_layouts k (layouts into) (layouts source))) && (fair into && fair source))) rest →
      Stands layouts ready fair (merge_events false k accuracy source into (layouts into) (layouts source) ++ rest)
  stands-merge k accuracy source into layouts ready fair rest n = record {
    fairs = fairs;
    apart = merged-apart source into fair kept (actions_if_full k accuracy joined) rest (own-room A k accuracy joined) (length (layouts source))
        (λ e. and_right walks (fair into && fair source) (and_left (fair into) (fair source) e)) (λ e. and_right walks (fair into && fair source) (and_right (fair into) (fair source) e)) n.apart;
  }
    where
      joined : List Layout
      joined = joined_layouts k (layouts into) (layouts source)

      walks : Bool
      walks = not (are_full k joined)

      kept : Bool
      kept = walks && (fair into && fair source)

      room : List (Action A)
      room = actions_if_full k accuracy joined

      goes : (drawn more : ℕ → ℕ → Bool) → AreReady layouts ready drawn → Rises drawn more → IsFair slot rest more
      goes drawn more a up = n.fairs more (ready-after into layouts _ ready false drawn more a (λ j _. up j) (λ r. absurd (false≢true r)))

      fairs : (drawn : ℕ → ℕ → Bool) → AreReady layouts ready drawn → IsFair slot (merge_events false k accuracy source into (layouts into) (layouts source) ++ rest) drawn
      fairs drawn a =
          fair-joins slot into (length (layouts source)) 0 room rest drawn
          ∙ elim (cases_Bool (are_full k joined)) [
            | inl e ↦
                fair-apart slot into room rest drawn (own-room A k accuracy joined) (n.apart into (changed-there fair into kept ∙ and_left walks (fair into && fair source) (ap not e)))
                (λ more up. goes drawn more a up)
            | inr e ↦
                subst (λ (actions : List (Action A)). IsFair slot (events_at into actions ++ rest) drawn) (sym (ap (λ (b : Bool). if b then walk_actions k accuracy joined else []) e))
                (goes drawn drawn a (λ t j d. d))
          ]

-- What updates and merges do to true ranks, and that their actions are REQ's.

module _ {A : Type 0} where
  -- actions that are all compactions of REQ's
  abbrev pub AreCompacts : List (Action A) → Type 0
  AreCompacts [] = ⊤
  AreCompacts (Compact h coin taken ∷ rest) = (is_req taken ≡ true) × AreCompacts rest
  AreCompacts (other ∷ rest) = ⊥

module _ (A : Type 0) where
  pub room_compacts : (k : ℕ) (accuracy : RankAccuracy) (ls : List Layout) → AreCompacts {A = A} (actions_if_full k accuracy ls)
  room_compacts k accuracy ls =
      holds-walk k accuracy (λ _. ⊤) (λ _ _ _. tt) (λ _ actions _ _. AreCompacts actions) (λ h ls _ _ _ _ _ rest. (takes_req accuracy (taken k (layout_at ls h)), rest)) (λ _ _. tt) ls tt

module _ {A : Type 0} where
  -- what holds of each of REQ's compactions holds of all of these
  all-compacts : (P : Action A → Type 0) → ((h : ℕ) (coin : Coin) (taken : Taken) → is_req taken ≡ true → P (Compact h coin taken)) →
      (actions : List (Action A)) → AreCompacts actions → AllByRecursion P actions
  all-compacts P each [] c = tt
  all-compacts P each (Compact h coin taken ∷ rest) c = (each h coin taken c.0, all-compacts P each rest c.1)
  all-compacts P each (other ∷ rest) c = absurd c

  compacts_req : (actions : List (Action A)) → AreCompacts actions → AllByRecursion (λ action. IsTrue (is_req_action action)) actions
  compacts_req = all-compacts (λ action. IsTrue (is_req_action action)) (λ h coin taken req. req)

  -- the actions of an update are REQ's
  pub update_req : (k : ℕ) (accuracy : RankAccuracy) (ls : List Layout) (x : A) → AllByRecursion (λ action. IsTrue (is_req_action action)) (update_actions k accuracy ls x)
  update_req k accuracy ls x = (refl, compacts_req (actions_if_full k accuracy (put_layouts ls)) (room_compacts A k accuracy (put_layouts ls)))

  -- joins are actions of REQ's
  pub joins_req : (more h : ℕ) (rest : List (Action A)) → AllByRecursion (λ action. IsTrue (is_req_action action)) rest →
      AllByRecursion (λ action. IsTrue (is_req_action action)) (joins_actions more h ++ rest)
  joins_req zero h rest r = r
  joins_req (suc more) h rest r = (refl, joins_req more (suc h) rest r)

module _ (A : Type 0) where
  -- so are those of a merge of either kind
  pub merge_by_req : (redraws : Bool) (k : ℕ) (accuracy : RankAccuracy) (ls others : List Layout) → AllByRecursion (λ action. IsTrue (is_req_action {A = A} action))
      (merge_actions_by redraws k accuracy ls others)
  merge_by_req redraws k accuracy ls others =
      grind (arith, common_steps, joins_req, compacts_req, room_compacts A, all-append (λ action. IsTrue (is_req_action {A = A} action)), own-req, own-redraws A 0)

module _ {A : Type 0} (test : A → Bool) where
  -- compactions leave true ranks as they are
  pub ranks-compacts : (s : ℕ) (actions : List (Action A)) (rest : List (Event A)) (ranks : ℕ → ℕ) → AreCompacts actions →
      true_ranks test (events_at s actions ++ rest) ranks ≡ true_ranks test rest ranks
  ranks-compacts s [] rest ranks c = refl
  ranks-compacts s (Compact h coin taken ∷ more) rest ranks c = ranks-compacts s more rest ranks c.1
  ranks-compacts s (other ∷ more) rest ranks c = absurd c

  -- an update counts its item
  pub ranks-update : (k : ℕ) (accuracy : RankAccuracy) (s : ℕ) (ls : List Layout) (x : A) (rest : List (Event A)) (ranks : ℕ → ℕ) →
      true_ranks test (events_at s (update_actions k accuracy ls x) ++ rest) ranks ≡ true_ranks test rest (changed ranks s (ranks s + (if test x then 2 ^ 0 else 0)))
  ranks-update k accuracy s ls x rest ranks =
      ranks-compacts s (actions_if_full k accuracy (put_layouts ls)) rest (changed ranks s (ranks s + (if test x then 2 ^ 0 else 0))) (room_compacts A k accuracy (put_layouts ls))

  -- updates by a list count its items
  pub ranks-updates : (s k : ℕ) (accuracy : RankAccuracy) (ls : List Layout) (items : List A) (ranks : ℕ → ℕ) →
      true_ranks test (events_at s (updates_actions k accuracy ls items)) ranks s ≡ ranks s + count_by test items
  ranks-updates s k accuracy ls [] ranks = omega arith
  ranks-updates s k accuracy ls (x ∷ xs) ranks =
      let rest = updates_actions k accuracy (update_layouts k ls) xs in
      let next = changed ranks s (ranks s + (if test x then 2 ^ 0 else 0)) in
      let one : (if test x then 2 ^ 0 else 0) ≡ cond (test x) 1 0 = refl in
      ap (λ (trace : List (Event A)). true_ranks test trace ranks s) (at-append s (update_actions k accuracy ls x) rest)
      ∙ (ap (λ (f : ℕ → ℕ). f s) (ranks-update k accuracy s ls x (events_at s rest) ranks)
      ∙ (ranks-updates s k accuracy (update_layouts k ls) xs next
      ∙ omega (arith, changed-there ranks s (ranks s + (if test x then 2 ^ 0 else 0)), one, sum_by-cons (λ (y : A). cond (test y) 1 0) x xs)))

  -- updates are unbiased
  pub unbiased_list : (cmp : A → A → Ordering) (slot k words : ℕ) (accuracy : RankAccuracy) (items : List A) → coins (updates_trace slot k accuracy items) ≤ words →
      sum_over_words words (λ word. weighted_rank cmp test ((play cmp (updates_trace slot k accuracy items) word start).slots slot)) ≡ 2 ^ words * count_by test items
  unbiased_list cmp slot k words accuracy items enough =
      let e : 0 + count_by test items ≡ count_by test items = omega arith in
      unbiased_by_updates cmp test (updates_trace slot k accuracy items) words slot (trace_by-updates slot k accuracy items) enough
      ∙ ap (λ n. 2 ^ words * n) (ranks-updates slot k accuracy (new_layout ∷ []) items (λ s. 0) ∙ e)
