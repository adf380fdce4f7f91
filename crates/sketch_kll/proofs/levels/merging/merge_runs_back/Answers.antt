use Rattle.std.proofs.lemmas.Grind.{common_steps}
use Rattle.std.proofs.Common.{arith, ◌≡◌, ℕ, List, ◌+◌, ◌-◌, ◌<◌, ◌≤◌, ◌++◌, length, get_or, take, drop, reverse, refl, sym, ap, ap₂, subst, ◌∙◌, append_assoc, length-drop, length-take-le, le_refl, take-append-drop}
use Rattle.sketch_base.proofs.moving.Moving.{reverse_back}
use Rattle.sketch_kll.specs.Flat.{levels_in}
use Rattle.sketch_kll.proofs.layout.Flats.{bound_at, bound_within, length-bounds}
use Rattle.sketch_kll.proofs.merges.Joined.{AreJoining, IsRunAt, NextRuns, run_at, next_runs, joining_start, joining_more, joining_end, moved_run}
use Rattle.sketch_kll.proofs.levels.merging.merge_runs_back.Goals.{After-move_back}
use Rattle.sketch_kll.proofs.levels.merging.merge_runs_back.Goals as goal
use Rattle.sketch_kll.proofs.levels.merging.merge_runs_back.Goals.at as past

some_levels : (l : ℕ) {n runs : ℕ} → n ≡ l + 1 → runs ≤ n → 2 ≤ runs → 0 < l
some_levels l n fewer some = omega (arith, n, fewer, some)

-- what is left to join after the items of a level are moved
joining : (g : _) (c : After-move_back g) →
    AreJoining g.T.Ord.cmp (c.loop-level.level - 1) (levels_in c.args.items.now.items c.args.bounds.now) (levels_in c.args.upper.now.items (drop 1 c.args.other_bounds.now))
    c.move_back.new.from.items c.loop-level.upper.items c.move_back.new.to.items
joining g c = grind (arith, common_steps)

-- the next runs
runs : (g : _) (c : After-move_back g) →
    NextRuns g.T.Ord.cmp (c.loop-level.level - 1) (levels_in c.args.items.now.items c.args.bounds.now)
    (levels_in c.args.upper.now.items (drop 1 c.args.other_bounds.now)) c.move_back.new.from.items c.loop-level.upper.items
    (get_or c.args.bounds.now (c.loop-level.level + 1) 0) (get_or c.args.other_bounds.now (c.loop-level.level + 1) 0)
runs g c =
    next_runs c.loop-level.level c.args.other_bounds.now c.requires.flat c.requires.upper c.requires.sorted c.requires.upper_sorted
    c.loop-level.invariant.within (joining g c)

pub loop-level-init : goal.loop-level-init
loop-level-init g c =
    let ls : List (List g.row.T.Denot) = levels_in c.args.items.now.items c.args.bounds.now in
    let n = length-bounds c.args.items.now.items c.args.bounds.now c.requires.flat in
    let b : ℕ = get_or c.args.bounds.now 1 0 in
    let first : List g.row.T.Denot = drop b c.args.items.now.items in
    let r : IsRunAt 0 ls c.args.items.now.items b = run_at 0 ls c.args.items.now.items b (sym c.requires.flat.items_are) (bound_at c.args.items.now.items c.args.bounds.now c.requires.flat 1) in
    record {
      within = le_refl 1;
      below = bound_within c.args.items.now.items c.args.bounds.now c.requires.flat 1;
      count = omega (arith, ap length c.requires.empty);
      capacity = refl;
      joining = joining_start g.met.T.Ord.total (some_levels _ n c.requires.fewer c.requires.some) r.rest (sym c.requires.upper.items_are)
          (reverse_back c.args.merged.now.items first ∙ ap₂ (λ (x y : List g.row.T.Denot). x ++ y) r.run (ap reverse c.requires.empty));
    }

pub merge_from_back-requires-clause-left : goal.merge_from_back-requires-clause-left
merge_from_back-requires-clause-left g c = (runs g (past.merge_from_back-requires-clause-left g c).After-move_back).left_at.within

pub merge_from_back-requires-clause-right : goal.merge_from_back-requires-clause-right
merge_from_back-requires-clause-right g c = (runs g (past.merge_from_back-requires-clause-right g c).After-move_back).right_at.within

pub merge_from_back-requires-clause-left_sorted : goal.merge_from_back-requires-clause-left_sorted
merge_from_back-requires-clause-left_sorted g c = (runs g (past.merge_from_back-requires-clause-left_sorted g c).After-move_back).left_sorted

pub merge_from_back-requires-clause-right_sorted : goal.merge_from_back-requires-clause-right_sorted
merge_from_back-requires-clause-right_sorted g c = (runs g (past.merge_from_back-requires-clause-right_sorted g c).After-move_back).right_sorted

-- how many items there are then
counted : (g : _) (c : After-move_back g) →
    length c.move_back.new.to.items + length c.move_back.new.from.items ≡ length c.loop-level.merged.items + length c.loop-level.items.items
counted g c = grind (arith, common_steps)

pub loop-level-preserved : goal.loop-level-preserved
loop-level-preserved g c =
    let at = (past.loop-level-preserved g c).After-move_back in
    let i = c.loop-level.invariant in
    let ls : List (List g.row.T.Denot) = levels_in c.args.items.now.items c.args.bounds.now in
    let us : List (List g.row.T.Denot) = levels_in c.args.upper.now.items (drop 1 c.args.other_bounds.now) in
    let n = length-bounds c.args.items.now.items c.args.bounds.now c.requires.flat in
    let m = length-bounds c.args.upper.now.items (drop 1 c.args.other_bounds.now) c.requires.upper in
    let d = length-drop 1 c.args.other_bounds.now in
    let e = c.merge_from_back.ensures in
    let kl : ℕ = get_or c.args.bounds.now (c.loop-level.level + 1) 0 in
    let kr : ℕ = get_or c.args.other_bounds.now (c.loop-level.level + 1) 0 in
    let left : List g.row.T.Denot = c.merge_from_back.new.left.items in
    let to : List g.row.T.Denot = c.merge_from_back.new.to.items in
    let r = runs g at in
    record {
      within = omega arith;
      below = e.left_within;
      count = omega (arith, i.count, counted g at, e.whole, c.move_back.new.from.ok.0, c.move_back.new.to.ok.0, c.loop-level.upper.ok.0, c.merge_from_back.new.left.ok.0, c.merge_from_back.new.to.ok.0, ap length e.right ∙ length-take-le kr c.loop-level.upper.items r.right_at.within, r.right_at.within);
      capacity = e.to_capacity ∙ (c.move_back.ensures.to_capacity ∙ i.capacity);
      joining = subst (λ (j : ℕ). AreJoining g.T.Ord.cmp j ls us (take kl left) c.merge_from_back.new.right.items (to ++ reverse (drop kl left)))
          (omega (arith, i.within))
          (joining_more g.met.T.Ord.total (omega (arith, c.loop-level-test.true, n, c.requires.fewer, i.within)) (omega (arith, c.loop-level-test.true, m, d, i.within))
          (e.left ∙ r.left_at.rest) (e.right ∙ r.right_at.rest)
          (moved_run c.move_back.new.to.items to (to ++ reverse (drop kl left)) (drop kl left) e.to refl) r.left_at.run r.right_at.run e.moved e.sorted (joining g at));
    }

fewer_levels : (l u : ℕ) {n m runs : ℕ} → n ≡ l + 1 → m ≡ u + 1 → m ≡ runs - 1 → runs ≤ n → 2 ≤ runs → u < l
fewer_levels l u n m runs fewer some = omega (arith, n, m, runs, fewer, some)

all_joined : (u : ℕ) {m runs level : ℕ} → m ≡ u + 1 → m ≡ runs - 1 → runs - 1 ≤ level → 2 ≤ runs → u ≤ level - 1
all_joined u m runs end some = omega (arith, m, runs, end, some)

-- all that is left is moved at once
last_moved : {A : Type 0} (b : ℕ) (items merged : List A) {all : List A} → all ≡ merged ++ reverse items →
    reverse all ≡ take b items ++ reverse (merged ++ reverse (drop b items))
last_moved b items merged all_is =
    ap reverse all_is ∙ (reverse_back merged items ∙ (ap (λ xs. xs ++ reverse merged) (sym (take-append-drop b items))
    ∙ (append_assoc (take b items) (drop b items) (reverse merged) ∙ ap (λ xs. take b items ++ xs) (sym (reverse_back merged (drop b items))))))

pub returns : goal.returns
returns g c =
    let i = c.loop-level.invariant in
    let n = length-bounds c.args.items.now.items c.args.bounds.now c.requires.flat in
    let m = length-bounds c.args.upper.now.items (drop 1 c.args.other_bounds.now) c.requires.upper in
    let d = length-drop 1 c.args.other_bounds.now in
    let r = joining_end c.move_back-2.new.to.items c.args.other_bounds.now (all_joined _ m d c.loop-level-test.false c.requires.some)
    (some_levels _ n c.requires.fewer c.requires.some) (fewer_levels _ _ n m d c.requires.fewer c.requires.some) c.requires.sorted c.requires.flat.bounds_are
    (sym c.requires.upper.bounds_are)
    (last_moved (get_or c.args.bounds.now c.loop-level.level 0) c.loop-level.items.items c.loop-level.merged.items c.move_back-2.ensures.to) i.joining in
    record { flat = r.fits; levels = r.same; sorted = r.sorted }
