use Rattle.std.proofs.lemmas.Grind.{common_steps}
use Rattle.std.proofs.Common.{◌≡◌, ◌-◌, ap₂, ℕ, List, [], ◌∷◌, ◌++◌, take, drop, length, arith, sym, ap, subst, ◌∙◌, vec_capacity, length-append, true}
use Rattle.sketch_kll.specs.Capacity.{total_of}
use Rattle.sketch_kll.specs.Levels.{retained_in, compacted, SameLevels}
use Rattle.sketch_kll.specs.Flat.{levels_in}
use Rattle.sketch_kll.specs.Steps.{needs_sorting}
use Rattle.sketch_kll.specs.Stored.{Stored}
use Rattle.sketch_kll.proofs.layout.Flats.{length-items, raised_is, Raises}
use Rattle.sketch_kll.proofs.sketches.Stored.{CompactedStored, known_total, compacted_stored, raised_sorted}
use Rattle.sketch_kll.proofs.merges.Joined.{whole_slice}
use Rattle.sketch_kll.proofs.levels.Levels.compact.Goals as goal
use Rattle.sketch_kll.proofs.levels.Levels.compact.Goals.at as past
use Rattle.sketch_kll.proofs.levels.Levels.compact.Goals.{After-random_bit-arg-1, After-truncate, Joined-level-len, then-level-len, else-level-len}

-- the fields once there is a level above this one
record IsRaised (g : _) (c : Joined-level-len g) : Type 0 where
  raises : Raises c.args.level c.self.inside.bounds.items c.if-level-len.self-inside.bounds.items
  k_is : c.if-level-len.self-inside.k ≡ c.self.inside.k
  flag_is : c.if-level-len.self-inside.is_level_zero_sorted ≡ c.self.inside.is_level_zero_sorted
  items_are : c.if-level-len.self-inside.items ≡ c.self.inside.items
  room : vec_capacity c.if-level-len.self-inside.bounds ≡ vec_capacity c.self.inside.bounds
  total_is : c.if-level-len.self-inside.total_capacity ≡ total_of c.self.inside.k 8 (length c.if-level-len.self-inside.bounds.items - 1)

is_raised : (g : _) (c : Joined-level-len g) → IsRaised g c
is_raised g c = record {
  raises = grind (arith, common_steps);
  k_is = grind (arith, common_steps);
  flag_is = grind (arith, common_steps);
  items_are = grind (arith, common_steps);
  room = grind (arith, common_steps);
  total_is = elim c.if-level-len.branch as (λ _. c.if-level-len.self-inside.total_capacity ≡ total_of c.self.inside.k 8 (length c.if-level-len.self-inside.bounds.items - 1)) [
    | then-level-len w ↦ ap (λ x. x.total_capacity) w.self-inside-is ∙ (w.total_capacity-self-inside.ensures.value ∙ ap (total_of c.self.inside.k 8)
        (omega (
          arith,
          w.if-level-len.true,
          c.len.ensures,
          c.self.inside.bounds.ok.0,
          ap (λ x. length x.bounds.items) w.self-inside-is,
          ap length w.push_reserved.ensures.items,
          length-append c.self.inside.bounds.items (0 ∷ []),
        )))
    | else-level-len w ↦ ap (λ x. x.total_capacity) w.self-inside-is ∙ known_total c.self.invariant _ (ap (λ x. length x.bounds.items) w.self-inside-is)
  ];
}

-- the bounds after the compaction
abbrev shifted_bounds : (g : _) (c : After-truncate g) → List ℕ
shifted_bounds g c =
    let wide = c.if-level-len.self-inside.bounds in
    take wide.len (c.compact_level-count.new.bounds ++ drop (length c.compact_level-count.new.bounds) wide.items)

bounds_are : (g : _) (c : After-truncate g) → shifted_bounds g c ≡ c.compact_level-count.new.bounds
bounds_are g c = grind (arith, common_steps, whole_slice)

-- what the compaction leaves in the vectors
left : (g : _) (c : After-truncate g) → Raises c.args.level c.self.inside.bounds.items c.if-level-len.self-inside.bounds.items →
    c.if-level-len.self-inside.items ≡ c.self.inside.items →
    CompactedStored g.T.Ord.cmp c.needs_sorting-needs_sorting.result c.random_bit-coin.result c.self.inside.k c.args.level c.args.self.now.levels
    c.truncate.new.self.items (shifted_bounds g c)
left g c raises items_are =
    let made = c.compact_level-count.ensures in
    let cut : c.truncate.new.self.items ≡ take (length c.deref_mut.result.now - c.compact_level-count.result) c.compact_level-count.new.items =
    grind (arith, common_steps, whole_slice) in
    let given = ap₂ levels_in (c.deref_mut.ensures.value ∙ ap (λ v. v.items) items_are) c.deref_mut-2.ensures.value in
    let own = ap (λ (y : Stored g.row.T.Denot). y.levels) c.self.view_is in
    rw (cut, bounds_are g c) (compacted_stored _ _ c.self.invariant own c.requires.within c.requires.few raises made.flat
    (subst (λ xs. SameLevels g.T.Ord.cmp (compacted g.T.Ord.cmp c.needs_sorting-needs_sorting.result c.random_bit-coin.result c.args.level xs)
    (levels_in (take (length c.deref_mut.result.now - c.compact_level-count.result) c.compact_level-count.new.items) c.compact_level-count.new.bounds)) given made.alike) made.sorted)

needs_is : (g : _) (c : After-random_bit-arg-1 g) → c.needs_sorting-needs_sorting.result ≡ needs_sorting c.args.self.now.is_sorted c.args.level
needs_is g c = grind (arith, common_steps, is_raised)

pub returns : goal.returns
returns g c =
    let then = past.returns g c in
    let raised = is_raised g then.Joined-level-len in
    let left = left g then.After-truncate raised.raises raised.items_are in
    let before = length-items c.self.inside.items.items c.self.inside.bounds.items c.self.invariant.flat in
    let after = length-items c.truncate.new.self.items (shifted_bounds g then.After-truncate) left.flat in
    record {
      kept = grind (arith, common_steps);
      levels = rw (← needs_is g then.After-random_bit-arg-1, ← c.random_bit-coin.ensures.value) left.same;
      sorted = left.sorted;
      shorter = omega (
        arith,
        after,
        c.truncate.new.self.ok.0,
        c.truncate.ensures.len,
        ap (λ v. v.len) raised.items_are,
        c.self.inside.items.ok.0,
        before,
        ap (λ (y : Stored g.row.T.Denot). retained_in y.levels) c.self.view_is,
      );
      coins = c.random_bit-coin.ensures.after;
    }

pub compact_level-count-requires : goal.compact_level-count-requires
compact_level-count-requires g c =
    let at = (past.compact_level-count-requires g c).After-random_bit-arg-1 in
    let raised = is_raised g at.before.before in
    let own = ap (λ (y : Stored g.row.T.Denot). y.levels) c.self.view_is in
    let up = raised_is c.needs_sorting-needs_sorting.result true c.self.invariant own c.requires.within raised.raises in
    let e = c.deref_mut.ensures.value ∙ ap (λ v. v.items) raised.items_are in
    let f = c.deref_mut-2.ensures.value in
    record {
      flat = rw (e, f) up.flat;
      within = rw f up.within;
      sorted = rw (e, f) (up.sorted c.self.invariant.sorted);
      level = rw (e, f) (raised_sorted up c.self.invariant.sorted own (needs_is g at) c.requires.flag);
    }

pub invariant_of-self : goal.invariant_of-self
invariant_of-self g c =
    let before = past.invariant_of-self g c in
    let raised = is_raised g before.Joined-level-len in
    let len = ap length (bounds_are g before.After-truncate) ∙ (c.compact_level-count.auto.bounds ∙ ap length c.deref_mut-2.ensures.value) in
    rw raised.k_is ((left g before.After-truncate raised.raises raised.items_are).stored _ _ (sym len) raised.total_is)
