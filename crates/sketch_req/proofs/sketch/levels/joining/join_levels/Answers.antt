use Rattle.std.proofs.Common.{◌≡◌, ℕ, true, get_or, [], length-set, le_refl, lt_of_lt_of_le, sym, ◌∙◌, subst, arith}
use Rattle.sketch_req.specs.Level.{Level, fresh}
use Rattle.sketch_req.specs.Merged.{IsCopied}
use Rattle.sketch_req.specs.Walk.{IsPlaced, accuracy_of, k_of}
use Rattle.sketch_req.specs.declared.RankAccuracy.{RankAccuracy}
use Rattle.sketch_req.proofs.merges.Levels.{places-above, taken-there, are-clones, IsAdded, all-joined-to, copied-few, is-added, joined-there, next-copied, next-joined, placed-at-place}
use Rattle.sketch_req.proofs.sketches.Copies.{own-levels}
use Rattle.sketch_req.proofs.walks.Steps.{own-there}
use Rattle.sketch_req.proofs.sketches.Sound.{few-placed}
use Rattle.sketch_req.proofs.sketch.levels.joining.join_levels.Given.{Over}
use Rattle.sketch_req.proofs.sketch.levels.joining.join_levels.Goals.{After-add_level, After-index_mut-in-loop-level}
use Rattle.sketch_req.proofs.sketch.levels.joining.join_levels.Goals as goal
use Rattle.sketch_req.proofs.sketch.levels.joining.join_levels.Goals.at as past

-- the level was there, or was added
added : (g : Over) (c : After-add_level g) → let ls = c.args.levels.now.items in
    IsAdded c.loop-level.level (fresh [] true c.loop-level.level (k_of ls) (accuracy_of ls)) c.loop-level.levels.items c.add_level.new.levels.items
added g c =
    let at = c.loop-level.level in
    let own = own-there g.T.Ord.cmp _ _ _ _ _ _ c.requires.levels.placed c.requires.levels.some c.index.ensures c.parameters-k.ensures in
    subst (λ (p : ℕ × RankAccuracy). IsAdded at (fresh [] true at p.0 p.1) c.loop-level.levels.items c.add_level.new.levels.items) own
    (is-added _ _ _ _ (omega (arith, c.loop-level.invariant.joined.len)) c.add_level.ensures.items)

-- the levels before the join
module _ (g : Over) (c : After-index_mut-in-loop-level g) (added : let ls = c.args.levels.now.items in
    IsAdded c.loop-level.level (fresh [] true c.loop-level.level (k_of ls) (accuracy_of ls)) c.loop-level.levels.items c.add_level.new.levels.items)
    (other : Level g.row.T.Denot) (is : other ≡ get_or c.args.others.now c.loop-level.level other) where
  placed : IsPlaced g.T.Ord.cmp (k_of c.args.others.now) (accuracy_of c.args.levels.now.items) c.loop-level.level other
  placed = placed-at-place _ _ _ _ c.args.others.now other c.requires.others c.loop-level-test.true is

  copied : IsCopied g.T.Ord.cmp (k_of c.args.levels.now.items) (accuracy_of c.args.levels.now.items) c.loop-level.level c.args.levels.now.items c.index_mut-in-loop-level.result.now
  copied =
      let low = placed.sound.weight_fits in
      let legal = (own-levels g.T.Ord.cmp _ _ _ c.requires.levels.some c.requires.levels.placed).legal in
      next-copied g.met.T.Ord.total _ _ _ _ c.requires.levels.placed _ _ _ _ legal (omega (arith, low, placed.place_is))
      c.loop-level.invariant.joined added c.index_mut-in-loop-level.ensures.value

pub add_level-requires-clause-few : goal.add_level-requires-clause-few
add_level-requires-clause-few g c =
    let few = few-placed g.T.Ord.cmp _ _ 0 c.args.others.now (omega arith) c.requires.others in
    omega (arith, few, c.loop-level-test.true)

pub join-requires-clause-weight : goal.join-requires-clause-weight
join-requires-clause-weight g c =
    let at = past.join-requires-clause-weight g c in
    let before = at.After-index_mut-in-loop-level in
    let new = added g at.After-add_level in
    let other = c.index-others-level.result in
    let is = c.index-others-level.is in
    (copied g before new other is).placed.place_is ∙ sym (placed g before new other is).place_is

pub join-requires-clause-few : goal.join-requires-clause-few
join-requires-clause-few g c =
    let at = past.join-requires-clause-few g c in
    let is = c.index-others-level.is in
    let copied = copied g at.After-index_mut-in-loop-level (added g at.After-add_level) c.index-others-level.result is in
    omega (arith, copied-few c.loop-level.level _ _ c.index_mut-in-loop-level.result.now _ copied.layout c.loop-level-test.true is, c.requires.few)

pub join-requires-clause-clones : goal.join-requires-clause-clones
join-requires-clause-clones g c =
    let at = past.join-requires-clause-clones g c in
    let is = c.index-others-level.is in
    let h = c.loop-level.level in
    are-clones _ _ _ h _ _ _ _ _ _ (copied g at.After-index_mut-in-loop-level (added g at.After-add_level) c.index-others-level.result is) c.loop-level-test.true is c.requires.cloned
    (taken-there c.loop-level.lists.items _ h _ _ c.take-arrivals.ensures c.index_mut.ensures.value (λ none. c.loop-level.invariant.lists h none (le_refl h)))

pub loop-level-preserved : goal.loop-level-preserved
loop-level-preserved g c =
    let at = past.loop-level-preserved g c in
    let before = at.After-index_mut-in-loop-level in
    let new = added g at.After-add_level in
    let i = c.loop-level.invariant in
    let joined = joined-there g.met.T.Ord.total _ (k_of c.args.others.now) _ _ _ _ c.index_mut-in-loop-level.result.now _ _
    (copied g before new c.index-others-level.result c.index-others-level.is) c.loop-level-test.true c.index-others-level.is c.join.ensures.ok c.join.ensures.sound in
    record {
      joined = next-joined g.met.T.Ord.total _ _ _ _ c.requires.levels.placed _ _ _ _ c.join.new.self i.joined new joined;
      spare = lt_of_lt_of_le i.spare c.add_level.ensures.capacity;
      enough = omega (arith, i.enough, length-set c.loop-level.lists.items c.loop-level.level c.take-arrivals.new.self);
      lists = λ j none low. places-above _ c.loop-level.level _ j none low ∙ i.lists j none (omega (arith, low));
    }

pub returns-clause-joined : goal.returns-clause-joined
returns-clause-joined g c =
    all-joined-to g.met.T.Ord.total _ _ _ _ c.requires.levels.placed c.loop-level.level _ (omega (arith, c.loop-level.auto.level-end, c.loop-level-test.false))
    c.loop-level.invariant.joined
