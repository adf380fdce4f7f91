use Rattle.std.proofs.Common.{◌≡◌, ◌∷◌, [], ◌∙◌, ◌<◌, ◌^◌, ◌+◌, ap, append_assoc, arith, length, length-append, refl, sym}
use Rattle.std.specs.Vec.Iter.{into_iter_items}
use Rattle.sketch_kll.specs.Levels.{SameLevels, retained_in, weight_in}
use Rattle.sketch_kll.specs.Steps.{compacted_if_full}
use Rattle.sketch_kll.proofs.plays.Updates.{room_below, taking_more, taking_none}
use Rattle.sketch_kll.proofs.layout.Flats.{retained-put}
use Rattle.sketch_kll.proofs.levels.Levels.update_all.Given.{Over}
use Rattle.sketch_kll.proofs.levels.Levels.update_all.Goals.{After-compact_if_full}
use Rattle.sketch_kll.proofs.levels.Levels.update_all.Goals as goal
use Rattle.sketch_kll.proofs.levels.Levels.update_all.Goals.at as past

pub loop-item-init : goal.loop-item-init
loop-item-init g c = record {
  k = refl;
  split = c.into_iter-item-iterator.ensures.into_iter_gives.0;
  left = c.into_iter-item-iterator.ensures.into_iter_gives.1 ∙ (c.args.items.ok.0 ∙ ap length (sym c.into_iter-item-iterator.ensures.into_iter_gives.0));
  taking = taking_none g.T.Ord.cmp g.met.T.Ord.total g.B.RandomBits.bit g.B.RandomBits.next c.args.coins.now c.args.self.now.k c.args.self.now.is_sorted c.args.self.now.levels c.requires.kept;
  len = omega arith;
  room = omega arith;
  spare = c.requires.spare;
}

-- the levels after room is made for an item
made : (g : Over) (c : After-compact_if_full g) → SameLevels g.T.Ord.cmp
    (compacted_if_full g.T.Ord.cmp c.args.self.now.k c.loop-item.self.is_sorted (g.B.RandomBits.bit c.loop-item.coins) c.loop-item.self.levels) c.compact_if_full.new.self.levels
made g c = rw (← c.loop-item.invariant.k) c.compact_if_full.ensures.levels

-- one item is taken of those that are left
whole : (g : Over) (c : After-compact_if_full g) → length c.loop-item.yielded + (1 + length (into_iter_items c.next.new.self)) ≡ length c.args.items.items
whole g c = omega (arith, length-append c.loop-item.yielded (into_iter_items c.loop-item.item-iterator), ap length c.loop-item.invariant.split, ap length c.in-Some.ensures.steps.0)

pub push-requires : goal.push-requires
push-requires g c =
    let at = (past.push-requires g c).After-compact_if_full in
    let i = c.loop-item.invariant in
    let kept = i.taking.taken.kept in
    let below = room_below g.T.Ord.cmp c.args.self.now.k c.loop-item.self.is_sorted (g.B.RandomBits.bit c.loop-item.coins) c.loop-item.self.levels _ kept
    (omega (arith, i.taking.taken.weighs, c.requires.light, whole g at)) (made g at) in
    record { spare = omega (arith, below.below, below.at_most, c.compact_if_full.ensures.shorter, i.len, whole g at, c.args.items.ok.0, c.requires.room, i.room, c.compact_if_full.ensures.kept.items_room) }

pub loop-item-preserved : goal.loop-item-preserved
loop-item-preserved g c =
    let at = (past.loop-item-preserved g c).After-compact_if_full in
    let i = c.loop-item.invariant in
    let room = c.compact_if_full.ensures in
    let put = c.push.ensures in
    let light : weight_in c.args.self.now.levels + length c.loop-item.yielded < 2 ^ 64 = omega (arith, c.requires.light, whole g at) in
    record {
      k = put.k ∙ (room.kept.k_is ∙ i.k);
      split = append_assoc c.loop-item.yielded (c.in-Some.item ∷ []) _ ∙ rw (← c.in-Some.ensures.steps.0) i.split;
      left = omega (arith, i.left, c.in-Some.ensures.steps.1, ap length c.in-Some.ensures.steps.0);
      taking = rw put.flag (taking_more g.T.Ord.cmp g.met.T.Ord.total g.B.RandomBits.bit g.B.RandomBits.next c.args.coins.now c.loop-item.coins _ c.args.self.now.k c.args.self.now.is_sorted
          c.loop-item.self.is_sorted c.args.self.now.levels c.loop-item.yielded c.in-Some.item c.loop-item.self.levels c.compact_if_full.new.self.levels _ i.taking light (made g at)
          room.sorted put.levels (rw (← i.k) room.coins));
      len = omega (arith, i.len, room.shorter, ap retained_in put.levels, retained-put (c.in-Some.item ∷ []) c.compact_if_full.new.self.levels, length-append c.loop-item.yielded (c.in-Some.item ∷ []));
      room = omega (arith, i.room, room.kept.items_room, put.room);
      spare = omega (arith, i.spare, room.kept.bounds_room, put.bounds_room);
    }
