use Rattle.std.proofs.Common.{arith, ◌≡◌, ℕ, suc, ◌+◌, ◌/◌, ◌<◌, ◌≤◌, List, length, refl, subst, max}
use Rattle.sketch_req.specs.Arriving.{CanArrive, HasRoom}
use Rattle.sketch_req.specs.Level.{Level}
use Rattle.sketch_req.specs.Schedule.{Layout, layouts_of, layout_at, joined_layouts, filled, steps_layouts}
use Rattle.sketch_req.specs.Walk.{k_of, taken_if_full, with_more}
use Rattle.sketch_req.proofs.merges.Levels.{places-more, joined-count}
use Rattle.sketch_req.proofs.layouts.Layouts.{length-layouts, retained-with}
use Rattle.sketch_req.proofs.walks.Walks.{IsPlanned, planned-few, planned-more, planned-rise, length-more}
use Rattle.sketch_req.proofs.layouts.Capacities.{length-joined, retained-joined}
use Rattle.sketch_req.proofs.sketch.levels.walk.reserve.Given.{Over}
use Rattle.sketch_req.proofs.sketch.levels.walk.reserve.Goals.{Joined-up-gt0, then-up-gt0, else-up-gt0}
use Rattle.sketch_req.proofs.sketch.levels.walk.reserve.Goals as goal
use Rattle.sketch_req.proofs.sketch.levels.walk.reserve.Goals.at as past

-- what a level gives up, and what the level above then holds
module _ (g : Over) (c : Joined-up-gt0 g) where
  abbrev k : ℕ
  k = k_of c.args.levels.now

  abbrev both : List Layout
  both = joined_layouts k (layouts_of c.args.levels.now) (layouts_of c.args.others.now)

  abbrev above : ℕ
  above = c.count_at-in-loop-level.result + c.count_at-in-loop-level-2.result

  above_is : above ≡ (layout_at both (c.loop-level.level + 1)).count
  above_is =
      omega (
        arith,
        joined-count k (layouts_of c.args.levels.now) (layouts_of c.args.others.now) (c.loop-level.level + 1),
        c.count_at-in-loop-level.ensures,
        c.count_at-in-loop-level-2.ensures,
      )

  planned : IsPlanned k (c.loop-level.level + 1) (above + c.count_to_take_at-up.result / 2) (with_more c.args.more both) both
  planned = planned-more k c.loop-level.level c.loop-level.here c.count_to_take_at-up.result above _ _ both c.count_to_take_at-up.ensures above_is refl c.loop-level.invariant.planned

  few : above + c.count_to_take_at-up.result / 2 < 4294967296
  few =
      omega (
        arith,
        planned-few _ _ _ _ _ planned,
        retained-with 0 (filled c.args.more) both,
        retained-joined k (layouts_of c.args.levels.now) (layouts_of c.args.others.now),
        c.requires.few,
      )

  own-few : c.if-up-gt0.own ≤ above
  own-few = elim c.if-up-gt0.branch [
    | then-up-gt0 w ↦ omega (arith, w.own-is)
    | else-up-gt0 w ↦ omega (arith, w.own-is)
  ]

  own-all : 0 < c.count_to_take_at-up.result / 2 → c.if-up-gt0.own ≡ above
  own-all some = elim c.if-up-gt0.branch [
    | then-up-gt0 w ↦ w.own-is
    | else-up-gt0 w ↦ absurd (omega (arith, some, w.if-up-gt0.false))
  ]

pub with_capacity-requires-in-loop-level : goal.with_capacity-requires-in-loop-level
with_capacity-requires-in-loop-level g c =
    let at = (past.with_capacity-requires-in-loop-level g c).Joined-up-gt0 in
    omega (arith, own-few g at, few g at)

pub loop-level-preserved : goal.loop-level-preserved
loop-level-preserved g c =
    let at = (past.loop-level-preserved g c).Joined-up-gt0 in
    let i = c.loop-level.invariant in
    let h = c.loop-level.level in
    let start : List Layout = with_more c.args.more (both g at) in
    let rise = planned-rise (k g at) h c.loop-level.here c.count_to_take_at-up.result (above g at) start (both g at) c.count_to_take_at-up.ensures (above_is g at) i.planned in
    let a = c.in_ok-with_capacity.field-0 in
    record {
      len = omega (arith, c.push_reserved.ensures.len, i.len);
      spare = omega (arith, c.push_reserved.ensures.capacity, i.spare);
      planned = planned g at;
      ups = places-more
          (λ j up. let now = steps_layouts (k g at) j 0 start in CanArrive (layout_at now (suc j)).count (taken_if_full (k g at) (layout_at now j) / 2) up)
          c.loop-level.ups.items _ a h (omega (arith, c.loop-level.ups.ok, i.len)) c.push_reserved.ensures.items i.ups
          (rw (rise.0, rise.1) (record {
            empty = c.in_ok-with_capacity.ensures.items;
            space = c.in_ok-with_capacity.ensures.capacity;
            room = λ some. subst (λ (n : ℕ). HasRoom n (c.count_to_take_at-up.result / 2) a.room) (own-all g at some) c.in_ok-with_capacity.ensures.room;
          }));
    }

-- the greater of two lengths
all-places : {A : Type 0} (k more greater : ℕ) (ls os : List (Level A)) → 0 < length ls → greater ≡ max (length ls) (length os) →
    length (with_more more (joined_layouts k (layouts_of ls) (layouts_of os))) ≤ greater
all-places k more greater ls os some e =
    let n = length-layouts ls in
    let b = length-joined k (layouts_of ls) (layouts_of os) in
    let all = length-more more (joined_layouts k (layouts_of ls) (layouts_of os)) (omega (arith, b, n, some)) in
    omega (arith, all, b, n, length-layouts os, e)

pub returns : goal.returns
returns g c =
    let i = c.loop-level.invariant in
    let most = all-places (k_of c.args.levels.now) c.args.more _ c.args.levels.now c.args.others.now c.requires.levels.some c.max-count.ensures in
    let done = c.loop-level-test.false in
    record {
      enough = omega (arith, most, done, i.len, c.loop-level.ups.ok);
      each = λ h none l. i.ups h none (omega (arith, l, most, done));
    }
