use Rattle.std.proofs.Common.{◌≡◌, ℕ, suc, ◌/◌, ◌<◌, ◌≤◌, get_or, vec_len, vec_capacity}
use Rattle.sketch_req.specs.Arriving.{CanArrive}
use Rattle.sketch_req.specs.Schedule.{layouts_of, layout_at, joined_layouts, steps_layouts}
use Rattle.sketch_req.specs.Walk.{k_of, taken_if_full, with_more}
use Rattle.sketch_req.specs.declared.compactor.Arrivals.{Arrivals}
use Rattle.sketch_req.proofs.walks.Walks.{IsPlanned}
use Rattle.sketch_req.proofs.sketch.levels.walk.reserve.Given as goal

abbrev pub invariant-loop-level : goal.invariant-loop-level
invariant-loop-level g l =
    let k = k_of l.levels in
    let both = joined_layouts k (layouts_of l.levels) (layouts_of l.others) in
    let start = with_more l.more both in
    record {
      len : vec_len l.ups ≡ l.level;
      spare : l.count ≤ vec_capacity l.ups;
      planned : IsPlanned k l.level l.here start both;
      ups : (h : ℕ) (none : Arrivals g.row.T.Denot) → h < l.level → let now = steps_layouts k h 0 start in
          CanArrive (layout_at now (suc h)).count (taken_if_full k (layout_at now h) / 2) (get_or l.ups.items h none);
    }
