use Rattle.std.proofs.Common.{Some, None, refl, sym, le_refl, ◌∙◌}
use Rattle.quantile_sketches.specs.Outcome.{sketch_at}
use Rattle.quantile_sketches.proofs.slots.Slots.{within_all, none-moved, moved-one, all-moved}
use Rattle.quantile_sketches.proofs.table.Table.into_map.Goals.{in-Some+in_ok-insert+in-Some-1, in-Some+in_ok-insert+in-None-1, in_default}
use Rattle.quantile_sketches.proofs.table.Table.into_map.Goals as goal

pub loop-slot-preserved : goal.loop-slot-preserved
loop-slot-preserved g c =
    let l = c.loop-slot in
    let inside = within_all l.self-inside.slots l.slot l.invariant.0 c.loop-slot-test.true in
    elim c.match-take.branch [
      | in-Some+in_ok-insert+in-Some-1 w ↦ (
        l.invariant.0,
        moved-one c.args.self l.self-inside.slots.items l.slot l.map w.insert.new.self c.match-take.map c.index_mut.result.now c.take.new.self (Some w.in-Some.sketch) l.invariant.1 inside
            c.index_mut.ensures.value w.map-is w.in_ok-insert.ensures.updates.1 (sym w.in-Some.is ∙ c.take.ensures.value) w.in_ok-insert.ensures.updates.2,
      )
      | in-Some+in_ok-insert+in-None-1 w ↦ (
        l.invariant.0,
        moved-one c.args.self l.self-inside.slots.items l.slot l.map w.insert.new.self c.match-take.map c.index_mut.result.now c.take.new.self (Some w.in-Some.sketch) l.invariant.1 inside
            c.index_mut.ensures.value w.map-is w.in_ok-insert.ensures.updates.1 (sym w.in-Some.is ∙ c.take.ensures.value) w.in_ok-insert.ensures.updates.2,
      )
      | in_default w ↦ (
        l.invariant.0,
        moved-one c.args.self l.self-inside.slots.items l.slot l.map l.map c.match-take.map c.index_mut.result.now c.take.new.self None l.invariant.1 inside c.index_mut.ensures.value w.map-is
            (l.invariant.1.none l.slot (le_refl _)) (sym w.in_default.is ∙ c.take.ensures.value) (λ q ne. refl),
      )
    ]

pub loop-slot-init : goal.loop-slot-init
loop-slot-init g c = (c.self.invariant, none-moved c.args.self c.self.inside.slots.items c.new-map.result c.new-map.ensures.empty c.self.view_is)

pub returns : goal.returns
returns g c = all-moved c.args.self c.loop-slot.self-inside.slots c.loop-slot.slot (sketch_at c.loop-slot.map) c.loop-slot.invariant.0 c.loop-slot.invariant.1 c.loop-slot-test.false
