use Rattle.std.proofs.Common.{arith}
use Rattle.std.specs.Prelude.{Some}
use Rattle.sketch_base.specs.declared.common.Rank.{Rank}
use Rattle.sketch_base.specs.Queries.{SameAnswer}
use Rattle.sketch_base.specs.Queried.{quantile_of}
use Rattle.sketch_base.specs.Views.{queried_view}
use Rattle.sketch_base.proofs.views.Entries.{zip-more}
use Rattle.sketch_base.proofs.views.Built.{clone-answers}
use Rattle.sketch_base.proofs.sorted_view.SortedView.quantiles.Goals as goal

pub loop-fraction-preserved : goal.loop-fraction-preserved
loop-fraction-preserved g c = record {
  found = zip-more (λ (fraction : Rank) (x : g.row.T.Denot). SameAnswer g.T.Ord.cmp (quantile_of (queried_view g.T.Ord.cmp c.args.self.now) fraction c.args.criteria) (Some x)) c.args.fractions.now
      c.loop-fraction.fraction-index _ c.loop-fraction.found.items c.push_reserved.new.self.items c.in_ok-clone.field-0
      (clone-answers g.T.Ord.cmp c.entry_of.result c.unwrap-entry.result c.in_ok-clone.field-0 _ c.unwrap-entry.ensures c.entry_of.ensures.entry
      (c.requires.clones c.unwrap-entry.result.now c.in_ok-clone.field-0 c.in_ok-clone.ensures.cases)) c.loop-fraction-test.true c.loop-fraction.invariant.found c.push_reserved.ensures.items;
  room = omega (arith, c.loop-fraction-test.true, c.push_reserved.ensures.len, c.push_reserved.ensures.capacity, c.loop-fraction.invariant.room);
}
