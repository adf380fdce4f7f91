use Rattle.std.proofs.lemmas.Grind.{common_steps}
use Rattle.std.proofs.Common.{ℕ, ◌+◌, ◌-◌, ◌<◌, ◌≤◌, Bool, List, length, take, drop, arith, get_or, get_or-take, get_or-drop, length-take, length-drop}
use Rattle.std.specs.List.Sorted.{IsPartitionedBy}
use Rattle.std.proofs.lemmas.Bool.{cases_Bool}
use Rattle.sketch_base.specs.Query.{counted}
use Rattle.sketch_base.specs.Queries.{IsSplitAt}
use Rattle.sketch_base.proofs.views.Entries.{counted-parted}
use Rattle.sketch_base.proofs.common.counting.count_near.Goals as goal

-- a split within a part of a list, neither at its front nor at its end, splits the list
split_within : {A : Type 0} (test : A → Bool) (xs : List A) (start size found : ℕ) → IsPartitionedBy test xs → start + size ≤ length xs → 0 < found → found < size →
    IsSplitAt test (take size (drop start xs)) found → IsSplitAt test xs (start + found)
split_within test xs start size found parted within some more split =
    let ys = drop start xs in (
      λ k d l b. parted k (start + (found - 1)) d (omega (arith, b)) (omega arith) (grind (arith, common_steps, split.0 (found - 1) d, get_or-take size ys (found - 1) d, get_or-drop start xs (found - 1) d)),
      λ k d l b.
          let yes = parted (start + found) k d l b in
          let no = split.1 found d in
          grind (arith, common_steps, cases_Bool (test (get_or xs k d)), yes, no, get_or-take size ys found d, get_or-drop start xs found d, length-take size ys, length-drop start xs),
    )

pub returns-then-found-end-clause-parts : goal.returns-then-found-end-clause-parts
returns-then-found-end-clause-parts g c = split_within (counted g.T.Ord.cmp c.args.query.now c.args.criteria) c.args.items.now c.saturating_sub-start.result (c.min-end.result - c.saturating_sub-start.result)
    c.count_in_order-found.result (counted-parted g.met.T.Ord.total c.args.items.now c.args.query.now c.args.criteria c.requires.sorted) (omega (arith, c.if-found-gt0.true, c.if-found-end.true, c.min-end.ensures)) c.if-found-gt0.true c.if-found-end.true c.count_in_order-found.ensures.parts
