use Rattle.std.proofs.Common.{arith, ◌≡◌, Bool, ℕ, ◌+◌, ap₂, drop, ◌<◌, List, length, length-set, set, ◌∙◌}
use Rattle.sketch_req.specs.Level.{Level}
use Rattle.sketch_req.proofs.sketches.Copies.{drawn_so_far, source_by, redrawn-more}
use Rattle.sketch_req.proofs.sketch.levels.redraw_if.Goals as goal

-- one more level that has drawn, and what is left to draw after it
module _ {A S : Type 0} (bit : S → Bool) (next : S → S) (source after : S) (h : ℕ) (ls : List (Level A)) (new redrawn : Level A) where
  drawn-one : (all : List (Level A)) → source ≡ after → new ≡ redrawn → drawn_so_far bit next after (h + 1) (set ls h redrawn) ≡ all →
      drawn_so_far bit next source (h + 1) (set ls h new) ≡ all
  drawn-one all e f so_far = ap₂ (λ (s : S) (l : Level A). drawn_so_far bit next s (h + 1) (set ls h l)) e f ∙ so_far

  left-one : (end : S) → source ≡ after → new ≡ redrawn → source_by bit next after (drop (h + 1) (set ls h redrawn)) ≡ end →
      source_by bit next source (drop (h + 1) (set ls h new)) ≡ end
  left-one end e f left = ap₂ (λ (s : S) (l : Level A). source_by bit next s (drop (h + 1) (set ls h l))) e f ∙ left

pub loop-level-preserved : goal.loop-level-preserved
loop-level-preserved g c =
    let i = c.loop-level.invariant in
    let items : List (Level g.row.T.Denot) = c.loop-level.levels.items in
    let inside : c.loop-level.level < length items = omega (arith, i.len, c.loop-level-test.true) in
    let more = redrawn-more g.B.RandomBits.bit g.B.RandomBits.next c.loop-level.coins c.loop-level.level items c.index_mut.result.now inside
    c.index_mut.ensures.value in
    record {
      len = length-set items c.loop-level.level c.redraw_coin.new.self ∙ i.len;
      levels = drawn-one g.B.RandomBits.bit g.B.RandomBits.next _ _ c.loop-level.level items _ _ _ c.redraw_coin.ensures.coins c.redraw_coin.ensures.value
          (more.0 ∙ i.levels);
      coins = left-one g.B.RandomBits.bit g.B.RandomBits.next _ _ c.loop-level.level items _ _ _ c.redraw_coin.ensures.coins c.redraw_coin.ensures.value
          (more.1 ∙ i.coins);
      room = i.room;
    }
