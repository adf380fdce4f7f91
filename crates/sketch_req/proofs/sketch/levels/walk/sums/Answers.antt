use Rattle.std.proofs.Common.{arith, ◌≡◌, ℕ, ◌*◌, ◌+◌, ◌<◌, ◌≤◌, refl}
use Rattle.sketch_req.specs.Schedule.{Layout, nominal}
use Rattle.sketch_req.proofs.sections.Sections.{sum-more, nominal-there}
use Rattle.sketch_req.proofs.sketch.levels.walk.sums.Goals as goal

-- The loop keeps the sums over the levels so far.
-- one more level holds few items
few-more : (n m i : ℕ) → n ≤ i * 4294967295 → m < 4294967296 → n + m ≤ (i + 1) * 4294967295
few-more n m i l s = omega (arith, l, s)

-- one more level in a sum
one-more : (n m all more sum own : ℕ) → more ≡ all + sum → n ≡ all → m ≡ own → own ≡ sum → n + m ≡ more
one-more n m all more sum own e f h s = grind arith

pub loop-level-preserved : goal.loop-level-preserved
loop-level-preserved g c =
    let i = c.loop-level.invariant in
    let m = sum-more (λ (l : Layout). l.count) _ _ _ _ refl c.loop-level-test.true c.level-item.is in
    record {
      count = one-more _ _ _ _ _ _ m i.count c.num_items.ensures.value refl;
      sum = λ k accuracy levels.
          let s = sum-more (nominal k) _ _ _ _ refl c.loop-level-test.true c.level-item.is in
          let n = nominal-there g.T.Ord.cmp _ _ _ _ _ _ levels refl c.loop-level-test.true c.level-item.is in
          one-more _ _ _ _ _ _ s (i.sum k accuracy levels) c.nominal_capacity.ensures.value n.0;
      few = few-more _ _ _ i.few c.num_items.type_inv;
      small = few-more _ _ _ i.small c.nominal_capacity.type_inv;
    }
