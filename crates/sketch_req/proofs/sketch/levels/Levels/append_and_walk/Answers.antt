use Rattle.std.proofs.Common.{ℕ, subst, ◌∙◌}
use Rattle.sketch_req.specs.declared.RankAccuracy.{RankAccuracy}
use Rattle.sketch_req.specs.Walk.{k_of, AreWalkedIfFull, appended_first}
use Rattle.sketch_req.proofs.sketches.Copies.{few-levels, own-levels}
use Rattle.sketch_req.proofs.sketch.levels.Levels.append_and_walk.Given.{Over}
use Rattle.sketch_req.proofs.sketch.levels.Levels.append_and_walk.Goals.{In_ok-append_and_walk}
use Rattle.sketch_req.proofs.sketch.levels.Levels.append_and_walk.Goals as goal
use Rattle.sketch_req.proofs.sketch.levels.Levels.append_and_walk.Goals.at as past

-- the levels after the walk
walked : (g : Over) (c : In_ok-append_and_walk g) → let s = c.self.inside in
    AreWalkedIfFull g.T.Ord.cmp g.B.RandomBits.bit g.B.RandomBits.next c.args.coins.now c.append_and_walk.new.coins s.k s.rank_accuracy
    (appended_first s.compactors.items c.args.item) c.append_and_walk.new.levels.items
walked g c =
    let s = c.self.inside in
    let ls = appended_first s.compactors.items c.args.item in
    let own = own-levels g.T.Ord.cmp _ _ _ c.self.invariant.some c.self.invariant.placed in
    subst (λ (n : ℕ). AreWalkedIfFull g.T.Ord.cmp g.B.RandomBits.bit g.B.RandomBits.next c.args.coins.now c.append_and_walk.new.coins n s.rank_accuracy ls
    c.append_and_walk.new.levels.items) own.k_is
    (subst (λ (a : RankAccuracy). AreWalkedIfFull g.T.Ord.cmp g.B.RandomBits.bit g.B.RandomBits.next c.args.coins.now c.append_and_walk.new.coins
    (k_of s.compactors.items) a ls
    c.append_and_walk.new.levels.items) own.accuracy_is c.in_ok-append_and_walk.ensures.acted)

pub sums-requires : goal.sums-requires
sums-requires g c =
    let walked = walked g (past.sums-requires g c).In_ok-append_and_walk in
    record { few = few-levels g.T.Ord.cmp _ _ _ _ walked.acted.placed (c.as_slice.ensures.value ∙ c.shrink.ensures) }
