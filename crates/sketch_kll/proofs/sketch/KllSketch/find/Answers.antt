use Rattle.std.proofs.Common.{◌≡◌, length, false, sym, subst, ◌∙◌}
use Rattle.std.proofs.lemmas.Bool.{ne_eqb}
use Rattle.std.specs.Prelude.{Option, Some, IfSome, ◌==◌}
use Rattle.sketch_base.specs.Bag.{expanded}
use Rattle.sketch_base.specs.Queries.{SameAnswer}
use Rattle.sketch_base.proofs.views.Entries.{quantile-at, length-expanded}
use Rattle.sketch_kll.specs.Sketch.{bag_of}
use Rattle.sketch_kll.proofs.sketch.KllSketch.find.Goals as goal

pub returns-in_default-3-clause-same : goal.returns-in_default-3-clause-same
returns-in_default-3-clause-same g c =
    let s = c.args.self.now in
    let f = c.args.fraction in
    let entries = expanded g.T.Ord.cmp (bag_of s) in
    let whole : length entries ≡ c.n.result = length-expanded g.T.Ord.cmp (bag_of s) ∙ sym c.n.ensures.weight in
    let some : (f.weight == 0) ≡ false = ne_eqb f.weight 0 c.if-fraction-eq0.false in
    let part : (f.weight == f.total) ≡ false = ne_eqb f.weight f.total c.if-fraction.false in
    subst (λ (q : Option g.row.T.Denot). IfSome c.find_at.result (λ x. SameAnswer g.T.Ord.cmp q (Some x.now)))
    (quantile-at entries s.least s.greatest f.weight f.total c.n.result c.place_of.result c.args.criteria some part whole c.place_of.ensures.place)
    c.find_at.ensures
