use Rattle.std.proofs.Common.{[], ◌∷◌, ap, ◌∙◌}
use Rattle.sketch_kll.specs.Stored.{Stored}
use Rattle.sketch_kll.proofs.sketches.Stored.{put_stored}
use Rattle.sketch_kll.specs.Steps.{put_all}
use Rattle.sketch_kll.proofs.levels.Levels.push.Goals as goal

pub invariant_of-self : goal.invariant_of-self
invariant_of-self g c = (put_stored (c.args.item ∷ []) c.self.invariant c.push_reserved.ensures.items (c.len.ensures ∙ c.push_reserved.new.self.ok.0)).0

pub returns-clause-levels : goal.returns-clause-levels
returns-clause-levels g c =
    (put_stored (c.args.item ∷ []) c.self.invariant c.push_reserved.ensures.items (c.len.ensures ∙ c.push_reserved.new.self.ok.0)).1
    ∙ ap (λ (y : Stored g.row.T.Denot). put_all (c.args.item ∷ []) y.levels) c.self.view_is
