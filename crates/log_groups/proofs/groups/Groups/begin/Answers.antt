use Rattle.std.proofs.Common.{subst, sym, w64}
use Rattle.std.proofs.lemmas.Int.{to_z-of_z}
use Rattle.log_groups.proofs.Adding.{added, put-new, ok-map}
use Rattle.log_groups.specs.Fed.{Takes, empty_of}
use Rattle.log_groups.specs.Found.{sketch_of}
use Rattle.log_groups.proofs.groups.Groups.begin.Goals as goal

pub returns-clause-added : goal.returns-clause-added
returns-clause-added c =
    let took : Takes (empty_of c.args.form.kind) c.args.item c.add.new.self.sketch =
    subst (λ s. Takes s c.args.item c.add.new.self.sketch) c.in_ok-group.ensures.sketch
    (subst (λ x. Takes c.in_ok-group.group.sketch x c.add.new.self.sketch) (to_z-of_z w64 c.args.item c.ranges.item) c.in_ok-add.ensures.added) in
    ok-map c.insert.result _ _ (λ h. added c.args.form.kind c.args.self.now _ c.args.key.now c.args.item c.add.new.self (put-new _ _ _ _ c.requires.new h)
    (subst (λ o. Takes (sketch_of c.args.form.kind o) c.args.item c.add.new.self.sketch) (sym c.requires.new) took))
    c.insert.ensures.begun
