use Rattle.std.proofs.Common.{◌≡◌, Some, subst, ap, sym, ◌∙◌, w64}
use Rattle.std.specs.Option.{option_copied_mut}
use Rattle.std.proofs.lemmas.Int.{to_z-of_z}
use Rattle.log_groups.proofs.Adding.{added, put-there, kept-there, ok-map, err-map}
use Rattle.log_groups.specs.Fed.{Takes}
use Rattle.log_groups.specs.Found.{group_of, sketch_of}
use Rattle.log_groups.proofs.groups.Groups.add.Goals as goal

pub returns-in-Some-clause-added : goal.returns-in-Some-clause-added
returns-in-Some-clause-added c =
    let there : group_of c.args.self.now c.args.key.now ≡ Some c.in-Some.group.now = sym c.get_mut.ensures.value ∙ ap option_copied_mut c.in-Some.is in
    ok-map c.add.result _ _ (λ took. added c.args.form.kind c.args.self.now _ c.args.key.now c.args.item c.add.new.self (put-there _ _ _ _ _ there (c.get_mut.follows.holds _).0)
    (subst (λ o. Takes (sketch_of c.args.form.kind o) c.args.item c.add.new.self.sketch) (sym there)
    (subst (λ x. Takes c.in-Some.group.now.sketch x c.add.new.self.sketch) (to_z-of_z w64 c.args.item c.ranges.item) took)))
    c.add.ensures.added

pub returns-in-Some-clause-kept : goal.returns-in-Some-clause-kept
returns-in-Some-clause-kept c =
    let there : group_of c.args.self.now c.args.key.now ≡ Some c.in-Some.group.now = sym c.get_mut.ensures.value ∙ ap option_copied_mut c.in-Some.is in
    err-map c.add.result _ _ (λ same. kept-there c.args.self.now _ c.args.key.now c.in-Some.group.now _ there (c.get_mut.follows.holds _).0 same)
    c.add.ensures.kept
