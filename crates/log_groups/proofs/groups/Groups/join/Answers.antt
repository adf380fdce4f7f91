use Rattle.std.proofs.Common.{◌≡◌, Some, subst, ap, sym, ◌∙◌}
use Rattle.std.specs.Option.{option_copied_mut}
use Rattle.log_groups.proofs.Adding.{Follows, joined, put-there, kept-there, taken-map, err-map}
use Rattle.log_groups.specs.Found.{group_of}
use Rattle.log_groups.proofs.groups.Groups.join.Goals as goal

pub returns-in-Some-clause-joined : goal.returns-in-Some-clause-joined
returns-in-Some-clause-joined c =
    let there : group_of c.args.self.now c.args.key.now ≡ Some c.in-Some.group.now = sym c.get_mut.ensures.value ∙ ap option_copied_mut c.in-Some.is in
    let wrote = (c.get_mut.follows.holds _).0 in
    taken-map c.join.result _ _ _ _ (λ merged. joined c.args.self.now _ c.args.key.now c.args.coming c.join.new.self (put-there _ _ _ _ _ there wrote)
    (subst (λ o. Follows o c.args.coming c.join.new.self) (sym there) merged))
    (λ same. kept-there c.args.self.now _ c.args.key.now c.in-Some.group.now _ there wrote same) c.join.ensures.joined

pub returns-in-Some-clause-kept : goal.returns-in-Some-clause-kept
returns-in-Some-clause-kept c =
    let there : group_of c.args.self.now c.args.key.now ≡ Some c.in-Some.group.now = sym c.get_mut.ensures.value ∙ ap option_copied_mut c.in-Some.is in
    err-map c.join.result _ _ (λ same. kept-there c.args.self.now _ c.args.key.now c.in-Some.group.now _ there (c.get_mut.follows.holds _).0 same)
    c.join.ensures.kept
