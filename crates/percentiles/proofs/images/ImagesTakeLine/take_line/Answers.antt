use Rattle.std.proofs.Common.{◌≡◌, IfNone, inl, inr, subst, ◌∙◌}
use Rattle.log_groups.specs.declared.groups.Joined.TheVariants.{Taken, OtherAccuracy, Refused}
use Rattle.percentiles.proofs.Merging.{always, if-taken, kept, kept-on}
use Rattle.percentiles.proofs.images.ImagesTakeLine.take_line.Goals as goal

pub returns-in-Some-Taken-clause-taken : goal.returns-in-Some-Taken-clause-taken
returns-in-Some-Taken-clause-taken c = record {
  text = c.next-line.result.now;
  unmarked = c.next-line.ensures.line;
  merged = inl (if-taken _ _ _ _ Taken c.in-Some-Taken.is c.in-Some-Taken.field-0-is c.in_ok-join.ensures.joined);
  merging = c.in_ok-join.ensures.merging;
}

pub returns-in-Some-OtherAccuracy-clause-taken : goal.returns-in-Some-OtherAccuracy-clause-taken
returns-in-Some-OtherAccuracy-clause-taken c = record {
  text = c.next-line.result.now;
  unmarked = c.next-line.ensures.line;
  merged = inl (if-taken _ _ _ _ OtherAccuracy c.in-Some-OtherAccuracy.is c.in-Some-OtherAccuracy.field-0-is c.in_ok-join.ensures.joined);
  merging = c.in_ok-join.ensures.merging;
}

pub returns-in-Some-Refused-clause-taken : goal.returns-in-Some-Refused-clause-taken
returns-in-Some-Refused-clause-taken c = always c.refuse.result _ (record {
  text = c.next-line.result.now;
  unmarked = c.next-line.ensures.line;
  merged = inr (
    kept-on _ c.join.new.self.groups _
        (if-taken _ _ _ _ (Refused c.in-Some-Refused.why) c.in-Some-Refused.is c.in-Some-Refused.field-0-is c.in_ok-join.ensures.joined) c.refuse.ensures.groups,
    c.refuse.ensures.told,
  );
  merging = c.refuse.ensures.merging ∙ c.in_ok-join.ensures.merging;
})

pub returns-in-None-clause-taken : goal.returns-in-None-clause-taken
returns-in-None-clause-taken c = always c.refuse-in-None.result _ (record {
  text = c.next-line.result.now;
  unmarked = c.next-line.ensures.line;
  merged = inr (
    kept c.args.self.now.groups _
        (c.refuse-in-None.ensures.groups ∙ subst (λ o. IfNone o (c.join.new.self.groups ≡ c.args.self.now.groups)) c.in-None.is c.in_ok-join.ensures.again),
    c.refuse-in-None.ensures.told,
  );
  merging = c.refuse-in-None.ensures.merging ∙ c.in_ok-join.ensures.merging;
})
