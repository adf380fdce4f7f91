use Rattle.std.proofs.Common.{◌≡◌, rules, Some, None, refl, sym, subst, w64, to_z, of_z}
use Rattle.std.specs.Option.{option_map}
use Rattle.log_groups.proofs.Adding.{ok-map}
use Rattle.log_groups.specs.Found.{IsAdded}
use Rattle.log_groups.specs.Summary.{IsAlike}
use Rattle.log_groups.proofs.summary.SummaryTakeLine.take_line.Goals as goal

pub returns-in-Some-clause-taken : goal.returns-in-Some-clause-taken
returns-in-Some-clause-taken g c =
    let same : to_z w64 (of_z w64 c.in-Some.item) ≡ c.in-Some.item = search rules in
    ok-map c.add.result _ _ (λ added. record {
      found = Some (c.read.new.key.items, c.in-Some.item);
      read = subst (λ o. g.T.ReadLine.reads c.args.self.now.reader c.args.line.now (option_map (λ x. (c.read.new.key.items, x)) o)) c.in-Some.is c.in_ok-found.ensures.answer;
      added = (
        subst (λ k. IsAdded c.args.self.now.form.kind c.args.self.now.groups k c.in-Some.item c.add.new.self) c.as_slice.ensures.value
            (subst (λ x. IsAdded c.args.self.now.form.kind c.args.self.now.groups c.as_slice.result.now x c.add.new.self) same added),
        refl,
      );
      form = refl;
      alike = c.in_ok-found.ensures.alike;
    }) c.add.ensures.added

pub returns-in-None-clause-taken : goal.returns-in-None-clause-taken
returns-in-None-clause-taken g c =
    ok-map c.leave_out.result _ _ (λ counted. record {
      found = None;
      read = subst (λ o. g.T.ReadLine.reads c.args.self.now.reader c.args.line.now (option_map (λ x. (c.read.new.key.items, x)) o)) c.in-None.is c.in_ok-found.ensures.answer;
      added = (c.leave_out.ensures.groups, counted);
      form = c.leave_out.ensures.form;
      alike = subst (λ r. IsAlike g.T.ReadLine.reads c.args.self.now.reader r) (sym c.leave_out.ensures.reader) c.in_ok-found.ensures.alike;
    }) c.leave_out.ensures.counted
