use Rattle.std.proofs.Common.{Bool, inl, inr, sym, ap, ◌∙◌}
use Rattle.quantile_sketches.specs.Command.{parse_merge_redrawn, parse_redraw, parse_update_weighted}
use Rattle.quantile_sketches.proofs.reading.Words.{asks-merge, asks-mergeu, asks-new, asks-question, asks-redraw, asks-reset, asks-roundtrip, asks-update, asks-updatew}
use Rattle.quantile_sketches.proofs.command.Request.parse_asked.Goals as goal
use Rattle.quantile_sketches.proofs.command.Request.parse_asked.Goals.{then-WEIGHS+else-is-6, else-WEIGHS, then-REDRAWS+else-is-7, else-REDRAWS, then-REDRAWS-2+else-is-8, else-REDRAWS-2}

pub returns-then-is : goal.returns-then-is
returns-then-is g c = asks-update g.C.Config.grammar c.args.verb.now c.args.slot c.args.words.now c.is.ensures c.if-is.true c.parse_update.ensures

pub returns-then-is-2 : goal.returns-then-is-2
returns-then-is-2 g c = asks-new g.C.Config.grammar c.args.verb.now c.args.slot c.args.words.now c.is-2.ensures c.if-is-2.true c.parse_new.ensures

pub returns-then-is-3 : goal.returns-then-is-3
returns-then-is-3 g c = asks-merge g.C.Config.grammar c.args.verb.now c.args.slot c.args.words.now c.is-3.ensures c.if-is-3.true c.parse_merge.ensures

pub returns-then-is-4 : goal.returns-then-is-4
returns-then-is-4 g c = asks-reset g.C.Config.grammar c.args.verb.now c.args.slot c.args.words.now c.is-4.ensures c.if-is-4.true c.at_end.ensures

pub returns-then-is-5 : goal.returns-then-is-5
returns-then-is-5 g c = asks-roundtrip g.C.Config.grammar c.args.verb.now c.args.slot c.args.words.now c.is-5.ensures c.if-is-5.true c.at_end-then-is-5.ensures

pub returns-then-is-6 : goal.returns-then-is-6
returns-then-is-6 g c = asks-updatew g.C.Config.grammar c.args.verb.now c.args.slot c.args.words.now c.is-then-WEIGHS.ensures c.if-is-6.true
    (c.parse_update_weighted.ensures ∙ ap (λ (b : Bool). parse_update_weighted b c.args.slot c.args.words.now) (sym c.if-WEIGHS.true ∙ (c.WEIGHS.ensures ∙ g.C.Config.weighs_so)))

pub returns-then-is-7 : goal.returns-then-is-7
returns-then-is-7 g c = asks-redraw g.C.Config.grammar c.args.verb.now c.args.slot c.args.words.now c.is-then-REDRAWS.ensures c.if-is-7.true
    (c.at_end-then-is-7.ensures ∙ ap (λ (b : Bool). parse_redraw b c.args.slot c.args.words.now) (sym c.if-REDRAWS.true ∙ (c.REDRAWS.ensures ∙ g.C.Config.redraws_so)))

pub returns-then-is-8 : goal.returns-then-is-8
returns-then-is-8 g c = asks-mergeu g.C.Config.grammar c.args.verb.now c.args.slot c.args.words.now c.is-then-REDRAWS-2.ensures c.if-is-8.true
    (c.parse_merge_redrawn.ensures ∙ ap (λ (b : Bool). parse_merge_redrawn b c.args.slot c.args.words.now) (sym c.if-REDRAWS-2.true ∙ (c.REDRAWS-2.ensures ∙ g.C.Config.redraws_so)))

pub returns-after-REDRAWS-2 : goal.returns-after-REDRAWS-2
returns-after-REDRAWS-2 g c = asks-question g.C.Config.grammar c.args.verb.now c.args.slot c.args.words.now
    (sym c.is.ensures ∙ c.if-is.false) (sym c.is-2.ensures ∙ c.if-is-2.false) (sym c.is-3.ensures ∙ c.if-is-3.false)
    (sym c.is-4.ensures ∙ c.if-is-4.false) (sym c.is-5.ensures ∙ c.if-is-5.false) (elim c.if-WEIGHS.branch [
      | then-WEIGHS+else-is-6 w ↦ inl (sym w.is-then-WEIGHS.ensures ∙ w.if-is-6.false)
      | else-WEIGHS w ↦ inr (sym (c.WEIGHS.ensures ∙ g.C.Config.weighs_so) ∙ w.if-WEIGHS.false)
    ]) (elim c.if-REDRAWS.branch [
      | then-REDRAWS+else-is-7 w ↦ inl (sym w.is-then-REDRAWS.ensures ∙ w.if-is-7.false)
      | else-REDRAWS w ↦ inr (sym (c.REDRAWS.ensures ∙ g.C.Config.redraws_so) ∙ w.if-REDRAWS.false)
    ]) (elim c.if-REDRAWS-2.branch [
      | then-REDRAWS-2+else-is-8 w ↦ inl (sym w.is-then-REDRAWS-2.ensures ∙ w.if-is-8.false)
      | else-REDRAWS-2 w ↦ inr (sym (c.REDRAWS-2.ensures ∙ g.C.Config.redraws_so) ∙ w.if-REDRAWS-2.false)
    ])
    c.parse_question.ensures
