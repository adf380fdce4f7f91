use Rattle.std.proofs.Common.{◌*◌, ℕ, length, sym, ap, ◌∙◌}
use Rattle.quantile_sketches.proofs.slots.Slots.{three}
use Rattle.quantile_sketches.proofs.req.Rules.{req_kind_lawful}
use Rattle.quantile_sketches.proofs.runs.Req.{sum-updated, sum-fair, sum-redrawn, weights-relative, weights-exact}
use Rattle.quantile_sketches.proofs.audit.req_audits.audit_req.Goals as goal

pub audit_family-requires-clause-lawful : goal.audit_family-requires-clause-lawful
audit_family-requires-clause-lawful g c = req_kind_lawful g.met.T.Ord.total g.T.ReqValue.spelling

pub returns-clause-sum : goal.returns-clause-sum
returns-clause-sum g c = λ only. three c.audit_family.result (λ audit words weights rank.
    sum-updated g.met.T.Ord.total g.T.ReqValue.spelling c.args.item.now c.args.criteria c.args.commands.now c.args.slot audit.weights.items words weights
    only ∙ ap (λ (n : ℕ). length audit.weights.items * n) (sym rank))
    c.audit_family.ensures.words c.audit_family.ensures.weights c.audit_family.ensures.true_rank

pub returns-clause-fair : goal.returns-clause-fair
returns-clause-fair g c = λ fair. three c.audit_family.result (λ audit words weights rank.
    sum-fair g.met.T.Ord.total g.T.ReqValue.spelling c.args.item.now c.args.criteria c.args.commands.now c.args.slot audit.weights.items words weights
    fair ∙ ap (λ (n : ℕ). length audit.weights.items * n) (sym rank))
    c.audit_family.ensures.words c.audit_family.ensures.weights c.audit_family.ensures.true_rank

pub returns-clause-redrawn : goal.returns-clause-redrawn
returns-clause-redrawn g c = λ stays. three c.audit_family.result (λ audit words weights rank.
    sum-redrawn g.met.T.Ord.total g.T.ReqValue.spelling c.args.item.now c.args.criteria c.args.commands.now c.args.slot audit.weights.items words weights
    stays ∙ ap (λ (n : ℕ). length audit.weights.items * n) (sym rank))
    c.audit_family.ensures.words c.audit_family.ensures.weights c.audit_family.ensures.true_rank

pub returns-clause-tail : goal.returns-clause-tail
returns-clause-tail g c = λ few. three c.audit_family.result (λ audit words weights rank number d inside.
    weights-exact g.met.T.Ord.total g.T.ReqValue.spelling c.args.item.now c.args.criteria c.args.commands.now c.args.slot audit.weights.items words weights
    few number d inside ∙ sym rank)
    c.audit_family.ensures.words c.audit_family.ensures.weights c.audit_family.ensures.true_rank

pub returns-clause-relative : goal.returns-clause-relative
returns-clause-relative g c = three c.audit_family.result (λ audit words weights rank only.
    weights-relative g.met.T.Ord.total g.T.ReqValue.spelling c.args.item.now c.args.criteria c.args.commands.now c.args.slot audit.weights.items
    words weights only audit.true_rank rank)
    c.audit_family.ensures.words c.audit_family.ensures.weights c.audit_family.ensures.true_rank
