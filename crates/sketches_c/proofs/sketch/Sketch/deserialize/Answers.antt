use Rattle.std.proofs.Common.{rules}
use Rattle.sketch_base.specs.SpellingLaws.{i64_ties}
use Rattle.sketches_c.proofs.OneRead.{none_kll, none_req, none_whole}
use Rattle.sketches_c.proofs.sketch.Sketch.deserialize.Goals as goal

pub deserialize-requires-clause-codec : goal.deserialize-requires-clause-codec
deserialize-requires-clause-codec c = i64_ties

pub deserialize-requires-2-clause-codec : goal.deserialize-requires-2-clause-codec
deserialize-requires-2-clause-codec c = i64_ties

pub returns-in_err-deserialize-clause-unread : goal.returns-in_err-deserialize-clause-unread
returns-in_err-deserialize-clause-unread c =
    let none = none_kll c.in_err-deserialize.field-0.0 c.args.image.now c.args.coins.now c.args.req c.if-not-req.true c.in_err-deserialize.ensures.refused in search (rules, none)

pub returns-in_err-sketch-clause-unread : goal.returns-in_err-sketch-clause-unread
returns-in_err-sketch-clause-unread c =
    let none = none_req c.in_err-sketch.field-0.0 c.args.image.now c.args.coins.now c.args.req c.if-not-req.false c.in_err-sketch.ensures.refused in search (rules, none)

pub returns-in_err-unless-clause-unread : goal.returns-in_err-unless-clause-unread
returns-in_err-unless-clause-unread c =
    let none = none_whole c.args.image.now c.args.coins.now c.args.req c.in_ok-sketch.sketch c.if-not-req.false c.in_ok-sketch.ensures.found in search (rules, none)
