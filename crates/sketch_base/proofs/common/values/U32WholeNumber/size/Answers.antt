use Rattle.std.proofs.Common.{rules, ap, sym}
use Rattle.std.specs.Prelude.{is_some}
use Rattle.sketch_base.specs.NumberSpellings.{u32_spelled, u32_sized}
use Rattle.sketch_base.proofs.common.values.U32WholeNumber.size.Goals as goal

pub returns-clause-spelled : goal.returns-clause-spelled
returns-clause-spelled c = ap is_some (u32_spelled c.args.self.now (search rules))

pub returns-clause-size : goal.returns-clause-size
returns-clause-size c = sym (u32_sized c.args.self.now (ap is_some (u32_spelled c.args.self.now (search rules))))
