use Rattle.std.proofs.Common.{Ok, refl}
use Rattle.std.specs.Io.Buffered.{reader_remaining}
use Rattle.quantile_sketches.proofs.serving.Lines.{AnswersLine, line-found, line-written, line-unwritten, ends-broken, ends-early, ends-flushed, running-out, running-start}
use Rattle.quantile_sketches.proofs.lines.Server.answer_all.Goals.{In-Some}
use Rattle.quantile_sketches.proofs.lines.Server.answer_all.Goals.at as past
use Rattle.quantile_sketches.proofs.lines.Server.answer_all.Goals as goal

pub loop-init : goal.loop-init
loop-init g c = running-start _ _ (Ok tt) c.requires.start refl refl

pub returns-in_err-answer : goal.returns-in_err-answer
returns-in_err-answer g c =
    ends-broken g.S.Config.Config.grammar g.S.Family.behaviour (running-out g.S.Config.Config.grammar g.S.Family.behaviour c.loop.invariant refl c.in_err-answer.ensures.written) c.from_residual.result c.from_residual.ensures.0

-- the line that was read, and its answer
answered : (g : _) (c : In-Some g) → AnswersLine g.S.Config.Config.grammar g.S.Family.behaviour (reader_remaining g.R.Read.remaining c.loop.input) (reader_remaining g.R.Read.remaining c.answer_line.new.input)
    c.loop.self.table c.loop.self.coins c.answer_line.new.self.table c.answer_line.new.self.coins c.in-Some.answer
answered g c = line-found g.S.Config.Config.grammar g.S.Family.behaviour _ _ _ _ _ _ c.in_ok-answer.field-0 c.in-Some.answer c.in-Some.is c.in_ok-answer.ensures.answered

pub returns-in_err-write_answer-in-Some : goal.returns-in_err-write_answer-in-Some
returns-in_err-write_answer-in-Some g c =
    line-unwritten g.S.Config.Config.grammar g.S.Family.behaviour _ _ _ c.in-Some.answer (running-out g.S.Config.Config.grammar g.S.Family.behaviour c.loop.invariant refl c.in_ok-answer.ensures.written) refl
    (answered g (past.returns-in_err-write_answer-in-Some g c).In-Some) c.in_err-write_answer-in-Some.ensures
    c.from_residual-in_err-write_answer-in-Some.result c.from_residual-in_err-write_answer-in-Some.ensures.0

pub loop-preserved : goal.loop-preserved
loop-preserved g c =
    line-written g.S.Config.Config.grammar g.S.Family.behaviour _ _ _ c.in-Some.answer (running-out g.S.Config.Config.grammar g.S.Family.behaviour c.loop.invariant refl c.in_ok-answer.ensures.written) refl
    (answered g (past.loop-preserved g c).In-Some) c.in_ok-write_answer-in-Some.ensures refl

pub returns-in-None : goal.returns-in-None
returns-in-None g c =
    ends-flushed g.S.Config.Config.grammar g.S.Family.behaviour (running-out g.S.Config.Config.grammar g.S.Family.behaviour c.loop.invariant refl c.in_ok-answer.ensures.written) refl c.write_out.result c.write_out.ensures.written
    (c.in_ok-answer.ensures.end c.in-None.is)

pub returns-in_err-write_out : goal.returns-in_err-write_out
returns-in_err-write_out g c =
    ends-broken g.S.Config.Config.grammar g.S.Family.behaviour (running-out g.S.Config.Config.grammar g.S.Family.behaviour c.loop.invariant refl c.in_err-write_out.ensures.written)
    c.from_residual-in_err-write_out.result c.from_residual-in_err-write_out.ensures.0

pub returns : goal.returns
returns g c = ends-early g.S.Config.Config.grammar g.S.Family.behaviour (running-out g.S.Config.Config.grammar g.S.Family.behaviour c.loop.invariant refl c.in_ok-write_out.ensures.written)
