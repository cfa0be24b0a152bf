use Rattle.std.proofs.Common.{◌≡◌, refl, true, false, Bool, arith, ◌∙◌, sym}
use Rattle.std.specs.Prelude.{Ok, Err}
use Rattle.mono_rt.proofs.RoundLemmas.{does_first, passes_more, ends_done, ends_turns, ends_first, ends_by}
use Rattle.mono_rt.proofs.ProgressLemmas.{went_on, went_spent}
use Rattle.mono_rt.proofs.runtimes.Runtime.run.Goals.{then-loop-units-test+else-not-has_output, else-loop-units-test}
use Rattle.mono_rt.proofs.runtimes.Runtime.run.Goals as goal

both : (b : Bool) → true ≡ b → false ≡ b → ⊥
both b p q = true-false (p ∙ sym q)
  where
    true-false : true ≡ false → ⊥
    true-false e = cc

pub returns-in-Err-pass-clause-ends : goal.returns-in-Err-pass-clause-ends
returns-in-Err-pass-clause-ends g c =
    ends_by g.O.Outcome.output_number c.in-Err-pass.error c.args.self.now.cx.parts.has_timers c.loop-units.self.cx.parts.has_timers c.args.main c.args.turns c.loop-units.units c.args.self.now.cx.parts c.loop-units.self.cx.parts c.pass.new.self.cx.parts c.args.self.now.journal c.loop-units.self.journal c.pass.new.self.journal
    c.loop-units.invariant.1.has_timers (sym c.if-not-has_output.ensures.answer) (omega (arith, c.loop-units-test.true)) c.loop-units.invariant.0 (rw c.in-Err-pass.is at c.pass.ensures.passes)

pub returns-then-has_output-clause-ends : goal.returns-then-has_output-clause-ends
returns-then-has_output-clause-ends g c =
    ends_done g.O.Outcome.output_number c.args.self.now.cx.parts.has_timers c.args.main c.args.turns c.loop-units.units c.args.self.now.cx.parts c.loop-units.self.cx.parts c.args.self.now.journal c.loop-units.self.journal
    (sym c.if-has_output.ensures.answer) c.loop-units.invariant.0

pub returns-else-has_output-clause-ends : goal.returns-else-has_output-clause-ends
returns-else-has_output-clause-ends g c =
    ends_turns g.O.Outcome.output_number c.args.self.now.cx.parts.has_timers c.args.main c.args.turns c.loop-units.units c.args.self.now.cx.parts c.loop-units.self.cx.parts c.args.self.now.journal c.loop-units.self.journal
    (elim c.loop-units-test.branch [
      | then-loop-units-test+else-not-has_output w ↦ absurd (both _ w.if-not-has_output.ensures.answer c.if-has_output.ensures.answer)
      | else-loop-units-test w ↦ omega (arith, w.loop-units-test.false)
    ])
    (sym c.if-has_output.ensures.answer) c.loop-units.invariant.0

pub returns-in-Err-clause-ends : goal.returns-in-Err-clause-ends
returns-in-Err-clause-ends g c = ends_first g.O.Outcome.output_number c.args.self.now.cx.parts.has_timers c.args.main c.args.turns c.args.self.now.cx.parts c.round.new.self.cx.parts c.args.self.now.journal c.round.new.self.journal c.in-Err.ensures.broken

pub returns-then-has_output-clause-given : goal.returns-then-has_output-clause-given
returns-then-has_output-clause-given g c = c.if-has_output.ensures.given refl

pub loop-units-init : goal.loop-units-init
loop-units-init g c = (
  does_first g.O.Outcome.output_number c.args.self.now.cx.parts.has_timers c.args.main c.args.turns c.in-Ok.left c.args.self.now.cx.parts c.round.new.self.cx.parts c.args.self.now.journal c.round.new.self.journal c.in-Ok.ensures.round,
  rw c.in-Ok.is at c.round.ensures.went,
)

pub loop-units-preserved : goal.loop-units-preserved
loop-units-preserved g c = (
  passes_more g.O.Outcome.output_number c.args.self.now.cx.parts.has_timers c.loop-units.self.cx.parts.has_timers c.args.main c.args.turns c.loop-units.units c.in-Ok-pass.left c.args.self.now.cx.parts c.loop-units.self.cx.parts c.pass.new.self.cx.parts c.args.self.now.journal c.loop-units.self.journal c.pass.new.self.journal
      c.loop-units.invariant.1.has_timers (sym c.if-not-has_output.ensures.answer) (omega (arith, c.loop-units-test.true)) c.loop-units.invariant.0 (rw c.in-Ok-pass.is at c.pass.ensures.passes),
  went_on g.O.Outcome.output_number g.W.SharedState g.D.Clock g.F.TaskFuture g.met.W.SharedState.leads_on (Ok tt) c.args.self.now c.loop-units.self c.pass.new.self c.loop-units.invariant.1 (rw c.in-Ok-pass.is at c.pass.ensures.went),
)

pub returns-in-Err-pass-clause-went : goal.returns-in-Err-pass-clause-went
returns-in-Err-pass-clause-went g c =
    went_on g.O.Outcome.output_number g.W.SharedState g.D.Clock g.F.TaskFuture g.met.W.SharedState.leads_on (Err c.in-Err-pass.error) c.args.self.now c.loop-units.self c.pass.new.self c.loop-units.invariant.1 (rw c.in-Err-pass.is at c.pass.ensures.went)

pub returns-then-has_output-clause-went : goal.returns-then-has_output-clause-went
returns-then-has_output-clause-went g c = c.loop-units.invariant.1

pub returns-else-has_output-clause-went : goal.returns-else-has_output-clause-went
returns-else-has_output-clause-went g c = went_spent g.O.Outcome.output_number g.W.SharedState g.D.Clock g.F.TaskFuture c.args.self.now c.loop-units.self c.loop-units.invariant.1

pub returns-in-Err-clause-went : goal.returns-in-Err-clause-went
returns-in-Err-clause-went g c = rw c.in-Err.is at c.round.ensures.went

pub pass-requires-clause-callable : goal.pass-requires-clause-callable
pass-requires-clause-callable g c = c.loop-units.invariant.1.callable c.requires.callable

pub pass-requires-clause-rests : goal.pass-requires-clause-rests
pass-requires-clause-rests g c = c.loop-units.invariant.1.rests c.requires.rests
