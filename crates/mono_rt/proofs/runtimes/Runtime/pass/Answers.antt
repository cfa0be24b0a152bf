use Rattle.std.proofs.Common.{◌≡◌, cond, ℕ, ◌-◌, arith, ap, ◌∙◌, sym}
use Rattle.std.specs.Prelude.{Ok, Err}
use Rattle.mono_rt.proofs.RoundLemmas.{does_pass, pass_breaks, pass_broken}
use Rattle.mono_rt.specs.declared.parts.errors.RunError.TheVariants.{Memory}
use Rattle.mono_rt.proofs.ProgressLemmas.{went_on, went_paused}
use Rattle.mono_rt.proofs.runtimes.Runtime.pass.Goals as goal

no_cost : (u k : ℕ) → 0 ≡ k → u ≡ u - k
no_cost u k is = omega (arith, is)

pub returns-in-Err-clause-passes : goal.returns-in-Err-clause-passes
returns-in-Err-clause-passes g c =
    pass_breaks g.O.Outcome.output_number c.in-Err.error c.args.self.now.cx.parts.has_timers c.args.units c.args.self.now.cx.parts c.pause.new.self.cx.parts c.args.self.now.journal c.pause.new.self.journal
    (rw c.in-Err.is at c.pause.ensures.pauses)

pub returns-in-Ok-clause-passes : goal.returns-in-Ok-clause-passes
returns-in-Ok-clause-passes g c =
    does_pass g.O.Outcome.output_number c.args.self.now.cx.parts.has_timers c.args.units (c.args.units - 1) c.in-Ok.left c.args.self.now.cx.parts c.pause.new.self.cx.parts c.round.new.self.cx.parts c.args.self.now.journal c.pause.new.self.journal c.round.new.self.journal
    (ap (λ x. c.args.units - x) (ap (λ b. cond b 1 0) (sym c.in-Ok-true.field-0-test) ∙ rw c.in-Ok-true.is at c.pause.ensures.spent)) (rw c.in-Ok-true.is at c.pause.ensures.pauses) c.in-Ok.ensures.round

pub returns-in-Ok-round-clause-passes : goal.returns-in-Ok-round-clause-passes
returns-in-Ok-round-clause-passes g c =
    does_pass g.O.Outcome.output_number c.args.self.now.cx.parts.has_timers c.args.units c.args.units c.in-Ok-round.left c.args.self.now.cx.parts c.pause.new.self.cx.parts c.round-in-Ok-false.new.self.cx.parts c.args.self.now.journal c.pause.new.self.journal c.round-in-Ok-false.new.self.journal
    (no_cost c.args.units _ (ap (λ b. cond b 1 0) (sym c.in-Ok-false.field-0-test) ∙ rw c.in-Ok-false.is at c.pause.ensures.spent)) (rw c.in-Ok-false.is at c.pause.ensures.pauses) c.in-Ok-round.ensures.round

pub returns-in-Ok-round-clause-fewer : goal.returns-in-Ok-round-clause-fewer
returns-in-Ok-round-clause-fewer g c = c.in-Ok-round.ensures.fewer ((rw c.in-Ok-false.is at c.pause.ensures.queued) c.in-Ok-false.field-0-test) c.requires.some_left

pub returns-in-Err-round-clause-passes : goal.returns-in-Err-round-clause-passes
returns-in-Err-round-clause-passes g c =
    pass_broken g.O.Outcome.output_number c.args.self.now.cx.parts.has_timers c.args.units (c.args.units - 1) c.args.self.now.cx.parts c.pause.new.self.cx.parts c.round.new.self.cx.parts c.args.self.now.journal c.pause.new.self.journal c.round.new.self.journal
    (ap (λ x. c.args.units - x) (ap (λ b. cond b 1 0) (sym c.in-Ok-true.field-0-test) ∙ rw c.in-Ok-true.is at c.pause.ensures.spent)) (rw c.in-Ok-true.is at c.pause.ensures.pauses) c.in-Err-round.ensures.broken

pub returns-in-Err-round-2-clause-passes : goal.returns-in-Err-round-2-clause-passes
returns-in-Err-round-2-clause-passes g c =
    pass_broken g.O.Outcome.output_number c.args.self.now.cx.parts.has_timers c.args.units c.args.units c.args.self.now.cx.parts c.pause.new.self.cx.parts c.round-in-Ok-false.new.self.cx.parts c.args.self.now.journal c.pause.new.self.journal c.round-in-Ok-false.new.self.journal
    (no_cost c.args.units _ (ap (λ b. cond b 1 0) (sym c.in-Ok-false.field-0-test) ∙ rw c.in-Ok-false.is at c.pause.ensures.spent)) (rw c.in-Ok-false.is at c.pause.ensures.pauses) c.in-Err-round-2.ensures.broken

pub returns-in-Err-clause-went : goal.returns-in-Err-clause-went
returns-in-Err-clause-went g c =
    let paused = went_paused g.O.Outcome.output_number g.W.SharedState g.D.Clock g.F.TaskFuture g.met.W.SharedState.leads_itself c.pause.result c.args.self.now c.pause.new.self c.pause.ensures.idle c.pause.ensures.pauses c.pause.ensures.faults c.pause.ensures.told c.pause.ensures.placed in
    rw c.in-Err.is at paused

pub returns-in-Ok-clause-went : goal.returns-in-Ok-clause-went
returns-in-Ok-clause-went g c =
    let paused = went_paused g.O.Outcome.output_number g.W.SharedState g.D.Clock g.F.TaskFuture g.met.W.SharedState.leads_itself c.pause.result c.args.self.now c.pause.new.self c.pause.ensures.idle c.pause.ensures.pauses c.pause.ensures.faults c.pause.ensures.told c.pause.ensures.placed in
    went_on g.O.Outcome.output_number g.W.SharedState g.D.Clock g.F.TaskFuture g.met.W.SharedState.leads_on (Ok tt) c.args.self.now c.pause.new.self c.round.new.self (rw c.in-Ok-true.is at paused) (rw c.in-Ok.is at c.round.ensures.went)

pub returns-in-Ok-round-clause-went : goal.returns-in-Ok-round-clause-went
returns-in-Ok-round-clause-went g c =
    let paused = went_paused g.O.Outcome.output_number g.W.SharedState g.D.Clock g.F.TaskFuture g.met.W.SharedState.leads_itself c.pause.result c.args.self.now c.pause.new.self c.pause.ensures.idle c.pause.ensures.pauses c.pause.ensures.faults c.pause.ensures.told c.pause.ensures.placed in
    went_on g.O.Outcome.output_number g.W.SharedState g.D.Clock g.F.TaskFuture g.met.W.SharedState.leads_on (Ok tt) c.args.self.now c.pause.new.self c.round-in-Ok-false.new.self (rw c.in-Ok-false.is at paused) (rw c.in-Ok-round.is at c.round-in-Ok-false.ensures.went)

pub returns-in-Err-round-clause-went : goal.returns-in-Err-round-clause-went
returns-in-Err-round-clause-went g c =
    let paused = went_paused g.O.Outcome.output_number g.W.SharedState g.D.Clock g.F.TaskFuture g.met.W.SharedState.leads_itself c.pause.result c.args.self.now c.pause.new.self c.pause.ensures.idle c.pause.ensures.pauses c.pause.ensures.faults c.pause.ensures.told c.pause.ensures.placed in
    went_on g.O.Outcome.output_number g.W.SharedState g.D.Clock g.F.TaskFuture g.met.W.SharedState.leads_on (Err Memory) c.args.self.now c.pause.new.self c.round.new.self (rw c.in-Ok-true.is at paused) (rw c.in-Err-round.is at c.round.ensures.went)

pub returns-in-Err-round-2-clause-went : goal.returns-in-Err-round-2-clause-went
returns-in-Err-round-2-clause-went g c =
    let paused = went_paused g.O.Outcome.output_number g.W.SharedState g.D.Clock g.F.TaskFuture g.met.W.SharedState.leads_itself c.pause.result c.args.self.now c.pause.new.self c.pause.ensures.idle c.pause.ensures.pauses c.pause.ensures.faults c.pause.ensures.told c.pause.ensures.placed in
    went_on g.O.Outcome.output_number g.W.SharedState g.D.Clock g.F.TaskFuture g.met.W.SharedState.leads_on (Err Memory) c.args.self.now c.pause.new.self c.round-in-Ok-false.new.self (rw c.in-Ok-false.is at paused) (rw c.in-Err-round-2.is at c.round-in-Ok-false.ensures.went)

pub round-requires-clause-callable : goal.round-requires-clause-callable
round-requires-clause-callable g c =
    let paused = went_paused g.O.Outcome.output_number g.W.SharedState g.D.Clock g.F.TaskFuture g.met.W.SharedState.leads_itself c.pause.result c.args.self.now c.pause.new.self c.pause.ensures.idle c.pause.ensures.pauses c.pause.ensures.faults c.pause.ensures.told c.pause.ensures.placed in
    paused.callable c.requires.callable

pub round-requires-clause-rests : goal.round-requires-clause-rests
round-requires-clause-rests g c =
    let paused = went_paused g.O.Outcome.output_number g.W.SharedState g.D.Clock g.F.TaskFuture g.met.W.SharedState.leads_itself c.pause.result c.args.self.now c.pause.new.self c.pause.ensures.idle c.pause.ensures.pauses c.pause.ensures.faults c.pause.ensures.told c.pause.ensures.placed in
    paused.rests c.requires.rests

pub round-requires-in-Ok-false-clause-callable : goal.round-requires-in-Ok-false-clause-callable
round-requires-in-Ok-false-clause-callable g c =
    let paused = went_paused g.O.Outcome.output_number g.W.SharedState g.D.Clock g.F.TaskFuture g.met.W.SharedState.leads_itself c.pause.result c.args.self.now c.pause.new.self c.pause.ensures.idle c.pause.ensures.pauses c.pause.ensures.faults c.pause.ensures.told c.pause.ensures.placed in
    paused.callable c.requires.callable

pub round-requires-in-Ok-false-clause-rests : goal.round-requires-in-Ok-false-clause-rests
round-requires-in-Ok-false-clause-rests g c =
    let paused = went_paused g.O.Outcome.output_number g.W.SharedState g.D.Clock g.F.TaskFuture g.met.W.SharedState.leads_itself c.pause.result c.args.self.now c.pause.new.self c.pause.ensures.idle c.pause.ensures.pauses c.pause.ensures.faults c.pause.ensures.told c.pause.ensures.placed in
    paused.rests c.requires.rests
