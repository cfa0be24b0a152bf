use Rattle.std.specs.Prelude.{Result, Ok, Err, OnErr}
use Rattle.std.proofs.Common.{inl, inr, ◌≡◌, ◌+◌, ◌-◌, ℕ, arith, refl, ap, sym, ◌∙◌}
use Rattle.mono_rt.specs.declared.parts.errors.RunError.TheVariants.{Memory}
use Rattle.mono_rt.specs.Progress.{Proceeds}
use Rattle.mono_rt.proofs.RoundLemmas.{turns_more, no_turns, does_round, round_breaks, most_is, no_queue}
use Rattle.mono_rt.proofs.ProgressLemmas.{went_nowhere, went_on, lasting_err}
use Rattle.mono_rt.proofs.runtimes.Runtime.round.Goals as goal

on_any : {A E : Type 0} (r : Result A E) (P : Type 0) → P → OnErr r P
on_any (Ok x) P p = tt
on_any (Err e) P p = p

never : (n : ℕ) → n + 1 ≡ 0 → ⊥
never n e = omega (arith, e)

pub returns-then-queue_len-eq0-clause-round : goal.returns-then-queue_len-eq0-clause-round
returns-then-queue_len-eq0-clause-round g c =
    let most = most_is _ _ _ _ _ c.args.units c.ranges.units.fits c.queue_len-queued.ensures c.saturating_mul.ensures c.saturating_add.ensures c.min-most.ensures in
    does_round g.O.Outcome.output_number c.loop-done.done c.args.units _ c.args.self.now.cx.parts c.loop-done.self.cx.parts c.args.self.now.journal c.loop-done.self.journal c.loop-done.invariant.0
    (omega (arith, most, c.loop-done.auto.done-end)) (inl (no_queue _ _ c.queue_len.ensures c.if-queue_len-eq0.true)) refl

pub returns-in_err-turn-clause-broken : goal.returns-in_err-turn-clause-broken
returns-in_err-turn-clause-broken g c =
    let most = most_is _ _ _ _ _ c.args.units c.ranges.units.fits c.queue_len-queued.ensures c.saturating_mul.ensures c.saturating_add.ensures c.min-most.ensures in
    on_any c.from_residual.result _ (round_breaks g.O.Outcome.output_number c.loop-done.done c.args.units c.args.self.now.cx.parts c.loop-done.self.cx.parts c.turn.new.self.cx.parts c.args.self.now.journal c.loop-done.self.journal c.turn.new.self.journal
    (omega (arith, most, c.loop-done-test.true)) c.loop-done.invariant.0 c.in_err-turn.ensures.turned)

pub returns-clause-round : goal.returns-clause-round
returns-clause-round g c =
    let most = most_is _ _ _ _ _ c.args.units c.ranges.units.fits c.queue_len-queued.ensures c.saturating_mul.ensures c.saturating_add.ensures c.min-most.ensures in
    let done : c.loop-done.done ≡ c.min-most.result = omega (arith, c.loop-done.auto.done-end, c.loop-done-test.false) in
    does_round g.O.Outcome.output_number c.loop-done.done c.args.units _ c.args.self.now.cx.parts c.loop-done.self.cx.parts c.args.self.now.journal c.loop-done.self.journal c.loop-done.invariant.0
    (omega (arith, most, done)) (inr (done ∙ most)) (ap (λ x. c.args.units - x) (sym done))

pub loop-done-init : goal.loop-done-init
loop-done-init g c = (
  no_turns g.O.Outcome.output_number c.args.self.now.cx.parts c.args.self.now.journal,
  went_nowhere g.O.Outcome.output_number g.W.SharedState g.D.Clock g.F.TaskFuture g.met.W.SharedState.leads_itself c.args.self.now,
  λ e. refl,
)

pub loop-done-preserved : goal.loop-done-preserved
loop-done-preserved g c = (
  turns_more g.O.Outcome.output_number c.loop-done.done c.args.self.now.cx.parts c.loop-done.self.cx.parts c.turn.new.self.cx.parts c.args.self.now.journal c.loop-done.self.journal c.turn.new.self.journal c.loop-done.invariant.0 c.in_ok-turn.ensures.turned,
  went_on g.O.Outcome.output_number g.W.SharedState g.D.Clock g.F.TaskFuture g.met.W.SharedState.leads_on (Ok tt) c.args.self.now c.loop-done.self c.turn.new.self c.loop-done.invariant.1 c.in_ok-turn.ensures.went,
  λ e. absurd (never c.loop-done.done e),
)

pub returns-in_err-turn-clause-went : goal.returns-in_err-turn-clause-went
returns-in_err-turn-clause-went g c =
    let number = g.O.Outcome.output_number in
    let sharing = g.W.SharedState in
    lasting_err c.from_residual.result (λ r. Proceeds number sharing g.D.Clock g.F.TaskFuture r c.args.self.now c.turn.new.self) c.from_residual.ensures.0
    (went_on number sharing g.D.Clock g.F.TaskFuture g.met.W.SharedState.leads_on (Err Memory) c.args.self.now c.loop-done.self c.turn.new.self c.loop-done.invariant.1 c.in_err-turn.ensures.went)

pub returns-then-queue_len-eq0-clause-went : goal.returns-then-queue_len-eq0-clause-went
returns-then-queue_len-eq0-clause-went g c = c.loop-done.invariant.1

pub returns-clause-went : goal.returns-clause-went
returns-clause-went g c = c.loop-done.invariant.1

pub turn-requires-clause-callable : goal.turn-requires-clause-callable
turn-requires-clause-callable g c = c.loop-done.invariant.1.callable c.requires.callable

pub turn-requires-clause-rests : goal.turn-requires-clause-rests
turn-requires-clause-rests g c = c.loop-done.invariant.1.rests c.requires.rests
