use Rattle.std.proofs.Common.{Some, None, ap, sym, subst, ◌∙◌}
use Rattle.std.specs.Prelude.{◌-◌}
use Rattle.mono_time.specs.Instants.{nanos_of}
use Rattle.mono_time.specs.Timers.{elapsed_tick, registered_of}
use Rattle.mono_rt.specs.Rounds.{IsWait}
use Rattle.mono_rt.proofs.WaitLemmas.{waits_none, waits_until}
use Rattle.mono_rt.proofs.RegistrationLemmas.{next_is}
use Rattle.mono_rt.proofs.parts.parks.Parts+O+Blockings+P.wait_from.Goals as goal

pub returns-in-None-clause-wait : goal.returns-in-None-clause-wait
returns-in-None-clause-wait g c = λ m st. subst (λ h. IsWait h m (nanos_of c.args.now) None) (sym c.if-self.true) (waits_none g.O.Outcome.output_number c.args.self.now m (elapsed_tick c.args.self.now.timers) (registered_of c.args.self.now.timers) st c.in-None.ensures.next)

pub returns-in-Some-clause-wait : goal.returns-in-Some-clause-wait
returns-in-Some-clause-wait g c = λ m st. subst (λ h. IsWait h m (nanos_of c.args.now) (Some c.saturating_sub.result)) (sym c.if-self.true)
    (waits_until g.O.Outcome.output_number c.args.self.now m (nanos_of c.args.now) c.in-Some.tick c.saturating_sub.result st (c.in-Some.ensures.ahead st.no_due st.has_gone) c.in-Some.ensures.armed
    (c.saturating_sub.ensures ∙ ap (λ x. c.in-Some.tick - x) c.clock_tick.ensures.tick))

pub returns-else-self-clause-wait : goal.returns-else-self-clause-wait
returns-else-self-clause-wait g c = λ m st. subst (λ h. IsWait h m (nanos_of c.args.now) None) (sym c.if-self.false) tt

pub returns-in-Some-clause-next : goal.returns-in-Some-clause-next
returns-in-Some-clause-next g c = λ m st. (
  c.in-Some.tick,
  (
    next_is c.args.self.now.timers m.sleeps.greatest c.in-Some.tick st.no_due st.has_gone (sym st.sleeps.same_greatest) c.in-Some.ensures.next,
    c.saturating_sub.ensures ∙ ap (λ x. c.in-Some.tick - x) c.clock_tick.ensures.tick,
  ),
)
