use Rattle.std.proofs.Common.{sym, ◌∙◌}
use Rattle.mono_machine.specs.Steps.{at_clock}
use Rattle.mono_machine.proofs.FireLemmas.{fires-greatest}
use Rattle.mono_time.proofs.RegistrationLemmas.{clock-on}
use Rattle.mono_replay.proofs.FireLemmas.{clock_took}
use Rattle.mono_replay.proofs.parts.Parts.clock.Goals as goal

pub returns-in_ok-make_room-in-Some-clause-steps :
    goal.returns-in_ok-make_room-in-Some-clause-steps
returns-in_ok-make_room-in-Some-clause-steps c = λ m st.
    let fires = c.fire_all-due.ensures.fires m (record { keeps = st.sleeps.keeps; same_tasks = st.tasks }) in
    rw c.fired_apart-fired.ensures (clock_took c.args.self.now m c.args.n _ c.fire_all-due.result.fired.items _ _ c.in-Some.ensures.some c.in-Some.now.in_range st fires.0 fires.1 c.fire_all-due.ensures.has_gone)

pub returns-in_ok-make_room-in-Some-clause-registered :
    goal.returns-in_ok-make_room-in-Some-clause-registered
returns-in_ok-make_room-in-Some-clause-registered c = λ m st s.
    let old = c.args.self.now.timers in
    let new = c.fire_all-due.new.timers in
    let fires = c.fire_all-due.ensures.fires m (record { keeps = st.sleeps.keeps; same_tasks = st.tasks }) in
    clock-on old new m c.args.n _ c.in-Some.ensures.some c.in-Some.now.in_range st.sleeps.keeps.stands st.sleeps.has_gone
    (c.fire_all-due.ensures.has_gone ∙ sym fires.0.keeps.stands.same_greatest ∙ fires-greatest (at_clock m _) c.fire_all-due.result.fired.items) s (c.fire_all-due.ensures.registered s)
