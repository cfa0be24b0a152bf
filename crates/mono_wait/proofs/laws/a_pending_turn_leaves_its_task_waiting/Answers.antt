use Rattle.mono_wait.proofs.TurnLemmas.{leaves_waiting}
use Rattle.mono_wait.proofs.laws.a_pending_turn_leaves_its_task_waiting.Goals as goal

pub returns : goal.returns
returns g c = λ has_timers m store left reading steps answer told.
    leaves_waiting g.O.Outcome.output_number g.W.SharedState g.F.TaskFuture g.F.Waits.needs (λ f cx h d. g.met.F.Waits.covers f cx h d) c.what_a_turn_registers_stands.ensures has_timers m store reading steps answer left told
