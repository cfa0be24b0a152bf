use Rattle.mono_wait.specs.Sources.{machine_needs}
use Rattle.mono_wait.proofs.TurnLemmas.{leaves_waiting}
use Rattle.mono_wait.proofs.CallLemmas.{call_waits}
use Rattle.mono_wait.proofs.laws.each_park_of_a_call_finds_its_tasks_waiting.Goals as goal

pub returns : goal.returns
returns g c = λ has_timers first store left old new part polls.
    call_waits g.O.Outcome.output_number g.W.SharedState g.F.TaskFuture (machine_needs g.F.Waits.needs) has_timers
    (λ n items at steps answer rest told. leaves_waiting g.O.Outcome.output_number g.W.SharedState g.F.TaskFuture g.F.Waits.needs (λ f cx h d. g.met.F.Waits.covers f cx h d) c.what_a_turn_registers_stands.ensures has_timers n items at steps answer rest told)
    first store left old new part polls
