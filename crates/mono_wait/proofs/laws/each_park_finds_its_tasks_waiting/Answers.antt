use Rattle.mono_wait.specs.Sources.{machine_needs}
use Rattle.mono_wait.proofs.TurnLemmas.{leaves_waiting}
use Rattle.mono_wait.proofs.ParkLemmas.{waiting}
use Rattle.mono_wait.proofs.laws.each_park_finds_its_tasks_waiting.Goals as goal

pub returns : goal.returns
returns g c = λ has_timers part m store reading t x polled.
    waiting g.O.Outcome.output_number g.W.SharedState g.F.TaskFuture (machine_needs g.F.Waits.needs) has_timers
    (λ n items at steps answer left told. leaves_waiting g.O.Outcome.output_number g.W.SharedState g.F.TaskFuture g.F.Waits.needs (λ f cx h d. g.met.F.Waits.covers f cx h d) c.what_a_turn_registers_stands.ensures has_timers n items at steps answer left told)
    t x part ⊥ m store reading (λ none. absurd none) polled
