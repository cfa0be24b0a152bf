use Rattle.mono_wait.proofs.PlaceLemmas.{polled_listed}
use Rattle.mono_wait.proofs.laws.each_park_finds_its_tasks_listed.Goals as goal

pub returns : goal.returns
returns g c = λ has_timers lasts part m store reading t p polled.
    polled_listed g.O.Outcome.output_number g.W.SharedState g.F.TaskFuture g.F.WaitsIn.waits_in (λ f cx h d polls q is. g.met.F.WaitsIn.listed f cx h d polls q is) has_timers lasts t p part m store reading polled
