use Rattle.mono_wait.proofs.laws.a_pending_future_needs_a_source.Goals as goal

pub returns : goal.returns
returns g c = λ f cx h d polled. (g.met.F.Waits.covers f cx h d polled).one
