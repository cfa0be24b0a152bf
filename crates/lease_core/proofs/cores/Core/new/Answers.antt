use Rattle.std.proofs.Common.{refl, ap, ℕ}
use Rattle.mono_actor.specs.Actors.{Actors}
use Rattle.lease_core.proofs.cores.Core.new.Goals as goal

pub returns : goal.returns
returns c = record {
  leases = c.in_ok-sessions.ensures.stands;
  limits = c.in_ok-limiter.ensures;
  actors = c.in_ok-actors.ensures;
  waiting = c.in_ok-waiting.ensures;
  tick = refl;
  rests = ap (λ (a : Actors ℕ). a.turn) c.in_ok-actors.ensures;
}
