use Rattle.mono_quiet.proofs.SpawnLemmas.{spawns_none}
use Rattle.mono_quiet.proofs.laws.quiet_futures_spawn_none.Goals as goal

pub returns : goal.returns
returns g c = spawns_none g.F.TaskFuture g.met.F.Quiet.polls_make_none g.met.F.Quiet.cancels_make_none
