use Rattle.std.proofs.Common.{Some}
use Rattle.std.proofs.lemmas.List.{map-set}
use Rattle.mono_replay.specs.JobTable.{place_of}
use Rattle.mono_replay.proofs.jobs.Jobs.set.Goals as goal

pub returns : goal.returns
returns c = rw (← c.self.view_is, c.set.ensures, map-set place_of c.self.inside.places c.args.j (Some c.args.job))
