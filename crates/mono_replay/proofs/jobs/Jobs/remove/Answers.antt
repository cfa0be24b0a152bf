use Rattle.std.proofs.Common.{None}
use Rattle.std.proofs.lemmas.List.{map-set}
use Rattle.mono_replay.specs.JobTable.{place_of}
use Rattle.mono_replay.proofs.jobs.Jobs.remove.Goals as goal

pub returns : goal.returns
returns c = rw (← c.self.view_is, c.remove.ensures, map-set place_of c.self.inside.places c.args.j None)
