use Rattle.std.proofs.Common.{Some}
use Rattle.std.proofs.lemmas.List.{map-set}
use Rattle.mono_blocking.specs.JobTable.{place_of}
use Rattle.mono_blocking.specs.declared.jobs.table.Place.TheVariants.{Taken}
use Rattle.mono_blocking.proofs.jobs.table.JobTable.hold.Goals as goal

pub returns-clause-jobs : goal.returns-clause-jobs
returns-clause-jobs g c = rw (c.replace.ensures.table, ← c.self.view_is, map-set place_of c.self.inside.places.table c.args.j (Some Taken))
