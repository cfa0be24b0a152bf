use Rattle.std.proofs.Common.{None, ap, ◌∙◌}
use Rattle.std.proofs.lemmas.List.{map-set}
use Rattle.mono_machine.specs.JobCalls.{without_job}
use Rattle.mono_blocking.specs.JobTable.{job_of, jobs_of, place_of}
use Rattle.mono_blocking.proofs.JobPlaceLemmas.{out_is}
use Rattle.mono_blocking.proofs.jobs.table.JobTable.take_out.Goals as goal

pub returns-clause-jobs : goal.returns-clause-jobs
returns-clause-jobs g c =
    let places = c.self.inside.places.table in
    let limit = c.self.inside.limit in
    ap (λ t. jobs_of t limit) c.remove.ensures
    ∙ ap (λ t. record { table = t; limit = limit }) (map-set place_of places c.args.j None)
    ∙ ap (λ s. without_job s.jobs c.args.j) c.self.view_is
    ∙ ap (λ m. without_job m c.args.j) c.take.ensures.jobs
    ∙ out_is c.args.self.now.jobs c.args.j (job_of c.in_ok-place.place) c.in_ok-place.ensures.found
