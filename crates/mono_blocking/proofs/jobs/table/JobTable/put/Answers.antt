use Rattle.std.proofs.Common.{◌<◌, None, Some, ap, sym, subst, ◌∙◌, length}
use Rattle.std.proofs.lemmas.List.{map-set, length-map, get_or-set_same}
use Rattle.mono_model.specs.Table.{value_at}
use Rattle.mono_blocking.specs.JobTable.{place_of, joiner_in, joiner_of, joiners_of}
use Rattle.mono_blocking.proofs.JobPlaceLemmas.{some_inside}
use Rattle.mono_blocking.proofs.jobs.table.JobTable.put.Goals as goal

pub returns-clause-jobs : goal.returns-clause-jobs
returns-clause-jobs g c = rw (c.replace.ensures.table, ← c.self.view_is, map-set place_of c.self.inside.places.table c.args.j (Some c.args.place))

pub returns-clause-joiner : goal.returns-clause-joiner
returns-clause-joiner g c =
    let places = c.self.inside.places.table in
    let inside : c.args.j < length (joiners_of places) =
    subst (λ n. c.args.j < n) (ap (λ s. length s.jobs.table) (sym c.self.view_is) ∙ length-map places place_of ∙ sym (length-map places joiner_in)) (some_inside c.args.self.now.jobs.table c.args.j c.requires.kept) in
    ap (λ t. value_at (joiners_of t) c.args.j) c.replace.ensures.table
    ∙ ap (λ xs. value_at xs c.args.j) (map-set joiner_in places c.args.j (Some c.args.place))
    ∙ get_or-set_same (joiners_of places) c.args.j (joiner_of c.args.place) None inside
