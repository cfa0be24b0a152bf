use Rattle.mono_run.proofs.MainPlaceLemmas.{full_at}
use Rattle.mono_run.proofs.laws.only_a_limit_of_none_has_no_place.Goals as goal

pub returns : goal.returns
returns c = λ limits turns e output r. full_at limits turns e output r
