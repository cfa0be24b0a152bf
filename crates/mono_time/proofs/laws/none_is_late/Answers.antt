use Rattle.mono_time.proofs.RestLemmas.{rests-added, rests-polled, rests-reset, rests-removed}
use Rattle.mono_time.proofs.laws.none_is_late.Goals as goal

pub returns-clause-added : goal.returns-clause-added
returns-clause-added c = rests-added

pub returns-clause-polled : goal.returns-clause-polled
returns-clause-polled c = rests-polled

pub returns-clause-reset : goal.returns-clause-reset
returns-clause-reset c = rests-reset

pub returns-clause-removed : goal.returns-clause-removed
returns-clause-removed c = rests-removed
