use Rattle.std.proofs.Common.{refl}
use Rattle.std.specs.Prelude.{⊤}
use Rattle.mono_combine.specs.declared.maybe.MaybeDone.TheVariants.{Future}
use Rattle.mono_combine.specs.Branches.{maybe_spent}
use Rattle.test_futures.proofs.UnspentFormLemmas.{none_in_map, never, all_can}
use Rattle.test_futures.proofs.many.tried.Goals as goal

pub told-requires-clause-unspent : goal.told-requires-clause-unspent
told-requires-clause-unspent g c = rw c.in-Ok.ensures.fresh (rw c.in-Ok.ensures.made (none_in_map (maybe_spent {C = ⊤} never) Future (λ f. refl) c.in_ok-trials.trials.items))

pub told-requires-clause-callable : goal.told-requires-clause-callable
told-requires-clause-callable g c = rw c.in-Ok.ensures.made (all_can ⊤ _ c.in_ok-trials.trials.items)
