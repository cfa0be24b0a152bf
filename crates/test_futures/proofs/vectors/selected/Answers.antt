use Rattle.std.proofs.Common.{refl}
use Rattle.std.specs.Prelude.{⊤}
use Rattle.mono_combine.specs.Looks.{branch_spent}
use Rattle.test_futures.proofs.UnspentFormLemmas.{none_in_masked, never}
use Rattle.test_futures.proofs.vectors.selected.Goals as goal

pub told-requires-clause-unspent : goal.told-requires-clause-unspent
told-requires-clause-unspent g c = rw c.in-Ok.ensures.fresh (rw c.in-Ok.ensures.made (none_in_masked (branch_spent {C = ⊤} {O = ⊤} never) (λ f. refl) (λ f. refl) c.args.mask 0 c.in_ok-steps.steps.items))
