use Rattle.std.proofs.Common.{refl}
use Rattle.mono_inbox.specs.Log.{is_full}
use Rattle.mono_inbox.proofs.ReplayLemmas.{faithful-with, know-goes_on}
use Rattle.mono_inbox.proofs.recorded_state.RecordedState.know.Goals as goal

pub invariant_of-self-2 : goal.invariant_of-self-2
invariant_of-self-2 c = rw c.keep.ensures (faithful-with (is_full c.self.inside.log) _ _ c.self.inside.log _ _ refl refl c.self.invariant (know-goes_on _ _ c.args.task c.in_ok-know.ensures.known))
