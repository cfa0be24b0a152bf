use Rattle.std.proofs.Common.{refl}
use Rattle.mono_inbox.specs.Log.{is_full}
use Rattle.mono_inbox.proofs.ReplayLemmas.{faithful-with, put-goes_on}
use Rattle.mono_inbox.proofs.recorded_state.RecordedState.put.Goals as goal

pub invariant_of-self : goal.invariant_of-self
invariant_of-self c = rw c.keep.ensures (faithful-with (is_full c.self.inside.log) _ _ c.self.inside.log _ _ refl refl c.self.invariant (put-goes_on _ _ c.args.task _ c.put-listed.ensures.answer c.put-listed.ensures.state))
