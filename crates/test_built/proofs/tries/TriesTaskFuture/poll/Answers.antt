use Rattle.std.proofs.Common.{false}
use Rattle.std.specs.Prelude.{⊤}
use Rattle.mono_forms.proofs.CanPollLemmas.{maybe_list_can}
use Rattle.test_built.proofs.tries.TriesTaskFuture.poll.Goals as goal

-- the goal asks of a part that it can be polled, and nothing else
pub poll_form-requires-in-List : goal.poll_form-requires-in-List
poll_form-requires-in-List g c = λ m. maybe_list_can {C = ⊤} (record { is_spent = λ f. false; can_poll = λ f. ⊤; polls = λ f c r g d. ⊤; gives = λ f x. ⊤; cancels = λ f c d. ⊤ }) (λ f. tt) m.branches.items
