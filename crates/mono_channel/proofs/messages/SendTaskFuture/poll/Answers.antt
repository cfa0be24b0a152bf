use Rattle.std.proofs.Common.{sym, ◌∙◌}
use Rattle.mono_channel.proofs.PollLemmas.{send_given}
use Rattle.mono_channel.proofs.messages.SendTaskFuture.poll.Goals as goal

pub returns-clause-given : goal.returns-clause-given
returns-clause-given g c = send_given _ _ _ _ _ _ (sym c.replace.ensures.value ∙ c.in-Some.is) c.poll_in.ensures.polled
