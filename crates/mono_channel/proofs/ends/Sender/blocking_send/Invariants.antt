use Rattle.std.proofs.Common.{Some}
use Rattle.mono_model.specs.declared.poll.Poll.TheVariants.{Pending}
use Rattle.mono_channel.specs.Polls.{PollsToSend}
use Rattle.mono_channel.proofs.ends.Sender.blocking_send.Given as goal

-- the message is kept
abbrev pub invariant-loop : goal.invariant-loop
invariant-loop g l = PollsToSend l.fn.self (Some l.fn.message) Pending l.self l.kept
