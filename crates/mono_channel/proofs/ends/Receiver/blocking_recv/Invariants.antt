use Rattle.mono_channel.specs.Polls.{FindsNone}
use Rattle.mono_channel.proofs.ends.Receiver.blocking_recv.Given as goal

-- none was queued so far
abbrev pub invariant-loop : goal.invariant-loop
invariant-loop g l = FindsNone l.fn.self l.self
