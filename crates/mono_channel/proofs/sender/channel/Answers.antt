use Rattle.std.proofs.Common.{ap}
use Rattle.mono_channel.proofs.DeliveryLemmas.{opens}
use Rattle.mono_channel.proofs.sender.channel.Goals as goal

pub another-end-requires-clause-rule : goal.another-end-requires-clause-rule
another-end-requires-clause-rule g c = let is = c.in_ok-queue.ensures.end.1 in opens _ _ (ap (λ v. v.receives) is) (ap (λ v. v.shares) is)
