use Rattle.std.proofs.Common.{rules}
use Rattle.mono_channel.proofs.CountLemmas.{looks}
use Rattle.mono_channel.proofs.stakes.SenderCount.look.Goals as goal

pub load-requires : goal.load-requires
load-requires c = (search rules, search rules, looks _ _ _)
