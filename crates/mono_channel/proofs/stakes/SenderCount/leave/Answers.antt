use Rattle.std.proofs.Common.{rules}
use Rattle.mono_channel.proofs.CountLemmas.{leaves}
use Rattle.mono_channel.proofs.stakes.SenderCount.leave.Goals as goal

pub fetch_sub-requires : goal.fetch_sub-requires
fetch_sub-requires c = (search rules, search rules, leaves _ _ _ c.requires.open)
