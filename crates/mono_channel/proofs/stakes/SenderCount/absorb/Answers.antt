use Rattle.std.proofs.Common.{rules}
use Rattle.mono_channel.proofs.CountLemmas.{gathers}
use Rattle.mono_channel.proofs.stakes.SenderCount.absorb.Goals as goal

pub join_seat-requires : goal.join_seat-requires
join_seat-requires c = (search rules, search rules, search rules, search rules, gathers _ _ _ _)
