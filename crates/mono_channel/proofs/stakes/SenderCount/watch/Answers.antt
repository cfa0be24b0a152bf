use Rattle.std.proofs.Common.{rules}
use Rattle.mono_channel.proofs.CountLemmas.{shows}
use Rattle.mono_channel.proofs.stakes.SenderCount.watch.Goals as goal

pub split_seat-requires : goal.split_seat-requires
split_seat-requires c = (search rules, search rules, shows _ _)
