use Rattle.std.proofs.Common.{rules}
use Rattle.mono_channel.proofs.CountLemmas.{shows}
use Rattle.mono_channel.proofs.stakes.SenderCount.new.Goals as goal

pub split_seat-theirs-requires : goal.split_seat-theirs-requires
split_seat-theirs-requires c = (search rules, search rules, shows _ _)
