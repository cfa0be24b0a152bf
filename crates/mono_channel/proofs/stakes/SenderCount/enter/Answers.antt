use Rattle.std.proofs.Common.{rules, ◌<◌, sym, subst, arith}
use Rattle.mono_channel.specs.declared.stakes.Standing.{Standing}
use Rattle.mono_channel.proofs.CountLemmas.{enters_as, hands}
use Rattle.mono_channel.proofs.stakes.SenderCount.enter.Goals as goal

pub compare_exchange-requires : goal.compare_exchange-requires
compare_exchange-requires g c =
    (search rules, search rules, enters_as _ _ _ _ _ (search rules) (subst (λ (m : Standing). 0 < m.senders) (sym c.loop.invariant.1) c.requires.open))

pub split_seat-requires : goal.split_seat-requires
split_seat-requires g c =
    let is = c.compare_exchange.ensures.2.0 (search rules) in
    (search rules, search rules, hands _ _ (subst (λ (m : Standing). 0 < m.senders) (sym is) (omega arith)))
