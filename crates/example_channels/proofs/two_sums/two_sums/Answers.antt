use Rattle.std.proofs.Common.{◌==◌, length, sum, ap, ◌∙◌, arith, rules}
use Rattle.std.proofs.lemmas.Bool.{eqb-true}
use Rattle.mono_rt.proofs.PollableLemmas.{every_turn}
use Rattle.example_channels.proofs.ProgramLemmas.{this_can}
use Rattle.example_channels.proofs.SumLemmas.{sums_agree}
use Rattle.example_channels.proofs.two_sums.two_sums.Goals as goal

-- each future of this type can be polled
pub block_on-requires-clause-others : goal.block_on-requires-clause-others
block_on-requires-clause-others g c = every_turn _ _ (search rules)

pub block_on-requires-clause-callable : goal.block_on-requires-clause-callable
block_on-requires-clause-callable g c = this_can (block_on-requires-clause-others g c) (search rules) c.right_future.result

pub returns : goal.returns
returns g c =
    let same = ap (λ w. w.part) (c.spawn.ensures.shared ∙ c.in-Ok.ensures.shared) in
    let queue = ap (λ a. sum a.channel.queue.items) same ∙ ap sum c.new-part.ensures.queue in
    let sent = ap (λ a. a.tally.sent) same ∙ ap (λ t. t.sent) c.new-part.ensures.tally in
    let received = ap (λ a. a.tally.received) same ∙ ap (λ t. t.received) c.new-part.ensures.tally in
    let kept = c.block_on.ensures.shared.1 (λ exact. omega (arith, queue, sent, received, c.default.ensures)) in
    let agree = sums_agree (c.len.result == 0) c.block_on.new.self.cx.shared.part.channel.queue.items c.block_on.new.self.cx.shared.part.tally.sent c.block_on.new.self.cx.shared.part.tally.received (λ e. omega (arith, eqb-true c.len.result 0 e, c.len.ensures ∙ ap (λ w. length w.part.channel.queue.items) c.shared.ensures)) kept in
    rw c.then_some.ensures (rw c.shared.ensures agree)
