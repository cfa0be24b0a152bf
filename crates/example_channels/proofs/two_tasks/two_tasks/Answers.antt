use Rattle.std.proofs.Common.{length, ap, ◌∙◌, arith, rules}
use Rattle.mono_rt.proofs.PollableLemmas.{every_turn}
use Rattle.example_channels.proofs.ProgramLemmas.{this_can, stays_within}
use Rattle.example_channels.proofs.two_tasks.two_tasks.Goals as goal

-- each future of this type can be polled
pub block_on-requires-clause-others : goal.block_on-requires-clause-others
block_on-requires-clause-others g c = every_turn _ _ (search rules)

pub block_on-requires-clause-callable : goal.block_on-requires-clause-callable
block_on-requires-clause-callable g c = this_can (block_on-requires-clause-others g c) (search rules) c.right_future.result

pub returns : goal.returns
returns g c =
    let same = ap (λ w. w.part) (c.spawn.ensures.shared ∙ c.in-Ok.ensures.shared) in
    let few = stays_within c.stays_bounded.ensures c.spawn.new.self.cx.shared.part c.block_on.new.self.cx.shared.part c.args.bound
    (ap (λ a. a.queue.items) same ∙ c.new-part.ensures.queue) (ap (λ a. a.bound) same ∙ c.new-part.ensures.bound) c.block_on.ensures.shared in
    omega (arith, few, c.len.ensures ∙ ap (λ w. length w.part.queue.items) c.shared.ensures)
