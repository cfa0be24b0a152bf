use Rattle.std.proofs.Common.{ap, arith}
use Rattle.mono_inbox.proofs.shares.Recorded.sum.Goals as goal

pub overflow_add-sum : goal.overflow_add-sum
overflow_add-sum g c = omega (arith, c.audit.ensures.bound, c.merge.ensures.amount, c.loop-next.invariant.amount, c.next.invariant.1, c.loop-next.self.counted, ap (λ s. s.log.ledger_puts) c.loop-next.invariant.state, c.ledger_puts.ensures.number, c.ledger_puts.type_inv)
