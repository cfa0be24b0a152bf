use Rattle.std.proofs.Common.{◌≡◌}
use Rattle.std.specs.VecDeque.Iter.{deque_iter_rest}
use Rattle.mono_sync.specs.Notices.{alone_to, left_of}
use Rattle.mono_sync.proofs.notices.Notify.shares.Given as goal

abbrev pub invariant-loop-waiter : goal.invariant-loop-waiter
invariant-loop-waiter l =
    (alone_to l.self.cleared.next l.self.line.next l.left (deque_iter_rest l.waiter-iterator) ≡ alone_to l.self.cleared.next l.self.line.next l.self.pending l.self.line.waiters.items)
    × (left_of l.self.cleared.next l.left (deque_iter_rest l.waiter-iterator) ≡ left_of l.self.cleared.next l.self.pending l.self.line.waiters.items)
