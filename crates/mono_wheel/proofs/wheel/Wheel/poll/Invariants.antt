use Rattle.std.proofs.Common.{◌≡◌, ◌+◌, ◌*◌, ◌≤◌, ◌-◌}
use Rattle.mono_wheel.specs.Credit.{credit_of}
use Rattle.mono_wheel.proofs.PollLemmas.{Since}
use Rattle.mono_wheel.proofs.wheel.Wheel.poll.Given as goal

abbrev pub invariant-loop-key : goal.invariant-loop-key
invariant-loop-key g l = record {
  since : Since l.fn.self l.self;
  ahead : l.self.elapsed ≤ l.now;
  moved : l.self.moves.slots + 2 * l.fn.steps ≤ l.fn.self.moves.slots + 2 * l.steps;
  all_moved : l.self.moves.all + 2 * l.fn.steps ≤ l.fn.self.moves.all + 2 * l.steps;
  counted : l.steps + credit_of l.self.elapsed l.self.entries ≡ l.fn.steps + credit_of l.fn.self.elapsed l.fn.self.entries;
}

abbrev pub decreases-loop-key : goal.decreases-loop-key
decreases-loop-key g l = l.now - l.self.elapsed
