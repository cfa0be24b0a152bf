use Rattle.std.proofs.Common.{◌-◌, ◌+◌, ◌≤◌}
use Rattle.std.specs.Vec.{vec_capacity, vec_len}
use Rattle.mono_sync.specs.MpscRuns.{Leads}
use Rattle.mono_sync.specs.ManyMessages.{free_messages, Moves}
use Rattle.mono_sync.proofs.mpsc.Channel.move_free.Given as goal

-- the messages so far have moved, and those that are left may move
abbrev pub invariant-loop-left : goal.invariant-loop-left
invariant-loop-left g l =
    record {
      at_most : l.left ≤ l.count;
      moves : Moves l.fn.self l.fn.buffer.items (l.count - l.left) l.self l.buffer.items;
      free : l.left ≤ free_messages l.self;
      memory : vec_len l.buffer + l.left ≤ vec_capacity l.buffer;
      leads : Leads l.fn.self l.self;
    }

abbrev pub decreases-loop-left : goal.decreases-loop-left
decreases-loop-left g l = l.left
