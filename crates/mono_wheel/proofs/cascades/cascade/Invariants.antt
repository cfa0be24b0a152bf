use Rattle.std.proofs.Common.{◌≡◌, ◌+◌, ◌*◌, ◌≤◌, length}
use Rattle.mono_wheel.specs.Lists.{list_at}
use Rattle.mono_wheel.specs.Holdings.{Cascading, Cascaded}
use Rattle.mono_wheel.proofs.cascades.cascade.Given as goal
use Rattle.mono_wheel.specs.Start.{taken_list}

abbrev pub invariant-loop-key : goal.invariant-loop-key
invariant-loop-key g l = record {
  cascading : Cascading l.elapsed l.links.table.entries l.links.table;
  cascaded : Cascaded l.fn.links.table.entries l.links.table.entries l.fn.links.table l.links.table;
  moved : l.links.moves.slots + 2 * length (list_at l.links.table taken_list) ≤ l.fn.links.moves.slots + 2 * length (list_at l.fn.links.table taken_list);
  all_moved : l.links.moves.all + 2 * length (list_at l.links.table taken_list) ≡ l.fn.links.moves.all + 2 * length (list_at l.fn.links.table taken_list);
  counted : l.steps + length (list_at l.links.table taken_list) ≡ l.fn.steps + length (list_at l.fn.links.table taken_list);
}

abbrev pub decreases-loop-key : goal.decreases-loop-key
decreases-loop-key g l = length (list_at l.links.table taken_list)
