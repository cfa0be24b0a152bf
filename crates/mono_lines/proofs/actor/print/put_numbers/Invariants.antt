use Rattle.std.proofs.Common.{◌≡◌, ◌++◌, flat_map, drop}
use Rattle.mono_text.specs.LineText.{number_part}
use Rattle.mono_lines.proofs.actor.print.put_numbers.Given as goal

abbrev pub invariant-loop-item : goal.invariant-loop-item
invariant-loop-item l = l.out.items ++ flat_map number_part (drop l.item-index l.list) ≡ l.fn.out.items ++ flat_map number_part l.list
