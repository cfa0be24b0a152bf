use Rattle.std.proofs.Common.{◌≡◌, ◌++◌, flat_map, drop}
use Rattle.mono_text.specs.LineText.{reply_part}
use Rattle.mono_text.proofs.printer.replies.Given as goal

abbrev pub invariant-loop-item : goal.invariant-loop-item
invariant-loop-item l = l.out.items ++ flat_map reply_part (drop l.item-index l.list) ≡ l.fn.out.items ++ flat_map reply_part l.list
