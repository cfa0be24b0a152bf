use Rattle.std.proofs.Common.{◌≡◌, ◌++◌, drop}
use Rattle.mono_text.specs.LineText.{parts_text}
use Rattle.mono_text.proofs.events.put_parts.Given as goal

abbrev pub invariant-loop-item : goal.invariant-loop-item
invariant-loop-item l = l.out.items ++ parts_text (drop l.item-index l.steps) l.end ≡ l.fn.out.items ++ parts_text l.steps l.end
