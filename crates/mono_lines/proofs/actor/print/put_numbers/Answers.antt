use Rattle.std.proofs.Common.{◌≡◌, ◌++◌, get_or, rules}
use Rattle.mono_text.specs.LineText.{number_part}
use Rattle.mono_text.proofs.ListTextLemmas.{item_written, all_written}
use Rattle.mono_lines.proofs.actor.print.put_numbers.Goals as goal

pub loop-item-preserved : goal.loop-item-preserved
loop-item-preserved c =
    let put : c.front_and_number.new.out.items ≡ c.loop-item.out.items ++ number_part (get_or c.args.list.now c.loop-item.item-index 0) = search rules in
    item_written number_part c.args.list.now c.loop-item.item-index 0 _ c.loop-item.out.items c.front_and_number.new.out.items c.loop-item-test.true c.loop-item.invariant put

pub returns : goal.returns
returns c = all_written number_part c.args.list.now c.loop-item.item-index _ c.loop-item.out.items c.loop-item-test.false c.loop-item.invariant
