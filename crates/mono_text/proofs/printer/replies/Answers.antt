use Rattle.mono_text.specs.LineText.{reply_part}
use Rattle.mono_text.proofs.ListTextLemmas.{item_written, all_written}
use Rattle.mono_text.proofs.printer.replies.Goals as goal

pub loop-item-preserved : goal.loop-item-preserved
loop-item-preserved c =
    item_written reply_part c.args.list.now c.loop-item.item-index _ _ c.loop-item.out.items c.part.new.out.items c.loop-item-test.true c.loop-item.invariant c.in_ok-part.ensures

pub returns : goal.returns
returns c = all_written reply_part c.args.list.now c.loop-item.item-index _ c.loop-item.out.items c.loop-item-test.false c.loop-item.invariant
