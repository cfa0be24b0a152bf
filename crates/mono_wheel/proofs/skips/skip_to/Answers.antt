use Rattle.std.proofs.Common.{arith, inr}
use Rattle.mono_wheel.specs.Lists.{no_entry}
use Rattle.mono_wheel.proofs.SkipLemmas.{waiting-timed}
use Rattle.mono_wheel.proofs.KeyLemmas.{entry-below, read-in}
use Rattle.mono_wheel.proofs.skips.skip_to.Goals as goal

pub within-goal-requires-clause-tick : goal.within-goal-requires-clause-tick
within-goal-requires-clause-tick g c =
    let w = waiting-timed c.args.slot.start c.args.links.now.table.entries c.args.links.now.table c.in-Some.key c.requires.cascading c.in-Some.ensures in
    (w.1 c.entry-tick.result (read-in c.args.links.now.table.entries c.in-Some.key c.entry-tick.result no_entry (entry-below c.args.links.now.table.entries c.in-Some.key w.0) c.entry-tick.ensures)).1

pub returns-in-Some-clause-comes : goal.returns-in-Some-clause-comes
returns-in-Some-clause-comes g c =
    let w = waiting-timed c.args.slot.start c.args.links.now.table.entries c.args.links.now.table c.in-Some.key c.requires.cascading c.in-Some.ensures in
    let counted = c.takes_between.ensures in
    let added = c.add.ensures in
    let width = c.slot_size.ensures.value in
    let end = c.within-goal.ensures.end in
    inr record {
      key = c.in-Some.key;
      timed = record { tick = c.entry-tick.result.tick; registered = c.entry-tick.result.registered };
      alone = c.in-Some.ensures;
      is = (w.1 c.entry-tick.result (read-in c.args.links.now.table.entries c.in-Some.key c.entry-tick.result no_entry (entry-below c.args.links.now.table.entries c.in-Some.key w.0) c.entry-tick.ensures)).0;
      later = c.within-goal.ensures.later;
      by = c.within-goal.ensures.by;
      within = omega (arith, end, width);
      waits = c.within-goal.ensures.due;
      counted = omega (arith, counted, added);
    }
