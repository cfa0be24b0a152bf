use Rattle.mono_wheel.specs.Lists.{no_entry}
use Rattle.mono_wheel.proofs.KeyLemmas.{read-in}
use Rattle.mono_wheel.proofs.SearchLemmas.{slots-none, found-below, found-entry, found-ahead, found-next}
use Rattle.mono_wheel.proofs.search.next_slot.Goals as goal

pub slot_start-start-requires : goal.slot_start-start-requires
slot_start-start-requires c =
    let found = c.in-Some.ensures in
    let timed = found-entry c.args.elapsed c.args.links.now.table.entries c.args.links.now.table found.0 c.in-Some.list c.in_ok-key-in-Some.key c.in_ok-key-in-Some.ensures.0 c.requires found.1 found.2 found.4 c.in_ok-key-in-Some.ensures.1 c.entry.result (read-in c.args.links.now.table.entries c.in_ok-key-in-Some.key c.entry.result no_entry (found-below c.args.elapsed c.args.links.now.table.entries c.args.links.now.table found.0 c.in-Some.list c.in_ok-key-in-Some.key c.in_ok-key-in-Some.ensures.0 c.requires found.1 found.2 found.4 c.in_ok-key-in-Some.ensures.1) c.entry.ensures) in
    (found-ahead c.args.elapsed c.args.links.now.table.entries c.args.links.now.table found.0 c.in-Some.list c.in_ok-key-in-Some.key c.in_ok-key-in-Some.ensures.0 c.requires found.1 found.2 found.4 c.in_ok-key-in-Some.ensures.1 _ timed).0

pub returns-in_ok-key-in-Some : goal.returns-in_ok-key-in-Some
returns-in_ok-key-in-Some c =
    let found = c.in-Some.ensures in
    found-next c.args.elapsed c.args.links.now.table.entries c.args.links.now.table found.0 c.in-Some.list c.in_ok-key-in-Some.key c.in_ok-key-in-Some.ensures.0 c.requires found.1 found.2 found.4 c.in_ok-key-in-Some.ensures.1 c.entry.result c.slot_start-start.result (read-in c.args.links.now.table.entries c.in_ok-key-in-Some.key c.entry.result no_entry (found-below c.args.elapsed c.args.links.now.table.entries c.args.links.now.table found.0 c.in-Some.list c.in_ok-key-in-Some.key c.in_ok-key-in-Some.ensures.0 c.requires found.1 found.2 found.4 c.in_ok-key-in-Some.ensures.1) c.entry.ensures) c.slot_start-start.ensures

pub returns-in-None : goal.returns-in-None
returns-in-None c = slots-none c.args.elapsed c.args.links.now.table.entries c.args.links.now.table c.requires c.in-None.ensures
