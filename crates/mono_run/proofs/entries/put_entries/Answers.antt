use Rattle.mono_run.proofs.JournalTextLemmas.{entry_written}
use Rattle.mono_run.proofs.entries.put_entries.Goals as goal

pub entries-preserved : goal.entries-preserved
entries-preserved c =
    entry_written c.args.journal.now.entries.items c.entries.place c.in-Some.entry.now _ c.entries.out.items c.put_entry.new.out.items c.in-Some.ensures.some c.entries.invariant c.in_ok-put_entry-in-Some.ensures
