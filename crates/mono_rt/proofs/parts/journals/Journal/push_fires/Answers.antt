use Rattle.std.proofs.Common.{sym, ◌∙◌}
use Rattle.mono_machine.specs.declared.events.Event.TheVariants as event
use Rattle.mono_machine.specs.declared.events.Report.TheVariants as report
use Rattle.mono_rt.specs.declared.parts.journals.Entry.TheVariants.{Ran}
use Rattle.mono_rt.proofs.KeepingLemmas.{keeps_history, keeps_beginning}
use Rattle.mono_rt.proofs.parts.journals.Journal.push_fires.Goals as goal

pub invariant_of-self : goal.invariant_of-self
invariant_of-self c =
    let old = c.args.self.now in
    let entry = Ran (event.Clock c.args.nanos) (report.Fired c.args.due.fired.items) in record {
      kept = λ unfull. keeps_history old.is_full old.entries.items old.is_full c.keep_fires-lists.new.entries.items old.history.entries entry c.keep_fires-lists.ensures.kept old.kept unfull ∙ sym c.told-history.ensures;
      begins = rw c.told-history.ensures (keeps_beginning old.is_full old.entries.items old.is_full c.keep_fires-lists.new.entries.items old.history.entries entry c.keep_fires-lists.ensures.kept old.kept old.begins);
    }
