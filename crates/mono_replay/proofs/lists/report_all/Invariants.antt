use Rattle.std.proofs.Common.{◌++◌, List, drop}
use Rattle.mono_machine.specs.Machine.{Machine}
use Rattle.mono_machine.specs.Steps.{Run}
use Rattle.mono_replay.specs.Refinement.{Stands}
use Rattle.mono_machine.specs.declared.events.Report.{Report}
use Rattle.mono_replay.proofs.lists.report_all.Given as goal

-- a run of the remaining events, after the reports so far, is a run of all
abbrev pub invariant-loop-event : goal.invariant-loop-event
invariant-loop-event l = (m : Machine) → Stands l.fn.exec m → (mid : Machine) × Stands l.exec mid
    × ((answers : List Report) (new : Machine) → Run mid (drop l.event-index l.events.items) answers new → Run m l.events.items (l.reports.items ++ answers) new)
