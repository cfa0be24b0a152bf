-- For a given machine, event and report there is at most one new machine.
use Rattle.std.proofs.Common.{◌≡◌, sym, ◌∙◌, ℕ}
use Rattle.mono_machine.specs.Machine.{Machine}
use Rattle.mono_machine.specs.Steps.{Step, ClockStep}
use Rattle.mono_machine.specs.declared.events.Event.{Event}
use Rattle.mono_machine.specs.declared.events.Event.TheVariants as event
use Rattle.mono_machine.specs.declared.events.Report.{Report}
use Rattle.mono_machine.specs.declared.events.Report.TheVariants as report

of_clock : (old : Machine) (n : ℕ) (answer : Report) (new other : Machine) → ClockStep old n answer new → ClockStep old n answer other → new ≡ other
of_clock old n (report.Fired fired) new other a b = a.2 ∙ sym b.2
of_clock old n (report.Reply r) new other a b = a.2 ∙ sym b.2
of_clock old n (report.Turn t replies ended) new other a b = absurd a
of_clock old n report.Listed new other a b = absurd a
of_clock old n report.Unlisted new other a b = absurd a
of_clock old n (report.Drained tasks) new other a b = absurd a

pub one_machine : (old : Machine) (event : Event) (answer : Report) (new other : Machine) → Step old event answer new → Step old event answer other → new ≡ other
one_machine old (event.Act act) answer new other a b = a.1 ∙ sym b.1
one_machine old (event.Turn steps end) answer new other a b = a.1 ∙ sym b.1
one_machine old (event.Clock n) answer new other a b = of_clock old n answer new other a b
one_machine old (event.Remote t) answer new other a b = a.1 ∙ sym b.1
one_machine old event.Drain answer new other a b = a.1 ∙ sym b.1
