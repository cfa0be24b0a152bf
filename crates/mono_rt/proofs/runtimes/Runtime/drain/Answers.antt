use Rattle.std.proofs.Common.{refl, sym, ◌∙◌}
use Rattle.mono_rt.proofs.OutputLemmas.{adds_itself}
use Rattle.mono_rt.specs.Drains.{DrainsAll}
use Rattle.mono_rt.proofs.JournalLemmas.{does_stay}
use Rattle.mono_rt.proofs.RoundLemmas.{stay_on, drains_some}
use Rattle.mono_rt.proofs.DriverLemmas.{tells_nothing, telling_on}
use Rattle.mono_rt.proofs.runtimes.Runtime.drain.Goals as goal

pub returns-in-None-clause-told : goal.returns-in-None-clause-told
returns-in-None-clause-told g c = λ old new before after ends. tells_nothing (sym ends.1) ends.0 c.drain.ensures.history

pub returns-in-None-clause-refused : goal.returns-in-None-clause-refused
returns-in-None-clause-refused g c =
    does_stay g.O.Outcome.output_number c.args.self.now.cx.parts c.args.self.now.cx.parts c.args.self.now.journal c.drain.new.journal refl refl refl refl c.drain.ensures.history

pub returns-in-Some-clause-woken : goal.returns-in-Some-clause-woken
returns-in-Some-clause-woken g c =
    let number = g.O.Outcome.output_number in
    let parts = c.args.self.now.cx.parts in
    let old = c.args.self.now.journal in
    let roomy = c.drain.new.journal in
    let ts = c.in-Some.taken.tasks.items in (
      ts,
      (
        c.in-Some.ensures.taken,
        stay_on number (DrainsAll ts) parts parts c.wake_taken.new.self old roomy c.wake_taken.new.journal (does_stay number parts parts old roomy refl refl refl refl c.drain.ensures.history)
            c.wake_taken.ensures.drained,
      ),
    )

pub returns-in-Some-clause-drained : goal.returns-in-Some-clause-drained
returns-in-Some-clause-drained g c =
    let is = returns-in-Some-clause-woken g c in
    drains_some g.O.Outcome.output_number is.0 c.args.self.now.cx.parts c.wake_taken.new.self c.args.self.now.journal c.wake_taken.new.journal is.1.1

pub returns-in-Some-clause-told : goal.returns-in-Some-clause-told
returns-in-Some-clause-told g c = λ old new before after ends. telling_on {q = before} (tells_nothing refl refl c.drain.ensures.history) (c.wake_taken.ensures.told old new before after ends)

pub returns-in-None-clause-idle : goal.returns-in-None-clause-idle
returns-in-None-clause-idle g c = record { has_timers = refl; turn = refl; turns = refl; adds = adds_itself c.args.self.now.cx.parts.tasks.tasks; futures = refl; shared = refl; full = c.drain.ensures.full; held = c.drain.ensures.held; closes = c.drain.ensures.closed }

pub returns-in-Some-clause-idle : goal.returns-in-Some-clause-idle
returns-in-Some-clause-idle g c = record {
  has_timers = c.wake_taken.ensures.has_timers;
  turn = c.wake_taken.ensures.turn;
  turns = c.wake_taken.ensures.turns;
  adds = c.wake_taken.ensures.adds;
  futures = refl;
  shared = refl;
  full = c.wake_taken.ensures.full ∙ c.drain.ensures.full;
  held = c.wake_taken.ensures.held ∙ c.drain.ensures.held;
  closes = c.drain.ensures.closed;
}
