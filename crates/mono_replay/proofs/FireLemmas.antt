-- The machine after a clock step.
use Rattle.std.proofs.Common.{◌≡◌, ◌≤◌, ℕ, List, [], ◌∷◌, refl, ap, sym, subst, ◌∙◌}
use Rattle.std.specs.Prelude.{not}
use Rattle.mono_model.specs.Ticks.{max_nanos}
use Rattle.mono_model.specs.FireOrder.{FireInTurn}
use Rattle.mono_model.proofs.FireLemmas.{may_fire}
use Rattle.mono_task.specs.Schedule.{Schedule}
use Rattle.mono_model.specs.SleepActs as sleep
use Rattle.mono_time.specs.Timers.{sleeps_of, elapsed_tick}
use Rattle.mono_time.specs.declared.timers.Timers.{Timers}
use Rattle.mono_machine.specs.Machine.{Machine}
use Rattle.mono_machine.specs.Steps.{greatest_at, at_clock, after_fire, after_fires, ClockStep}
use Rattle.mono_replay.specs.PartRefinement.{Matches, MatchesInStep}
use Rattle.mono_replay.specs.declared.parts.Parts.{Parts}
use Rattle.mono_machine.specs.declared.events.Report.TheVariants as report
use Rattle.mono_machine.proofs.FinishedSetLemmas.{Alike, alike_woken_if_any}
use Rattle.mono_replay.proofs.TimersLemmas.{with_two}

-- all but the sleeps, and which tasks have finished, stays
record Remains (old new : Machine) : Type 0 where
  jobs : new.jobs ≡ old.jobs
  inbox : new.inbox ≡ old.inbox
  strategy : new.strategy ≡ old.strategy
  alike : Alike new.tasks old.tasks

remains : (m : Machine) (fired : List ℕ) → Remains m (after_fires m fired)
remains m [] = record { jobs = refl; inbox = refl; strategy = refl; alike = λ q. refl }
remains m (s ∷ fired) =
    let later = remains (after_fire m s) fired in
    record {
      jobs = later.jobs;
      inbox = later.inbox;
      strategy = later.strategy;
      alike = λ q. later.alike q ∙ alike_woken_if_any m.tasks (sleep.waker_at m.sleeps s) q;
    }

pub stepped : (parts : Parts) (m : Machine) (n : ℕ) (fired : List ℕ) (timers : Timers) (tasks : Schedule ℕ) → Matches parts m → MatchesInStep timers tasks (after_fires (at_clock m n) fired) → elapsed_tick timers ≡ (sleeps_of timers).greatest
    → Matches (with_two parts timers tasks) (after_fires (at_clock m n) fired)
stepped parts m n fired timers tasks st step gone =
    let stays = remains (at_clock m n) fired in
    record {
      tasks = step.same_tasks;
      sleeps = record { keeps = step.keeps; has_gone = gone };
      jobs = st.jobs ∙ sym stays.jobs;
      inbox = st.inbox ∙ sym stays.inbox;
      known = λ t. st.known t ∙ ap not (sym (stays.alike t));
      strategy = st.strategy ∙ sym stays.strategy;
    }

-- a clock step to the instant of n
pub clock_took : (parts : Parts) (m : Machine) (n now : ℕ) (fired : List ℕ) (timers : Timers) (tasks : Schedule ℕ) → now ≡ n → now ≤ max_nanos → Matches parts m
    → MatchesInStep timers tasks (after_fires (at_clock m now) fired) → FireInTurn (at_clock m now).sleeps.table (at_clock m now).sleeps.greatest fired → elapsed_tick timers ≡ (sleeps_of timers).greatest
    → (new : Machine) × ClockStep m n (report.Fired fired) new × Matches (with_two parts timers tasks) new
clock_took parts m n now fired timers tasks is below st step turn gone =
    subst (λ k. (new : Machine) × ClockStep m k (report.Fired fired) new × Matches (with_two parts timers tasks) new) is
    (after_fires (at_clock m now) fired, (below, may_fire m.sleeps.table (greatest_at m now) fired turn, refl), stepped parts m now fired timers tasks st step gone)
