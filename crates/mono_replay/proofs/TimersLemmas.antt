-- The table of timers after each call on it.
use Rattle.std.proofs.Common.{◌≡◌, ◌≤◌, ℕ, cond, Option, ap, sym, subst, ◌∙◌}
use Rattle.std.specs.Prelude.{Ok, nat_lt, not}
use Rattle.std.proofs.lemmas.Bool.{le-ltb}
use Rattle.mono_model.specs.Ticks.{up, max_nanos}
use Rattle.mono_model.specs.Table.{value_at}
use Rattle.mono_model.specs.Tasks.{woken_if_any}
use Rattle.mono_task.specs.Schedule.{Schedule}
use Rattle.mono_task.specs.Schedule as schedule
use Rattle.mono_model.specs.Sleeps.{Sleeps, woken_by_arming}
use Rattle.mono_time.specs.Sleeps.{SleepTable}
use Rattle.mono_model.specs.SleepAnswers.{waker_in}
use Rattle.mono_model.specs.SleepActs as machine
use Rattle.mono_time.specs.Timers.{sleeps_of, elapsed_tick}
use Rattle.mono_time.specs.Refinement.{StandsForSleeps}
use Rattle.mono_time.specs.declared.timers.Timers.{Timers}
use Rattle.mono_machine.specs.Machine.{Machine, with_sleeps}
use Rattle.mono_machine.specs.Acts.{refused, act_outcome}
use Rattle.mono_machine.specs.Acts.{reset as resetting}
use Rattle.mono_machine.specs.declared.events.Act.TheVariants as act
use Rattle.mono_machine.proofs.FinishedSetLemmas.{alike_woken_if_any}
use Rattle.mono_time.proofs.SleepTableLemmas.{Alike, live}
use Rattle.mono_replay.specs.PartRefinement.{Rests, Matches}
use Rattle.mono_replay.specs.declared.parts.Parts.{Parts}
use Rattle.mono_machine.specs.declared.events.Refusal.TheVariants as refusal

-- a call that is no clock step
pub rests : (old new : Timers) (before after : Sleeps) (table : SleepTable) → Rests old before → sleeps_of new ≡ table → Alike (sleeps_of old) table → elapsed_tick new ≡ elapsed_tick old → StandsForSleeps new after → Rests new after
rests old new before after table st is alike gone stands = record {
  keeps = record { stands = stands; is_enabled = ap (λ x. x.is_enabled) is ∙ alike.is_enabled ∙ st.keeps.is_enabled };
  has_gone = gone ∙ st.has_gone ∙ sym alike.greatest ∙ sym (ap (λ x. x.greatest) is);
}

-- with other timers, if they refine the sleeps that are left
abbrev pub with_timers : Parts → Timers → Parts
with_timers parts timers = record { tasks = parts.tasks; timers = timers; jobs = parts.jobs; inbox = parts.inbox; blocking = parts.blocking }

pub other_timers : (parts : Parts) (m : Machine) (timers : Timers) (sleeps : Sleeps) → Matches parts m → Rests timers sleeps → Matches (with_timers parts timers) (with_sleeps m sleeps)
other_timers parts m timers sleeps st rest = record {
  tasks = st.tasks;
  sleeps = rest;
  jobs = st.jobs;
  inbox = st.inbox;
  known = st.known;
  strategy = st.strategy;
}

-- with other timers and other tasks
abbrev pub with_two : Parts → Timers → Schedule ℕ → Parts
with_two parts timers tasks = record { tasks = tasks; timers = timers; jobs = parts.jobs; inbox = parts.inbox; blocking = parts.blocking }

-- a reset to the instant of n, and its waker is woken
module _ (parts : Parts) (m : Machine) (s now : ℕ) (timers : Timers) (tasks : Schedule ℕ) (waker : Option ℕ) (st : Matches parts m) where
  reset_is : now ≤ max_nanos → Ok waker ≡ machine.reset_answer m.sleeps s now → act_outcome (act.Reset s now) m ≡ resetting s now m
  reset_is below answer =
      live (λ value. woken_by_arming value m.sleeps (up now)) m (cond (nat_lt max_nanos now) (refused refusal.Invalid m) (resetting s now m)) (value_at m.sleeps.table s) waker (sym answer)
      ∙ ap (λ b. cond b (refused refusal.Invalid m) (resetting s now m)) (le-ltb max_nanos now below)

  reset_left : Rests timers (machine.reset m.sleeps s now) → tasks ≡ schedule.with_tasks parts.tasks (woken_if_any parts.tasks.tasks waker) → Ok waker ≡ machine.reset_answer m.sleeps s now → Matches (with_two parts timers tasks) (resetting s now m).machine
  reset_left rest woken answer = record {
    tasks = ap (λ x. x.tasks) woken ∙ ap (λ t. woken_if_any t waker) st.tasks ∙ ap (λ a. woken_if_any m.tasks (waker_in a)) answer;
    sleeps = rest;
    jobs = st.jobs;
    inbox = st.inbox;
    known = λ q. st.known q ∙ ap not (sym (alike_woken_if_any m.tasks (waker_in (machine.reset_answer m.sleeps s now)) q));
    strategy = st.strategy;
  }

  pub reset_took : (n : ℕ) → now ≡ n → now ≤ max_nanos → Rests timers (machine.reset m.sleeps s now) → tasks ≡ schedule.with_tasks parts.tasks (woken_if_any parts.tasks.tasks waker) → Ok waker ≡ machine.reset_answer m.sleeps s now
      → Matches (with_two parts timers tasks) (act_outcome (act.Reset s n) m).machine
  reset_took n is below rest woken answer =
      subst (λ k. Matches (with_two parts timers tasks) (act_outcome (act.Reset s k) m).machine) is
      (subst (λ o. Matches (with_two parts timers tasks) o.machine) (sym (reset_is below answer)) (reset_left rest woken answer))
