-- A turn that began, went on by acts and ended is a turn of the machine.
use Rattle.std.proofs.Common.{◌≡◌, ℕ, Bool, false, List, ◌∷◌, ◌++◌, Some, None, ap, sym, subst, ◌∙◌, arith}
use Rattle.std.specs.Prelude.{nat_lt, length}
use Rattle.mono_model.specs.Table.{value_at}
use Rattle.mono_model.specs.Tasks.{begun, paused_value, pause_answer, completed_value, complete_answer}
use Rattle.mono_model.specs.declared.Ended.{Ended}
use Rattle.mono_model.specs.declared.poll.Poll.{Poll}
use Rattle.mono_model.specs.declared.poll.Poll.TheVariants.{Ready, Pending}
use Rattle.mono_task.specs.Schedule.{Schedule}
use Rattle.mono_task.specs.Schedule as schedule
use Rattle.mono_time.specs.declared.instant.Instant.{Instant}
use Rattle.mono_machine.specs.Machine.{Machine}
use Rattle.mono_machine.specs.Turns.{replies_of, after_steps, after_begin, end_answer, after_end, turn_report_for, after_turn_for}
use Rattle.mono_machine.specs.declared.events.Report.TheVariants as report
use Rattle.mono_task.proofs.ScheduleLemmas.{front_is}
use Rattle.mono_time.specs.Timers.{registered_of}
use Rattle.mono_time.specs.Registrations.{registered_by_steps, registered_by_turn}
use Rattle.mono_rt.specs.Numbering.{numbered, end_of}
use Rattle.mono_rt.specs.Record.{Record, no_acts, room}
use Rattle.mono_blocking.specs.JobSpawns.{Seen}
use Rattle.mono_rt.specs.Refinement.{hosting_of, Matches}
use Rattle.mono_rt.specs.Leads.{Leads}
use Rattle.mono_rt.specs.PartTurns.{BeginsParts, EndsParts, IsTurnOf}
use Rattle.mono_rt.specs.declared.parts.state.Parts.{Parts}
use Rattle.mono_rt.proofs.NumberLemmas.{numbered-begun, numbered-paused, numbered-completed, pause_answer-numbered, complete_answer-numbered}
use Rattle.mono_rt.proofs.CallLemmas.{other_tasks}

-- how a turn ends, by the task that runs
module _ {O : Type 0} where
  pub after_poll : (s : Schedule O) (me : ℕ) (answer : Poll O) → s.turn ≡ Some me → schedule.after_end s answer ≡ schedule.ended_by (Some me) s answer
  after_poll s me answer turn = ap (λ x. schedule.ended_by x s answer) turn

  told_poll : (s : Schedule O) (me : ℕ) (answer : Poll O) → s.turn ≡ Some me → schedule.end_answer s answer ≡ schedule.end_by (Some me) s answer
  told_poll s me answer turn = ap (λ x. schedule.end_by x s answer) turn

module _ {O P : Type 0} (number : O → ℕ) where
  -- the front runs
  pub begun_matches : (c d : Parts O (Seen P)) (t : ℕ) (now : Instant) (acts : Record) (m : Machine) (rest : List ℕ) → BeginsParts t now acts c d → m.tasks.queue ≡ t ∷ rest → Matches number hosting_of c m → Matches number hosting_of d (after_begin t rest m)
  begun_matches c d t now acts m rest b queue st =
      let mine : c.tasks.tasks.queue ≡ t ∷ rest = ap (λ x. x.queue) st.tasks ∙ queue in
      let tasks : d.tasks.tasks ≡ begun c.tasks.tasks t rest = ap (λ x. x.tasks) b.tasks ∙ ap (λ q. (schedule.begun_by q c.tasks).tasks) mine in
      other_tasks number hosting_of c d m (begun m.tasks t rest) st (ap (numbered number) tasks ∙ numbered-begun number c.tasks.tasks t rest ∙ ap (λ x. begun x t rest) st.tasks) b.timers b.has_timers b.blocking

  pub begun_turn : (c d : Parts O (Seen P)) (t : ℕ) (now : Instant) (acts : Record) → BeginsParts t now acts c d → d.tasks.turn ≡ Some t
  begun_turn c d t now acts b =
      let front = front_is c.tasks.tasks.queue t b.front in
      ap (λ x. x.turn) b.tasks ∙ ap (λ q. (schedule.begun_by q c.tasks).turn) front.1

  -- the turn ends
  pub ended_matches : (answer : Poll O) (ended : Ended) (c d : Parts O (Seen P)) (me : ℕ) (m : Machine) → EndsParts answer ended c d → c.tasks.turn ≡ Some me → Matches number hosting_of c m → Matches number hosting_of d (after_end (end_of number answer) me m)
  ended_matches Pending ended c d me m e turn st =
      other_tasks number hosting_of c d m (paused_value (value_at m.tasks.table me) m.tasks me) st
      (ap (λ x. numbered number x.tasks) (e.tasks ∙ after_poll c.tasks me Pending turn) ∙ numbered-paused number c.tasks.tasks me ∙ ap (λ x. paused_value (value_at x.table me) x me) st.tasks) e.timers e.has_timers e.blocking
  ended_matches (Ready output) ended c d me m e turn st =
      other_tasks number hosting_of c d m (completed_value (value_at m.tasks.table me) m.tasks me (number output)) st
      (ap (λ x. numbered number x.tasks) (e.tasks ∙ after_poll c.tasks me (Ready output) turn) ∙ numbered-completed number c.tasks.tasks me output ∙ ap (λ x. completed_value (value_at x.table me) x me (number output)) st.tasks) e.timers e.has_timers e.blocking

  pub ended_told : (answer : Poll O) (ended : Ended) (c d : Parts O (Seen P)) (me : ℕ) (m : Machine) → EndsParts answer ended c d → c.tasks.turn ≡ Some me → Matches number hosting_of c m → ended ≡ end_answer (end_of number answer) me m
  ended_told Pending ended c d me m e turn st = e.told ∙ told_poll c.tasks me Pending turn ∙ sym (pause_answer-numbered number c.tasks.tasks me) ∙ ap (λ x. pause_answer (value_at x.table me)) st.tasks
  ended_told (Ready output) ended c d me m e turn st = e.told ∙ told_poll c.tasks me (Ready output) turn ∙ sym (complete_answer-numbered number c.tasks.tasks me) ∙ ap (λ x. complete_answer (value_at x.table me)) st.tasks

  pub ended_turn : (answer : Poll O) (ended : Ended) (c d : Parts O (Seen P)) (me : ℕ) → EndsParts answer ended c d → c.tasks.turn ≡ Some me → d.tasks.turn ≡ None
  ended_turn answer ended c d me e turn = ap (λ x. x.turn) (e.tasks ∙ after_poll c.tasks me answer turn)

  -- a turn that began, went on by acts, and ended
  pub is_turn : (c b x d : Parts O (Seen P)) (t : ℕ) (now : Instant) (answer : Poll O) (ended : Ended) (m : Machine) (is_unread : Bool) → c.acts ≡ no_acts is_unread → BeginsParts t now c.acts c b → Leads number hosting_of b x → EndsParts answer ended x d → Matches number hosting_of c m → IsTurnOf number t (end_of number answer) ended c d m
  is_turn c b x d t now answer ended m is_unread blank begins leads ends st =
      let front = front_is c.tasks.tasks.queue t begins.front in
      let rest = front.0 in
      let queue : m.tasks.queue ≡ t ∷ rest = sym (ap (λ y. y.queue) st.tasks) ∙ front.1 in
      let begun : Matches number hosting_of b (after_begin t rest m) = begun_matches c b t now c.acts m rest begins queue st in
      let turn : x.tasks.turn ≡ Some t = leads.same_turn ∙ begun_turn c b t now c.acts begins in
      let steps = leads.steps in
      let mid : Matches number hosting_of x (after_steps t steps (after_begin t rest m)) = subst (λ me. Matches number hosting_of x (after_steps me steps (after_begin t rest m))) begins.me (leads.leads (after_begin t rest m) begun) in
      let e = end_of number answer in
      let left : Matches number hosting_of d (after_end e t (after_steps t steps (after_begin t rest m))) = ended_matches answer ended x d t _ ends turn mid in
      record {
        steps = steps;
        matches = subst (λ q. Matches number hosting_of d (after_turn_for q steps e m)) (sym queue) left;
        registered = λ s.
            ap (λ ts. registered_of ts s) ends.timers ∙ leads.registered (after_begin t rest m) begun s
            ∙ ap (λ me. registered_by_steps me steps (after_begin t rest m) s (registered_of b.timers s)) begins.me
            ∙ ap (λ ts. registered_by_steps t steps (after_begin t rest m) s (registered_of ts s)) begins.timers
            ∙ sym (ap (λ q. registered_by_turn q steps m s (registered_of c.timers s)) queue);
        kept =
            let acts : b.acts ≡ no_acts is_unread = begins.acts_are ∙ blank in
            let replies : replies_of t steps (after_begin t rest m) ≡ d.acts.replies =
            sym (ap (λ y. y.replies) ends.acts ∙ leads.answers (after_begin t rest m) begun ∙ ap (λ y. y.replies ++ replies_of b.me steps (after_begin t rest m)) acts ∙ ap (λ me. replies_of me steps (after_begin t rest m)) begins.me) in (
              ap (λ y. y.steps) ends.acts ∙ leads.grew ∙ ap (λ y. y.steps ++ steps) acts,
              ap (λ q. turn_report_for q steps e m) queue ∙ ap (λ rs. report.Turn t rs (end_answer e t (after_steps t steps (after_begin t rest m)))) replies ∙ ap (λ y. report.Turn t d.acts.replies y) (sym (ended_told answer ended x d t _ ends turn mid)),
            );
        full = λ unfull.
            let none : length b.acts.steps ≡ 0 = ap (λ y. length y.steps) (begins.acts_are ∙ blank) in
            ap (λ y. y.is_full) ends.acts ∙ leads.full (ap (λ y. y.is_full) begins.acts_are ∙ unfull) (omega (arith, none)) ∙ ap (λ n. nat_lt room n) (omega (arith, none));
      }
