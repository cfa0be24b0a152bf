-- A task's handle is polled or dropped outside of a turn: the effect on each machine.
use Rattle.std.proofs.Common.{◌≡◌, ℕ, true, false, Bool, cond, None, Option, refl, ap, sym, subst, ◌∙◌, arith}
use Rattle.std.specs.Prelude.{Result, Ok, Err}
use Rattle.std.proofs.lemmas.Bool.{ltb-true}
use Rattle.mono_model.specs.Table.{value_at, is_issued}
use Rattle.mono_model.specs.Tasks.{Tasks, Task, Phase, idle, queued, running, done, taken}
use Rattle.mono_model.specs.Valid.{AreValidTasks}
use Rattle.mono_model.specs.Joins.{kept_value, kept_task, output_in, join_value, join_answer, joined_in, joined_value, joined, drop_answer, join_dropped}
use Rattle.mono_model.specs.declared.poll.Poll.{Poll}
use Rattle.mono_model.specs.declared.poll.Poll.TheVariants.{Ready, Pending}
use Rattle.mono_model.specs.declared.task_error.TaskError.{TaskError}
use Rattle.mono_model.specs.declared.task_error.TaskError.TheVariants.{NoTask}
use Rattle.mono_machine.specs.Machine.{Machine, IsValid}
use Rattle.mono_machine.specs.Acts.{query_outcome}
use Rattle.mono_machine.specs.JoinCalls.{join_reply, drop_reply}
use Rattle.mono_machine.specs.declared.events.Act.TheVariants as act
use Rattle.mono_machine.specs.declared.events.Query.TheVariants as query
use Rattle.mono_machine.proofs.ValidPartLemmas.{other_tasks as valid_with}
use Rattle.mono_machine.proofs.ValidJoinLemmas.{valid_joined, next_number-joined}
use Rattle.mono_machine.proofs.ValidActLemmas.{act_valid}
use Rattle.mono_blocking.specs.JobSpawns.{Seen}
use Rattle.mono_rt.specs.Numbering.{numbered, join_numbered, drop_numbered}
use Rattle.mono_rt.specs.Refinement.{hosting_of, MatchesValid}
use Rattle.mono_rt.specs.Handles.{TakesOutput, PollsHandle, DropsHandle}
use Rattle.mono_rt.specs.declared.parts.state.Parts.{Parts}
use Rattle.mono_rt.proofs.NumberLemmas.{numbered-joined, join_answer-numbered, numbered-dropped, drop_answer-numbered}
use Rattle.mono_rt.proofs.CallLemmas.{other_tasks}

pending_ready : (x : ℕ) (r : Result (Poll ℕ) TaskError) → r ≡ Ok Pending → r ≡ Ok (Ready x) → ⊥
pending_ready x r p q = cc

-- An output is taken: the tasks after it are valid, also if the poll is by a task that was not given out.
module _ (tasks : Tasks ℕ) (t by x : ℕ) (valid : AreValidTasks None tasks) where
  taken_in : (phase : Phase ℕ) → output_in phase ≡ Ok (Ready x) → joined_in phase tasks t t ≡ joined_in phase tasks t by
  taken_in idle is = absurd (pending_ready x (Ok Pending) refl is)
  taken_in queued is = absurd (pending_ready x (Ok Pending) refl is)
  taken_in (running noted) is = absurd (pending_ready x (Ok Pending) refl is)
  taken_in (done output) is = refl
  taken_in taken is = refl

  taken_from : (v : Result (Task ℕ) TaskError) → join_value v ≡ Ok (Ready x) → joined_value v tasks t t ≡ joined_value v tasks t by
  taken_from (Ok task) is = taken_in task.phase is
  taken_from (Err e) is = refl

  taken_by : (b : Bool) → is_issued tasks.table t ≡ b → join_answer tasks t ≡ Ok (Ready x) → AreValidTasks None (joined tasks t by)
  taken_by true at is = subst (AreValidTasks None) (taken_from (kept_task tasks t) is) (valid_joined None tasks t valid t (ltb-true _ _ at))
  taken_by false at is = subst (λ b. AreValidTasks None (joined_value (cond b (kept_value (value_at tasks.table t)) (Err NoTask)) tasks t by)) (sym at) valid

pub valid_taken : (m : Machine) (t by x : ℕ) → IsValid m → join_answer m.tasks t ≡ Ok (Ready x) → IsValid (query_outcome by (query.Join t) m).machine
valid_taken m t by x valid is = valid_with None None m (joined m.tasks t by) valid (taken_by m.tasks t by x valid.tasks (is_issued m.tasks.table t) refl is) (omega (arith, next_number-joined m.tasks t by))

module _ {O P : Type 0} (number : O → ℕ) where
  pub polls : (c d : Parts O (Seen P)) (m : Machine) (t : ℕ) (r : Result (Poll O) TaskError) → MatchesValid number hosting_of c m → r ≡ join_answer c.tasks.tasks t → TakesOutput c.tasks.tasks t r d.tasks.tasks
      → d.timers ≡ c.timers → d.has_timers ≡ c.has_timers → d.blocking ≡ c.blocking → PollsHandle number m t r (MatchesValid number hosting_of d)
  polls c d m t (Ok (Ready x)) st is took timers has blocking = λ by. (
    ap (λ a. join_reply (join_answer a t)) (sym st.matches.tasks) ∙ ap join_reply (join_answer-numbered number c.tasks.tasks t) ∙ ap (λ a. join_reply (join_numbered number a)) (sym is),
    record {
      matches = other_tasks number hosting_of c d m (joined m.tasks t by) st.matches (ap (numbered number) (took by) ∙ numbered-joined number c.tasks.tasks t by ∙ ap (λ a. joined a t by) st.matches.tasks) timers has blocking;
      valid = valid_taken m t by (number x) st.valid (ap (λ a. join_answer a t) (sym st.matches.tasks) ∙ join_answer-numbered number c.tasks.tasks t ∙ ap (join_numbered number) (sym is));
    },
  )
  polls c d m t (Ok Pending) st is took timers has blocking = record { matches = other_tasks number hosting_of c d m m.tasks st.matches (ap (numbered number) took ∙ st.matches.tasks) timers has blocking; valid = st.valid }
  polls c d m t (Err e) st is took timers has blocking = record { matches = other_tasks number hosting_of c d m m.tasks st.matches (ap (numbered number) took ∙ st.matches.tasks) timers has blocking; valid = st.valid }

  pub drops : (c d : Parts O (Seen P)) (m : Machine) (t : ℕ) (r : Result (Option O) TaskError) → MatchesValid number hosting_of c m → r ≡ drop_answer c.tasks.tasks t → d.tasks.tasks ≡ join_dropped c.tasks.tasks t
      → d.timers ≡ c.timers → d.has_timers ≡ c.has_timers → d.blocking ≡ c.blocking → DropsHandle number m t r (MatchesValid number hosting_of d)
  drops c d m t r st is dropped timers has blocking = (
    ap (λ a. drop_reply (drop_answer a t)) (sym st.matches.tasks) ∙ ap drop_reply (drop_answer-numbered number c.tasks.tasks t) ∙ ap (λ a. drop_reply (drop_numbered number a)) (sym is),
    record {
      matches = other_tasks number hosting_of c d m (join_dropped m.tasks t) st.matches (ap (numbered number) dropped ∙ numbered-dropped number c.tasks.tasks t ∙ ap (λ a. join_dropped a t) st.matches.tasks) timers has blocking;
      valid = act_valid None m st.valid (act.DropJoin t);
    },
  )
