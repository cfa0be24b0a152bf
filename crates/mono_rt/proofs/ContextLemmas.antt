-- What the calls of a runtime's context mean for the traits of contexts.
use Rattle.std.proofs.Common.{◌≡◌, inl, inr, ℕ, true, false, Bool, refl, ap, sym, subst}
use Rattle.std.specs.Prelude.{Result, Ok, Err, IfOk, IfErr, OnOk, OnErr}
use Rattle.mono_model.specs.Jobs.{Jobs}
use Rattle.mono_model.specs.Table.{next_number}
use Rattle.mono_model.specs.Tasks.{Tasks, spawned}
use Rattle.mono_model.specs.declared.poll.Poll.{Poll}
use Rattle.mono_task.specs.Spawns.{Spawns, IsRefusedIfFull, NotesMemory, refused_future}
use Rattle.mono_task.specs.Work.{without_outputs}
use Rattle.mono_task.specs.declared.error.SpawnRefused.{SpawnRefused}
use Rattle.mono_task.specs.declared.error.SpawnRefused.TheVariants as refused
use Rattle.mono_joinword.specs.declared.outcome.JoinError.{JoinError}
use Rattle.mono_machine.specs.declared.events.Reply.{Reply}
use Rattle.mono_machine.specs.declared.events.Refusal.{Refusal}
use Rattle.mono_machine.specs.declared.events.TurnStep.{TurnStep}
use Rattle.mono_blocking.specs.Calls.{Asks, PollsOutput, Finds}
use Rattle.mono_blocking.specs.Calls as calls
use Rattle.mono_blocking.specs.JobAnswers.{FinishShown}
use Rattle.mono_blocking.specs.JobSpawns.{Seen}
use Rattle.mono_blocking.specs.JobTable as table
use Rattle.mono_blocking.specs.declared.jobs.handles.JobHandle.{JobHandle}
use Rattle.mono_blocking.specs.declared.jobs.refusals.SpawnError.{SpawnError}
use Rattle.mono_blocking.specs.declared.jobs.refusals.SpawnError.TheVariants as error
use Rattle.mono_blocking.specs.declared.jobs.refusals.PollJob.{PollJob}
use Rattle.mono_blocking.specs.declared.jobs.refusals.PollJob.TheVariants as polling
use Rattle.mono_rt.specs.JobActs.{lacks_after, AsksJob, PollsJob}
use Rattle.mono_rt.specs.Spawns.{lacks_spawn}
use Rattle.mono_rt.specs.Remains.{HandsOut, NotesMemory as NotesLack}
use Rattle.mono_rt.specs.declared.contexts.Cx.{Cx}
use Rattle.mono_rt.specs.declared.parts.state.Parts.{Parts}

module _ {O F : Type 0} where
  pub spawns : (old new : Tasks O) (future : F) (answer : Result ℕ (SpawnRefused F)) → IfOk answer (λ t. t ≡ next_number old.table) → OnOk answer (new ≡ spawned old) → OnErr answer (new ≡ old) → IfErr answer (λ e. refused_future e ≡ future) → IsRefusedIfFull old answer → Spawns old future answer new
  spawns old new future (Ok t) number made none back full = (number, full, made)
  spawns old new future (Err (refused.Memory f)) number made none back full = (back, full, none)
  spawns old new future (Err (refused.AtCapacity f)) number made none back full = (back, full, none)

module _ {F : Type 0} where
  pub part_stays : {A B : Type 0} (part : A → B) (x y : A) (answer : Result ℕ (SpawnRefused F)) → OnErr answer (y ≡ x) → OnErr answer (part y ≡ part x)
  part_stays part x y (Ok t) same = same
  part_stays part x y (Err e) same = ap part same

  notes : (before : Bool) (answer : Result ℕ (SpawnRefused F)) → NotesMemory answer (lacks_spawn before answer)
  notes before (Ok t) = tt
  notes before (Err (refused.Memory f)) = refl
  notes before (Err (refused.AtCapacity f)) = tt

  pub noted_spawn : (before now : Bool) (answer : Result ℕ (SpawnRefused F)) → now ≡ lacks_spawn before answer → NotesMemory answer now
  noted_spawn before now answer is = subst (NotesMemory answer) (sym is) (notes before answer)

module _ {J : Type 0} where
  job_notes : (before : Bool) (answer : Result JobHandle (SpawnError J)) → calls.NotesMemory answer (lacks_after before answer)
  job_notes before (Ok handle) = tt
  job_notes before (Err (error.Memory back)) = refl
  job_notes before (Err (error.AtCapacity back)) = tt
  job_notes before (Err (error.NoPool back)) = tt
  job_notes before (Err error.PoolFault) = tt

  pub noted_job : (before now : Bool) (answer : Result JobHandle (SpawnError J)) → now ≡ lacks_after before answer → calls.NotesMemory answer now
  noted_job before now answer is = subst (calls.NotesMemory answer) (sym is) (job_notes before answer)

module _ {O P : Type 0} where
  pub asks : (answer_of : Jobs → ℕ → Result Reply Refusal) (after : Jobs → ℕ → Jobs) (asked : TurnStep) (j : ℕ) (answer : Result Reply Refusal) (c d : Parts O (Seen P)) → AsksJob answer_of after asked j answer c d → Asks answer_of after j answer c.blocking.table.jobs d.blocking.table.jobs
  asks answer_of after asked j answer c d p = record { end = p.end; is_end = p.is_end; is_answer = p.is_answer; jobs = p.jobs }

  pub asks_work : (answer_of : Jobs → ℕ → Result Reply Refusal) (after : Jobs → ℕ → Jobs) (asked : TurnStep) (j : ℕ) (answer : Result Reply Refusal) (c d : Parts O (Seen P)) → AsksJob answer_of after asked j answer c d → without_outputs d.tasks.tasks ≡ without_outputs c.tasks.tasks
  asks_work answer_of after asked j answer c d p = ap (λ x. without_outputs x.tasks.tasks) p.parts

module _ {O P A : Type 0} (number : A → ℕ) (j : ℕ) where
  pub polled : (answer : Result (Poll (Result A JoinError)) PollJob) (c d : Parts O (Seen P)) → PollsJob number j answer c d → PollsOutput number c.me j answer c.blocking.table.jobs d.blocking.table.jobs d.is_out_of_memory
  polled (Ok answer) c d p = asks _ _ _ j _ c d p.asks
  polled (Err (polling.Refused r)) c d p = asks _ _ _ j _ c d p.asks
  polled (Err polling.Memory) c d p = (ap (λ x. x.blocking.table.jobs) p, ap (λ x. x.is_out_of_memory) p)

  pub polled_work : (answer : Result (Poll (Result A JoinError)) PollJob) (c d : Parts O (Seen P)) → PollsJob number j answer c d → without_outputs d.tasks.tasks ≡ without_outputs c.tasks.tasks
  polled_work (Ok answer) c d p = asks_work _ _ _ j _ c d p.asks
  polled_work (Err (polling.Refused r)) c d p = asks_work _ _ _ j _ c d p.asks
  polled_work (Err polling.Memory) c d p = ap (λ x. without_outputs x.tasks.tasks) p

pub found : (j : ℕ) (answer : Result Bool Refusal) (old new : table.Seen) → FinishShown old j answer new → Finds j answer old.jobs
found j (Ok false) old new shown = shown.0
found j (Ok true) old new (inl told) = inl told
found j (Ok true) old new (inr seen) = inr seen.0
found j (Err e) old new shown = shown

-- a further waker was refused, or handed out
module _ {F O P U W J A V X E : Type 0} where
  pub lack_noted : (answer : Result X E) (c d : Cx F O P U W J A V) → OnErr answer (NotesLack c d) → OnErr answer (d.parts.is_out_of_memory ≡ true)
  lack_noted (Ok x) c d noted = tt
  lack_noted (Err e) c d noted = ap (λ x. x.parts.is_out_of_memory) noted

  pub lack_work : (answer : Result X E) (c d : Cx F O P U W J A V) → OnOk answer (HandsOut c d) → OnErr answer (NotesLack c d) → without_outputs d.parts.tasks.tasks ≡ without_outputs c.parts.tasks.tasks
  lack_work (Ok x) c d same noted = ap (λ x. without_outputs x.parts.tasks.tasks) same
  lack_work (Err e) c d same noted = ap (λ x. without_outputs x.parts.tasks.tasks) noted
