-- The source of a task's handle.
use Rattle.std.specs.Prelude.{◌≡◌, ℕ, ⊤, true, false, Bool, map, if◌then◌else◌, Option, Some, None, Result, Ok, Err}
use Rattle.std.proofs.Common.{inl, sym, ap, ◌∙◌, subst, refl}
use Rattle.mono_model.specs.Tasks.{Tasks}
use Rattle.mono_model.specs.Table.{value_at}
use Rattle.mono_model.specs.Joins.{join_answer, joined}
use Rattle.mono_model.specs.declared.poll.Poll.{Poll}
use Rattle.mono_model.specs.declared.poll.Poll.TheVariants.{Pending}
use Rattle.mono_model.specs.declared.task_error.TaskError.{TaskError}
use Rattle.mono_task.specs.Work.{without_outputs}
use Rattle.mono_wait.specs.Sources.{Source, of_task, Covers, Heard, waiter_in}
use Rattle.mono_wait.specs.JoinPolls.{pending_joins, same_waiter}

module _ {C O : Type 0} (number : C → ℕ) (tasks : C → Tasks O) (work : C → Tasks ⊤) (reaches : C → C → Type 0) (watcher : C → Source → Option ℕ)
    (itself : (c : C) → reaches c c) (same_number : (a b : C) → reaches a b → number b ≡ number a) (same_work : (c : C) → work c ≡ without_outputs (tasks c))
    (watches : (c : C) (u : ℕ) → watcher c (of_task u) ≡ waiter_in (value_at (work c).table u)) where
  handle_heard : (h : ℕ) (c d : C) → Ok Pending ≡ join_answer (tasks c) h → tasks d ≡ joined (tasks c) h (number c) → reaches c d → Heard number work reaches watcher c d (of_task h)
  handle_heard h c d told after reached = record {
    moment = d;
    before = reached;
    hears = inl (watches d h ∙ ap (λ w. waiter_in (value_at w.table h)) (same_work d) ∙ same_waiter (tasks d) h ∙ ap (λ t. waiter_in (value_at t.table h)) after ∙ pending_joins (tasks c) h (number c) told ∙ ap Some (sym (same_number c d reached)));
    since = itself d;
  }

  -- once pending, the running task waits for the output
  pub handles_cover : (h : ℕ) (c d : C) → Ok Pending ≡ join_answer (tasks c) h → tasks d ≡ joined (tasks c) h (number c) → reaches c d → Covers number work reaches watcher c d (λ x. x ≡ of_task h)
  handles_cover h c d told after reached = record {
    one = inl (of_task h, refl);
    each = λ x is. subst (Heard number work reaches watcher c d) (sym is) (handle_heard h c d told after reached);
  }
