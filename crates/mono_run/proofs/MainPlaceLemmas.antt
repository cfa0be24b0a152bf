-- Whether the main task of a run has a place.
use Rattle.std.proofs.Common.{◌≡◌, ◌↔◌, ◌⊎◌, ℕ, zero, suc, List, refl, ap, cond, ◌∙◌, inl, inr, arith}
use Rattle.std.specs.Prelude.{nat_le, false, ◌||◌, ◌==◌, ◌-◌, ◌^◌}
use Rattle.std.proofs.lemmas.Bool.{lt-leb}
use Rattle.mono_model.specs.Tasks.{spawned}
use Rattle.mono_machine.specs.Machine.{start_machine, with_tasks}
use Rattle.mono_machine.specs.Acts.{act_outcome, refused, answered}
use Rattle.mono_machine.specs.declared.events.Limits.{Limits}
use Rattle.mono_machine.specs.declared.events.Act.TheVariants as act
use Rattle.mono_machine.specs.declared.events.Blocking.TheVariants as strategy
use Rattle.mono_machine.specs.declared.events.Refusal.TheVariants as refusal
use Rattle.mono_machine.specs.declared.events.Reply.{Reply}
use Rattle.mono_machine.specs.declared.events.Reply.TheVariants as reply
use Rattle.mono_machine.specs.declared.events.Report.{Report}
use Rattle.mono_machine.specs.declared.events.Report.TheVariants as report
use Rattle.mono_run.specs.RunRecord.{Ran}
use Rattle.mono_run.specs.declared.runs.RunEnd.{RunEnd}
use Rattle.mono_run.specs.declared.runs.RunEnd.TheVariants as ran

abbrev limits_of : ℕ → ℕ → ℕ → Limits
limits_of t j s = record { tasks = t; jobs = j; sleeps = s }

-- the answer to the first spawn of all
abbrev first_reply : Limits → Reply
first_reply limits = (act_outcome act.Spawn (start_machine limits strategy.Attached)).reply

by_limit : (t j s : ℕ) → ((t ≡ 0) × (first_reply (limits_of t j s) ≡ reply.Refused refusal.AtCapacity)) ⊎ ((t ≡ 0 → ⊥) × (first_reply (limits_of t j s) ≡ reply.Task 0))
by_limit zero j s = inl (refl, refl)
by_limit (suc t) j s =
    let m = start_machine (limits_of (suc t) j s) strategy.Attached in
    let more : nat_le (suc t) 0 ≡ false = lt-leb (suc t) 0 (omega arith) in
    inr (λ none. omega (arith, none), ap (λ b. (cond (b || (0 == 2 ^ 64 - 1)) (refused refusal.AtCapacity m) (answered (reply.Task 0) (with_tasks m (spawned m.tasks)))).reply) more)

was_refused : (t j s : ℕ) → report.Reply (reply.Refused refusal.AtCapacity) ≡ report.Reply (first_reply (limits_of t j s)) → t ≡ 0
was_refused t j s e =
    elim (by_limit t j s) [
      | inl full ↦ full.0
      | inr room ↦ absurd (let bad : ◌≡◌ {A = Report} (report.Reply (reply.Refused refusal.AtCapacity)) (report.Reply (reply.Task 0)) = e ∙ ap report.Reply room.1 in cc bad)
    ]

was_made : (t j s main : ℕ) → report.Reply (reply.Task main) ≡ report.Reply (first_reply (limits_of t j s)) → t ≡ 0 → ⊥
was_made t j s main e none =
    elim (by_limit t j s) [
      | inl full ↦ (let bad : ◌≡◌ {A = Report} (report.Reply (reply.Task main)) (report.Reply (reply.Refused refusal.AtCapacity)) = e ∙ ap report.Reply full.1 in cc bad)
      | inr room ↦ room.0 none
    ]

pub full_at : (limits : Limits) (turns : ℕ) (e : RunEnd) (output : List ℕ) → Ran limits turns e output → (e ≡ ran.Capacity ↔ limits.tasks ≡ 0)
full_at limits turns (ran.Output o) output r =
    (λ is. absurd (cc is), λ none. absurd (was_made limits.tasks limits.jobs limits.sleeps r.blocked.0 r.blocked.1.spawn.1.0 none))
full_at limits turns ran.Turns output r =
    (λ is. absurd (cc is), λ none. absurd (was_made limits.tasks limits.jobs limits.sleeps r.blocked.0 r.blocked.1.spawn.1.0 none))
full_at limits turns ran.Capacity output r = (λ _. was_refused limits.tasks limits.jobs limits.sleeps r.blocked.1.0, λ none. refl)
