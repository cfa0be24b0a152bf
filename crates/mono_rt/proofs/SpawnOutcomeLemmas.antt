-- A task is made outside of a turn, or is refused: the effect on each machine.
use Rattle.std.proofs.Common.{◌≡◌, ℕ, true, false, cond, None, ap, sym, subst, ◌∙◌}
use Rattle.mono_model.specs.Table.{next_number, is_full}
use Rattle.mono_model.specs.Tasks.{spawned}
use Rattle.mono_task.specs.Schedule as schedule
use Rattle.mono_machine.specs.Machine.{Machine, with_tasks}
use Rattle.mono_machine.specs.Acts.{act_outcome, answered, refused}
use Rattle.mono_machine.specs.declared.events.Act.TheVariants as act
use Rattle.mono_machine.specs.declared.events.Reply.TheVariants as reply
use Rattle.mono_machine.specs.declared.events.Refusal.TheVariants as refusal
use Rattle.mono_machine.proofs.ValidActLemmas.{act_valid}
use Rattle.mono_rt.specs.Numbering.{numbered}
use Rattle.mono_blocking.specs.JobSpawns.{Seen}
use Rattle.mono_rt.specs.Refinement.{hosting_of, Matches, MatchesValid}
use Rattle.mono_rt.specs.declared.parts.state.Parts.{Parts}
use Rattle.mono_rt.proofs.NumberLemmas.{numbered-spawned, next_numbered}
use Rattle.mono_rt.proofs.CallLemmas.{same_machine, other_tasks}
use Rattle.mono_rt.proofs.JournalLemmas.{spawn_full}

module _ {O P : Type 0} (number : O → ℕ) where
  pub spawn_stands : (c d : Parts O (Seen P)) (m : Machine) (t : ℕ) → MatchesValid number hosting_of c m → is_full c.tasks.tasks.table c.tasks.tasks.limit ≡ false → t ≡ next_number c.tasks.tasks.table
      → d.tasks ≡ schedule.with_tasks c.tasks (spawned c.tasks.tasks) → d.timers ≡ c.timers → d.has_timers ≡ c.has_timers → d.blocking ≡ c.blocking
      → ((act_outcome act.Spawn m).reply ≡ reply.Task t) × MatchesValid number hosting_of d (act_outcome act.Spawn m).machine
  spawn_stands c d m t st room at tasks timers has blocking =
      let free : is_full m.tasks.table m.tasks.limit ≡ false = spawn_full number c m st.matches false room in
      let outcome : act_outcome act.Spawn m ≡ answered (reply.Task (next_number m.tasks.table)) (with_tasks m (spawned m.tasks)) = ap (λ b. cond b (refused refusal.AtCapacity m) (answered (reply.Task (next_number m.tasks.table)) (with_tasks m (spawned m.tasks)))) free in (
        ap (λ o. o.reply) outcome ∙ ap reply.Task (sym (at ∙ sym (next_numbered number c.tasks.tasks) ∙ ap (λ x. next_number x.table) st.matches.tasks)),
        record {
          matches = subst (Matches number hosting_of d) (sym (ap (λ o. o.machine) outcome)) (other_tasks number hosting_of c d m (spawned m.tasks) st.matches (ap (λ x. numbered number x.tasks) tasks ∙ numbered-spawned number c.tasks.tasks ∙ ap spawned st.matches.tasks) timers has blocking);
          valid = act_valid None m st.valid act.Spawn;
        },
      )

  pub full_stands : (c d : Parts O (Seen P)) (m : Machine) → MatchesValid number hosting_of c m → is_full c.tasks.tasks.table c.tasks.tasks.limit ≡ true → d.tasks ≡ c.tasks → d.timers ≡ c.timers → d.has_timers ≡ c.has_timers → d.blocking ≡ c.blocking
      → ((act_outcome act.Spawn m).reply ≡ reply.Refused refusal.AtCapacity) × MatchesValid number hosting_of d (act_outcome act.Spawn m).machine
  full_stands c d m st no_room tasks timers has blocking =
      let outcome : act_outcome act.Spawn m ≡ refused refusal.AtCapacity m = ap (λ b. cond b (refused refusal.AtCapacity m) (answered (reply.Task (next_number m.tasks.table)) (with_tasks m (spawned m.tasks)))) (spawn_full number c m st.matches true no_room) in (
        ap (λ o. o.reply) outcome,
        record {
          matches = subst (Matches number hosting_of d) (sym (ap (λ o. o.machine) outcome)) (same_machine number hosting_of c d m tasks timers has blocking st.matches);
          valid = act_valid None m st.valid act.Spawn;
        },
      )
