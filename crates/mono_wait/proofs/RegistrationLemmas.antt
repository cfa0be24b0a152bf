-- A poll that is pending registers its task in the machine.
use Rattle.std.proofs.Common.{◌≡◌, ◌⊎◌, inl, inr, ℕ, true, false, Bool, List, [], ◌∷◌, ◌++◌, Some, Option, refl, ap, sym, subst, ◌∙◌}
use Rattle.std.specs.Prelude.{⊤}
use Rattle.mono_model.specs.Table.{value_at}
use Rattle.mono_model.specs.Tasks.{Tasks}
use Rattle.mono_model.specs.declared.Ended.{Ended}
use Rattle.mono_machine.specs.Machine.{Machine, IsValid}
use Rattle.mono_machine.specs.Acts.{step_outcome}
use Rattle.mono_machine.specs.Turns.{after_steps}
use Rattle.mono_machine.specs.Steps.{Step}
use Rattle.mono_machine.specs.History.{begun_machine, is_awaiting}
use Rattle.mono_machine.specs.Watches as machine
use Rattle.mono_machine.specs.Watches.{watcher, IsWatched, Hears, drops_in, is_stirred_in}
use Rattle.mono_machine.specs.declared.events.TurnStep.{TurnStep}
use Rattle.mono_machine.specs.declared.events.End.TheVariants as end
use Rattle.mono_machine.specs.declared.events.Event.TheVariants as event
use Rattle.mono_machine.specs.declared.events.Reply.{Reply}
use Rattle.mono_machine.specs.declared.events.Report.TheVariants as report
use Rattle.mono_wait.specs.Sources.{Source, in_machine, Heard}
use Rattle.mono_wait.specs.Sources as heard
use Rattle.mono_wait.specs.Registers.{Registers}
use Rattle.mono_wait.specs.PendingTurns.{TurnRegisters}

steps_on : (me : ℕ) (before after : List TurnStep) (m : Machine) → after_steps me (before ++ after) m ≡ after_steps me after (after_steps me before m)
steps_on me [] after m = refl
steps_on me (s ∷ before) after m = steps_on me before after (step_outcome me s m).machine

module _ {C : Type 0} (number : C → ℕ) (work : C → Tasks ⊤) (reaches : C → C → Type 0) (tells : C → Source → Option ℕ) (stands : C → Machine → Type 0)
    (same_number : (a b : C) → reaches a b → number b ≡ number a)
    (leads : (a b : C) → reaches a b → (steps : List TurnStep) × ((m : Machine) → stands a m → stands b (after_steps (number a) steps m)))
    (same_watcher : (c : C) (m : Machine) (x : machine.Source) (t : ℕ) → stands c m → tells c (in_machine x) ≡ Some t → watcher m x ≡ Some t)
    (same_stirred : (c : C) (m : Machine) → stands c m → is_stirred_in (value_at (work c).table (number c)) ≡ is_stirred_in (value_at m.tasks.table (number c))) where
  pub hears_in : (t : ℕ) (c : C) (m : Machine) (x : machine.Source) → number c ≡ t → stands c m → heard.Hears number work reaches tells c (in_machine x) → Hears m t x
  hears_in t c m x same st (inl is) = inl (same_watcher c m x t st (is ∙ ap Some same))
  hears_in t c m x same st (inr is) = inr (subst (λ n. is_stirred_in (value_at m.tasks.table n) ≡ true) same (sym (same_stirred c m st) ∙ is))

  pub registers : TurnRegisters → (c d : C) (x : machine.Source) → Heard number work reaches tells c d (in_machine x) → Registers stands number c d x
  registers law c d x it = record {
    before = first.0;
    since = last.0;
    leads = λ m st. subst (stands d) (sym (steps_on (number c) first.0 last.0 m)) (to_end (after_steps (number c) first.0 m) (first.1 m st));
    stays = λ old new begins ends replies told valid st step none.
        law (begins ++ first.0) (last.0 ++ ends) replies told old new (number c) x valid step
        (subst (λ m. Hears m (number c) x) (sym (steps_on (number c) begins first.0 (begun_machine old.tasks.queue old)))
        (hears_in (number c) it.moment (after_steps (number c) first.0 (after_steps (number c) begins (begun_machine old.tasks.queue old))) x same (first.1 (after_steps (number c) begins (begun_machine old.tasks.queue old)) st) it.hears))
        none;
  }
    where
      same : number it.moment ≡ number c
      same = same_number c it.moment it.before

      first : (steps : List TurnStep) × ((m : Machine) → stands c m → stands it.moment (after_steps (number c) steps m))
      first = leads c it.moment it.before

      last : (steps : List TurnStep) × ((m : Machine) → stands it.moment m → stands d (after_steps (number it.moment) steps m))
      last = leads it.moment d it.since

      to_end : (m : Machine) → stands it.moment m → stands d (after_steps (number c) last.0 m)
      to_end m st = subst (λ n. stands d (after_steps n last.0 m)) same (last.1 m st)
