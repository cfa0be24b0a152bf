-- A future that waits for a number of polls.
use Rattle.std.specs.Prelude.{◌≡◌, ℕ, ⊤, true, Option, Some, None}
use Rattle.mono_model.specs.Tasks.{Tasks, woken}
use Rattle.mono_model.specs.Poll.{OnPending}
use Rattle.mono_model.specs.declared.poll.Poll.{Poll}
use Rattle.mono_model.specs.declared.poll.Poll.TheVariants.{Pending}
use Rattle.mono_machine.specs.Watches.{is_stirred_in}
use Rattle.mono_wait.specs.Sources.{Source, Covers}
use Rattle.mono_wait.specs.declared.countdown.Countdown.{Countdown}
use Rattle.std.proofs.Common.{inr, sym, ap, ◌∙◌, subst}
use Rattle.mono_wait.specs.WakeEffects.{stirs}
use Rattle.mono_model.specs.Table.{value_at}

module _ {C : Type 0} (number : C → ℕ) (work : C → Tasks ⊤) (reaches : C → C → Type 0) where
  pub record CountdownPolls (f : Countdown) (c : C) (r : Poll ℕ) (g : Countdown) (d : C) : Type 0 where
    pub wakes : OnPending r (work d ≡ woken (work c) (number c))
    pub reached : reaches c d

  module _ (watcher : C → Source → Option ℕ) (itself : (c : C) → reaches c c) (same_number : (a b : C) → reaches a b → number b ≡ number a) where
    -- once pending it has woken its own task
    pub counts : (f : Countdown) (c : C) (g : Countdown) (d : C) → CountdownPolls f c Pending g d → Covers number work reaches watcher c d (λ x. ⊥)
    counts f c g d p = record {
      one = inr (record { moment = d; before = p.reached; stirred = subst (λ n. is_stirred_in (value_at (work d).table n) ≡ true) (sym (same_number c d p.reached)) (subst (λ w. is_stirred_in (value_at w.table (number c)) ≡ true) (sym p.wakes) (stirs (work c) (number c))); since = itself d });
      each = λ x none. absurd none;
    }

module _ {C : Type 0} (reaches : C → C → Type 0) where
  pub record CountdownCancels (f : Countdown) (c d : C) : Type 0 where
    pub reached : reaches c d
