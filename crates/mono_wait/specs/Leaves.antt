-- The source of a sleep.
use Rattle.std.specs.Prelude.{◌≡◌, ℕ, ⊤, Option, Some}
use Rattle.std.proofs.Common.{inl, sym, ap, ◌∙◌, subst, refl}
use Rattle.mono_model.specs.Tasks.{Tasks}
use Rattle.mono_model.specs.Table.{value_at}
use Rattle.mono_model.specs.declared.poll.Poll.TheVariants.{Pending}
use Rattle.mono_time.specs.Sleeps.{SleepTable}
use Rattle.mono_time.specs.Futures.{SleepPolls}
use Rattle.mono_time.specs.declared.sleeps.Sleep.{Sleep}
use Rattle.mono_wait.specs.Sources.{Source, of_sleep, Covers, Heard, waker_in}
use Rattle.mono_wait.specs.SleepPolls.{pending_arms}

abbrev pub SleepNeeds : Sleep → Source → Type 0
SleepNeeds f x = x ≡ of_sleep f.number

module _ {C : Type 0} (number : C → ℕ) (sleeps : C → SleepTable) (work : C → Tasks ⊤) (reaches : C → C → Type 0) (watcher : C → Source → Option ℕ)
    (itself : (c : C) → reaches c c) (same_number : (a b : C) → reaches a b → number b ≡ number a)
    (watches : (c : C) (s : ℕ) → watcher c (of_sleep s) ≡ waker_in (value_at (sleeps c).table s)) where
  sleep_heard : (f : Sleep) (c : C) (g : Sleep) (d : C) → SleepPolls number sleeps work reaches f c Pending g d → Heard number work reaches watcher c d (of_sleep f.number)
  sleep_heard f c g d p = record {
    moment = d;
    before = p.reached;
    hears = inl (watches d f.number ∙ ap (λ t. waker_in (value_at t.table f.number)) p.sleeps_after ∙ pending_arms (sleeps c) f.number (number c) p.answer ∙ ap Some (sym (same_number c d p.reached)));
    since = itself d;
  }

  -- once pending, the running task is the sleep's waker
  pub sleeps_cover : (f : Sleep) (c : C) (g : Sleep) (d : C) → SleepPolls number sleeps work reaches f c Pending g d → Covers number work reaches watcher c d (SleepNeeds g)
  sleeps_cover f c g d p = record {
    one = inl (of_sleep g.number, refl);
    each = λ x is. subst (Heard number work reaches watcher c d) (sym (is ∙ ap (λ h. of_sleep h.number) p.sleep)) (sleep_heard f c g d p);
  }
