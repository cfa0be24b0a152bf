-- The source of a future that waits for threads, which hold a waker of its task.
use Rattle.std.specs.Prelude.{◌≡◌, ℕ, ⊤, Bool, true, Option}
use Rattle.std.proofs.Common.{inl, ap, ◌∙◌, sym, subst, refl}
use Rattle.mono_model.specs.Tasks.{Tasks}
use Rattle.mono_wait.specs.Sources.{Source, of_threads, Heard, Covers, own_watcher}

abbrev pub OutsideNeeds : Source → Type 0
OutsideNeeds x = x ≡ of_threads

module _ {C : Type 0} (number : C → ℕ) (work : C → Tasks ⊤) (reaches : C → C → Type 0) (watcher : C → Source → Option ℕ) (itself : (c : C) → reaches c c) (has_handed_out : C → Bool)
    (watches : (c : C) → watcher c of_threads ≡ own_watcher (has_handed_out c) (number c)) where
  outside_heard : (c d : C) → reaches c d → has_handed_out d ≡ true → Heard number work reaches watcher c d of_threads
  outside_heard c d reached handed = record { moment = d; before = reached; hears = inl (watches d ∙ ap (λ b. own_watcher b (number d)) handed); since = itself d }

  -- once pending, threads hold a waker of the running task
  pub outsides_cover : (c d : C) → reaches c d → has_handed_out d ≡ true → Covers number work reaches watcher c d OutsideNeeds
  outsides_cover c d reached handed = record {
    one = inl (of_threads, refl);
    each = λ x needed. subst (Heard number work reaches watcher c d) (sym needed) (outside_heard c d reached handed);
  }
