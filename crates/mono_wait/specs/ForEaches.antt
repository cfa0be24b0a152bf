-- The sources of a future that handles each item of a stream.
use Rattle.std.specs.Prelude.{◌≡◌, ℕ, zero, suc, ⊤, Bool, true, Option, Some, Result}
use Rattle.std.proofs.Common.{inr, sym, subst}
use native.Mathlib.Omega.{arith}
use Rattle.mono_model.specs.Table.{value_at}
use Rattle.mono_model.specs.declared.Woke.{Woke}
use Rattle.mono_model.specs.declared.task_error.TaskError.{TaskError}
use Rattle.mono_model.specs.declared.poll.Poll.{Poll}
use Rattle.mono_model.specs.declared.poll.Poll.TheVariants.{Ready, Pending}
use Rattle.mono_stream.specs.ForEaches.{Polls, Items, Last, Handles, AfterHandled}
use Rattle.mono_machine.specs.Watches.{is_stirred_in}
use Rattle.mono_wait.specs.Sources.{Source, woke_heard}
use Rattle.mono_wait.specs.Frames.{Frame, WokeIn, CoversIn, same_reached, covers_after}

-- A pending poll stopped at an item that waits, or woke its task after as many items as one poll may handle.
by_stop : {S C : Type 0} (polls : Polls S C) (number : C → ℕ) (wakes : C → ℕ → Result Woke TaskError → C → Type 0) (P : Type 0) (stop : _) (n : ℕ) (before : S) (m : C) (t : S) (e : C) (ended : Bool) (d : C)
    → (polls before m Pending t e → d ≡ e → P) → (e ≡ m → (woke : Result Woke TaskError) → wakes e (number e) woke d → P)
    → Last polls stop n before m t e → AfterHandled number wakes stop e Pending ended d → P
by_stop polls number wakes P stop n before m t e ended d waits many last after = grind arith

module _ {S C : Type 0} (w : Frame C) (polls : Polls S C) (reach : (s : S) (c : C) (r : Poll (Option ⊤)) (t : S) (d : C) → polls s c r t d → w.reaches c d) where
  items_reached : (n : ℕ) (s : S) (c : C) (t : S) (d : C) → Items polls n s c t d → w.reaches c d
  items_reached zero s c t d q = same_reached w c d q.1
  items_reached (suc n) s c t d (u, e, polled, more) = w.on c e d (reach s c (Ready (Some tt)) u e polled) (items_reached n u e t d more)

  module _ (wakes : C → ℕ → Result Woke TaskError → C → Type 0) (same_number : (a b : C) → w.reaches a b → w.number b ≡ w.number a)
      (stirs : (c d : C) (t : ℕ) (answer : Result Woke TaskError) → wakes c t answer d → is_stirred_in (value_at (w.work d).table t) ≡ true) where
    stirred : (c m d : C) (woke : Result Woke TaskError) → w.reaches c m → w.reaches c d → wakes m (w.number m) woke d → is_stirred_in (value_at (w.work d).table (w.number d)) ≡ true
    stirred c m d woke first reached wake =
        subst (λ n. is_stirred_in (value_at (w.work d).table n) ≡ true) (sym (same_number c d reached))
        (subst (λ n. is_stirred_in (value_at (w.work d).table n) ≡ true) (same_number c m first) (stirs m d (w.number m) woke wake))

    many_woke : (c m d : C) (woke : Result Woke TaskError) → w.reaches c m → w.reaches c d → wakes m (w.number m) woke d → WokeIn w c d
    many_woke c m d woke first reached wake = record { moment = d; before = reached; stirred = stirred c m d woke first reached wake; since = w.itself d }

    -- So each source is heard.
    many_cover : (c m d : C) (needs : Source → Type 0) (woke : Result Woke TaskError) → w.reaches c m → w.reaches c d → wakes m (w.number m) woke d → CoversIn w c d needs
    many_cover c m d needs woke first reached wake = record {
      one = inr (many_woke c m d woke first reached wake);
      each = λ x is. woke_heard w.number w.work w.reaches w.watcher c d x (many_woke c m d woke first reached wake);
    }

    pub for_eaches_cover : (needs : S → Source → Type 0) → ((s : S) (c : C) (t : S) (d : C) → polls s c Pending t d → CoversIn w c d (needs t)) → (stop : _) (s : S) (c : C) (t : S) (m : C) (ended : Bool) (d : C) → Handles polls s c stop t m
        → AfterHandled w.number wakes stop m Pending ended d → w.reaches c d → CoversIn w c d (needs t)
    for_eaches_cover needs covers stop s c t m ended d h rest reached =
        let handled : w.reaches c h.middle = items_reached h.count s c h.before h.middle h.items
        in by_stop polls w.number wakes (CoversIn w c d (needs t)) stop h.count h.before h.middle t m ended d
        (λ polled same. subst (λ e. CoversIn w c e (needs t)) (sym same) (covers_after w c h.middle m (needs t) handled (covers h.before h.middle t m polled)))
        (λ still woke wake. many_cover c m d (needs t) woke (subst (w.reaches c) (sym still) handled) reached wake) h.last rest
