-- The sources of a yield, and of futures that answer at once.
use Rattle.std.specs.Prelude.{◌≡◌, ℕ, ⊤, true, Option, Some, None, Result}
use Rattle.std.specs.Fn.{Once}
use Rattle.std.proofs.Common.{inr, sym, subst}
use Rattle.mono_model.specs.Table.{value_at}
use Rattle.mono_model.specs.Tasks.{Tasks}
use Rattle.mono_model.specs.declared.Woke.{Woke}
use Rattle.mono_model.specs.declared.task_error.TaskError.{TaskError}
use Rattle.mono_model.specs.declared.poll.Poll.{Poll}
use Rattle.mono_model.specs.declared.poll.Poll.TheVariants.{Ready, Pending}
use Rattle.mono_forms.specs.Yields.{WakesItself, YieldPolls}
use Rattle.mono_forms.specs.declared.yields.YieldNow.{YieldNow}
use Rattle.mono_forms.specs.declared.yields.YieldNow.TheVariants.{Fresh, Woken, Over}
use Rattle.mono_forms.specs.Answers.{ReadyPolls}
use Rattle.mono_forms.specs.Lazies.{LazyPolls}
use Rattle.mono_forms.specs.LazySpawns.{SpawnPolls}
use Rattle.mono_task.specs.declared.error.SpawnRefused.{SpawnRefused}
use Rattle.mono_machine.specs.Watches.{is_stirred_in}
use Rattle.mono_wait.specs.Sources.{Source, woke_heard}
use Rattle.mono_wait.specs.WakeEffects.{stirs}
use Rattle.mono_wait.specs.Frames.{Frame, CoversIn, WokeIn, same_reached}

no_answer : {Z : Type 0} (z : Z) → Pending ≡ Ready z → ⊥
no_answer z e = cc

module _ {C : Type 0} (w : Frame C) (wakes : C → ℕ → Result Woke TaskError → C → Type 0) (same_number : (a b : C) → w.reaches a b → w.number b ≡ w.number a) where
  -- the running task was woken in its turn
  pub wake_woke : (c d : C) → WakesItself w.number w.work wakes w.reaches c d → WokeIn w c d
  wake_woke c d q = record {
    moment = d;
    before = q.reached;
    stirred = subst (λ n. is_stirred_in (value_at (w.work d).table n) ≡ true) (sym (same_number c d q.reached)) (subst (λ t. is_stirred_in (value_at t.table (w.number c)) ≡ true) (sym q.work_after) (stirs (w.work c) (w.number c)));
    since = w.itself d;
  }

  -- So each source is heard.
  pub wake_covers : (c d : C) (needs : Source → Type 0) → WakesItself w.number w.work wakes w.reaches c d → CoversIn w c d needs
  wake_covers c d needs q = record { one = inr (wake_woke c d q); each = λ x is. woke_heard w.number w.work w.reaches w.watcher c d x (wake_woke c d q) }

  pub yield_reached : (f : YieldNow) (c : C) (r : Poll ⊤) (g : YieldNow) (d : C) → YieldPolls w.number w.work wakes w.reaches f c r g d → w.reaches c d
  yield_reached Fresh c r g d q = q.2.reached
  yield_reached Woken c r g d q = same_reached w c d q.2
  yield_reached Over c r g d q = absurd q

  pub yields_cover : (f : YieldNow) (c : C) (g : YieldNow) (d : C) → YieldPolls w.number w.work wakes w.reaches f c Pending g d → CoversIn w c d (λ x. ⊥)
  yields_cover Fresh c g d q = wake_covers c d (λ x. ⊥) q.2
  yields_cover Woken c g d q = absurd (no_answer tt q.0)
  yields_cover Over c g d q = absurd q

module _ {C T : Type 0} (w : Frame C) where
  pub ready_reached : (v : Option T) (c : C) (r : Poll T) (left : Option T) (d : C) → ReadyPolls v c r left d → w.reaches c d
  ready_reached (Some x) c r left d q = same_reached w c d q.2
  ready_reached None c r left d q = absurd q

  pub readies_cover : (v : Option T) (c : C) (left : Option T) (d : C) → ReadyPolls v c Pending left d → CoversIn w c d (λ x. ⊥)
  readies_cover (Some x) c left d q = absurd (no_answer x q.0)
  readies_cover None c left d q = absurd q

  module _ {F : Type 0} (call : Once F (Unit {0}) T) where
    pub lazy_reached : (v : Option F) (c : C) (r : Poll T) (left : Option F) (d : C) → LazyPolls call v c r left d → w.reaches c d
    lazy_reached (Some f) c r left d q = same_reached w c d q.2
    lazy_reached None c r left d q = absurd q

    pub lazies_cover : (v : Option F) (c : C) (left : Option F) (d : C) → LazyPolls call v c Pending left d → CoversIn w c d (λ x. ⊥)
    lazies_cover (Some f) c left d q = absurd q.0
    lazies_cover None c left d q = absurd q

module _ {C G F O : Type 0} (w : Frame C) (gives : G → F → Type 0) (tasks : C → Tasks O) where
  pub spawn_reached : (v : Option G) (c : C) (r : Poll (Result ℕ (SpawnRefused F))) (left : Option G) (d : C) → SpawnPolls gives tasks w.reaches v c r left d → w.reaches c d
  spawn_reached (Some g) c r left d q = q.reached
  spawn_reached None c r left d q = absurd q

  pub spawns_cover : (v : Option G) (c : C) (left : Option G) (d : C) → SpawnPolls gives tasks w.reaches v c Pending left d → CoversIn w c d (λ x. ⊥)
  spawns_cover (Some g) c left d q = absurd (no_answer q.answer q.ready)
  spawns_cover None c left d q = absurd q
