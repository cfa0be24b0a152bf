-- Moments of a poll at which the shared value named the running task, or the task woke itself.
use Rattle.std.specs.Prelude.{◌≡◌, ℕ, Bool, true}
use Rattle.std.proofs.Common.{sym, ◌∙◌, subst}
use Rattle.mono_model.specs.Table.{value_at}
use Rattle.mono_model.specs.Tasks.{woken}
use Rattle.mono_machine.specs.Watches.{is_stirred_in}
use Rattle.mono_wait.specs.Sources.{of_peers, own_watcher}
use Rattle.mono_wait.specs.WakeEffects.{stirs}
use Rattle.mono_wait.specs.Peers.{peers_heard}
use Rattle.mono_wait.specs.Frames.{Frame, HeardIn, WokeIn, heard_before}

module _ {C : Type 0} (w : Frame C) (same_number : (a b : C) → w.reaches a b → w.number b ≡ w.number a) where
  -- the task woke itself
  pub woke_itself : (c m d : C) → w.reaches c m → w.reaches c d → w.work d ≡ woken (w.work m) (w.number m) → WokeIn w c d
  woke_itself c m d before whole wakes = record {
    moment = d;
    before = whole;
    stirred = subst (λ n. is_stirred_in (value_at (w.work d).table n) ≡ true) (same_number c m before ∙ sym (same_number c d whole)) (subst (λ v. is_stirred_in (value_at v.table (w.number m)) ≡ true) (sym wakes) (stirs (w.work m) (w.number m)));
    since = w.itself d;
  }

  -- the shared value named the task
  pub named_heard : (names : C → ℕ → Bool) → ((c : C) → w.watcher c of_peers ≡ own_watcher (names c (w.number c)) (w.number c)) → (c m d : C) → w.reaches c m → w.reaches m d → names m (w.number c) ≡ true → HeardIn w c d of_peers
  named_heard names watches c m d before since is = heard_before w c m d of_peers (peers_heard w.number w.work w.reaches w.watcher w.itself same_number names watches c m before is) since
