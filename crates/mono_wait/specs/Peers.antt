-- The source of a future that waits for other tasks, which find its task in a value that they share.
use Rattle.std.specs.Prelude.{◌≡◌, ℕ, ⊤, Bool, true, Option}
use Rattle.std.proofs.Common.{inl, sym, ap, ◌∙◌, subst, refl}
use Rattle.mono_model.specs.Tasks.{Tasks}
use Rattle.mono_wait.specs.Sources.{Source, of_peers, Heard, Covers, own_watcher}

abbrev pub PeersNeeds : Source → Type 0
PeersNeeds x = x ≡ of_peers

module _ {C : Type 0} (number : C → ℕ) (work : C → Tasks ⊤) (reaches : C → C → Type 0) (watcher : C → Source → Option ℕ)
    (itself : (c : C) → reaches c c) (same_number : (a b : C) → reaches a b → number b ≡ number a) (names : C → ℕ → Bool)
    (watches : (c : C) → watcher c of_peers ≡ own_watcher (names c (number c)) (number c)) where
  pub peers_heard : (c d : C) → reaches c d → names d (number c) ≡ true → Heard number work reaches watcher c d of_peers
  peers_heard c d reached named = record {
    moment = d;
    before = reached;
    hears = inl (watches d ∙ ap (λ b. own_watcher b (number d)) (ap (names d) (same_number c d reached) ∙ named));
    since = itself d;
  }

  -- once pending, the shared value names the running task
  pub peers_cover : (c d : C) → reaches c d → names d (number c) ≡ true → Covers number work reaches watcher c d PeersNeeds
  peers_cover c d reached named = record {
    one = inl (of_peers, refl);
    each = λ x needed. subst (Heard number work reaches watcher c d) (sym needed) (peers_heard c d reached named);
  }
