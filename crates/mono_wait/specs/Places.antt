-- The place of a shared value at which a future waits.
use Rattle.std.specs.Prelude.{◌≡◌, ◌==◌, ◌||◌, ℕ, zero, suc, ⊤, Bool, true, false, List, [], ◌∷◌, ◌++◌, Option, Some}
use Rattle.std.specs.List.{list_any}
use Rattle.std.proofs.Common.{inl, sym, ap, ◌∙◌, subst, refl, eq-eqb}
use Rattle.mono_model.specs.Tasks.{Tasks}
use Rattle.mono_wait.specs.Sources.{Source, of_place, Heard, Covers, own_watcher}
use Rattle.mono_wait.specs.WaitPlaces.{AtTicket}

or_right : (a b : Bool) → b ≡ true → (a || b) ≡ true
or_right true b is = refl
or_right false b is = is

or_left : (a b : Bool) → a ≡ true → (a || b) ≡ true
or_left a b is = ap (λ x. x || b) is

module _ {X : Type 0} (task_of : X → ℕ) (task : ℕ) where
  -- a task at the end of a line
  pub last_has : (ws : List X) (w : X) → task_of w ≡ task → list_any (λ v. task_of v == task) (ws ++ w ∷ []) ≡ true
  last_has [] w is = or_left (task_of w == task) false (eq-eqb (task_of w) task is)
  last_has (v ∷ ws) w is = or_right (task_of v == task) _ (last_has ws w is)

module _ {W : Type 0} (part_lists lists : W → List ℕ → ℕ → Bool) where
  -- Each place of the whole at which it lists whom its part lists at the future's ticket of a line.
  abbrev pub PlaceNeeds : List ℕ → Option ℕ → Source → Type 0
  PlaceNeeds line ticket x = (p : List ℕ) × AtTicket part_lists lists line ticket p × (x ≡ of_place p)

  -- The same of its ticket among the senders of a channel.
  abbrev pub SenderNeeds : Option ℕ → Source → Type 0
  SenderNeeds = PlaceNeeds (zero ∷ [])

  -- The same of its ticket among the receivers of a channel.
  abbrev pub ReceiverNeeds : Option ℕ → Source → Type 0
  ReceiverNeeds = PlaceNeeds (suc zero ∷ [])

same_some : (i j : ℕ) → Some i ≡ Some j → i ≡ j
same_some i j e = cc

module _ {C W : Type 0} (number : C → ℕ) (work : C → Tasks ⊤) (reaches : C → C → Type 0) (watcher : C → Source → Option ℕ)
    (itself : (c : C) → reaches c c) (same_number : (a b : C) → reaches a b → number b ≡ number a) (shared : C → W) (lists : W → List ℕ → ℕ → Bool)
    (watches : (c : C) (p : List ℕ) → watcher c (of_place p) ≡ own_watcher (lists (shared c) p (number c)) (number c)) where
  place_heard : (c d : C) (p : List ℕ) → reaches c d → lists (shared d) p (number c) ≡ true → Heard number work reaches watcher c d (of_place p)
  place_heard c d p reached listed = record {
    moment = d;
    before = reached;
    hears = inl (watches d p ∙ ap (λ b. own_watcher b (number d)) (ap (lists (shared d) p) (same_number c d reached) ∙ listed));
    since = itself d;
  }

  -- once pending, the part lists the running task at its ticket, and so does the whole
  pub places_cover : (part_lists : W → List ℕ → ℕ → Bool) (part : List ℕ) → ((w : W) (p : List ℕ) (t : ℕ) → part_lists w p t ≡ true → lists w (part ++ p) t ≡ true) → (c d : C) (line : List ℕ) (ticket : Option ℕ) → reaches c d
      → (k : ℕ) × (ticket ≡ Some k) × (part_lists (shared d) (line ++ k ∷ []) (number c) ≡ true) → Covers number work reaches watcher c d (PlaceNeeds part_lists lists line ticket)
  places_cover part_lists part goes c d line ticket reached (k, at, listed) = record {
    one = inl (of_place (part ++ (line ++ k ∷ [])), (part ++ (line ++ k ∷ []), (k, at, λ w t is. goes w (line ++ k ∷ []) t is), refl));
    each = λ x needed. subst (Heard number work reaches watcher c d) (sym needed.2) (place_heard c d needed.0 reached (by_ticket needed.0 needed.1));
  }
    where
      by_ticket : (p : List ℕ) → AtTicket part_lists lists line ticket p → lists (shared d) p (number c) ≡ true
      by_ticket p (n, here, whole) = whole (shared d) (number c) (subst (λ m. part_lists (shared d) (line ++ m ∷ []) (number c) ≡ true) (same_some k n (sym at ∙ here)) listed)
