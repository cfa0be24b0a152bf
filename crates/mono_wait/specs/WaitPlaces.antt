-- The places of the shared value at which a future waits.
use Rattle.std.specs.Prelude.{◌≡◌, ℕ, Bool, true, List, [], ◌∷◌, ◌++◌, Option, Some}
use Rattle.std.proofs.Common.{ap, ◌∙◌}
use Rattle.mono_model.specs.declared.poll.Poll.TheVariants.{Pending}
use Rattle.mono_task.specs.Members.{FutureOf}

module _ {W : Type 0} (part_lists lists : W → List ℕ → ℕ → Bool) where
  -- A place of the whole at which it lists each task that its part lists at this ticket of a line. A future without a
  -- ticket waits nowhere.
  abbrev pub AtTicket : List ℕ → Option ℕ → List ℕ → Type 0
  AtTicket line ticket p = (k : ℕ) × (ticket ≡ Some k) × ((w : W) (t : ℕ) → part_lists w (line ++ k ∷ []) t ≡ true → lists w p t ≡ true)

  -- The whole lists the task there, since its part lists it at its ticket.
  pub at_ticket : (w : W) (line : List ℕ) (ticket : Option ℕ) (me now : ℕ) → now ≡ me → ((k : ℕ) → ticket ≡ Some k → part_lists w (line ++ k ∷ []) me ≡ true) → (p : List ℕ) → AtTicket line ticket p → lists w p now ≡ true
  at_ticket w line ticket me now same held p (k, at, goes) = ap (lists w p) same ∙ goes w me (held k at)

-- What `WaitsIn` asks of a part of a form, in contexts whose shared value lists the running task at a place.
pub record Placed {A C X : Type 0} (listed_at : C → List ℕ → Type 0) (future : FutureOf A C X) : Type 1 where
  pub waits_in : A → List ℕ → Type 0
  pub listed : (f : A) (c : C) (g : A) (d : C) → future.polls f c Pending g d → (p : List ℕ) → waits_in g p → listed_at d p

-- The shared value lists the running task at this place.
abbrev pub ListedAt : {C W : Type 0} → (W → List ℕ → ℕ → Bool) → (C → W) → (C → ℕ) → C → List ℕ → Type 0
ListedAt lists shared number c p = lists (shared c) p (number c) ≡ true

abbrev pub placed_of : {A C X : Type 0} (listed_at : C → List ℕ → Type 0) (future : FutureOf A C X) (waits_in : A → List ℕ → Type 0)
    → ((f : A) (c : C) (g : A) (d : C) → future.polls f c Pending g d → (p : List ℕ) → waits_in g p → listed_at d p) → Placed listed_at future
placed_of listed_at future waits_in listed = record { waits_in = waits_in; listed = listed }

-- The places of the rest of a form.
abbrev pub Places : Type 0 → Type 1
Places A = A → List ℕ → Type 0
