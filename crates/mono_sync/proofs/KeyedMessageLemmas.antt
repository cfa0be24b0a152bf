-- A poll of a keyed future that stays pending, by the answer of the channel.
use Rattle.std.specs.Prelude.{⊤, ◌≡◌, ℕ, Option, Some, refl}
use Rattle.std.proofs.Common.{ap, subst, inl, inr}
use Rattle.mono_model.specs.Tasks.{Tasks}
use Rattle.mono_model.specs.Table.{Table}
use Rattle.mono_model.specs.declared.poll.Poll.TheVariants.{Pending}
use Rattle.mono_sync.specs.declared.mpsc.Channel.{Channel}
use Rattle.mono_sync.specs.declared.mpsc.Sending.TheVariants as sending
use Rattle.mono_sync.specs.KeyedMessages.{SendsAt, SendAtPolls}

joined-closed : {T : Type 0} (t : ℕ) (x y : T) → sending.Joined t y ≡ sending.Closed x → ⊥
joined-closed t x y e = cc

waits-closed : {T : Type 0} (x y : T) → sending.Waits y ≡ sending.Closed x → ⊥
waits-closed x y e = cc

module _ {T : Type 0} (key : ℕ) (a b : Table (Channel T)) (ticket : Option ℕ) (x y : T) (me : ℕ) where
  -- the message that comes back is the one that was to be sent
  joined_same : (t : ℕ) → SendsAt key a ticket x me (sending.Joined t y) b → y ≡ x
  joined_same t answer = elim answer [
    | inl (p, q, at, does, is) ↦ does.0
    | inr (at, missing, is) ↦ absurd (joined-closed t x y missing)
  ]

  waits_same : SendsAt key a ticket x me (sending.Waits y) b → y ≡ x
  waits_same answer = elim answer [
    | inl (p, q, at, does, is) ↦ does.0
    | inr (at, missing, is) ↦ absurd (waits-closed x y missing)
  ]

module _ {T C : Type 0} (table : C → Table (Channel T)) (number : C → ℕ) (work : C → Tasks ⊤) (key : ℕ) (ticket : Option ℕ) (x y : T) (c d : C) where
  pub joined_polls : (t : ℕ) → SendsAt key (table c) ticket x (number c) (sending.Joined t y) (table d) → work d ≡ work c → SendAtPolls table number work key (Some x) ticket c Pending (Some y) (Some t) d
  joined_polls t answer same = inr (t, (ap Some (joined_same key (table c) (table d) ticket x y (number c) t answer), refl, subst (λ z. SendsAt key (table c) ticket x (number c) (sending.Joined t z) (table d)) (joined_same key (table c) (table d) ticket x y (number c) t answer) answer, same))

  pub waits_polls : SendsAt key (table c) ticket x (number c) (sending.Waits y) (table d) → work d ≡ work c → SendAtPolls table number work key (Some x) ticket c Pending (Some y) ticket d
  waits_polls answer same = inl (ap Some (waits_same key (table c) (table d) ticket x y (number c) answer), refl, subst (λ z. SendsAt key (table c) ticket x (number c) (sending.Waits z) (table d)) (waits_same key (table c) (table d) ticket x y (number c) answer) answer, same)
