-- A future that goes on has room.
use Rattle.std.proofs.Common.{◌≡◌, ◌==◌, ◌-◌, ◌≤◌, ℕ, Bool, true, false, MatchBool, Option, Some, None, nat_le, arith}
use Rattle.std.proofs.lemmas.Bool.{leb-true}
use Rattle.mono_locks.specs.declared.queues.Queue.{Queue}
use Rattle.mono_locks.specs.declared.queues.Coming.TheVariants.{Waits, Free}
use Rattle.mono_locks.specs.Queues.{has_room, holder_of, is_empty, Fits, Marks, Comes, ComesOf}
use Rattle.mono_locks.proofs.WaitLemmas.{and_right}

free-waits : Free ≡ Waits → ⊥
free-waits e = cc

le_fits : (n room granted : ℕ) → nat_le n (room - granted) ≡ true → n ≤ room
le_fits n room granted is = let le : n ≤ room - granted = leb-true n (room - granted) is in omega (arith, le)

pub room_fits : (q : Queue) (n room : ℕ) → has_room q n room ≡ true → n ≤ room
room_fits q n room is = le_fits n room q.granted (and_right (is_empty q.waiters.items) (nat_le n (room - q.granted)) is)

module _ (a b : Queue) (k me n room : ℕ) where
  free_if : (u : ℕ) (c : Bool) → MatchBool c ((Free ≡ Waits) × (b ≡ a)) (Fits (has_room b n room) Free × Marks a k u b) → n ≤ room
  free_if u true p = absurd (free-waits p.0)
  free_if u false p = room_fits b n room p.0

  free_of : (o : Option ℕ) → ComesOf o a k me n room Free b → n ≤ room
  free_of None p = le_fits n room b.granted p.0
  free_of (Some u) p = free_if u (u == me) p

pub free_room : (a b : Queue) (ticket : Option ℕ) (me n room : ℕ) → Comes a ticket me n room Free b → n ≤ room
free_room a b None me n room p = room_fits b n room p.0
free_room a b (Some k) me n room p = free_of a b k me n room (holder_of a.waiters.items k) p
