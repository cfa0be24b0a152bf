-- A future that does not wait and may go on has room.
use Rattle.std.proofs.Common.{◌≡◌, ◌==◌, ◌<◌, ℕ, Bool, true, false, MatchBool, Option, Some, None, nat_lt, arith}
use Rattle.mono_sync.specs.declared.lines.Line.{Line}
use Rattle.mono_sync.specs.declared.lines.Coming.TheVariants.{Waits, Free}
use Rattle.mono_sync.specs.Lines.{holder_of, Fits, Collects, HasRoom, Marks, Comes, ComesOf}

free-waits : Free ≡ Waits → ⊥
free-waits e = cc

module _ (a b : Line) (k me room : ℕ) where
  free_if : (u : ℕ) (c : Bool) → MatchBool c ((Free ≡ Waits) × (b ≡ a)) (HasRoom b room Free × Marks a k u b) → 0 < room
  free_if u true p = absurd (free-waits p.0)
  free_if u false p = omega (arith, p.0)

  free_gone : (c : Bool) → MatchBool c (Fits b.granted room Free × Collects a b) (HasRoom b room Free × (b ≡ a)) → 0 < room
  free_gone true p = omega (arith, p.0)
  free_gone false p = omega (arith, p.0)

  free_of : (o : Option ℕ) → ComesOf o a k me room Free b → 0 < room
  free_of None p = free_gone (nat_lt k a.next) p
  free_of (Some u) p = free_if u (u == me) p

pub free_room : (a b : Line) (ticket : Option ℕ) (me room : ℕ) → Comes a ticket me room Free b → 0 < room
free_room a b None me room p = omega (arith, p.0)
free_room a b (Some k) me room p = free_of a b k me room (holder_of a.waiters.items k) p
