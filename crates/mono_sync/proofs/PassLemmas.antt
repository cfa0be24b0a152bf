-- A task waits only while all is reserved, and a future that is given up passes its place on.
use Rattle.std.proofs.Common.{◌≡◌, ◌<◌, ◌≤◌, ◌+◌, ◌-◌, ℕ, Bool, true, false, cond, MatchBool, List, ◌∷◌, length, Some, None, refl, sym, ap, subst, ◌∙◌, nat_lt, arith}
use Rattle.std.proofs.lemmas.Bool.{lt-ltb, ltb-true}
use Rattle.mono_sync.specs.declared.lines.Waiter.{Waiter}
use Rattle.mono_sync.specs.declared.lines.Line.{Line}
use Rattle.mono_sync.specs.declared.lines.Coming.{Coming}
use Rattle.mono_sync.specs.declared.lines.Coming.TheVariants.{Waits, Free, Full}
use Rattle.mono_sync.specs.declared.semaphores.Semaphore.{Semaphore}
use Rattle.mono_sync.specs.declared.semaphores.Acquiring.{Acquiring}
use Rattle.mono_sync.specs.declared.semaphores.Acquiring.TheVariants as acquiring
use Rattle.mono_sync.specs.Lines.{due, owed_of, tasks_of, holder_of, Fits, Collects, HasRoom, Comes, ComesOf, Leaves, LeavesOf}
use Rattle.mono_sync.specs.Mpsc.{places}
use Rattle.mono_sync.specs.Semaphores.{Acquires, GivesUp}
use Rattle.mono_sync.specs.LineLaws.{WaitsIfReserved, WaitsIfPromised, PassesItsPermitOn, PassesItsPlaceOn, UndrawnIsNoTicket}
use Rattle.mono_sync.proofs.CoverLemmas.{run_covers, run_are}
use Rattle.mono_sync.proofs.IdleLemmas.{no_permit, no_message}
use Rattle.mono_sync.proofs.DueLemmas.{first_due}

false-true : false ≡ true → ⊥
false-true e = cc

exact : (n m : ℕ) → n ≤ m → m ≤ n → n ≡ m
exact n m p q = omega (arith, p, q)

pub if_reserved : WaitsIfReserved
if_reserved es a b p t old run none listed = exact b.available b.line.granted (no_permit b p t none listed).1 (run_covers es a b old run)

pub if_promised : (T : Type 0) → WaitsIfPromised T
if_promised T es a b k t old run none =
    let all = run_are es a b old run in
    let idle = no_message T b k t none in (
      (λ listed. let both = idle.0 listed in exact (places b) b.senders.granted both.1 (all both.0).0),
      (λ listed. let both = idle.1 listed in exact (length b.queue.items) b.receivers.granted both.1 (all both.0).1),
    )

-- the first task of a line is owed what is there for it
owed_first : (c : Bool) (room : ℕ) (l : Line) (w : Waiter) (ws : List Waiter) → l.waiters.items ≡ w ∷ ws → (c ≡ false → l.granted < room) → (us : List ℕ) × (owed_of c room l ≡ w.task ∷ us)
owed_first true room l w ws first less = (tasks_of ws, ap tasks_of first)
owed_first false room l w ws first less = (due (room - cond w.has_left l.granted (l.granted + 1)) ws, ap (λ xs. due (room - l.granted) xs) first ∙ first_due room l.granted w ws (less refl))

-- a future that was served leaves its grant
module _ (a b : Line) (k me : ℕ) where
  leaves_if : (c : Bool) → nat_lt k a.next ≡ c → k < a.next → MatchBool c (Collects a b) (b ≡ a) → Collects a b
  leaves_if true is drawn p = p
  leaves_if false is drawn p = absurd (false-true (sym is ∙ lt-ltb k a.next drawn))

  leaves_served : holder_of a.waiters.items k ≡ None → k < a.next → Leaves a (Some k) me b → Collects a b
  leaves_served gone drawn p = leaves_if (nat_lt k a.next) refl drawn (subst (λ o. LeavesOf o a k me b) gone p)

pub permit_passes : PassesItsPermitOn
permit_passes es a b c k me w ws old run drawn gone some first gives =
    let collects = leaves_served b.line c.line k me gone drawn gives.1 in
    let all : b.line.granted ≤ b.available = run_covers es a b old run in
    owed_first c.is_closed c.available c.line w ws (collects.0 ∙ first) (λ opened. omega (arith, collects.1, some, all, gives.0))

pub place_passes : (T : Type 0) → PassesItsPlaceOn T
place_passes T es a b c k me w ws old run =
    let all = run_are es a b old run in (
      (λ drawn gone some first gives.
          let collects = leaves_served b.senders c.senders k me gone drawn gives.0 in
          let h : length c.queue.items ≡ length b.queue.items = ap length gives.1.0 in
          owed_first c.is_closed (places c) c.senders w ws (collects.0 ∙ first) (λ opened. omega (arith, collects.1, some, (all (sym gives.1.2.1 ∙ opened)).0, h, gives.1.2.0))),
      (λ drawn gone some first gives.
          let collects = leaves_served b.receivers c.receivers k me gone drawn gives.0 in
          let h : length c.queue.items ≡ length b.queue.items = ap length gives.1.0 in
          owed_first c.is_closed (length c.queue.items) c.receivers w ws (collects.0 ∙ first) (λ opened. omega (arith, collects.1, some, (all (sym gives.1.2.1 ∙ opened)).1, h))),
    )

-- a number that was never drawn
module _ (a b : Line) (k me : ℕ) (past : a.next ≤ k) (gone : holder_of a.waiters.items k ≡ None) where
  comes_if : (room : ℕ) (r : Coming) (c : Bool) → nat_lt k a.next ≡ c → MatchBool c (Fits b.granted room r × Collects a b) (HasRoom b room r × (b ≡ a)) → HasRoom b room r × (b ≡ a)
  comes_if room r true is p = absurd (omega (arith, past, ltb-true k a.next is))
  comes_if room r false is p = p

  comes_undrawn : (room : ℕ) (r : Coming) → Comes a (Some k) me room r b → Comes a None me room r b
  comes_undrawn room r p = comes_if room r (nat_lt k a.next) refl (subst (λ o. ComesOf o a k me room r b) gone p)

  left_if : (c : Bool) → nat_lt k a.next ≡ c → MatchBool c (Collects a b) (b ≡ a) → b ≡ a
  left_if true is p = absurd (omega (arith, past, ltb-true k a.next is))
  left_if false is p = p

  leaves_undrawn : Leaves a (Some k) me b → b ≡ a
  leaves_undrawn p = left_if (nat_lt k a.next) refl (subst (λ o. LeavesOf o a k me b) gone p)

acquires_undrawn : (a b : Semaphore) (k me : ℕ) → a.line.next ≤ k → holder_of a.line.waiters.items k ≡ None → (r : Acquiring) → Acquires a (Some k) me r b → Acquires a None me r b
acquires_undrawn a b k me past gone acquiring.Waits s = (s.0, comes_undrawn a.line b.line k me past gone a.available Waits s.1, s.2, s.3)
acquires_undrawn a b k me past gone acquiring.Closed s = (s.0, leaves_undrawn a.line b.line k me past gone s.1, s.2, s.3)
acquires_undrawn a b k me past gone acquiring.Acquired s = (s.0, comes_undrawn a.line b.line k me past gone a.available Free s.1, s.2, s.3)
acquires_undrawn a b k me past gone acquiring.Memory s = (s.0, (s.1.0, (comes_undrawn a.line s.1.0 k me past gone a.available Full s.1.1.0, s.1.1.1)), s.2, s.3)
acquires_undrawn a b k me past gone (acquiring.Joined t) s = (s.0, (s.1.0, (comes_undrawn a.line s.1.0 k me past gone a.available Full s.1.1.0, s.1.1.1)), s.2, s.3)

gives_up_undrawn : (a b : Semaphore) (k me : ℕ) → a.line.next ≤ k → holder_of a.line.waiters.items k ≡ None → GivesUp a (Some k) me b → b ≡ a
gives_up_undrawn a b k me past gone s = λ i. record { available = s.0 i; is_closed = s.2 i; line = leaves_undrawn a.line b.line k me past gone s.1 i }

pub undrawn : UndrawnIsNoTicket
undrawn a b k me past gone = (acquires_undrawn a b k me past gone, gives_up_undrawn a b k me past gone)
