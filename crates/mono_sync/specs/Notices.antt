-- A notice, and the effect of its calls.
use Rattle.std.specs.Prelude.{Bool, ◌||◌, ◌&&◌, nat_lt, nat_le, ◌≡◌, ◌<◌, ◌≤◌, ◌+◌, ◌-◌, ◌⊎◌, if◌then◌else◌, MatchBool, ℕ, zero, suc, List, [], ◌∷◌, length, Option, Some, None, Ok}
use Rattle.mono_sync.specs.declared.lines.Waiter.{Waiter}
use Rattle.mono_sync.specs.declared.lines.Line.{Line}
use Rattle.mono_sync.specs.declared.lines.Coming.TheVariants.{Waits, Free, Full}
use Rattle.mono_sync.specs.declared.notices.Notify.{Notify}
use Rattle.mono_sync.specs.declared.notices.Notifying.{Notifying}
use Rattle.mono_sync.specs.declared.notices.Notifying.TheVariants as notifying
use Rattle.mono_sync.specs.Lines.{Comes, Joins, Leaves, Pops, SameLine, holder_of, lists_at, starts_below, tasks_of}

-- The tasks that are to be woken: those that waited at the last notice to all, and one for each notice to one.
abbrev pub on_notice : ℕ → ℕ → List Waiter → List ℕ
on_notice low n [] = []
on_notice low zero (w ∷ ws) = if nat_lt w.ticket low then w.task ∷ on_notice low zero ws else []
on_notice low (suc n) (w ∷ ws) = w.task ∷ on_notice low (if nat_lt w.ticket low || w.has_left then suc n else n) ws

abbrev pub owed_by : Notify → List ℕ
owed_by a = on_notice a.cleared.next a.pending a.line.waiters.items

-- A place is a ticket.
abbrev pub listed_by : Notify → List ℕ → ℕ → Bool
listed_by a = lists_at a.line.waiters.items

abbrev pub waiting_in : Notify → List ℕ
waiting_in a = tasks_of a.line.waiters.items

-- All but the line stays.
abbrev pub Kept : Notify → Notify → Type 0
Kept a b = (b.pending ≡ a.pending) × (b.cleared ≡ a.cleared)

-- There is one notice more, unless one is kept beside one for each task that waits.
abbrev pub OneMore : ℕ → List Waiter → ℕ → Type 0
OneMore n ws m = MatchBool (nat_le n (length ws)) (m ≡ n + 1) (m ≡ n)

-- There is one notice more, for the first task that waits and has none. If each has one, it is kept for the next future that
-- asks.
abbrev pub NotifiesOne : Notify → Notify → Type 0
NotifiesOne a b = OneMore a.pending a.line.waiters.items b.pending × (b.line ≡ a.line) × (b.cleared ≡ a.cleared)

-- The first task that gets none of these notices to one, by its ticket, or the next ticket. They go to the first tasks that
-- wait since the last notice to all and have not left, one to each.
abbrev pub alone_to : ℕ → ℕ → ℕ → List Waiter → ℕ
alone_to low next n [] = next
alone_to low next zero (w ∷ ws) = w.ticket
alone_to low next (suc n) (w ∷ ws) = alone_to low next (if nat_lt w.ticket low || w.has_left then suc n else n) ws

-- How many of these notices to one no task gets.
abbrev pub left_of : ℕ → ℕ → List Waiter → ℕ
left_of low n [] = n
left_of low zero (w ∷ ws) = zero
left_of low (suc n) (w ∷ ws) = left_of low (if nat_lt w.ticket low || w.has_left then suc n else n) ws

-- All tasks that wait are notified, and no other. A notice to one that no task gets stays. Of the tickets drawn since the
-- notice to all before, those that had left the line were notified alone, and so were those that had a notice to one.
abbrev pub NotifiesAll : Notify → Notify → Type 0
NotifiesAll a b = (b.pending ≡ left_of a.cleared.next a.pending a.line.waiters.items) × (b.line ≡ a.line)
    × (b.cleared ≡ record { before = a.cleared.next; alone = alone_to a.cleared.next a.line.next a.pending a.line.waiters.items; next = a.line.next })

-- No notice is kept for a future that asks.
abbrev pub KeepsNone : Notify → Type 0
KeepsNone a = (a.pending ≡ 0) ⊎ (1 ≤ a.line.granted + length a.line.waiters.items)

-- A future of this task asks with a ticket that it drew. It waits, or was notified, or waits from now on.
abbrev pub AwaitsAgain : Notify → ℕ → ℕ → Notifying → Notify → Type 0
AwaitsAgain a k me notifying.Waits b = Comes a.line (Some k) me 1 Waits b.line × Kept a b
AwaitsAgain a k me notifying.Notified b = (Comes a.line (Some k) me 1 Free b.line ⊎ (Comes a.line (Some k) me 1 Full b.line × (k < a.cleared.next))) × Kept a b
AwaitsAgain a k me notifying.Memory b = ((l : Line) × (Comes a.line (Some k) me 1 Full l × (a.cleared.next ≤ k) × SameLine l b.line)) × Kept a b
AwaitsAgain a k me (notifying.Joined u) b = ((l : Line) × (Comes a.line (Some k) me 1 Full l × (a.cleared.next ≤ k) × Joins l me (Ok u) b.line)) × Kept a b

-- A future of this task asks without a ticket. It takes the kept notice, or waits from now on.
abbrev pub AwaitsFirst : Notify → ℕ → Notifying → Notify → Type 0
AwaitsFirst a me notifying.Waits b = ⊥
AwaitsFirst a me notifying.Notified b = (0 < a.pending) × (a.line.granted + length a.line.waiters.items ≡ 0) × (b.pending ≡ 0) × (b.line ≡ a.line) × (b.cleared ≡ a.cleared)
AwaitsFirst a me notifying.Memory b = KeepsNone a × SameLine a.line b.line × Kept a b
AwaitsFirst a me (notifying.Joined u) b = KeepsNone a × Joins a.line me (Ok u) b.line × Kept a b

-- A future of this task asks. A number that was never drawn is no ticket.
abbrev pub Awaits : Notify → Option ℕ → ℕ → Notifying → Notify → Type 0
Awaits a None me r b = AwaitsFirst a me r b
Awaits a (Some k) me r b = MatchBool (nat_lt k a.line.next) (AwaitsAgain a k me r b) (AwaitsFirst a me r b)

-- Whether a ticket is one of those that were notified alone between the last two notices to all.
abbrev pub is_shared : Notify → ℕ → Bool
is_shared a k = nat_le a.cleared.before k && nat_lt k a.cleared.alone

-- Whether a future with this ticket had a notice to one at the last notice to all.
abbrev pub had_notice : Notify → ℕ → Bool
had_notice a k = nat_lt k a.cleared.next && is_shared a k

-- Whether a future with this ticket that has left the line was notified alone: since the last notice to all, or before it and
-- since the one before.
abbrev pub was_alone : Notify → ℕ → Bool
was_alone a k = if nat_lt k a.cleared.next then is_shared a k else nat_lt k a.line.next

-- Whether a future with this ticket has a notice to one, in the line or out of it. It got it since the last notice to all, or
-- before it and since the one before.
abbrev pub has_notice : Notify → ℕ → Bool
has_notice a k = if nat_lt k a.cleared.next then is_shared a k else nat_lt k (alone_to a.cleared.next a.line.next a.pending a.line.waiters.items)

-- A future that waits leaves the line. It passes on a notice to one that it had at the last notice to all.
abbrev pub LeavesLine : Notify → ℕ → ℕ → Notify → Type 0
LeavesLine a k me b = Leaves a.line (Some k) me b.line × (b.cleared ≡ a.cleared) × MatchBool (had_notice a k) (OneMore a.pending b.line.waiters.items b.pending) (b.pending ≡ a.pending)

abbrev pub GivesUpOf : Option ℕ → Notify → ℕ → ℕ → Notify → Type 0
GivesUpOf (Some t) a k me b = LeavesLine a k me b
GivesUpOf None a k me b = MatchBool (was_alone a k) (NotifiesOne a b) (b ≡ a)

-- A future leaves the line, in a turn of this task. A future that was notified alone passes its notice on. A number that was
-- never drawn changes nothing.
abbrev pub GivesUp : Notify → Option ℕ → ℕ → Notify → Type 0
GivesUp a None me b = b ≡ a
GivesUp a (Some k) me b = GivesUpOf (holder_of a.line.waiters.items k) a k me b

-- The first task leaves the line for a notice to one. A task whose future has left takes no notice.
abbrev pub PaysOne : Notify → Option Waiter → Notify → Type 0
PaysOne a None b = ((a.pending ≡ 0) ⊎ (a.line.waiters.items ≡ [])) × (b.line ≡ a.line) × (b.pending ≡ a.pending)
PaysOne a (Some w) b = (0 < a.pending) × Pops a.line (Some w) b.line × (b.pending ≡ (if w.has_left then a.pending else a.pending - 1))

-- The first waiting task is woken, if it waited at the last notice to all, or there is a notice to one.
abbrev pub Pays : Notify → Option Waiter → Notify → Type 0
Pays a first b = MatchBool (starts_below a.cleared.next a.line.waiters.items) (Pops a.line first b.line × (b.pending ≡ a.pending)) (PaysOne a first b) × (b.cleared ≡ a.cleared)
