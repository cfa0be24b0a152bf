-- How much the tasks of a queue ask for, and what a queue has that owes nothing.
use Rattle.std.proofs.Common.{◌≡◌, ◌==◌, ◌&&◌, ◌-◌, ◌<◌, ◌≤◌, ℕ, Bool, true, false, not, cond, MatchBool, List, [], ◌∷◌, ◌++◌, Option, Some, None, Ok, refl, sym, ap, subst, ◌∙◌, nat_le, arith}
use Rattle.std.proofs.lemmas.Bool.{le-leb, leb-false}
use Rattle.mono_locks.specs.declared.queues.Entry.{Entry}
use Rattle.mono_locks.specs.declared.queues.Queue.{Queue}
use Rattle.mono_locks.specs.declared.queues.Coming.{Coming}
use Rattle.mono_locks.specs.declared.queues.Coming.TheVariants.{Waits}
use Rattle.mono_locks.specs.Queues.{waits_at, without, marked, holder_of, due, has_room, Fits, Marks, Comes, ComesOf, Leaves, LeavesOf, Joins, SameQueue, Takes}
use Rattle.mono_locks.specs.Laws.{AskAtMost}
use Rattle.mono_locks.proofs.WaitLemmas.{false-true}

module _ (most : ℕ) where
  abbrev pub Within : Queue → Type 0
  Within q = AskAtMost most q.waiters.items

  along : (ws us : List Entry) → us ≡ ws → AskAtMost most ws → AskAtMost most us
  along ws us is all = subst (AskAtMost most) (sym is) all

  pub within_same : (a b : Queue) → b ≡ a → Within a → Within b
  within_same a b is all = along a.waiters.items b.waiters.items (ap (λ q. q.waiters.items) is) all

  ask_end : (ws : List Entry) (w : Entry) → w.amount ≤ most → AskAtMost most ws → AskAtMost most (ws ++ w ∷ [])
  ask_end [] w fits all = (fits, tt)
  ask_end (v ∷ ws) w fits (first, rest) = (first, ask_end ws w fits rest)

  ask_if : (b : Bool) (w : Entry) (ws : List Entry) → w.amount ≤ most → AskAtMost most ws → AskAtMost most (cond b (w ∷ ws) ws)
  ask_if true w ws fits all = (fits, all)
  ask_if false w ws fits all = all

  ask_without : (ws : List Entry) (k u : ℕ) → AskAtMost most ws → AskAtMost most (without ws k u)
  ask_without [] k u all = all
  ask_without (w ∷ ws) k u (first, rest) = ask_if (not ((w.ticket == k) && (w.task == u))) w (without ws k u) first (ask_without ws k u rest)

  marked_if : (b : Bool) (k u : ℕ) (w : Entry) (ws us : List Entry) → w.amount ≤ most → AskAtMost most ws → AskAtMost most us → AskAtMost most (cond b (record { ticket = k; task = u; amount = 0 } ∷ ws) (w ∷ us))
  marked_if true k u w ws us first rest more = (omega arith, rest)
  marked_if false k u w ws us first rest more = (first, more)

  ask_marked : (ws : List Entry) (k u : ℕ) → AskAtMost most ws → AskAtMost most (marked ws k u)
  ask_marked [] k u all = all
  ask_marked (w ∷ ws) k u (first, rest) = marked_if (w.ticket == k) k u w ws (marked ws k u) first rest (ask_marked ws k u rest)

  marks_within : (a b : Queue) (k u : ℕ) → Marks a k u b → Within a → Within b
  marks_within a b k u s all = along (marked a.waiters.items k u) b.waiters.items s.0 (ask_marked a.waiters.items k u all)

  module _ (a b : Queue) (k me n : ℕ) (all : Within a) where
    comes_if : (room : ℕ) (r : Coming) (u : ℕ) (c : Bool) → MatchBool c ((r ≡ Waits) × (b ≡ a)) (Fits (has_room b n room) r × Marks a k u b) → Within b
    comes_if room r u true p = within_same a b p.1 all
    comes_if room r u false p = marks_within a b k u p.1 all

    comes_of : (room : ℕ) (r : Coming) (o : Option ℕ) → ComesOf o a k me n room r b → Within b
    comes_of room r None p = along a.waiters.items b.waiters.items p.1.0 all
    comes_of room r (Some u) p = comes_if room r u (u == me) p

    leaves_if : (u : ℕ) (c : Bool) → MatchBool c ((b.waiters.items ≡ without a.waiters.items k me) × (b.granted ≡ a.granted) × (b.next ≡ a.next)) (Marks a k u b) → Within b
    leaves_if u true p = along (without a.waiters.items k me) b.waiters.items p.0 (ask_without a.waiters.items k me all)
    leaves_if u false p = marks_within a b k u p all

    leaves_of : (o : Option ℕ) → LeavesOf o a k me n b → Within b
    leaves_of None p = along a.waiters.items b.waiters.items p.0 all
    leaves_of (Some u) p = leaves_if u (u == me) p

  pub comes_within : (a b : Queue) (ticket : Option ℕ) (me n room : ℕ) (r : Coming) → Comes a ticket me n room r b → Within a → Within b
  comes_within a b None me n room r p all = within_same a b p.1 all
  comes_within a b (Some k) me n room r p all = comes_of a b k me n all room r (holder_of a.waiters.items k) p

  pub leaves_within : (a b : Queue) (ticket : Option ℕ) (me n : ℕ) → Leaves a ticket me n b → Within a → Within b
  leaves_within a b None me n p all = within_same a b p all
  leaves_within a b (Some k) me n p all = leaves_of a b k me n all (holder_of a.waiters.items k) p

  pub joins_within : (a q b : Queue) (ticket : Option ℕ) (me n room t : ℕ) (r : Coming) → n ≤ most → Comes a ticket me n room r q → Joins q me n (Ok t) b → Within a → Within b
  joins_within a q b ticket me n room t r fits p j all = along (q.waiters.items ++ record { ticket = q.next; task = me; amount = n } ∷ []) b.waiters.items j.1 (ask_end q.waiters.items (record { ticket = q.next; task = me; amount = n }) fits (comes_within a q ticket me n room r p all))

  pub rests_within : (a q b : Queue) (ticket : Option ℕ) (me n room : ℕ) (r : Coming) → Comes a ticket me n room r q → SameQueue q b → Within a → Within b
  rests_within a q b ticket me n room r p j all = along q.waiters.items b.waiters.items j.0 (comes_within a q ticket me n room r p all)

  tail_within : (w : Entry) (ws : List Entry) → AskAtMost most (w ∷ ws) → AskAtMost most ws
  tail_within w ws all = all.1

  pub takes_within : (c : Bool) (room : ℕ) (a b : Queue) (first : Option Entry) → Takes c room a first b → Within a → Within b
  takes_within true room a b None s all = within_same a b s.1 all
  takes_within false room a b None s all = within_same a b s.1 all
  takes_within true room a b (Some w) s all = tail_within w b.waiters.items (along a.waiters.items (w ∷ b.waiters.items) (sym s.0) all)
  takes_within false room a b (Some w) s all = tail_within w b.waiters.items (along a.waiters.items (w ∷ b.waiters.items) (sym s.1) all)

cons-nil : (t : ℕ) (ts : List ℕ) → t ∷ ts ≡ [] → ⊥
cons-nil t ts e = cc

more_if : (b : Bool) (n m : ℕ) → nat_le n m ≡ b → (nat_le n m ≡ true → ⊥) → m < n
more_if true n m is apart = absurd (apart is)
more_if false n m is apart = leb-false n m is

pub more : (n m : ℕ) → (nat_le n m ≡ true → ⊥) → m < n
more n m apart = more_if (nat_le n m) n m refl apart

-- the first task of a queue that owes nothing asks for more than is free
pub no_room : (most free k t : ℕ) (ws : List Entry) → AskAtMost most ws → waits_at ws k t ≡ true → due free ws ≡ [] → free < most
no_room most free k t [] all waits none = absurd (false-true waits)
no_room most free k t (w ∷ ws) (fits, rest) waits none =
    let big : free < w.amount = more w.amount free (λ le. cons-nil w.task (due (free - w.amount) ws) (sym (ap (λ b. cond b (w.task ∷ due (free - w.amount) ws) []) le) ∙ none)) in
    omega (arith, big, fits)

-- the first task of a queue is owed a wake if there is room for all that one may ask for
pub first_owed : (most free : ℕ) (w : Entry) (ws : List Entry) → w.amount ≤ most → most ≤ free → due free (w ∷ ws) ≡ w.task ∷ due (free - w.amount) ws
first_owed most free w ws fits room = ap (λ b. cond b (w.task ∷ due (free - w.amount) ws) []) (le-leb w.amount free (omega (arith, fits, room)))
