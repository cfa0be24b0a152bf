-- What a line owes before and after its first task is taken out.
use Rattle.std.proofs.Common.{◌≡◌, ℕ, Bool, true, false, [], ◌∷◌, Some, None, refl, ap}
use Rattle.mono_sync.specs.declared.lines.Waiter.{Waiter}
use Rattle.mono_sync.specs.declared.lines.Line.{Line}
use Rattle.mono_sync.specs.Lines.{Takes, owed_of, tasks_of}
use Rattle.mono_sync.proofs.DueLemmas.{nothing_due, served_due}
use Rattle.mono_sync.proofs.WaitLemmas.{LineKept, kept_tail}

pub none_taken : (c : Bool) (n : ℕ) (l k : Line) → Takes c n l None k → owed_of c n l ≡ []
none_taken true n l k s = ap tasks_of s.0
none_taken false n l k s = nothing_due n l.granted l.waiters.items s.0

pub none_stays : (c : Bool) (n : ℕ) (l k : Line) → Takes c n l None k → k ≡ l
none_stays true n l k s = s.1
none_stays false n l k s = s.1

pub first_taken : (c : Bool) (n : ℕ) (w : Waiter) (l k : Line) → Takes c n l (Some w) k → owed_of c n l ≡ w.task ∷ owed_of c n k
first_taken true n w l k s = ap tasks_of s.0
first_taken false n w l k s = served_due n n l.granted k.granted w l.waiters.items k.waiters.items refl s.0 s.1 s.2

pub first_out : (c : Bool) (n : ℕ) (w : Waiter) (l k : Line) → Takes c n l (Some w) k → LineKept w.task l k
first_out true n w l k s = kept_tail w l.waiters.items k.waiters.items s.0
first_out false n w l k s = kept_tail w l.waiters.items k.waiters.items s.1
