-- What a queue owes before and after its first task is taken out.
use Rattle.std.proofs.Common.{◌≡◌, ◌+◌, ◌-◌, ℕ, Bool, true, false, cond, List, [], ◌∷◌, Some, None, refl, sym, ap, ◌∙◌, nat_le, arith}
use Rattle.mono_locks.specs.declared.queues.Entry.{Entry}
use Rattle.mono_locks.specs.declared.queues.Queue.{Queue}
use Rattle.mono_locks.specs.Queues.{Takes, due, owed_of, starts_within, tasks_of}
use Rattle.mono_locks.proofs.WaitLemmas.{QueueKept, kept_tail}

nothing_due : (n : ℕ) (ws : List Entry) → starts_within n ws ≡ false → due n ws ≡ []
nothing_due n [] is = refl
nothing_due n (w ∷ ws) is = ap (λ b. cond b (w.task ∷ due (n - w.amount) ws) []) is

first_due : (n : ℕ) (w : Entry) (ws us : List Entry) → nat_le w.amount n ≡ true → ws ≡ w ∷ us → due n ws ≡ w.task ∷ due (n - w.amount) us
first_due n w ws us fits is = ap (due n) is ∙ ap (λ b. cond b (w.task ∷ due (n - w.amount) us) []) fits

less : (room granted left n : ℕ) → left ≡ granted + n → room - granted - n ≡ room - left
less room granted left n is = omega (arith, is)

pub none_taken : (c : Bool) (n : ℕ) (l k : Queue) → Takes c n l None k → owed_of c n l ≡ []
none_taken true n l k s = ap tasks_of s.0
none_taken false n l k s = nothing_due (n - l.granted) l.waiters.items s.0

pub none_stays : (c : Bool) (n : ℕ) (l k : Queue) → Takes c n l None k → k ≡ l
none_stays true n l k s = s.1
none_stays false n l k s = s.1

pub first_taken : (c : Bool) (n : ℕ) (w : Entry) (l k : Queue) → Takes c n l (Some w) k → owed_of c n l ≡ w.task ∷ owed_of c n k
first_taken true n w l k s = ap tasks_of s.0
first_taken false n w l k s = first_due (n - l.granted) w l.waiters.items k.waiters.items s.0 s.1 ∙ ap (λ m. w.task ∷ due m k.waiters.items) (less n l.granted k.granted w.amount s.2)

pub first_out : (c : Bool) (n : ℕ) (w : Entry) (l k : Queue) → Takes c n l (Some w) k → QueueKept w.task l k
first_out true n w l k s = kept_tail w l.waiters.items k.waiters.items s.0
first_out false n w l k s = kept_tail w l.waiters.items k.waiters.items s.1
