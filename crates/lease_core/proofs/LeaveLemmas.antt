-- A session leaves all queues, one key after another.
use Rattle.std.proofs.Common.{◌≡◌, ℕ, true, cond, List, ◌∷◌, ◌++◌, Option, Some, None, Result, Ok, refl, sym, ap, subst, ◌∙◌, append_assoc, append-nil}
use Rattle.std.specs.Prelude.{⊤, is_some}
use Rattle.mono_model.specs.Table.{value_at, without}
use Rattle.mono_session.specs.Keeper.{Entry, Keeper, Session, with_entries, with_sessions, is_open, queue_in, first_of, of_open, if_granted, close_answer, closed, without_session}
use Rattle.mono_session.specs.Entries.{keys_in}
use Rattle.mono_session.specs.Laws.{leave}
use Rattle.mono_session.specs.Refinement.{StandsFor}
use Rattle.mono_session.specs.declared.error.SessionError.{SessionError}
use Rattle.mono_session.proofs.CallHistoryLemmas.{queue_released, queue_closed, eq-tells}
use Rattle.mono_session.proofs.EntryLemmas.{others_stay, all_stay}
use Rattle.mono_session.proofs.LeaveLemmas.{others, without_one, keys_after, no_keys, others_twice}
use Rattle.lease_core.specs.declared.cores.Core.{Core}
use Rattle.lease_core.specs.declared.ends.Waiter.{Waiter}
use Rattle.lease_core.specs.declared.requests.Outcome.{Outcome}
use Rattle.lease_core.specs.declared.requests.Outcome.TheVariants as outcome
use Rattle.lease_core.specs.declared.requests.Reply.{Reply}
use Rattle.lease_core.specs.Waiting.{waits_of}
use Rattle.lease_core.specs.Waits.{left_end, left_in, ended, still, ended_by, still_by}
use Rattle.lease_core.specs.Refinement.{without_keys, LeavesQueues}

-- ---- the entries that stay

-- A queue that the session left is the same as if it had left all queues.
queue_after : (es : List Entry) (s key : ℕ) → queue_in (without_one s key es) key ≡ queue_in (others s es) key
queue_after es s key =
    queue_released es s key key ∙ ap (λ b. cond b (leave s (queue_in es key)) (queue_in es key)) (eq-tells key key refl) ∙ sym (queue_closed es s key)

-- ---- the waits that have ended so far, and those that are left to end

-- The end of each wait for a key once the session has left all queues.
abbrev pub end_at : Keeper → ℕ → ℕ → Waiter → Option Outcome
end_at k s = left_in s outcome.Closed (without_keys k s)

-- The session has left some of its queues, and is still in those of `left`.
pub record Leaving (old : Core) (k : Keeper) (s : ℕ) (left : List Entry) (now : Core) : Type 0 where
  pub leases : StandsFor now.sessions (with_entries k left)
  pub others_are : others s left ≡ others s k.entries
  pub replies_are : now.replies.items ++ ended_by (end_at k s) old.tick (keys_in left s) (waits_of now.waiting) ≡ old.replies.items ++ ended_by (end_at k s) old.tick (keys_in k.entries s) (waits_of old.waiting)
  pub waiting : still_by (end_at k s) (keys_in left s) (waits_of now.waiting) ≡ still_by (end_at k s) (keys_in k.entries s) (waits_of old.waiting)

end_now : (k : Keeper) (s key : ℕ) (left : List Entry) (holder : Option ℕ) → others s left ≡ others s k.entries → holder ≡ first_of (queue_in (without_one s key left) key) → left_end s outcome.Closed key holder ≡ end_at k s key
end_now k s key left holder same is = ap (left_end s outcome.Closed key) (is ∙ ap first_of (queue_after left s key ∙ ap (λ es. queue_in es key) same))

replies_on : (E : ℕ → Waiter → Option Outcome) (f : Waiter → Option Outcome) (tick key : ℕ) (keys rest : List ℕ) (now next : List Waiter) (between replies all : List Reply) → keys ≡ key ∷ rest → f ≡ E key
    → replies ≡ between ++ ended f tick now → next ≡ still f now → between ++ ended_by E tick keys now ≡ all → replies ++ ended_by E tick rest next ≡ all
replies_on E f tick key keys rest now next between replies all first same told kept before =
    ap (λ rs. rs ++ ended_by E tick rest next) (told ∙ ap (λ g. between ++ ended g tick now) same)
    ∙ append_assoc between (ended (E key) tick now) (ended_by E tick rest next)
    ∙ ap (λ ws. between ++ (ended (E key) tick now ++ ended_by E tick rest ws)) (kept ∙ ap (λ g. still g now) same)
    ∙ sym (ap (λ ks. between ++ ended_by E tick ks now) first) ∙ before

waiting_on : (E : ℕ → Waiter → Option Outcome) (f : Waiter → Option Outcome) (key : ℕ) (keys rest : List ℕ) (now next all : List Waiter) → keys ≡ key ∷ rest → f ≡ E key → next ≡ still f now
    → still_by E keys now ≡ all → still_by E rest next ≡ all
waiting_on E f key keys rest now next all first same kept before =
    ap (still_by E rest) (kept ∙ ap (λ g. still g now) same) ∙ sym (ap (λ ks. still_by E ks now) first) ∙ before

-- The session leaves the queue of its first key.
pub leaving_goes_on : (old now new : Core) (k : Keeper) (s key : ℕ) (left : List Entry) (holder : Option ℕ) → Leaving old k s left now → Some key ≡ first_of (keys_in left s)
    → StandsFor new.sessions (with_entries k (without_one s key left)) → holder ≡ first_of (queue_in (without_one s key left) key)
    → now.tick ≡ old.tick → new.replies.items ≡ now.replies.items ++ ended (left_end s outcome.Closed key holder) now.tick (waits_of now.waiting)
    → waits_of new.waiting ≡ still (left_end s outcome.Closed key holder) (waits_of now.waiting)
    → Leaving old k s (without_one s key left) new
leaving_goes_on old now new k s key left holder before first stands holds tick told kept =
    let keys = keys_after left s key (before.leases.matches.beside.entries.keys.once s) first in
    let same = end_now k s key left holder before.others_are holds in
    let at_tick = told ∙ ap (λ n. now.replies.items ++ ended (left_end s outcome.Closed key holder) n (waits_of now.waiting)) tick in
    record {
      leases = stands;
      others_are = others_stay left s key ∙ before.others_are;
      replies_are = replies_on (end_at k s) _ old.tick key (keys_in left s) _ (waits_of now.waiting) _ now.replies.items _ _ keys same at_tick kept before.replies_are;
      waiting = waiting_on (end_at k s) _ key (keys_in left s) _ (waits_of now.waiting) _ _ keys same kept before.waiting;
    }

-- The session has left all queues.
pub leaving_ends : (old now new : Core) (k : Keeper) (s : ℕ) (left : List Entry) → Leaving old k s left now → None ≡ first_of (keys_in left s) → StandsFor new.sessions (with_entries k left)
    → new.replies.items ≡ now.replies.items → waits_of new.waiting ≡ waits_of now.waiting → LeavesQueues old k s new
leaving_ends old now new k s left before none stands replies waits =
    let keys = no_keys (keys_in left s) none in
    record {
      leases = subst (λ es. StandsFor new.sessions (with_entries k es)) (sym (all_stay left s none) ∙ before.others_are) stands;
      replies_are = replies ∙ sym (append-nil now.replies.items) ∙ sym (ap (λ ks. now.replies.items ++ ended_by (end_at k s) old.tick ks (waits_of now.waiting)) keys) ∙ before.replies_are;
      waiting = waits ∙ sym (ap (λ ks. still_by (end_at k s) ks (waits_of now.waiting)) keys) ∙ before.waiting;
    }

-- ---- a close after that

-- The answer to a close.
abbrev pub answer_for : Option Session → Result ⊤ SessionError
answer_for v = of_open v (λ session. Ok tt)

open_value : (v : Option Session) → is_some v ≡ true → answer_for v ≡ Ok tt
open_value None was = cc was
open_value (Some session) was = refl

pub closes_open : (k : Keeper) (s : ℕ) → is_open k s ≡ true → close_answer k s ≡ Ok tt
closes_open k s was = open_value (value_at k.sessions s) was

pub closed_open : (k : Keeper) (s : ℕ) → is_open k s ≡ true → closed k s ≡ without_session k s
closed_open k s was = ap (λ r. if_granted r k (without_session k s)) (closes_open k s was)

-- The close leaves the sessions as one close does from the start.
pub closed_last : (k : Keeper) (s : ℕ) → is_open k s ≡ true → closed (without_keys k s) s ≡ closed k s
closed_last k s was =
    closed_open (without_keys k s) s was
    ∙ ap (λ es. with_entries (with_sessions k (without k.sessions s)) es) (others_twice s k.entries)
    ∙ sym (closed_open k s was)
