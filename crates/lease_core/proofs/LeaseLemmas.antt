-- A core after a call on its leases.
use Rattle.std.proofs.Common.{◌≡◌, ℕ, Bool, List, [], ◌∷◌, ◌++◌, Option, Some, None, Result, Ok, Err, false, true, refl, sym, ap, subst, ◌∙◌, inl, inr, append-nil}
use Rattle.std.specs.Prelude.{is_some}
use Rattle.mono_model.specs.Memory.{OrLacksMemory}
use Rattle.mono_model.specs.Table.{value_at}
use Rattle.mono_session.specs.Keeper.{Keeper, Session, is_open, if_granted, without_session, open_answer, opened, beat_answer, beaten, close_answer, closed, acquire_answer, acquired, release_answer, released, owner_answer}
use Rattle.mono_session.specs.Entries.{keys_in}
use Rattle.mono_session.specs.Calls as lease
use Rattle.mono_session.specs.Answers as answer
use Rattle.mono_session.specs.Refinement.{StandsFor}
use Rattle.mono_session.specs.declared.error.SessionError.{SessionError}
use Rattle.mono_session.specs.declared.error.SessionError.TheVariants as error
use Rattle.mono_limit.specs.Limits.{limits_of}
use Rattle.mono_actor.specs.Actors.{Actors}
use Rattle.mono_actor.specs.Callers.{actors_of}
use Rattle.lease_core.specs.declared.cores.Core.{Core}
use Rattle.lease_core.specs.declared.ends.Waiter.{Waiter}
use Rattle.lease_core.specs.declared.requests.Outcome.{Outcome}
use Rattle.lease_core.specs.declared.requests.Outcome.TheVariants as outcome
use Rattle.lease_core.specs.declared.requests.Reply.{Reply}
use Rattle.lease_core.specs.Waiting.{waits_of}
use Rattle.lease_core.specs.Cores.{CoreState, with_leases}
use Rattle.lease_core.specs.Waits.{left_end, left_in, ended, still, ended_by, still_by}
use Rattle.lease_core.specs.Tells.{LeaseTells}
use Rattle.lease_core.specs.Steps.{LeaseStep, Leases, Acquires, Releases, Closes}
use Rattle.lease_core.specs.Refinement.{Refines, without_keys, LeavesQueues}
use Rattle.lease_core.proofs.LeaveLemmas.{answer_for, closes_open, closed_open, closed_last}
use Rattle.lease_core.proofs.TickLemmas.{opened_tick, beaten_tick, closed_tick, acquired_tick, released_tick}

-- The reply to a request that is answered as it comes, at a tick.
abbrev pub reply_at : ℕ → ℕ → Outcome → Reply
reply_at tick number told = record { number = number; arrived = tick; tick = tick; outcome = told }

-- The other services, the tick and what waits are the same.
pub record SameServices (old new : Core) : Type 0 where
  pub limits : limits_of new.limiter ≡ limits_of old.limiter
  pub actors : actors_of new.actors ≡ actors_of old.actors
  pub tick : new.tick ≡ old.tick

-- A step of the leases, with the sessions that refine the keeper after it.
pub record Stepped (k : Keeper) (c : lease.Call) (a : answer.Answer) (After : Keeper → Type 0) : Type 0 where
  pub next : Keeper
  pub step : LeaseStep k c a next
  pub after : After next
  pub tick : next.greatest ≡ k.greatest

pub open_step : (k : Keeper) (limit : ℕ) (r : Result ℕ SessionError) (After : Keeper → Type 0)
    → OrLacksMemory error.Memory (open_answer k limit) k (opened k limit) After r → Stepped k (lease.Open limit) (answer.of_number r) After
open_step k limit r After (inl (told, left)) = record { next = opened k limit; step = inl (ap answer.of_number told, refl); after = left; tick = opened_tick k limit }
open_step k limit r After (inr (ok, told, left)) = record { next = k; step = inr (ok, ap answer.of_number told, refl); after = left; tick = refl }

pub beat_step : (k : Keeper) (s : ℕ) (r : Result _ SessionError) (After : Keeper → Type 0) → (r ≡ beat_answer k s) × After (beaten k s) → Stepped k (lease.Beat s) (answer.of_done r) After
beat_step k s r After (told, left) = record { next = beaten k s; step = inl (ap answer.of_done told, refl); after = left; tick = beaten_tick k s }

pub acquire_step : (k : Keeper) (s key : ℕ) (r : Result Bool SessionError) (After : Keeper → Type 0)
    → OrLacksMemory error.Memory (acquire_answer k s key) k (acquired k s key) After r → Stepped k (lease.Acquire s key) (answer.of_first r) After
acquire_step k s key r After (inl (told, left)) = record { next = acquired k s key; step = inl (ap answer.of_first told, refl); after = left; tick = acquired_tick k s key }
acquire_step k s key r After (inr (ok, told, left)) = record { next = k; step = inr (tt, ap answer.of_first told, refl); after = left; tick = refl }

pub acquire_first : (k : Keeper) (s key : ℕ) (b is : Bool) (After : Keeper → Type 0) → b ≡ is → OrLacksMemory error.Memory (acquire_answer k s key) k (acquired k s key) After (Ok b)
    → Stepped k (lease.Acquire s key) (answer.of_first (Ok is)) After
acquire_first k s key b is After same p = subst (λ x. Stepped k (lease.Acquire s key) (answer.of_first (Ok x)) After) same (acquire_step k s key (Ok b) After p)

pub acquire_lacks : (k : Keeper) (s key : ℕ) (After : Keeper → Type 0) → After k → Stepped k (lease.Acquire s key) (answer.Refused error.Memory) After
acquire_lacks k s key After same = record { next = k; step = inr (tt, refl, refl); after = same; tick = refl }

pub release_step : (k : Keeper) (s key : ℕ) (r : Result _ SessionError) (After : Keeper → Type 0) → (r ≡ release_answer k s key) × After (released k s key) → Stepped k (lease.Release s key) (answer.of_done r) After
release_step k s key r After (told, left) = record { next = released k s key; step = inl (ap answer.of_done told, refl); after = left; tick = released_tick k s key }

-- The core refines the state after a step of its leases.
pub refines_after : (old new : Core) (s : CoreState) (next : Keeper) (waiting : List Waiter) → Refines old s → StandsFor new.sessions next → next.greatest ≡ s.keeper.greatest
    → SameServices old new → waits_of new.waiting ≡ waiting → Refines new (with_leases s next waiting)
refines_after old new s next waiting r stands tick same is = record {
  leases = stands;
  limits = same.limits ∙ r.limits;
  actors = same.actors ∙ r.actors;
  waiting = is;
  tick = same.tick ∙ r.tick ∙ sym tick;
  rests = ap (λ (a : Actors ℕ). a.turn) same.actors ∙ r.rests;
}

-- The reply that the core made is that of the state.
pub at_tick : (number m n : ℕ) (told : Outcome) (replies : List Reply) → replies ≡ reply_at m number told ∷ [] → m ≡ n → replies ≡ reply_at n number told ∷ []
at_tick number m n told replies is same = subst (λ k. replies ≡ reply_at k number told ∷ []) same is

abbrev pub Steps : Core → Core → lease.Call → answer.Answer → Type 0
Steps old new c a = (k : Keeper) → StandsFor old.sessions k → Stepped k c a (StandsFor new.sessions)

pub leases_told : (old new : Core) (number : ℕ) (c : lease.Call) (a : answer.Answer) (told : Outcome) → LeaseTells a told → Steps old new c a → SameServices old new
    → waits_of new.waiting ≡ waits_of old.waiting → new.replies.items ≡ reply_at old.tick number told ∷ []
    → (s : CoreState) → Refines old s → (t : CoreState) × Leases s number c new.replies.items t × Refines new t
leases_told old new number c a told tells steps same waits replies s r =
    let n = steps s.keeper r.leases in (
      with_leases s n.next s.waiting,
      record { answer = a; keeper = n.next; told = told; step = n.step; tells = tells; replies_are = at_tick number _ _ told _ replies r.tick; becomes = refl },
      refines_after old new s n.next s.waiting r n.after n.tick same (waits ∙ r.waiting),
    )

pub acquire_refused : (old new : Core) (number s key : ℕ) (e : SessionError) → Steps old new (lease.Acquire s key) (answer.Refused e) → SameServices old new
    → waits_of new.waiting ≡ waits_of old.waiting → new.replies.items ≡ reply_at old.tick number (outcome.LeaseRefused e) ∷ []
    → (m : CoreState) → Refines old m → (t : CoreState) × Acquires m number s key new.replies.items t × Refines new t
acquire_refused old new number s key e steps same waits replies m r =
    let n = steps m.keeper r.leases in (
      with_leases m n.next m.waiting,
      record { answer = answer.Refused e; keeper = n.next; step = n.step; rest = (outcome.LeaseRefused e, refl, at_tick number _ _ _ _ replies r.tick, refl) },
      refines_after old new m n.next m.waiting r n.after n.tick same (waits ∙ r.waiting),
    )

pub acquire_held : (old new : Core) (number s key : ℕ) → Steps old new (lease.Acquire s key) answer.Held → SameServices old new
    → waits_of new.waiting ≡ waits_of old.waiting → new.replies.items ≡ reply_at old.tick number outcome.Held ∷ []
    → (m : CoreState) → Refines old m → (t : CoreState) × Acquires m number s key new.replies.items t × Refines new t
acquire_held old new number s key steps same waits replies m r =
    let n = steps m.keeper r.leases in (
      with_leases m n.next m.waiting,
      record { answer = answer.Held; keeper = n.next; step = n.step; rest = (outcome.Held, refl, at_tick number _ _ _ _ replies r.tick, refl) },
      refines_after old new m n.next m.waiting r n.after n.tick same (waits ∙ r.waiting),
    )

-- The waiter that an acquire adds.
abbrev pub waiter_at : ℕ → ℕ → ℕ → ℕ → Waiter
waiter_at tick number s key = record { number = number; session = s; key = key; arrived = tick }

pub acquire_waits : (old new : Core) (number s key : ℕ) → Steps old new (lease.Acquire s key) answer.Waits → SameServices old new
    → waits_of new.waiting ≡ waits_of old.waiting ++ waiter_at old.tick number s key ∷ [] → new.replies.items ≡ []
    → (m : CoreState) → Refines old m → (t : CoreState) × Acquires m number s key new.replies.items t × Refines new t
acquire_waits old new number s key steps same waits replies m r =
    let n = steps m.keeper r.leases in
    let all = m.waiting ++ waiter_at m.keeper.greatest number s key ∷ [] in
    let is : waits_of new.waiting ≡ all = waits ∙ ap (λ ws. ws ++ waiter_at old.tick number s key ∷ []) r.waiting ∙ ap (λ tick. m.waiting ++ waiter_at tick number s key ∷ []) r.tick in (
      with_leases m n.next all,
      record { answer = answer.Waits; keeper = n.next; step = n.step; rest = (replies, refl) },
      refines_after old new m n.next all r n.after n.tick same is,
    )

pub release_refused : (old new : Core) (number s key : ℕ) (e : SessionError) → Steps old new (lease.Release s key) (answer.Refused e) → SameServices old new
    → waits_of new.waiting ≡ waits_of old.waiting → new.replies.items ≡ reply_at old.tick number (outcome.LeaseRefused e) ∷ []
    → (m : CoreState) → Refines old m → (t : CoreState) × Releases m number s key new.replies.items t × Refines new t
release_refused old new number s key e steps same waits replies m r =
    let n = steps m.keeper r.leases in (
      with_leases m n.next m.waiting,
      record { answer = answer.Refused e; keeper = n.next; step = n.step; rest = (outcome.LeaseRefused e, refl, at_tick number _ _ _ _ replies r.tick, refl) },
      refines_after old new m n.next m.waiting r n.after n.tick same (waits ∙ r.waiting),
    )

pub release_done : (old new : Core) (number s key : ℕ) (holder : Option ℕ) → Steps old new (lease.Release s key) answer.Done → ((k : Keeper) → StandsFor new.sessions k → holder ≡ owner_answer k key)
    → SameServices old new → waits_of new.waiting ≡ still (left_end s outcome.Left key holder) (waits_of old.waiting)
    → new.replies.items ≡ reply_at old.tick number outcome.Done ∷ ended (left_end s outcome.Left key holder) old.tick (waits_of old.waiting)
    → (m : CoreState) → Refines old m → (t : CoreState) × Releases m number s key new.replies.items t × Refines new t
release_done old new number s key holder steps holds same waits replies m r =
    let n = steps m.keeper r.leases in
    let is : left_end s outcome.Left key holder ≡ left_in s outcome.Left n.next key = ap (left_end s outcome.Left key) (holds n.next n.after) in
    let left = still (left_in s outcome.Left n.next key) m.waiting in
    let kept : waits_of new.waiting ≡ left = waits ∙ ap (still (left_end s outcome.Left key holder)) r.waiting ∙ ap (λ f. still f m.waiting) is in
    let told : new.replies.items ≡ reply_at m.keeper.greatest number outcome.Done ∷ ended_by (left_in s outcome.Left n.next) n.next.greatest (key ∷ []) m.waiting =
    replies ∙ ap (λ tick. reply_at tick number outcome.Done ∷ ended (left_end s outcome.Left key holder) tick (waits_of old.waiting)) r.tick
    ∙ ap (λ ws. reply_at m.keeper.greatest number outcome.Done ∷ ended (left_end s outcome.Left key holder) m.keeper.greatest ws) r.waiting
    ∙ ap (λ f. reply_at m.keeper.greatest number outcome.Done ∷ ended f m.keeper.greatest m.waiting) is
    ∙ ap (λ tick. reply_at m.keeper.greatest number outcome.Done ∷ ended (left_in s outcome.Left n.next key) tick m.waiting) (sym n.tick)
    ∙ ap (λ rs. reply_at m.keeper.greatest number outcome.Done ∷ rs) (sym (append-nil (ended (left_in s outcome.Left n.next key) n.next.greatest m.waiting))) in (
      with_leases m n.next left,
      record { answer = answer.Done; keeper = n.next; step = n.step; rest = (told, refl) },
      refines_after old new m n.next left r n.after n.tick same kept,
    )

shut_answer : (v : Option Session) → false ≡ is_some v → answer_for v ≡ Err error.NoSession
shut_answer None shut = refl
shut_answer (Some session) shut = cc shut

shut_step : (k : Keeper) (s : ℕ) (After : Keeper → Type 0) → false ≡ is_open k s → After k → Stepped k (lease.Close s) (answer.Refused error.NoSession) After
shut_step k s After shut after =
    let told : close_answer k s ≡ Err error.NoSession = shut_answer (value_at k.sessions s) shut in
    let same : closed k s ≡ k = ap (λ r. if_granted r k (without_session k s)) told in
    record { next = closed k s; step = inl (sym (ap answer.of_done told), refl); after = subst After (sym same) after; tick = closed_tick k s }

-- A close of a session that is not open.
pub close_refused : (old new : Core) (number s : ℕ) → ((k : Keeper) → StandsFor old.sessions k → false ≡ is_open k s) → new.sessions ≡ old.sessions → SameServices old new
    → waits_of new.waiting ≡ waits_of old.waiting → new.replies.items ≡ reply_at old.tick number (outcome.LeaseRefused error.NoSession) ∷ []
    → (m : CoreState) → Refines old m → (t : CoreState) × Closes m number s new.replies.items t × Refines new t
close_refused old new number s shut sessions same waits replies m r =
    let n = shut_step m.keeper s (StandsFor new.sessions) (shut m.keeper r.leases) (subst (λ x. StandsFor x m.keeper) (sym sessions) r.leases) in (
      with_leases m n.next m.waiting,
      record { answer = answer.Refused error.NoSession; keeper = n.next; step = n.step; rest = (outcome.LeaseRefused error.NoSession, refl, at_tick number _ _ _ _ replies r.tick, refl) },
      refines_after old new m n.next m.waiting r n.after n.tick same (waits ∙ r.waiting),
    )

-- A close of an open session: after the reply it leaves its queues, and then it is closed.
pub close_done : (old told mid new : Core) (number s : ℕ) → ((k : Keeper) → StandsFor told.sessions k → LeavesQueues told k s mid) → ((k : Keeper) → StandsFor mid.sessions k → StandsFor new.sessions (closed k s))
    → ((k : Keeper) → StandsFor old.sessions k → true ≡ is_open k s) → told.sessions ≡ old.sessions → told.tick ≡ old.tick → waits_of told.waiting ≡ waits_of old.waiting
    → told.replies.items ≡ reply_at old.tick number outcome.Done ∷ []
    → SameServices old new → waits_of new.waiting ≡ waits_of mid.waiting → new.replies.items ≡ mid.replies.items
    → (m : CoreState) → Refines old m → (t : CoreState) × Closes m number s new.replies.items t × Refines new t
close_done old told mid new number s leaves closes opens sessions tick before first same waits replies m r =
    let k = m.keeper in
    let was : is_open k s ≡ true = sym (opens k r.leases) in
    let l = leaves k (subst (λ x. StandsFor x k) (sym sessions) r.leases) in
    let next = closed k s in
    let stands : StandsFor new.sessions next = subst (StandsFor new.sessions) (closed_last k s was) (closes (without_keys k s) l.leases) in
    let end_of = left_in s outcome.Closed in
    let keys = keys_in k.entries s in
    let ends_same : end_of (without_keys k s) ≡ end_of next = sym (ap end_of (closed_open k s was)) in
    let left = still_by (end_of next) keys m.waiting in
    let kept : waits_of new.waiting ≡ left = waits ∙ l.waiting ∙ ap (λ e. still_by e keys (waits_of told.waiting)) ends_same ∙ ap (still_by (end_of next) keys) (before ∙ r.waiting) in
    let shown : new.replies.items ≡ reply_at k.greatest number outcome.Done ∷ ended_by (end_of next) next.greatest keys m.waiting =
    replies ∙ l.replies_are ∙ ap (λ rs. rs ++ ended_by (end_of (without_keys k s)) told.tick keys (waits_of told.waiting)) first
    ∙ ap (λ n. reply_at n number outcome.Done ∷ ended_by (end_of (without_keys k s)) told.tick keys (waits_of told.waiting)) r.tick
    ∙ ap (λ n. reply_at k.greatest number outcome.Done ∷ ended_by (end_of (without_keys k s)) n keys (waits_of told.waiting)) (tick ∙ r.tick ∙ sym (closed_tick k s))
    ∙ ap (λ e. reply_at k.greatest number outcome.Done ∷ ended_by e next.greatest keys (waits_of told.waiting)) ends_same
    ∙ ap (λ ws. reply_at k.greatest number outcome.Done ∷ ended_by (end_of next) next.greatest keys ws) (before ∙ r.waiting) in (
      with_leases m next left,
      record { answer = answer.Done; keeper = next; step = inl (sym (ap answer.of_done (closes_open k s was)), refl); rest = (shown, refl) },
      refines_after old new m next left r stands (closed_tick k s) same kept,
    )

-- One reply in an empty list.
pub one_reply : (before after : List Reply) (reply is : Reply) → before ≡ [] → reply ≡ is → after ≡ before ++ reply ∷ [] → after ≡ is ∷ []
one_reply before after reply is none same put = put ∙ ap (λ xs. xs ++ reply ∷ []) none ∙ ap (λ x. x ∷ []) same

-- One reply in an empty list, and the replies of the waits that it ended.
pub then_replies : (before put after : List Reply) (reply is : Reply) (e : Waiter → Option Outcome) (tick : ℕ) (ws shown : List Waiter) → before ≡ [] → reply ≡ is → put ≡ before ++ reply ∷ []
    → shown ≡ ws → after ≡ put ++ ended e tick shown → after ≡ is ∷ ended e tick ws
then_replies before put after reply is e tick ws shown none same one show all =
    all ∙ ap (λ xs. xs ++ ended e tick shown) (one_reply before put reply is none same one) ∙ ap (λ xs. is ∷ ended e tick xs) show

-- A core with the same services, tick and waits refines the same states.
pub same_core : (old new : Core) (s : CoreState) → new.sessions ≡ old.sessions → limits_of new.limiter ≡ limits_of old.limiter → actors_of new.actors ≡ actors_of old.actors
    → waits_of new.waiting ≡ waits_of old.waiting → new.tick ≡ old.tick → Refines old s → Refines new s
same_core old new s sessions limits actors waits tick r = record {
  leases = subst (λ x. StandsFor x s.keeper) (sym sessions) r.leases;
  limits = limits ∙ r.limits;
  actors = actors ∙ r.actors;
  waiting = waits ∙ r.waiting;
  tick = tick ∙ r.tick;
  rests = ap (λ (a : Actors ℕ). a.turn) actors ∙ r.rests;
}
