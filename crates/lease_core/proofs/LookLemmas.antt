-- A core after a try, and after a question.
use Rattle.std.proofs.Common.{◌≡◌, ℕ, [], ◌∷◌, length, Option, refl, sym, ap, subst, ◌∙◌, inl}
use Rattle.mono_model.specs.Table.{count_of}
use Rattle.mono_session.specs.Keeper.{Keeper, acquired, owner_answer}
use Rattle.mono_session.specs.Calls as lease
use Rattle.mono_session.specs.Answers as answer
use Rattle.mono_session.specs.Refinement.{StandsFor, entries_len}
use Rattle.mono_session.specs.declared.error.SessionError.{SessionError}
use Rattle.mono_actor.specs.Actors.{Actors}
use Rattle.mono_actor.specs.Callers.{actors_of}
use Rattle.lease_core.specs.declared.cores.Core.{Core}
use Rattle.lease_core.specs.declared.requests.Counts.{Counts}
use Rattle.lease_core.specs.declared.requests.Outcome.TheVariants as outcome
use Rattle.lease_core.specs.Waiting.{waits_of}
use Rattle.lease_core.specs.Cores.{CoreState, with_leases, at_once}
use Rattle.lease_core.specs.Steps.{Tries, counts_of}
use Rattle.lease_core.specs.Refinement.{Refines}
use Rattle.lease_core.proofs.LeaseLemmas.{reply_at, SameServices, Stepped, Steps, at_tick, refines_after}
use Rattle.lease_core.proofs.UndoLemmas.{Undone}

-- ---- tries

pub try_refused : (old new : Core) (number s key : ℕ) (e : SessionError) → Steps old new (lease.Acquire s key) (answer.Refused e) → SameServices old new
    → waits_of new.waiting ≡ waits_of old.waiting → new.replies.items ≡ reply_at old.tick number (outcome.LeaseRefused e) ∷ []
    → (m : CoreState) → Refines old m → (t : CoreState) × Tries m number s key new.replies.items t × Refines new t
try_refused old new number s key e steps same waits replies m r =
    let n = steps m.keeper r.leases in (
      with_leases m n.next m.waiting,
      record { answer = answer.Refused e; keeper = n.next; step = n.step; rest = (outcome.LeaseRefused e, refl, at_tick number _ _ _ _ replies r.tick, refl) },
      refines_after old new m n.next m.waiting r n.after n.tick same (waits ∙ r.waiting),
    )

pub try_held : (old new : Core) (number s key : ℕ) → Steps old new (lease.Acquire s key) answer.Held → SameServices old new
    → waits_of new.waiting ≡ waits_of old.waiting → new.replies.items ≡ reply_at old.tick number outcome.Held ∷ []
    → (m : CoreState) → Refines old m → (t : CoreState) × Tries m number s key new.replies.items t × Refines new t
try_held old new number s key steps same waits replies m r =
    let n = steps m.keeper r.leases in (
      with_leases m n.next m.waiting,
      record { answer = answer.Held; keeper = n.next; step = n.step; rest = (outcome.Held, refl, at_tick number _ _ _ _ replies r.tick, refl) },
      refines_after old new m n.next m.waiting r n.after n.tick same (waits ∙ r.waiting),
    )

-- The core refines the same state.
same_state : (old new : Core) (m : CoreState) → StandsFor new.sessions m.keeper → SameServices old new → waits_of new.waiting ≡ waits_of old.waiting → Refines old m → Refines new m
same_state old new m stands same waits r = record {
  leases = stands;
  limits = same.limits ∙ r.limits;
  actors = same.actors ∙ r.actors;
  waiting = waits ∙ r.waiting;
  tick = same.tick ∙ r.tick;
  rests = ap (λ (a : Actors ℕ). a.turn) same.actors ∙ r.rests;
}

pub try_busy : (old new : Core) (number s key : ℕ)
    → ((k : Keeper) → StandsFor old.sessions k → Undone k s key (StandsFor new.sessions)) → SameServices old new
    → waits_of new.waiting ≡ waits_of old.waiting → new.replies.items ≡ reply_at old.tick number outcome.Busy ∷ []
    → (m : CoreState) → Refines old m → (t : CoreState) × Tries m number s key new.replies.items t × Refines new t
try_busy old new number s key undone same waits replies m r =
    let n = undone m.keeper r.leases in (
      m,
      record { answer = answer.Waits; keeper = acquired m.keeper s key; step = inl (n.told, refl); rest = (at_tick number _ _ _ _ replies r.tick, refl) },
      same_state old new m n.after same waits r,
    )

-- ---- questions

pub owner_step : (k : Keeper) (key : ℕ) (told : Option ℕ) (After : Keeper → Type 0) → told ≡ owner_answer k key → After k → Stepped k (lease.Owner key) (answer.of_owner told) After
owner_step k key told After is after = record { next = k; step = inl (ap answer.of_owner is, refl); after = after; tick = refl }

abbrev pub four : ℕ → ℕ → ℕ → ℕ → Counts
four sessions entries actors waiting = record { sessions = sessions; entries = entries; actors = actors; waiting = waiting }

pub counted : (old new : Core) (number opened entries live waiting : ℕ) → ((k : Keeper) → StandsFor old.sessions k → opened ≡ count_of k.sessions) → entries ≡ entries_len old.sessions
    → live ≡ count_of (actors_of old.actors).table → waiting ≡ length (waits_of old.waiting) → new.sessions ≡ old.sessions → SameServices old new → waits_of new.waiting ≡ waits_of old.waiting
    → new.replies.items ≡ reply_at old.tick number (outcome.Counted (four opened entries live waiting)) ∷ []
    → (m : CoreState) → Refines old m → (t : CoreState) × ((new.replies.items ≡ at_once m number (outcome.Counted (counts_of m)) ∷ []) × (t ≡ m)) × Refines new t
counted old new number opened entries live waiting opens enters lives waits sessions same kept replies m r =
    let one : opened ≡ count_of m.keeper.sessions = opens m.keeper r.leases in
    let two : entries ≡ length m.keeper.entries = enters ∙ r.leases.matches.beside.entries.count in
    let three : live ≡ count_of m.actors.table = lives ∙ ap (λ (a : Actors ℕ). count_of a.table) r.actors in
    let last : waiting ≡ length m.waiting = waits ∙ ap length r.waiting in
    let all : four opened entries live waiting ≡ counts_of m = rw (one, two, three, last) refl in (
      m,
      (at_tick number _ _ _ _ replies r.tick ∙ ap (λ c. reply_at m.keeper.greatest number (outcome.Counted c) ∷ []) all, refl),
      same_state old new m (subst (λ x. StandsFor x m.keeper) (sym sessions) r.leases) same kept r,
    )
