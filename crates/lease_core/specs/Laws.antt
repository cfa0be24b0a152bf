-- Each request is answered exactly once, each run can be continued, and at most one session on all cores holds the lock of a key.
use Rattle.std.specs.Prelude.{◌≡◌, ◌≤◌, ℕ, ◌+◌, List, [], ◌∷◌, ◌++◌, map, Some}
use Rattle.mono_model.specs.Ticks.{max_nanos}
use Rattle.mono_model.specs.Valid.{times}
use Rattle.mono_session.specs.Keeper.{owner_answer}
use Rattle.lease_core.specs.declared.sizes.Sizes.{Sizes}
use Rattle.lease_core.specs.declared.ends.Waiter.{Waiter}
use Rattle.lease_core.specs.declared.requests.Reply.{Reply}
use Rattle.lease_core.specs.Routes.{core_of}
use Rattle.lease_core.specs.Cores.{CoreState, new_core}
use Rattle.lease_core.specs.Steps.{Event, Advance, Handle, Finish, Run}

-- The numbers of the requests, in order.
abbrev pub asked : List Event → List ℕ
asked [] = []
asked (Advance n ∷ events) = asked events
asked (Handle request ∷ events) = request.number ∷ asked events
asked (Finish ∷ events) = asked events

-- The numbers of the requests that were answered, and of those that wait.
abbrev pub answered : List Reply → List ℕ
answered replies = map (λ (r : Reply). r.number) replies

abbrev pub waited : List Waiter → List ℕ
waited waiting = map (λ (w : Waiter). w.number) waiting

-- Over any run each request was answered once or waits, and nothing else was answered: the numbers that were answered
-- and those that wait are the numbers that waited before and those of the requests, each as often.
abbrev pub AnsweredOnce : Type 0
AnsweredOnce = (events : List Event) (replies : List Reply) (old new : CoreState) (n : ℕ) → Run old events replies new →
    times (answered replies) n + times (waited new.waiting) n ≡ times (waited old.waiting) n + times (asked events) n

-- Nothing waits after the end of the input.
abbrev pub NoneWaitAtTheEnd : Type 0
NoneWaitAtTheEnd = (replies : List Reply) (old new : CoreState) → Run old (Finish ∷ []) replies new → new.waiting ≡ []

-- The clock may show each reading.
abbrev pub AreReadings : List Event → Type 0
AreReadings [] = Unit {0}
AreReadings (Advance n ∷ events) = (n ≤ max_nanos) × AreReadings events
AreReadings (Handle request ∷ events) = AreReadings events
AreReadings (Finish ∷ events) = AreReadings events

-- Each run from a new core can be continued: whatever comes next has replies, if the clock may show its readings.
abbrev pub RunsContinue : Type 0
RunsContinue = (sizes : Sizes) (events later : List Event) (replies : List Reply) (last : CoreState) → AreReadings later → Run (new_core sizes) events replies last
    → (more : List Reply) × (end : CoreState) × Run (new_core sizes) (events ++ later) (replies ++ more) end

-- Each request is of a key of this core.
abbrev pub AreRouted : ℕ → ℕ → List Event → Type 0
AreRouted core cores [] = Unit {0}
AreRouted core cores (Advance n ∷ events) = AreRouted core cores events
AreRouted core cores (Handle request ∷ events) = (core_of request.key cores ≡ core) × AreRouted core cores events
AreRouted core cores (Finish ∷ events) = AreRouted core cores events

-- If each core gets the requests of its own keys alone, sessions of one core alone hold the lock of a key.
abbrev pub OneCoreHolds : Type 0
OneCoreHolds = (cores i j : ℕ) (sizes other_sizes : Sizes) (events others : List Event) (replies other_replies : List Reply) (one other : CoreState) (key s t : ℕ)
    → AreRouted i cores events → AreRouted j cores others → Run (new_core sizes) events replies one → Run (new_core other_sizes) others other_replies other
    → owner_answer one.keeper key ≡ Some s → owner_answer other.keeper key ≡ Some t → i ≡ j
