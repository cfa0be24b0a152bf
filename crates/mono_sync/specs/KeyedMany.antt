-- Calls on one of many parts, under its key: several permits or messages, or a change in place.
use Rattle.std.specs.Prelude.{⊤, Bool, ◌≡◌, ℕ, [], Result, Ok, Err}
use Rattle.std.specs.Global.{Vec}
use Rattle.std.specs.declared.alloc.AllocError.{AllocError}
use Rattle.mono_model.specs.Table.{Table}
use Rattle.mono_sync.specs.declared.mpsc.Channel.{Channel}
use Rattle.mono_sync.specs.declared.semaphores.Semaphore.{Semaphore}
use Rattle.mono_sync.specs.declared.semaphores.TryAcquireError.{TryAcquireError}
use Rattle.mono_sync.specs.declared.semaphores.TryAcquireError.TheVariants as shut
use Rattle.mono_sync.specs.declared.semaphores.TooManyPermits.{TooManyPermits}
use Rattle.mono_sync.specs.declared.watch.Watch.{Watch}
use Rattle.mono_sync.specs.KeyedCalls.{AtOr}
use Rattle.mono_sync.specs.ManyPermits.{AddsPermits, TriesToAcquireMany, ForgetsPermits}
use Rattle.mono_sync.specs.ManyMessages.{AnswersMany}
use Rattle.mono_sync.specs.Modifies.{Modifies, ModifiesIf}

module _ (key : ℕ) where
  -- The semaphore with this key gets permits, as `AddsPermits` says. With no such semaphore nothing is done.
  abbrev pub AddsPermitsAt : Table Semaphore → ℕ → Result ⊤ TooManyPermits → Table Semaphore → Type 0
  AddsPermitsAt a n r b = AtOr (λ x y. AddsPermits x n r y) (r ≡ Ok tt) key a b

  -- The semaphore with this key gives permits, as `TriesToAcquireMany` says. With no such semaphore the answer is that it was
  -- closed.
  abbrev pub TriesToAcquireManyAt : Table Semaphore → ℕ → Result ⊤ TryAcquireError → Table Semaphore → Type 0
  TriesToAcquireManyAt a n r b = AtOr (λ x y. TriesToAcquireMany x n r y) (r ≡ Err shut.Closed) key a b

  -- The semaphore with this key loses permits, as `ForgetsPermits` says. With no such semaphore none is forgotten.
  abbrev pub ForgetsPermitsAt : Table Semaphore → ℕ → ℕ → Table Semaphore → Type 0
  ForgetsPermitsAt a n forgotten b = AtOr (λ x y. ForgetsPermits x n forgotten y) (forgotten ≡ 0) key a b

-- There is no message.
abbrev pub AnswersNone : {T : Type 0} → Result (Vec T) AllocError → Type 0
AnswersNone (Ok messages) = messages.items ≡ []
AnswersNone (Err e) = ⊥

module _ {T : Type 0} (key : ℕ) where
  -- The channel with this key gives messages, as `AnswersMany` says. With no such channel there is none.
  abbrev pub AnswersManyAt : Table (Channel T) → ℕ → Result (Vec T) AllocError → Table (Channel T) → Type 0
  AnswersManyAt a limit r b = AtOr (λ x y. AnswersMany x limit r y) (AnswersNone r) key a b

module _ {T U F : Type 0} (does : T → U → T → Type 0) (func : F) (key : ℕ) where
  -- The watched value with this key is changed, as `Modifies` says. With no such value the closure comes back.
  abbrev pub ModifiesAt : Table (Watch T) → Result U F → Table (Watch T) → Type 0
  ModifiesAt a r b = AtOr (λ x y. Modifies does func x r y) (r ≡ Err func) key a b

module _ {T F : Type 0} (does : T → Bool → T → Type 0) (func : F) (key : ℕ) where
  -- The same, as `ModifiesIf` says.
  abbrev pub ModifiesIfAt : Table (Watch T) → Result Bool F → Table (Watch T) → Type 0
  ModifiesIfAt a r b = AtOr (λ x y. ModifiesIf does func x r y) (r ≡ Err func) key a b
