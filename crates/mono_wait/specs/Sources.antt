-- The sources for which a future may wait. The running task is registered at one, or was woken in its turn.
use Rattle.std.specs.Prelude.{◌≡◌, ◌⊎◌, ℕ, ⊤, Bool, true, if◌then◌else◌, List, Option, Some, None}
use Rattle.mono_model.specs.Table.{value_at}
use Rattle.mono_model.specs.Tasks.{Tasks, Task}
use Rattle.mono_time.specs.Sleeps.{Kept, kept_waker}
use Rattle.std.proofs.Common.{inr}
use Rattle.mono_machine.specs.Watches as machine
use Rattle.mono_machine.specs.Watches.{is_stirred_in}

-- A source of the machine: a sleep, or the end of a task or of a job. A place of the value that tasks share, at which the
-- running task is listed. The threads that hold a waker of the running task. The tasks that find its number in the value.
pub data Source : Type 0 where
  in_machine : (x : machine.Source) → Source
  of_place : (p : List ℕ) → Source
  of_threads : Source
  of_peers : Source

abbrev pub of_sleep : ℕ → Source
of_sleep s = in_machine (machine.of_sleep s)

abbrev pub of_task : ℕ → Source
of_task u = in_machine (machine.of_task u)

abbrev pub of_job : ℕ → Source
of_job j = in_machine (machine.of_job j)

-- The sources of the machine that a future needs.
abbrev pub machine_needs : {F : Type 0} → (F → Source → Type 0) → F → machine.Source → Type 0
machine_needs needs f x = needs f (in_machine x)

abbrev pub waiter_in : {O : Type 0} → Option (Task O) → Option ℕ
waiter_in None = None
waiter_in (Some task) = task.waiter

-- The running task, if it waits.
abbrev pub own_watcher : Bool → ℕ → Option ℕ
own_watcher waits me = if waits then Some me else None

abbrev pub waker_in : Option Kept → Option ℕ
waker_in None = None
waker_in (Some kept) = kept_waker kept

module _ {C : Type 0} (number : C → ℕ) (work : C → Tasks ⊤) (reaches : C → C → Type 0) where
  -- The running task was woken in its turn, at some moment from c to d.
  pub record Woke (c d : C) : Type 0 where
    pub moment : C
    pub before : reaches c moment
    pub stirred : is_stirred_in (value_at (work moment).table (number moment)) ≡ true
    pub since : reaches moment d

  -- It was woken also from an earlier and to a later moment of the turn.
  pub woke_on : ((a b c : C) → reaches a b → reaches b c → reaches a c) → (a c d e : C) → reaches a c → Woke c d → reaches d e → Woke a e
  woke_on on a c d e first woke more = record { moment = woke.moment; before = on a c woke.moment first woke.before; stirred = woke.stirred; since = on woke.moment d e woke.since more }

  -- Some source is needed, or the task was woken.
  abbrev pub NeedsOne : C → C → (Source → Type 0) → Type 0
  NeedsOne c d needs = ((x : Source) × needs x) ⊎ Woke c d

module _ {C : Type 0} (number : C → ℕ) (work : C → Tasks ⊤) (reaches : C → C → Type 0) (watcher : C → Source → Option ℕ) where
  -- the running task waits for the source, or was woken in its turn
  abbrev pub Hears : C → Source → Type 0
  Hears c x = (watcher c x ≡ Some (number c)) ⊎ (is_stirred_in (value_at (work c).table (number c)) ≡ true)

  -- It was so at some moment from c to d, and only calls of the turn came between.
  pub record Heard (c d : C) (x : Source) : Type 0 where
    pub moment : C
    pub before : reaches c moment
    pub hears : Hears moment x
    pub since : reaches moment d

  -- who was woken hears each source
  pub woke_heard : (c d : C) (x : Source) → Woke number work reaches c d → Heard c d x
  woke_heard c d x woke = record { moment = woke.moment; before = woke.before; hears = inr woke.stirred; since = woke.since }

  -- Some source is needed, or the task was woken. Each source that is needed was heard.
  pub record Covers (c d : C) (needs : Source → Type 0) : Type 0 where
    pub one : NeedsOne number work reaches c d needs
    pub each : (x : Source) → needs x → Heard c d x

  -- a source that was heard stays heard, for all calls of the turn before and after
  pub heard_on : ((a b c : C) → reaches a b → reaches b c → reaches a c) → (a c d e : C) (x : Source) → reaches a c → Heard c d x → reaches d e → Heard a e x
  heard_on on a c d e x first heard more = record { moment = heard.moment; before = on a c heard.moment first heard.before; hears = heard.hears; since = on heard.moment d e heard.since more }
