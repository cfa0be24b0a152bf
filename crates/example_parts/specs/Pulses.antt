-- A future that waits for a number of elapses of a sleep: the answer and the effect of one poll.
use Rattle.std.specs.Prelude.{◌≡◌, ℕ, ◌-◌, ⊤, Bool, true, false, Result, Ok, Err}
use Rattle.mono_model.specs.Tasks.{Tasks}
use Rattle.mono_model.specs.Poll.{OnPending, OnReady}
use Rattle.mono_model.specs.declared.poll.Poll.{Poll}
use Rattle.mono_model.specs.declared.poll.Poll.TheVariants.{Ready, Pending}
use Rattle.mono_time.specs.Sleeps.{SleepTable}
use Rattle.mono_time.specs.Futures.{SleepPolls}
use Rattle.mono_model.specs.declared.error.Error.{Error}
use Rattle.example_parts.specs.declared.pulses.Pulse.{Pulse}

module _ {C : Type 0} (number : C → ℕ) (sleeps : C → SleepTable) (work : C → Tasks ⊤) (reaches : C → C → Type 0) where
  pub record PulsePolls (f : Pulse) (c : C) (r : Poll (Result ⊤ Error)) (g : Pulse) (d : C) : Type 0 where
    pub delay_answer : Poll (Result ⊤ Error)
    pub middle : C
    pub delay : SleepPolls number sleeps work reaches f.delay c delay_answer f.delay middle
    pub waits : OnPending delay_answer ((r ≡ Pending) × (g ≡ f) × (d ≡ middle))
    pub ends : r ≡ Ready (Ok tt) → (f.left ≡ 0) × (delay_answer ≡ Ready (Ok tt))
    pub reached : reaches c d
