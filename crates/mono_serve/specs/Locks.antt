-- The effect of a task's calls on leases, and the answer and the effect of one poll of a future that acquires a key.
use Rattle.std.specs.Prelude.{⊤, ◌≡◌, ℕ, Option, Some, None, Result, Ok, Err}
use Rattle.mono_model.specs.Tasks.{Tasks}
use Rattle.mono_model.specs.declared.poll.Poll.{Poll}
use Rattle.mono_model.specs.declared.poll.Poll.TheVariants.{Ready, Pending}
use Rattle.mono_session.specs.Answers.{Answer}
use Rattle.mono_session.specs.Calls.{Call}
use Rattle.mono_session.specs.declared.error.SessionError.TheVariants as error
use Rattle.mono_serve.specs.declared.leases.Leases.{Leases}
use Rattle.mono_serve.specs.declared.leases.Claimed.{Claimed}
use Rattle.mono_serve.specs.declared.leases.Claimed.TheVariants as claim
use Rattle.mono_serve.specs.declared.leases.Looked.{Looked}
use Rattle.mono_serve.specs.declared.leases.Looked.TheVariants as look
use Rattle.mono_serve.specs.declared.locks.AcquireError.{AcquireError}
use Rattle.mono_serve.specs.declared.locks.AcquireError.TheVariants.{Refused, Lost}
use Rattle.mono_serve.specs.LeaseCalls.{Calls, Claims, Looks, GivesUp, Then}

module _ {C : Type 0} (part : C → Leases) (nanos : C → ℕ) (work : C → Tasks ⊤) where
  -- A call is made at the turn's moment.
  pub record CallsIn (call : Call) (answer : Answer) (c d : C) : Type 0 where
    pub calls : Then (Calls (part c) (nanos c) call answer) (part d)
    pub work_after : work d ≡ work c

module _ {C : Type 0} (part : C → Leases) (number : C → ℕ) (work : C → Tasks ⊤) where
  -- The future leaves the line, and its session the key's queue.
  pub record LeavesLock (ticket s key : ℕ) (c d : C) : Type 0 where
    pub left : Then (GivesUp (part c) ticket s key (number c)) (part d)
    pub work_after : work d ≡ work c

  abbrev pub AcquireCancels : Option ℕ → ℕ → ℕ → C → C → Type 0
  AcquireCancels None s key c d = d ≡ c
  AcquireCancels (Some ticket) s key c d = LeavesLock ticket s key c d

module _ {C : Type 0} (part : C → Leases) (number nanos : C → ℕ) (work : C → Tasks ⊤) where
  abbrev pub AfterClaim : Claimed → Poll (Result ⊤ AcquireError) → Option ℕ → Type 0
  AfterClaim (claim.Waits ticket) r left = (r ≡ Pending) × (left ≡ Some ticket)
  AfterClaim claim.Held r left = (r ≡ Ready (Ok tt)) × (left ≡ None)
  AfterClaim (claim.Refused refusal) r left = (r ≡ Ready (Err (Refused refusal))) × (left ≡ None)

  -- A future asks for a key at the turn's moment.
  pub record AsksFor (s key : ℕ) (c : C) (r : Poll (Result ⊤ AcquireError)) (left : Option ℕ) (d : C) : Type 0 where
    pub answer : Claimed
    pub claims : Then (Claims (part c) (nanos c) s key (number c) answer) (part d)
    pub work_after : work d ≡ work c
    pub rest : AfterClaim answer r left

  abbrev pub AfterLook : Looked → Poll (Result ⊤ AcquireError) → Option ℕ → Type 0
  AfterLook (look.Waits ticket) r left = (r ≡ Pending) × (left ≡ Some ticket)
  AfterLook look.Held r left = (r ≡ Ready (Ok tt)) × (left ≡ None)
  AfterLook look.Lost r left = (r ≡ Ready (Err Lost)) × (left ≡ None)
  AfterLook look.Memory r left = (r ≡ Ready (Err (Refused error.Memory))) × (left ≡ None)

  -- A future that waits asks again at the turn's moment.
  pub record LooksAgain (ticket s key : ℕ) (c : C) (r : Poll (Result ⊤ AcquireError)) (left : Option ℕ) (d : C) : Type 0 where
    pub answer : Looked
    pub looks : Then (Looks (part c) (nanos c) ticket s key (number c) answer) (part d)
    pub work_after : work d ≡ work c
    pub rest : AfterLook answer r left

  abbrev pub AcquirePolls : Option ℕ → ℕ → ℕ → C → Poll (Result ⊤ AcquireError) → Option ℕ → C → Type 0
  AcquirePolls None s key c r left d = AsksFor s key c r left d
  AcquirePolls (Some ticket) s key c r left d = LooksAgain ticket s key c r left d

  -- The answer is that of a poll of a future that acquires the key for the session, in some context.
  pub record AcquireGives (s key : ℕ) (answer : Result ⊤ AcquireError) : Type 0 where
    pub ticket : Option ℕ
    pub left : Option ℕ
    pub at : C
    pub after : C
    pub polled : AcquirePolls ticket s key at (Ready answer) left after
