-- Items that a sieve takes one after the other, at most 256 in one poll.
use Rattle.std.specs.Prelude.{◌≡◌, ◌<◌, ℕ, zero, suc, ⊤, Bool, true, false, Some, None, Result, Option}
use Rattle.mono_model.specs.declared.Woke.{Woke}
use Rattle.mono_model.specs.declared.task_error.TaskError.{TaskError}
use Rattle.mono_model.specs.declared.poll.Poll.{Poll}
use Rattle.mono_model.specs.declared.poll.Poll.TheVariants.{Ready, Pending}
use Rattle.mono_stream.specs.ForEaches.{most_items}
use Rattle.mono_stream.specs.declared.sifts.Outcome.{Outcome}
use Rattle.mono_stream.specs.declared.sifts.Outcome.TheVariants.{Found, Done, Ended, Waits, Many}
use Rattle.mono_stream.specs.declared.sifts.Sifted.{Sifted}

-- The fact holds unless the stream has ended.
abbrev pub UnlessOver : {Y : Type 0} → Outcome Y → Type 0 → Type 0
UnlessOver (Found y) P = P
UnlessOver Done P = P
UnlessOver Ended P = ⊤
UnlessOver Waits P = P
UnlessOver Many P = P

module _ {S V C X Y : Type 0} (polls : S → C → Poll (Option X) → S → C → Type 0) (done : V → Bool) (sifts : V → X → Option Y → V → Type 0) where
  -- One ready item, and the value that the sieve returned for it.
  pub record Takes (s : S) (v : V) (c : C) (y : Option Y) (t : S) (w : V) (d : C) : Type 0 where
    pub item : X
    pub unfinished : done v ≡ false
    pub polled : polls s c (Ready (Some item)) t d
    pub sifted : sifts v item y w

  -- The given number of items were taken in turn, and no value was returned for any.
  abbrev pub Passes : ℕ → S → V → C → S → V → C → Type 0
  Passes zero s v c t w d = (t ≡ s) × (w ≡ v) × (d ≡ c)
  Passes (suc n) s v c t w d = (u : S) × (k : V) × (e : C) × Takes s v c None u k e × Passes n u k e t w d

  -- Why no more were taken: a value was returned, the sieve is done, the stream ended or waits, or the poll reached its
  -- limit.
  abbrev pub Stops : Outcome Y → ℕ → S → V → C → S → V → C → Type 0
  Stops (Found y) n s v c t w d = (n < most_items) × Takes s v c (Some y) t w d
  Stops Done n s v c t w d = (n < most_items) × (done v ≡ true) × (t ≡ s) × (w ≡ v) × (d ≡ c)
  Stops Ended n s v c t w d = (n < most_items) × (done v ≡ false) × polls s c (Ready None) t d × (w ≡ v)
  Stops Waits n s v c t w d = (n < most_items) × (done v ≡ false) × polls s c Pending t d × (w ≡ v)
  Stops Many n s v c t w d = (n ≡ most_items) × (t ≡ s) × (w ≡ v) × (d ≡ c)

  pub record Sifts (s : S) (v : V) (c : C) (outcome : Outcome Y) (t : S) (w : V) (d : C) : Type 0 where
    pub count : ℕ
    pub before : S
    pub sieve : V
    pub middle : C
    pub passed : Passes count s v c before sieve middle
    pub stops : Stops outcome count before sieve middle t w d

  module _ (number : C → ℕ) (wakes : C → ℕ → Result Woke TaskError → C → Type 0) where
    -- If the poll reached its limit, the running task is woken.
    abbrev pub AfterSifted : Outcome Y → C → Poll (Option Y) → C → Type 0
    AfterSifted (Found y) c r d = (r ≡ Ready (Some y)) × (d ≡ c)
    AfterSifted Done c r d = (r ≡ Ready None) × (d ≡ c)
    AfterSifted Ended c r d = (r ≡ Ready None) × (d ≡ c)
    AfterSifted Waits c r d = (r ≡ Pending) × (d ≡ c)
    AfterSifted Many c r d = (r ≡ Pending) × ((woke : Result Woke TaskError) × wakes c (number c) woke d)

    pub record SiftedPolls (m : Sifted S V) (c : C) (r : Poll (Option Y)) (n : Sifted S V) (d : C) : Type 0 where
      pub outcome : Outcome Y
      pub middle : C
      pub taken : Sifts m.stream m.sieve c outcome n.stream n.sieve middle
      pub after : AfterSifted outcome middle r d
