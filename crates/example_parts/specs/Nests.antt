-- The nest: a join of two selects, each of two countdowns with deadlines.
use Rattle.std.specs.Prelude.{◌≡◌, ◌≢◌, ℕ, Bool, true, false, List, [], ◌∷◌, ◌++◌, None, Result, Ok, Err}
use Rattle.std.specs.Fn.{Shared, FnReturnsAt}
use denote.Ref.{Bor}
use Rattle.mono_model.specs.declared.poll.Poll.TheVariants.{Ready, Pending}
use Rattle.mono_time.specs.Sleeps.{SleepTable, sleep_poll_answer, with_polled_sleep, with_removed_sleep}
use Rattle.mono_model.specs.Table.{value_at}
use Rattle.mono_time.specs.declared.timeouts.Timeout.{Timeout}
use Rattle.mono_time.specs.declared.error.TimeoutError.{TimeoutError}
use Rattle.mono_time.specs.declared.error.TimeoutError.TheVariants.{Elapsed}
use Rattle.mono_combine.specs.declared.branch.Branch.{Branch}
use Rattle.mono_combine.specs.declared.branch.Branch.TheVariants.{Live, Out, Gone}
use Rattle.mono_combine.specs.declared.joins.Join2.{Join2}
use Rattle.mono_combine.specs.declared.maybe.MaybeDone.{MaybeDone}
use Rattle.mono_combine.specs.declared.maybe.MaybeDone.TheVariants as maybe
use Rattle.mono_combine.specs.declared.select.Select2.{Select2}
use Rattle.mono_combine.specs.declared.start.Start.TheVariants.{Biased}
use Rattle.example_parts.specs.Countdowns.{is_over, one_fewer}
use Rattle.example_parts.specs.declared.nests.by_hand.Countdown.{Countdown}

-- A countdown with a deadline.
abbrev pub Limited : Type 0
Limited = Timeout Countdown

-- A new select: both branches take part, and the first has its turn first.
abbrev pub race_of : {G H : Type 0} → Limited → Limited → G → H → Select2 Limited Limited G H
race_of a b g h = record { first = Live a; second = Live b; first_test = g; second_test = h; start = Biased; has_answered = false }

-- A new join.
abbrev pub nest_of : {A B X Y : Type 0} → A → B → Join2 A B X Y
nest_of a b = record { a = maybe.Future a; b = maybe.Future b }

-- The countdown has polls left, and the delay is not due.
pub record Waits (sleeps : SleepTable) (t : Limited) : Type 0 where
  pub counts : is_over t.value ≡ false
  pub not_due : sleep_poll_answer sleeps t.delay.number ≡ Ok Pending

-- It has not answered, and waits.
abbrev pub MayBegin : SleepTable → Limited → Type 0
MayBegin sleeps t = (t.value.has_answered ≡ false) × Waits sleeps t

-- The countdown has polls left, and the delay is due.
pub record IsLate (sleeps : SleepTable) (t : Limited) : Type 0 where
  pub counts : is_over t.value ≡ false
  pub due : sleep_poll_answer sleeps t.delay.number ≡ Ok (Ready tt)

-- The answer of a countdown whose time has elapsed.
abbrev pub late : Result ℕ TimeoutError
late = Err (Elapsed (record {}))

-- The delays of the second race differ from each other and from those of the first.
pub record Apart (a b e f : Limited) : Type 0 where
  pub e_a : e.delay.number ≢ a.delay.number
  pub e_b : e.delay.number ≢ b.delay.number
  pub f_a : f.delay.number ≢ a.delay.number
  pub f_b : f.delay.number ≢ b.delay.number
  pub f_e : f.delay.number ≢ e.delay.number

-- The delay is no live sleep.
abbrev pub IsGone : SleepTable → Limited → Type 0
IsGone sleeps t = value_at sleeps.table t.delay.number ≡ None

-- The predicate can only pass this output.
abbrev pub Passes : {P X : Type 0} → Shared P (Bor X × Unit {0}) Bool → P → X → Type 0
Passes call test x = (b : Bool) → FnReturnsAt call test x b → b ≡ true

-- The countdown with one poll fewer left; the delay stays.
abbrev pub polled_once : Limited → Limited
polled_once t = record { value = one_fewer t.value; delay = t.delay }

-- The sleeps after the task polled each of these once, and after each was given up, in order.
abbrev pub all_polled : SleepTable → List ℕ → ℕ → SleepTable
all_polled sleeps [] by = sleeps
all_polled sleeps (s ∷ later) by = all_polled (with_polled_sleep sleeps s by) later by

abbrev pub all_removed : SleepTable → List ℕ → SleepTable
all_removed sleeps [] = sleeps
all_removed sleeps (s ∷ later) = all_removed (with_removed_sleep sleeps s) later

-- The new table has no new sleep.
abbrev pub AddsNone : SleepTable → SleepTable → Type 0
AddsNone old new = (s : ℕ) → value_at old.table s ≡ None → value_at new.table s ≡ None

-- The new table has no new sleep but this one.
abbrev pub AddsOnly : SleepTable → SleepTable → ℕ → Type 0
AddsOnly old new number = (s : ℕ) → s ≢ number → value_at old.table s ≡ None → value_at new.table s ≡ None

-- The new table has no new sleep but these two.
abbrev pub AddsTwo : SleepTable → SleepTable → ℕ → ℕ → Type 0
AddsTwo old new first second = (s : ℕ) → s ≢ first → s ≢ second → value_at old.table s ≡ None → value_at new.table s ≡ None

-- The sleeps after the first race was won by its first value, and the second by the timeout of its second branch. The
-- timeout gives up the delay of a value that was ready. Then the select gives up the delay of the branch that was ready
-- or late, and after it that of the other branch.
abbrev pub after_end : SleepTable → ℕ → ℕ → ℕ → ℕ → ℕ → SleepTable
after_end sleeps a b e f by = all_removed (all_polled (all_removed sleeps (a ∷ a ∷ b ∷ [])) (e ∷ f ∷ []) by) (f ∷ e ∷ [])

-- The delays that are not given up yet, in the written order.
abbrev pub delay_in : Branch Limited → List ℕ
delay_in (Live t) = t.delay.number ∷ []
delay_in (Out t) = t.delay.number ∷ []
delay_in Gone = []

abbrev pub delays_in_race : {G H : Type 0} → Select2 Limited Limited G H → List ℕ
delays_in_race s = delay_in s.first ++ delay_in s.second

abbrev pub delays_in : {G H X : Type 0} → MaybeDone (Select2 Limited Limited G H) X → List ℕ
delays_in (maybe.Future s) = delays_in_race s
delays_in (maybe.Done x) = []
delays_in maybe.Gone = []

abbrev pub delays_of : {G H I J X Y : Type 0} → Join2 (Select2 Limited Limited G H) (Select2 Limited Limited I J) X Y → List ℕ
delays_of n = delays_in n.a ++ delays_in n.b
