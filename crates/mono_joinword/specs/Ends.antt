-- The views of the two ends and of their last seats in clauses.
use Rattle.std.specs.Prelude.{◌≡◌, ℕ, ◌⊎◌, Bool}
use Rattle.mono_joinword.specs.declared.views.Stage.{Stage}
use Rattle.mono_joinword.specs.declared.views.Stage.TheVariants.{Working, Completed}
use Rattle.mono_joinword.specs.declared.views.RunnerView.{RunnerView}
use Rattle.mono_joinword.specs.declared.views.JoinerView.{JoinerView}
use Rattle.mono_joinword.specs.declared.views.View.{View}
use Rattle.mono_joinword.specs.declared.views.View.TheVariants.{Maker, Runner, Joiner}
use Rattle.mono_joinword.specs.declared.runner.Runner.{Runner as RunnerEnd}
use Rattle.mono_joinword.specs.declared.runner.RunnerSeat.{RunnerSeat}
use Rattle.mono_joinword.specs.declared.joiner.Joiner.{Joiner as JoinerEnd}
use Rattle.mono_joinword.specs.declared.joiner.JoinerSeat.{JoinerSeat}
use Rattle.mono_joinword.specs.Views.{Emptied, joiner_of}

abbrev pub runner_of : View → RunnerView
runner_of (Maker n b) = record { number = n; stage = Working }
runner_of (Runner r) = r
runner_of (Joiner j) = record { number = j.number; stage = Working }

-- The runner's view, before its completing step and after it.
abbrev pub runner_view : {O W : Type 0} → RunnerEnd O W → RunnerView
runner_view r = runner_of r.seat.me.0

abbrev pub seat_view : {O W : Type 0} → RunnerSeat O W → RunnerView
seat_view s = runner_of s.seat.me.0

-- The word that the completing step found: 0, 8 or 24.
abbrev pub found_at : Stage → ℕ
found_at Working = 0
found_at (Completed found canceled woke) = found

-- the number of the waker that it took
abbrev pub woke_at : Stage → ℕ
woke_at Working = 0
woke_at (Completed found canceled woke) = woke

-- The runner completed, with an output that is Canceled or not.
abbrev pub IsCompleted : Bool → Stage → Type 0
IsCompleted canceled s = (s ≡ Completed (found_at s) canceled (woke_at s)) × ((found_at s ≡ 0) ⊎ (found_at s ≡ 8) ⊎ (found_at s ≡ 24))

-- The joiner's view, between two calls and after its last step.
abbrev pub joiner_view : {O W : Type 0} → JoinerEnd O W → JoinerView
joiner_view j = joiner_of j.seat.me.0

abbrev pub last_view : {O W : Type 0} → JoinerSeat O W → JoinerView
last_view s = joiner_of s.seat.me.0

-- Both ends are of one word.
abbrev pub SamePair : {O W : Type 0} → RunnerEnd O W → JoinerEnd O W → Type 0
SamePair r j = r.seat.table_id ≡ j.seat.table_id

-- A joiner before and after a call is on one word.
abbrev pub SameWord : {O W : Type 0} → JoinerEnd O W → JoinerEnd O W → Type 0
SameWord j k = k.seat.table_id ≡ j.seat.table_id

-- The remaining seat has no output and no waker. The completing step left the output for the joiner, or it was taken
-- back. A waker that the step found was taken.
abbrev pub RunnerLeft : {O W : Type 0} → RunnerEnd O W → RunnerSeat O W → Type 0
RunnerLeft r s = (s.seat.table_id ≡ r.seat.table_id) × Emptied s.seat.me.1

-- The same of the joiner's seat: everything that it took is handed out or dropped.
abbrev pub JoinerLeft : {O W : Type 0} → JoinerEnd O W → JoinerSeat O W → Type 0
JoinerLeft j s = (s.seat.table_id ≡ j.seat.table_id) × Emptied s.seat.me.1
