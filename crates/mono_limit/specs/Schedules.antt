-- A retry: how often it failed, and the tick for which it waits.
use Rattle.std.specs.Prelude.{◌≡◌, ℕ, ◌<◌, ◌≤◌, List, [], ◌∷◌, ◌++◌, Option, Some, None}
use Rattle.mono_model.specs.Table.{Table, value_at, with_value}
use Rattle.mono_model.specs.Due.{ListsDue}
use Rattle.mono_limit.specs.declared.schedules.Schedule.{Schedule}

abbrev pub new_retry : ℕ → ℕ → ℕ → Schedule
new_retry base cap most = record { base = base; cap = cap; most = most; failures = 0; waits_for = None }

abbrev pub failed_until : Schedule → ℕ → ℕ → Schedule
failed_until retry k tick = record { base = retry.base; cap = retry.cap; most = retry.most; failures = k; waits_for = Some tick }

-- The retry after its wait has ended.
abbrev pub at_once : Schedule → Schedule
at_once retry = record { base = retry.base; cap = retry.cap; most = retry.most; failures = retry.failures; waits_for = None }

-- A live retry has delays, and may fail once more.
pub record IsSound (retry : Schedule) : Type 0 where
  pub has_base : 0 < retry.base
  pub has_cap : retry.base ≤ retry.cap
  pub goes_on : retry.failures < retry.most

-- The tick for which a retry waits.
abbrev pub waiting_value : Option Schedule → Option ℕ
waiting_value None = None
waiting_value (Some retry) = retry.waits_for

-- The retries after the wait of one has ended, and after those of several have.
abbrev pub ended_row : Option Schedule → Table Schedule → ℕ → Table Schedule
ended_row None rows r = rows
ended_row (Some retry) rows r = with_value rows r (at_once retry)

abbrev pub ended_rows : Table Schedule → List ℕ → Table Schedule
ended_rows rows [] = rows
ended_rows rows (r ∷ due) = ended_rows (ended_row (value_at rows r) rows r) due

-- The waits end of exactly the retries whose tick has come at the tick g, and their numbers are appended to a list.
pub record EndsWaits (old : Table Schedule) (g : ℕ) (before after : List ℕ) (new : Table Schedule) : Type 0 where
  pub due : List ℕ
  pub appended : after ≡ before ++ due
  pub are_due : ListsDue waiting_value old g due
  pub have_ended : new ≡ ended_rows old due
