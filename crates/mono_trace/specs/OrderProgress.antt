-- What an order says of the lines so far.
use Rattle.std.specs.Prelude.{◌≡◌, ℕ, ◌+◌, Bool, true, false, List, ◌++◌, length, Option, Some, None}
use Rattle.mono_trace.specs.Order.{stop_at}
use Rattle.mono_trace.specs.declared.marks.Mark.{Mark}
use Rattle.mono_trace.specs.declared.marks.Stage.{Stage}
use Rattle.mono_trace.specs.declared.marks.Stage.TheVariants as stage
use Rattle.mono_trace.specs.declared.orders.Order.{Order}

-- where lines stop that begin with line n, unless an earlier one was out of order
abbrev pub stop_from : Bool → Option ℕ → ℕ → Stage → List Mark → Option (ℕ × Stage)
stop_from timers None n s marks = stop_at timers n s marks
stop_from timers (Some first) n s marks = Some (first, s)

-- whatever follows these lines
abbrev pub Stops : Bool → List Mark → Option ℕ → Stage → Type 0
Stops timers marks stopped s = (rest : List Mark) → stop_at timers 1 (stage.Start 0) (marks ++ rest) ≡ stop_from timers stopped (length marks + 1) s rest

pub record Follows (marks : List Mark) (order : Order) : Type 0 where
  pub timed : Stops true marks order.timed.stopped order.timed.stage
  pub untimed : Stops false marks order.untimed.stopped order.untimed.stage
