-- An outlet in clauses. Its close does not show: the sender is seen as it is once it is closed.
use Rattle.std.specs.Prelude.{Option}
use Rattle.mono_channel.specs.Ends.{Ends}

pub record Outlet (M : Type 0) : Type 0 where
  pub sender : Ends M
  pub message : Option M
