-- A history owns nothing, so it may go to another thread.
use denote.RattleType.{RattleType}
use denote.Param.Send.{IsSend, owning_send, sendable}
use Rattle.mono_model.specs.contracts.histories.History.{the_row, the_type}

pub send : (E : RattleType) → IsSend E → IsSend (the_row E)
send E a = owning_send (the_type E) (search sendable, tt) (λ d. tt) (λ k x w. tt)
