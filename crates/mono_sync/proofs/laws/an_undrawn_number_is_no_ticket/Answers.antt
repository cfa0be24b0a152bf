use Rattle.mono_sync.proofs.PassLemmas.{undrawn}
use Rattle.mono_sync.proofs.laws.an_undrawn_number_is_no_ticket.Goals as goal

pub returns : goal.returns
returns c = undrawn
