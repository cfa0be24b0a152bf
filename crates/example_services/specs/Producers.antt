-- A sender or receiver that has answered.
use Rattle.std.specs.Prelude.{Bool, true}
use Rattle.mono_sync.specs.Spent.{acquire_spent, recv_spent, send_spent}
use Rattle.example_services.specs.declared.channels.parties.Party.{Party}
use Rattle.example_services.specs.declared.channels.parties.Party.TheVariants.{Asks, Sends, Receives, Over}

abbrev pub is_over : Party → Bool
is_over Over = true
is_over (Asks acquire number left) = acquire_spent acquire
is_over (Sends send number left) = send_spent send
is_over (Receives recv left sum place) = recv_spent recv
