-- A limited take may always be polled.
use Rattle.std.specs.Prelude.{⊤}
use Rattle.std.proofs.Common.{Option, Some, None}
use Rattle.mono_time.specs.NapTimeouts.{LimitCanPoll}
use Rattle.mono_time.specs.declared.naps.SleepFor.{SleepFor}
use Rattle.mono_serve.specs.declared.takes.Take.{Take}
use Rattle.example_services.specs.declared.takes.shelves.Shelf.{Shelf}

pub can : (both : Option (Take Shelf × SleepFor)) → LimitCanPoll (λ f. ⊤) both
can None = tt
can (Some p) = tt
