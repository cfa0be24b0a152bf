-- What a put answers, by the places that are taken.
use Rattle.std.proofs.Common.{true≢false, Result, Ok, Err, refl, sym, arith}
use Rattle.std.specs.Prelude.{⊤, OnOk}
use Rattle.mono_channel.specs.declared.errors.TrySendError.{TrySendError}
use Rattle.mono_channel.specs.declared.errors.TrySendError.TheVariants.{Full, Closed}
use Rattle.mono_channel.specs.Ends.{Ends}
use Rattle.mono_channel.specs.Errors.{OnFull}
use Rattle.mono_channel.specs.Queues.{WasFull, HadRoom, IsFullIfTaken}

-- it is full only if each place was taken, and sent only if one was left
pub full_if_taken : {T : Type 0} (s : Ends T) (r : Result ⊤ (TrySendError T)) → OnFull r (WasFull s) → OnOk r (HadRoom s) → IsFullIfTaken s r
full_if_taken s (Ok done) full room _ = (room.0, ((λ e. absurd (true≢false (sym e))), (λ is. let less = room.1 in absurd (omega arith))), room.2)
full_if_taken s (Err (Full x)) full room _ = (full.0, ((λ _. full.1), (λ _. refl)), full.2)
full_if_taken s (Err (Closed x)) full room shut = absurd (true≢false shut)
