-- What the proofs of several programs share.
use Rattle.std.proofs.Common.{◌≡◌, ◌≤◌, ℕ, [], length, ap, arith}
use Rattle.mono_task.specs.Members.{FutureOf}
use Rattle.mono_rt.specs.Pollable.{CanTurn}
use Rattle.mono_rt.specs.declared.contexts.Cx.{Cx}
use Rattle.mono_sync.specs.Laws.{StaysBounded}
use Rattle.mono_sync.specs.MpscRuns.{Leads}
use Rattle.mono_sync.specs.declared.mpsc.Channel.{Channel}

module _ {F O P U W J A V : Type 0} {future : FutureOf F (Cx F O P U W J A V) O} {c : Cx F O P U W J A V} where
  -- each future of the type can be polled, so this one can
  pub this_can : CanTurn future c → ((f : F) → future.can_poll f) → (f : F) → future.can_poll f
  this_can turn can f = can f

-- a channel that was empty stays within its bound
pub stays_within : {T : Type 0} → StaysBounded T → (a b : Channel T) (n : ℕ) → a.queue.items ≡ [] → a.bound ≡ n → Leads a b → length b.queue.items ≤ n
stays_within law a b n empty bound led =
    let kept = law led.events a b led.run in
    omega (arith, kept.0, kept.1 (omega (arith, ap length empty)), bound)
