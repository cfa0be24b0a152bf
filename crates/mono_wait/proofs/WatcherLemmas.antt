-- The running task waits only if a test says so.
use Rattle.std.proofs.Common.{◌≡◌, ℕ, true, false, Bool, Some, None, Option, refl}
use Rattle.mono_wait.specs.Sources.{own_watcher}

none-some : (t : ℕ) → None ≡ Some t → ⊥
none-some t e = cc

same_task : (u t : ℕ) → Some u ≡ Some t → t ≡ u
same_task u t e = cc

pub own_of : (waits : Bool) (me t : ℕ) → own_watcher waits me ≡ Some t → (waits ≡ true) × (t ≡ me)
own_of true me t is = (refl, same_task me t is)
own_of false me t is = absurd (none-some t is)
