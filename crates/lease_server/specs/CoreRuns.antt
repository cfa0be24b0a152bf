-- How a core's thread runs its task: by one call of `block_on` on a new runtime.
use Rattle.std.specs.Prelude.{◌≡◌, ℕ, [], Result}
use Rattle.std.specs.Result.{result_unwrap_or}
use Rattle.mono_machine.specs.declared.events.Limits.{Limits}
use Rattle.mono_machine.specs.declared.events.Blocking.{Blocking}
use Rattle.mono_rt.specs.Views.{Blocks, RefinesStart}
use Rattle.mono_rt.specs.declared.runtimes.Runtime.{Runtime}
use Rattle.mono_rt.specs.declared.parts.errors.RunError.{RunError}

-- One call of `block_on` on a new runtime left this one. Its answer is the status, and 6 says that it failed.
pub record CalledOnce {F D P W U J A V : Type 0} (status : ℕ) (left : Runtime F ℕ D P W U J A V) : Type 0 where
  pub start : Runtime F ℕ D P W U J A V
  pub limits : Limits
  pub strategy : Blocking
  pub stands : RefinesStart (λ n. n) limits strategy start
  pub is_new : start.journal.history.entries ≡ []
  pub turns : ℕ
  pub answer : Result ℕ RunError
  pub blocked : Blocks (λ n. n) turns answer start left
  pub status_is : status ≡ result_unwrap_or answer 6
