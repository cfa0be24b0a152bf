use Rattle.std.proofs.Common.{subst}
use Rattle.std.specs.Prelude.{IfSome, IfNone}
use Rattle.mono_blocking.specs.declared.strategy.BlockingHandle.TheVariants.{Attached}
use Rattle.mono_blocking.specs.JobSpawns.{IsApart}
use Rattle.std.specs.Prelude.{◌≡◌}
use Rattle.mono_rt.proofs.runtimes.Runtime.into_pool.Goals as goal

pub returns-clause-some : goal.returns-clause-some
returns-clause-some g c = subst (λ b. IfSome c.into_pool.result (λ pool. b.pool ≡ Attached pool)) c.apart-blocking.ensures.blocking c.into_pool.ensures.some

pub returns-clause-none : goal.returns-clause-none
returns-clause-none g c = subst (λ b. IfNone c.into_pool.result (IsApart b.pool)) c.apart-blocking.ensures.blocking c.into_pool.ensures.none
