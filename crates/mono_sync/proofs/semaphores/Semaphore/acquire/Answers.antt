use Rattle.mono_sync.proofs.SemaphoreLemmas.{acquires_keeps}
use Rattle.mono_sync.proofs.semaphores.Semaphore.acquire.Goals as goal

pub returns-clause-keeps : goal.returns-clause-keeps
returns-clause-keeps c = acquires_keeps _ _ c.args.ticket c.args.me c.ask.result c.ask.ensures
