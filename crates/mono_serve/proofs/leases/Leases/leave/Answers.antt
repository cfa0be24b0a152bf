use Rattle.std.proofs.Common.{rules, tests}
use Rattle.std.proofs.lemmas.Fn.{filter_same}
use Rattle.mono_serve.proofs.leases.Leases.leave.Goals as goal

pub returns-clause-waiters : goal.returns-clause-waiters
returns-clause-waiters c = filter_same _ _ _ (λ x b f' k. search (rules, tests)) _ _ c.retain.ensures.filtered
