use Rattle.std.proofs.Common.{take, subst}
use Rattle.lease_server.specs.Blocks.{rest_of}
use Rattle.lease_server.specs.Splits.{IsDropped}
use Rattle.lease_server.proofs.SplitLemmas.{long_none}
use Rattle.lease_server.proofs.splitters.Splitter.request_at.Goals as goal

pub returns-then-self : goal.returns-then-self
returns-then-self c = λ dropped is. long_none dropped (take c.args.count (rest_of c.args.self.now.block)) (subst (λ b. IsDropped b dropped) c.if-self.true is)
