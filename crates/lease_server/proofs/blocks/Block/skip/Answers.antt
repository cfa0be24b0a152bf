use Rattle.lease_server.proofs.BlockLemmas.{skipped}
use Rattle.std.proofs.Common.{arith}
use Rattle.lease_server.proofs.blocks.Block.skip.Goals as goal

pub returns-clause-rest : goal.returns-clause-rest
returns-clause-rest c =
    let self = c.args.self.now in
    skipped self.buffer.items self.start self.end c.args.count (omega arith) c.requires
