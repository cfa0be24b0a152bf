use Rattle.std.proofs.Common.{refl}
use Rattle.lease_server.specs.declared.splitters.Splitter.{Splitter}
use Rattle.lease_server.proofs.SplitLemmas.{split_any}
use Rattle.lease_server.proofs.splitters.Splitter.read.Goals as goal

pub returns-clause-split : goal.returns-clause-split
returns-clause-split g c =
    let old : Splitter = c.args.self.now in
    let new : Splitter = record { block = c.read.new.self; is_long = old.is_long; dispatcher = old.dispatcher } in
    split_any (g.S.Source.left c.args.source.now) (g.S.Source.left c.read.new.source) old new c.read.result c.read.ensures.read c.read.ensures.fault refl refl
