use Rattle.std.proofs.Common.{false, refl}
use Rattle.lease_server.specs.declared.splitters.Splitter.{Splitter}
use Rattle.lease_server.proofs.SplitLemmas.{stands_line}
use Rattle.lease_server.proofs.splitters.Splitter.take_line.Goals as goal

pub returns-clause-stands : goal.returns-clause-stands
returns-clause-stands c = λ text s.
    let old : Splitter = c.args.self.now in
    let new : Splitter = record { block = c.skip.new.self; is_long = false; dispatcher = c.take.new.self } in
    stands_line text old new c.args.count c.in_ok-number.number c.request_at-found.result c.requires c.skip.ensures.rest refl c.in_ok-number.ensures c.request_at-found.ensures c.in_ok-take.ensures.ok s
