use Rattle.std.proofs.Common.{◌<◌, length, true, refl, sym, subst, arith}
use Rattle.lease_server.specs.Blocks.{rest_of}
use Rattle.lease_server.specs.Routing.{HasNoFeed}
use Rattle.lease_server.specs.declared.splitters.Splitter.{Splitter}
use Rattle.lease_server.proofs.SplitLemmas.{stands_dropped}
use Rattle.lease_server.proofs.splitters.Splitter.keep_rest.Goals as goal

pub returns-then-keep_rest-clause-stands : goal.returns-then-keep_rest-clause-stands
returns-then-keep_rest-clause-stands c = λ text s.
    let old : Splitter = c.args.self.now in
    let new : Splitter = record { block = c.keep_rest.new.self; is_long = true; dispatcher = old.dispatcher } in
    let d = c.keep_rest.ensures.dropped c.if-keep_rest.true in
    let long : 88 < length (rest_of old.block) = omega (arith, d.1, c.requires.size) in
    stands_dropped text old new long c.requires.begun d.0 refl refl s

pub returns-then-keep_rest-clause-begun : goal.returns-then-keep_rest-clause-begun
returns-then-keep_rest-clause-begun c = subst HasNoFeed (sym (c.keep_rest.ensures.dropped c.if-keep_rest.true).0) tt
