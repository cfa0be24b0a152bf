use Rattle.std.proofs.Common.{rules, sym, subst, ◌∙◌}
use Rattle.mono_channel.specs.Ends.{IsPair}
use Rattle.lease_server.specs.Printers.{HasWrittenTexts}
use Rattle.lease_server.proofs.ThreadLemmas.{pairs_by}
use Rattle.lease_server.proofs.EndLemmas.{served_all, cut, begun, says, serves_none, wrote_by}
use Rattle.lease_server.proofs.WholeLemmas.{whole_output}
use Rattle.lease_server.proofs.servers.serve.Goals as goal

pub settle_all-requires-clause-paired : goal.settle_all-requires-clause-paired
settle_all-requires-clause-paired g c =
    let routed = c.route_all-routed.result in
    let w = wrote_by g.K.Sink.written g.K.Sink.faults c.in-Ok-spawn_with.writer.promise _ c.in-Ok.written c.args.sink c.join.result c.in-Ok-spawn_with.ensures.ok c.of.ensures c.of-2.ensures c.join.ensures in
    pairs_by c.in-Ok.texts c.join.result.texts routed.threads.items routed.dispatcher.lanes.items (w.same.0 ∙ sym c.in-Ok.ensures.pair) c.route_all-routed.ensures.paired

pub returns-in-Ok-spawn_with-clause-served : goal.returns-in-Ok-spawn_with-clause-served
returns-in-Ok-spawn_with-clause-served g c =
    let settings = c.args.settings.now in
    let w = wrote_by g.K.Sink.written g.K.Sink.faults c.in-Ok-spawn_with.writer.promise _ c.in-Ok.written c.args.sink c.join.result c.in-Ok-spawn_with.ensures.ok c.of.ensures c.of-2.ensures c.join.ensures in
    served_all g.S.Source.left g.S.Source.faults g.K.Sink.written g.K.Sink.faults settings.cores settings.sizes c.args.source c.args.sink c.in-Ok.written c.route_all-routed.result c.join.result c.settle_all.result
    (c.in-Ok.ensures.received.0, c.in-Ok.ensures.received.1, c.in-Ok.ensures.shares.1) c.route_all-routed.ensures.routed w c.settle_all.ensures

pub returns-in-Ok-spawn_with-clause-cut : goal.returns-in-Ok-spawn_with-clause-cut
returns-in-Ok-spawn_with-clause-cut g c =
    let settings = c.args.settings.now in
    let w = wrote_by g.K.Sink.written g.K.Sink.faults c.in-Ok-spawn_with.writer.promise _ c.in-Ok.written c.args.sink c.join.result c.in-Ok-spawn_with.ensures.ok c.of.ensures c.of-2.ensures c.join.ensures in
    cut g.S.Source.left g.S.Source.faults g.K.Sink.written g.K.Sink.faults settings.cores settings.sizes c.args.source c.args.sink c.in-Ok.written c.route_all-routed.result c.join.result c.settle_all.result
    (c.in-Ok.ensures.received.0, c.in-Ok.ensures.received.1, c.in-Ok.ensures.shares.1) c.route_all-routed.ensures.routed w c.settle_all.ensures

pub returns-in-Ok-spawn_with-clause-begun : goal.returns-in-Ok-spawn_with-clause-begun
returns-in-Ok-spawn_with-clause-begun g c =
    let settings = c.args.settings.now in
    let w = wrote_by g.K.Sink.written g.K.Sink.faults c.in-Ok-spawn_with.writer.promise _ c.in-Ok.written c.args.sink c.join.result c.in-Ok-spawn_with.ensures.ok c.of.ensures c.of-2.ensures c.join.ensures in
    begun g.S.Source.left g.S.Source.faults g.K.Sink.written g.K.Sink.faults settings.cores settings.sizes c.args.source c.args.sink c.in-Ok.written c.route_all-routed.result c.join.result c.settle_all.result
    (c.in-Ok.ensures.received.0, c.in-Ok.ensures.received.1, c.in-Ok.ensures.shares.1) c.route_all-routed.ensures.routed w c.settle_all.ensures

pub returns-in-Ok-spawn_with-clause-whole : goal.returns-in-Ok-spawn_with-clause-whole
returns-in-Ok-spawn_with-clause-whole g c =
    let settings = c.args.settings.now in
    whole_output settings.cores settings.sizes (g.S.Source.left c.args.source) (g.S.Source.left c.settle_all.result.source) (g.K.Sink.written c.args.sink) (g.K.Sink.written c.settle_all.result.sink) (returns-in-Ok-spawn_with-clause-begun g c)

pub returns-in-Ok-spawn_with-clause-says : goal.returns-in-Ok-spawn_with-clause-says
returns-in-Ok-spawn_with-clause-says g c =
    let settings = c.args.settings.now in
    let w = wrote_by g.K.Sink.written g.K.Sink.faults c.in-Ok-spawn_with.writer.promise _ c.in-Ok.written c.args.sink c.join.result c.in-Ok-spawn_with.ensures.ok c.of.ensures c.of-2.ensures c.join.ensures in
    says g.S.Source.left g.S.Source.faults g.K.Sink.written g.K.Sink.faults settings.cores settings.sizes c.args.source c.args.sink c.in-Ok.written c.route_all-routed.result c.join.result c.settle_all.result c.route_all-routed.ensures.routed w c.settle_all.ensures

pub returns-in_default-clause-begun : goal.returns-in_default-clause-begun
returns-in_default-clause-begun g c = serves_none c.args.settings.now.cores c.args.settings.now.sizes (g.S.Source.left c.args.source) (g.K.Sink.written c.args.sink)

pub returns-in_default-clause-whole : goal.returns-in_default-clause-whole
returns-in_default-clause-whole g c =
    let settings = c.args.settings.now in
    whole_output settings.cores settings.sizes (g.S.Source.left c.args.source) (g.S.Source.left c.args.source) (g.K.Sink.written c.args.sink) (g.K.Sink.written c.args.sink) (returns-in_default-clause-begun g c)

pub settle_all-requires-in-Err-clause-paired : goal.settle_all-requires-in-Err-clause-paired
settle_all-requires-in-Err-clause-paired g c =
    let wrote = c.spawn_with-wrote.result in
    let w : HasWrittenTexts g.K.Sink.written g.K.Sink.faults c.in-Ok.written c.args.sink wrote = search rules in
    let routed = c.route_none.result in
    pairs_by c.close.new.self wrote.texts routed.threads.items routed.dispatcher.lanes.items (subst (λ e. IsPair wrote.texts e) (sym c.close.ensures) (w.same.0 ∙ sym c.in-Ok.ensures.pair)) c.route_none.ensures.paired

pub returns-in-Err-clause-served : goal.returns-in-Err-clause-served
returns-in-Err-clause-served g c =
    let settings = c.args.settings.now in
    let wrote = c.spawn_with-wrote.result in
    let w : HasWrittenTexts g.K.Sink.written g.K.Sink.faults c.in-Ok.written c.args.sink wrote = search rules in
    served_all g.S.Source.left g.S.Source.faults g.K.Sink.written g.K.Sink.faults settings.cores settings.sizes c.args.source c.args.sink c.in-Ok.written c.route_none.result wrote c.settle_all-in-Err.result
    (c.in-Ok.ensures.received.0, c.in-Ok.ensures.received.1, c.in-Ok.ensures.shares.1) c.route_none.ensures.routed w c.settle_all-in-Err.ensures

pub returns-in-Err-clause-cut : goal.returns-in-Err-clause-cut
returns-in-Err-clause-cut g c =
    let settings = c.args.settings.now in
    let wrote = c.spawn_with-wrote.result in
    let w : HasWrittenTexts g.K.Sink.written g.K.Sink.faults c.in-Ok.written c.args.sink wrote = search rules in
    cut g.S.Source.left g.S.Source.faults g.K.Sink.written g.K.Sink.faults settings.cores settings.sizes c.args.source c.args.sink c.in-Ok.written c.route_none.result wrote c.settle_all-in-Err.result
    (c.in-Ok.ensures.received.0, c.in-Ok.ensures.received.1, c.in-Ok.ensures.shares.1) c.route_none.ensures.routed w c.settle_all-in-Err.ensures

pub returns-in-Err-clause-begun : goal.returns-in-Err-clause-begun
returns-in-Err-clause-begun g c =
    let settings = c.args.settings.now in
    let wrote = c.spawn_with-wrote.result in
    let w : HasWrittenTexts g.K.Sink.written g.K.Sink.faults c.in-Ok.written c.args.sink wrote = search rules in
    begun g.S.Source.left g.S.Source.faults g.K.Sink.written g.K.Sink.faults settings.cores settings.sizes c.args.source c.args.sink c.in-Ok.written c.route_none.result wrote c.settle_all-in-Err.result
    (c.in-Ok.ensures.received.0, c.in-Ok.ensures.received.1, c.in-Ok.ensures.shares.1) c.route_none.ensures.routed w c.settle_all-in-Err.ensures

pub returns-in-Err-clause-whole : goal.returns-in-Err-clause-whole
returns-in-Err-clause-whole g c =
    let settings = c.args.settings.now in
    whole_output settings.cores settings.sizes (g.S.Source.left c.args.source) (g.S.Source.left c.settle_all-in-Err.result.source) (g.K.Sink.written c.args.sink) (g.K.Sink.written c.settle_all-in-Err.result.sink) (returns-in-Err-clause-begun g c)
