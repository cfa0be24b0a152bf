use Rattle.std.proofs.Common.{rules, ◌≡◌, ◌<◌, ◌∙◌}
use Rattle.lease_server.proofs.ThreadLemmas.{starts_one, stand_more, stand_next}
use Rattle.lease_server.proofs.starts.start_cores.Goals as goal

pub loop-number-preserved : goal.loop-number-preserved
loop-number-preserved g c =
    let inv = c.loop-number.invariant in
    let new = c.start_core-status.new in
    let done : c.start_core-status.result ≡ 0 = search rules in
    let below : c.loop-number.number < c.args.settings.now.cores = search rules in
    let added = starts_one c.start_core-status.result c.loop-number.number c.args.settings.now.sizes c.loop-number.threads.items new.threads.items c.loop-number.dispatcher new.dispatcher c.start_core-status.ensures.started done in
    let more = stand_more c.loop-number.number c.args.settings.now.sizes c.args.settings.now.cores c.args.dispatcher.now.refusals.outlet.sender c.loop-number.threads.items new.threads.items c.loop-number.dispatcher new.dispatcher added inv.pair inv.paired inv.numbered inv.count below inv.shares in
    record {
      paired = more.0.paired;
      numbered = more.0.numbered;
      count = more.1;
      most = search rules;
      shares = more.0.shares;
      pair = c.start_core-status.ensures.same ∙ inv.pair;
      holds = λ h. c.start_core-status.ensures.holds (inv.holds h);
    }

pub returns-then-status-ne-DONE-clause-paired : goal.returns-then-status-ne-DONE-clause-paired
returns-then-status-ne-DONE-clause-paired g c =
    let inv = c.loop-number.invariant in
    let new = c.start_core-status.new in
    let below : c.loop-number.number < c.args.settings.now.cores = search rules in
    let next = stand_next c.start_core-status.result c.loop-number.number c.args.settings.now.sizes c.args.settings.now.cores c.args.dispatcher.now.refusals.outlet.sender c.loop-number.threads.items new.threads.items c.loop-number.dispatcher new.dispatcher c.start_core-status.ensures.started inv.pair inv.paired inv.numbered inv.count below inv.shares in
    next.paired

pub returns-then-status-ne-DONE-clause-numbered : goal.returns-then-status-ne-DONE-clause-numbered
returns-then-status-ne-DONE-clause-numbered g c =
    let inv = c.loop-number.invariant in
    let new = c.start_core-status.new in
    let below : c.loop-number.number < c.args.settings.now.cores = search rules in
    let next = stand_next c.start_core-status.result c.loop-number.number c.args.settings.now.sizes c.args.settings.now.cores c.args.dispatcher.now.refusals.outlet.sender c.loop-number.threads.items new.threads.items c.loop-number.dispatcher new.dispatcher c.start_core-status.ensures.started inv.pair inv.paired inv.numbered inv.count below inv.shares in
    (next.numbered, next.most)
