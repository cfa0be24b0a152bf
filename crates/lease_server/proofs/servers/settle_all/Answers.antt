use Rattle.std.proofs.Common.{rules, ◌≡◌, true, refl, ap, sym, subst, ◌∙◌}
use Rattle.std.specs.Global.{Vec}
use Rattle.lease_server.specs.Threads.{ArePaired, HaveAnswered, HaveBegun}
use Rattle.lease_server.specs.declared.texts.Text.{Text}
use Rattle.lease_server.specs.declared.lanes.Lane.{Lane}
use Rattle.lease_server.specs.declared.refusals.Refusals.{Refusals}
use Rattle.mono_channel.specs.Ends.{Ends, closed}
use Rattle.lease_server.proofs.ThreadLemmas.{collects, pairs_by, settles}
use Rattle.lease_server.proofs.servers.settle_all.Goals as goal

pub settle-requires : goal.settle-requires
settle-requires g c = ap (λ (e : Ends Text). e.channel) (c.into_sender.ensures ∙ ap (λ (r : Refusals). r.outlet.sender) c.into_parts-lanes.ensures.1) ∙ c.requires.same

pub settle_cores-is_done-requires : goal.settle_cores-is_done-requires
settle_cores-is_done-requires g c =
    let routed = c.args.routed in
    subst (λ (v : Vec Lane). ArePaired c.settle.new.self routed.threads.items v.items) (sym c.into_parts-lanes.ensures.0) (pairs_by c.args.wrote.texts c.settle.new.self routed.threads.items routed.dispatcher.lanes.items c.settle.ensures.same.0 c.requires.paired)

pub returns : goal.returns
returns g c =
    let routed = c.args.routed in
    let wrote = c.args.wrote in
    let first = c.settle.new.self in
    let last = c.settle_cores-is_done.new.texts in
    let sender = closed c.into_sender.result in
    let own = c.into_sender.ensures ∙ ap (λ (r : Refusals). r.outlet.sender) c.into_parts-lanes.ensures.1 in
    let one = c.settle.ensures in
    let more = c.settle_cores-is_done.ensures in
    let ways = c.into_parts-lanes.ensures.0 in
    let sent = more.settled.0 in
    let begun = subst (λ (v : Vec Lane). HaveBegun routed.threads.items v.items sent) ways more.settled.2 in
    record {
      source = refl;
      sink = refl;
      ends = c.status_of.ensures.ends;
      collected = collects routed wrote first last sender more.settled.0 own one.settled one.shares one.same.1 more.settled.1 more.shares more.same.1 begun c.is_empty-is_whole.ensures.begun;
      settled = λ written which.
          let both = c.status_of.ensures.done which written in
          let done : c.settle_cores-is_done.result ≡ true = search rules in
          let whole : c.is_empty-is_whole.result ≡ true = search rules in
          settles routed wrote first last sender more.settled.0 own one.settled one.shares one.same.1 more.settled.1 more.shares more.same.1 (subst (λ (v : Vec Lane). HaveAnswered routed.threads.items v.items sent) ways (more.settled.3 done)) (c.is_empty-is_whole.ensures.whole whole);
    }
