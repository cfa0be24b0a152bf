use Rattle.std.proofs.Common.{rules, ◌≡◌, true, ap, sym, ◌∙◌, ◌+◌, ◌++◌, ◌∷◌, []}
use Rattle.std.specs.Global.{Vec}
use Rattle.mono_channel.specs.Ends.{Ends, sent_by, settled_by, shares_of}
use Rattle.lease_core.specs.declared.requests.Request.{Request}
use Rattle.lease_server.proofs.ThreadLemmas.{answered, has_begun}
use Rattle.lease_server.proofs.servers.settle_core.Goals as goal

pub settle-requires : goal.settle-requires
settle-requires g c = ap (λ (e : Ends (Vec Request)). e.channel) c.into_sender.ensures ∙ (c.requires.way ∙ sym c.join-status.ensures.received.0)

pub returns-clause-settled : goal.returns-clause-settled
returns-clause-settled g c =
    let end = c.join-status.result in
    let settled = c.settle.ensures.settled ∙ ap (λ e. settled_by end.requests ++ sent_by e ∷ []) c.into_sender.ensures in
    let shares = c.settle.ensures.shares ∙ ap (λ e. shares_of end.requests + shares_of e) c.into_sender.ensures in (
      sent_by end.texts,
      c.settle-2.ensures.settled,
      has_begun c.args.texts.now c.args.thread c.args.lane end c.settle.new.self c.requires c.join-status.ensures settled shares c.settle.ensures.same.1 c.is_empty.ensures.begun,
      λ yes.
          let empty : c.is_empty.result ≡ true = search rules in
          let done : end.status ≡ 0 = search rules in
          answered c.args.texts.now c.args.thread c.args.lane end c.settle.new.self c.is_empty.result c.requires c.join-status.ensures settled shares c.settle.ensures.same.1 c.is_empty.ensures.whole empty done,
    )
