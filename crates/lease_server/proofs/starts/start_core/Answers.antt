use Rattle.std.proofs.Common.{◌++◌, ◌∷◌, [], inl, ap, ◌∙◌}
use Rattle.mono_channel.specs.Ends.{sent_by}
use Rattle.lease_server.proofs.ThreadLemmas.{adds}
use Rattle.lease_server.proofs.starts.start_core.Goals as goal

pub returns-clause-started : goal.returns-clause-started
returns-clause-started g c =
    let ends = c.in-Ok-channel in
    let texts = c.in-Ok-texts in
    let t = c.start_thread-thread.result in
    let added = c.add.ensures.lane in
    inl (
      c.thread_status.ensures,
      adds c.args.number c.args.settings.now.sizes c.args.threads.now.items c.push_reserved.new.self.items c.args.dispatcher.now c.reserve.new.self c.texts.new.self c.add.new.self t ends.sender ends.requests texts.texts added.0
          c.start_thread-thread.ensures.promised
          ends.ensures.pair ends.ensures.shares.0 (ends.ensures.received.0, ends.ensures.received.1, ends.ensures.shares.1)
          texts.ensures.further.0 texts.ensures.further.1 texts.ensures.shares.0 texts.ensures.shares.1 c.requires
          c.in-Ok.ensures.refusals c.add.ensures.refusals (added.1 ∙ c.start_thread-thread.ensures.sender) (c.push_reserved.ensures.items ∙ ap (λ l. l ++ t ∷ []) c.reserve-2.ensures.items) (added.2 ∙ ap (λ l. l ++ added.0 ∷ []) (texts.ensures.lanes ∙ c.in-Ok.ensures.lanes)),
    )

pub returns-clause-holds : goal.returns-clause-holds
returns-clause-holds g c = λ h.
    let none = ap (λ e. sent_by e) c.start_thread-thread.ensures.sender ∙ c.in-Ok-channel.ensures.sent in
    c.add.ensures.holds none (c.in-Ok-texts.ensures.holds [] (c.in-Ok.ensures.holds [] h))
