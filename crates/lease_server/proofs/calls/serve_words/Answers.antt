use Rattle.std.proofs.Common.{inl, inr, refl, sym, subst, ◌∙◌}
use Rattle.lease_server.specs.EndToEnd.{SaysWhich}
use Rattle.lease_server.proofs.CallLemmas.{which_code}
use Rattle.lease_server.proofs.calls.serve_words.Goals as goal

pub returns-in-Some : goal.returns-in-Some
returns-in-Some g c =
    let served = c.serve-served.result in
    let made = c.serve-served.ensures in
    let reads = g.S.Source.faults in
    let writes = g.K.Sink.faults in
    let is = which_code served.status c.code.result (reads c.args.source) (reads served.source) (writes c.args.sink) (writes served.sink) made.says c.code.ensures.same in
    inl (record {
      no_page = c.requires;
      settings = c.in-Some.settings;
      says = c.in-Some.ensures.some;
      served = λ done. made.served (sym is ∙ done);
      cut = λ failed. made.cut (sym is ∙ failed);
      begun = made.begun;
      whole = made.whole;
      which = subst (λ n. SaysWhich n (reads c.args.source) (reads served.source) (writes c.args.sink) (writes served.sink)) (sym is) made.says;
    })

pub returns-in-None : goal.returns-in-None
returns-in-None g c = inr (record { no_page = c.requires; none = c.in-None.ensures.none; is_code = refl; same = refl })
