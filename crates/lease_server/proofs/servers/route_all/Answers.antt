use Rattle.std.proofs.Common.{◌≡◌, ◌≢◌, ◌+◌, ◌⊎◌, inl, inr, ℕ, [], length, refl, ap, sym, subst, ◌∙◌}
use mathlib.Core.Logic.{dite}
use native.Mathlib.Decide.{ℕ_discrete}
use Rattle.mono_channel.specs.Delivery.{all_shares}
use Rattle.mono_channel.specs.Ends.{Ends, shares_of, IsPair}
use Rattle.lease_server.specs.Dispatch.{Holds, KeepsWays}
use Rattle.lease_server.specs.Intakes.{Fits}
use Rattle.lease_server.specs.Threads.{ArePaired}
use Rattle.lease_server.specs.declared.texts.Text.{Text}
use Rattle.lease_server.specs.declared.dispatchers.Dispatcher.{Dispatcher}
use Rattle.lease_server.proofs.RoutedLemmas.{failed_start, paired, routes_all, routes_none, shares_after}
use Rattle.lease_server.proofs.ThreadLemmas.{pairs_by}
use Rattle.lease_server.proofs.servers.route_all.Goals as goal

pub returns-clause-paired : goal.returns-clause-paired
returns-clause-paired g c =
    let texts = c.args.texts in
    let ts = c.start_cores-started.new.threads.items in
    let first : Dispatcher = c.start_cores-started.new.dispatcher in
    let last : Dispatcher = c.route_if-ended.result.1.splitter.dispatcher in
    let closed : Dispatcher = c.close.new.self.splitter.dispatcher in
    let ways : KeepsWays first last = subst (λ d. KeepsWays d last) c.new-intake.ensures.dispatcher c.route_if-ended.ensures.led.1 in
    let own : Ends Text = c.new-dispatcher.result.refusals.outlet.sender in
    let same : IsPair texts own = sym (ap (λ (e : Ends Text). e.channel) c.new-dispatcher.ensures.texts) in
    let started : ArePaired texts ts first.lanes.items = pairs_by own texts ts first.lanes.items same c.start_cores-started.ensures.paired in
    subst (λ (d : Dispatcher). ArePaired texts ts d.lanes.items) (sym c.into_parts-source.ensures.1) (paired texts ts first last closed ways c.close.ensures.lanes started)

pub returns-clause-routed : goal.returns-clause-routed
returns-clause-routed g c =
    let left = g.S.Source.left in
    let faults = g.S.Source.faults in
    let settings = c.args.settings.now in
    let source = c.args.source in
    let ts = c.start_cores-started.new.threads.items in
    let first : Dispatcher = c.start_cores-started.new.dispatcher in
    let intake = c.new-intake.result in
    let routed_intake = c.route_if-ended.result.1 in
    let last : Dispatcher = routed_intake.splitter.dispatcher in
    let closed : Dispatcher = c.close.new.self.splitter.dispatcher in
    let out : c.into_parts-source.result.1 ≡ closed = c.into_parts-source.ensures.1 in
    let holds : Holds [] first = c.start_cores-started.ensures.holds (c.new-dispatcher.ensures.holds c.requires.0) in
    let ways : KeepsWays first last = subst (λ d. KeepsWays d last) c.new-intake.ensures.dispatcher c.route_if-ended.ensures.led.1 in
    let shares = subst (λ (d : Dispatcher). shares_of d.refusals.outlet.sender + length ts ≡ all_shares) (sym out) (shares_after (length ts) first last closed c.start_cores-started.ensures.shares ways c.close.ensures.refusals) in
    let numbered = c.start_cores-started.ensures.numbered in
    dite (ℕ_discrete c.start_cores-started.result 0)
    (λ started.
    routes_all left faults settings.cores settings.sizes _ intake routed_intake c.close.new.self source c.end.result c.new-intake.ensures.source (c.new-intake.ensures.fits holds) c.new-intake.ensures.faults c.route_if-ended.ensures.led
    (record { source = c.close.ensures.source; stage = c.close.ensures.phase; lanes = c.close.ensures.lanes; refusals = c.close.ensures.refusals; block = c.close.ensures.block; from = c.into_parts-source.ensures.0; to = out })
    numbered.0 (c.start_cores-started.ensures.all started) shares c.end.ensures (c.routed_status-status.ensures.routed started))
    (λ failed.
    let same = c.route_if-ended.ensures.none failed in
    routes_none left faults settings.cores settings.sizes c.start_cores-started.result _ first source holds
    (c.into_parts-source.ensures.0 ∙ c.close.ensures.source ∙ ap (λ x. x.source) same ∙ c.new-intake.ensures.source)
    (ap (λ (d : Dispatcher). d.lanes.items) out ∙ c.close.ensures.lanes ∙ ap (λ x. x.splitter.dispatcher.lanes.items) same ∙ ap (λ (d : Dispatcher). d.lanes.items) c.new-intake.ensures.dispatcher)
    (ap (λ (d : Dispatcher). d.refusals) out ∙ c.close.ensures.refusals ∙ ap (λ x. x.splitter.dispatcher.refusals) same ∙ ap (λ (d : Dispatcher). d.refusals) c.new-intake.ensures.dispatcher)
    numbered.0 numbered.1 shares (c.routed_status-status.ensures.failed failed) (failed_start c.start_cores-started.result failed c.start_cores-started.ensures.status))
