use Rattle.std.proofs.Common.{rules, ◌≡◌, ◌≤◌, ◌+◌, [], inr, length, refl, ap, sym, subst, ◌∙◌, arith}
use Rattle.mono_channel.specs.Delivery.{all_shares}
use Rattle.mono_channel.specs.Ends.{shares_of}
use Rattle.lease_server.specs.Threads.{AreNumbered}
use Rattle.lease_server.proofs.RoutedLemmas.{routes_none}
use Rattle.lease_server.proofs.servers.route_none.Goals as goal

pub returns-clause-routed : goal.returns-clause-routed
returns-clause-routed g c =
    let settings = c.args.settings.now in
    let none : c.new-2.result.items ≡ [] = search rules in
    let count : length c.new-2.result.items ≡ 0 = ap (λ l. length l) none in
    let most : length c.new-2.result.items ≤ settings.cores = omega (arith, count) in
    let kept : shares_of c.new.result.refusals.outlet.sender ≡ all_shares = ap (λ e. shares_of e) c.new.ensures.texts ∙ c.requires.1 in
    let shares : shares_of c.new.result.refusals.outlet.sender + length c.new-2.result.items ≡ all_shares = omega (arith, count, kept) in
    routes_none g.S.Source.left g.S.Source.faults settings.cores settings.sizes 7 _ c.new.result c.args.source (c.new.ensures.holds c.requires.0) refl refl refl (subst (λ l. AreNumbered 0 settings.sizes l) (sym none) tt)
    most shares refl (inr refl)
