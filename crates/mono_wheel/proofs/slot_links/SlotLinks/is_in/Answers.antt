use Rattle.std.proofs.Common.{◌≡◌, is_some, true, ap, subst, ◌∙◌}
use Rattle.mono_wheel.specs.Lists.{IsListed, is_node}
use Rattle.mono_wheel.specs.Holdings.{timed_in}
use Rattle.mono_wheel.proofs.KeyLemmas.{is-read}
use Rattle.mono_wheel.proofs.slot_links.SlotLinks.is_in.Goals as goal

pub returns-clause-value : goal.returns-clause-value
returns-clause-value c = is-read c.self.inside.links.entries c.args.node c.entry.result c.entry.ensures.value ∙ ap (λ w. is_some (timed_in w.table.entries c.args.node)) c.self.view_is

pub returns-clause-known : goal.returns-clause-known
returns-clause-known c = subst (λ links. IsListed links.table c.args.node → is_node links.table c.args.node ≡ true) c.self.view_is c.entry.ensures.known
