use Rattle.std.proofs.Common.{sym, ◌∙◌}
use Rattle.std.specs.HashMap.{get}
use Rattle.mono_session.specs.Keeper.{queue_in}
use Rattle.mono_session.specs.Links.{pair_eq}
use Rattle.mono_session.specs.Nodes.{queue_place}
use Rattle.mono_session.specs.Entries.{queue_chains}
use Rattle.mono_session.proofs.NodeLemmas.{place_some}
use Rattle.mono_session.proofs.QueueLemmas.{contains-keeps}
use Rattle.mono_session.proofs.EntryLemmas.{stands-queue}
use Rattle.mono_session.proofs.entries.Entries.contains.Goals as goal

pub returns : goal.returns
returns c = λ entries entered. c.contains_key.ensures
    ∙ sym (place_some queue_place (get pair_eq c.args.self.now.nodes (c.args.key, c.args.session)))
    ∙ contains-keeps (queue_chains c.args.self.now) (queue_in entries) c.args.key c.args.session entered.queues
    ∙ sym (stands-queue entries c.args.session c.args.key)
