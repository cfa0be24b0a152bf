use Rattle.std.proofs.Common.{[], ap, sym, ◌∙◌}
use Rattle.std.specs.Prelude.{map}
use Rattle.std.specs.List.{flat_map}
use Rattle.std.proofs.lemmas.List.{map-append, flat_map_more}
use Rattle.lease_server.specs.Pasts.{event_of}
use Rattle.lease_server.proofs.pasts.Past.note.Goals as goal

pub returns-clause-events : goal.returns-clause-events
returns-clause-events g c = ap (map event_of) c.told-self.ensures ∙ map-append event_of _ _

pub returns-clause-replies : goal.returns-clause-replies
returns-clause-replies g c =
    ap (flat_map (λ replies. replies)) c.told-self-2.ensures ∙ sym (flat_map_more (λ replies. replies) [] c.args.self.now.replied.entries c.args.core.now.replies.items)
