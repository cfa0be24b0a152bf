use Rattle.std.proofs.Common.{ap}
use Rattle.mono_session.specs.Nodes.{queue_place, key_place, place_by}
use Rattle.mono_session.proofs.EntryLemmas.{entered_alike}
use Rattle.mono_session.proofs.entries.Entries.reserve.Goals as goal

pub returns-clause-kept : goal.returns-clause-kept
returns-clause-kept c = λ entries.
    entered_alike c.args.self.now (record { ends = c.reserve.new.self; key_ends = c.reserve-2.new.self; nodes = c.reserve-3.new.self }) entries
    (record { ends = λ q. c.reserve.ensures.entries.2 q; places = λ q m. ap (place_by queue_place) (c.reserve-3.ensures.entries.2 (q, m)) })
    (record { ends = λ q. c.reserve-2.ensures.entries.2 q; places = λ q m. ap (place_by key_place) (c.reserve-3.ensures.entries.2 (m, q)) })
    c.reserve-3.ensures.entries.1
