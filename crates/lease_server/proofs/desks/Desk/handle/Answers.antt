use Rattle.std.specs.Prelude.{refl}
use Rattle.lease_server.proofs.ServedLemmas.{ok_so, did_one, performs_by, served_by}
use Rattle.lease_server.proofs.desks.Desk.handle.Goals as goal

pub returns-clause-performed : goal.returns-clause-performed
returns-clause-performed c = performs_by _ _ _ _ (did_one _ _ _ refl c.note.ensures.events c.note.ensures.replies c.handle.ensures)

pub returns-clause-served : goal.returns-clause-served
returns-clause-served c =
    ok_so c.put_replies.result (served_by _ _ _ _ _ _ _ _ (did_one _ _ _ refl c.note.ensures.events c.note.ensures.replies c.handle.ensures) c.replies.ensures) c.put_replies.ensures.ok
