use Rattle.std.specs.Prelude.{refl}
use Rattle.lease_server.proofs.ServedLemmas.{performs_none, did_one, performs_by, served_by}
use Rattle.lease_server.proofs.desks.Desk.show.Goals as goal

pub returns-in_err-advance-clause-performed : goal.returns-in_err-advance-clause-performed
returns-in_err-advance-clause-performed c = performs_none _ _ refl refl c.in_err-advance.ensures.refused.1

pub returns-in_err-stamp-clause-performed : goal.returns-in_err-stamp-clause-performed
returns-in_err-stamp-clause-performed c = performs_by _ _ _ _ (did_one _ _ _ refl c.note.ensures.events c.note.ensures.replies c.in_ok-advance.ensures.clocks)

pub returns-in_err-put_replies-clause-performed : goal.returns-in_err-put_replies-clause-performed
returns-in_err-put_replies-clause-performed c = performs_by _ _ _ _ (did_one _ _ _ refl c.note.ensures.events c.note.ensures.replies c.in_ok-advance.ensures.clocks)

pub returns-clause-performed : goal.returns-clause-performed
returns-clause-performed c = performs_by _ _ _ _ (did_one _ _ _ refl c.note.ensures.events c.note.ensures.replies c.in_ok-advance.ensures.clocks)

pub returns-clause-served : goal.returns-clause-served
returns-clause-served c =
    served_by _ _ _ _ _ _ _ _ (did_one _ _ _ refl c.note.ensures.events c.note.ensures.replies c.in_ok-advance.ensures.clocks) c.replies.ensures (rw c.in_ok-stamp.ensures at c.in_ok-put_replies.ensures.ok)
