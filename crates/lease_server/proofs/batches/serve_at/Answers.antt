use Rattle.lease_server.proofs.ServedLemmas.{served_at, takes_shown, takes_after}
use Rattle.lease_server.proofs.batches.serve_at.Goals as goal

pub returns-clause-served : goal.returns-clause-served
returns-clause-served g c = served_at _ _ _ _ _ _ _ _ _ _ _ c.new-out.ensures c.in_ok-stamp.ensures.stamp c.in_ok-stamp.ensures.served c.in_ok-came.ensures.served

pub returns-clause-taken : goal.returns-clause-taken
returns-clause-taken g c = takes_after _ _ _ _ _ c.in_ok-stamp.ensures.performed c.in_ok-came.ensures.taken

pub returns-in_err-stamp-clause-taken : goal.returns-in_err-stamp-clause-taken
returns-in_err-stamp-clause-taken g c = takes_shown _ _ _ c.in_err-stamp.ensures.performed

pub returns-in_err-came-clause-taken : goal.returns-in_err-came-clause-taken
returns-in_err-came-clause-taken g c = takes_after _ _ _ _ _ c.in_ok-stamp.ensures.performed c.in_err-came.ensures.taken
