use Rattle.lease_server.proofs.ServedLemmas.{part_first, part_next, part_performed, part_failed, all_served}
use Rattle.lease_server.proofs.batches.perform.Goals as goal

pub loop-request-init : goal.loop-request-init
loop-request-init c = part_first _ _ _ _

pub loop-request-preserved : goal.loop-request-preserved
loop-request-preserved c = part_next _ _ _ _ c.loop-request.request-index _ _ _ _ _ c.loop-request-test.true c.loop-request.invariant c.in_ok-handle.ensures.served

pub returns-clause-performed : goal.returns-clause-performed
returns-clause-performed c = part_performed _ _ _ _ _ _ _ c.loop-request.invariant

pub returns-clause-served : goal.returns-clause-served
returns-clause-served c = all_served _ _ _ c.loop-request.request-index _ _ _ c.loop-request-test.false c.loop-request.invariant

pub returns-in_err-handle-clause-performed : goal.returns-in_err-handle-clause-performed
returns-in_err-handle-clause-performed c = part_failed _ _ _ _ c.loop-request.request-index _ _ _ _ c.loop-request-test.true c.loop-request.invariant c.in_err-handle.ensures.performed
