use Rattle.lease_server.specs.Texts.{said_by}
use Rattle.lease_server.proofs.ServedLemmas.{next_none, next_batch, next_end, came_batch, came_none, came_err, takes_none, takes_batch, takes_end}
use Rattle.lease_server.proofs.batches.serve_next.Goals as goal

pub returns-in-Pending-clause-served : goal.returns-in-Pending-clause-served
returns-in-Pending-clause-served g c = next_none c.args.desk.now c.args.stamp.now.core c.args.requests.now c.poll_recv.new.self (said_by c.args.out.now) c.in-Pending.ensures.polled

pub returns-in_ok-perform-in-Ready-Ok-Some-clause-served : goal.returns-in_ok-perform-in-Ready-Ok-Some-clause-served
returns-in_ok-perform-in-Ready-Ok-Some-clause-served g c =
    next_batch c.args.desk.now c.perform.new.desk c.args.stamp.now.core c.args.requests.now c.poll_recv.new.self c.in-Ready-Ok-Some.batch c.as_slice.result.now (said_by c.args.out.now) (said_by c.perform.new.out)
    (came_batch c.args.requests.now c.poll_recv.new.self c.in-Ready-Ok-Some.field-0 c.in-Ready-Ok-Some.field-0-0 c.in-Ready-Ok-Some.batch c.in-Ready-Ok-Some.field-0-is c.in-Ready-Ok-Some.field-0-0-is c.in-Ready-Ok-Some.ensures.polled) c.as_slice.ensures.value c.in_ok-perform-in-Ready-Ok-Some.ensures.served

pub returns-in_ok-finish-in-Ready-Ok-None-clause-served : goal.returns-in_ok-finish-in-Ready-Ok-None-clause-served
returns-in_ok-finish-in-Ready-Ok-None-clause-served g c =
    next_end c.args.desk.now c.finish.new.self c.args.stamp.now.core c.args.requests.now c.poll_recv.new.self (said_by c.args.out.now) (said_by c.finish.new.out) (came_none c.args.requests.now c.poll_recv.new.self c.in-Ready-Ok-None.field-0 c.in-Ready-Ok-None.field-0-0 c.in-Ready-Ok-None.field-0-is c.in-Ready-Ok-None.field-0-0-is c.in-Ready-Ok-None.ensures.polled) c.in_ok-finish-in-Ready-Ok-None.ensures.served

pub returns-in-Pending-clause-taken : goal.returns-in-Pending-clause-taken
returns-in-Pending-clause-taken g c = takes_none c.args.desk.now c.args.requests.now c.poll_recv.new.self c.in-Pending.ensures.polled

pub returns-in-Ready-Err-clause-taken : goal.returns-in-Ready-Err-clause-taken
returns-in-Ready-Err-clause-taken g c =
    takes_none c.args.desk.now c.args.requests.now c.poll_recv.new.self (came_err c.args.requests.now c.poll_recv.new.self c.in-Ready-Err.field-0 c.in-Ready-Err.error c.in-Ready-Err.field-0-is c.in-Ready-Err.ensures.polled)

pub returns-in_ok-perform-in-Ready-Ok-Some-clause-taken : goal.returns-in_ok-perform-in-Ready-Ok-Some-clause-taken
returns-in_ok-perform-in-Ready-Ok-Some-clause-taken g c =
    takes_batch c.args.desk.now c.perform.new.desk c.args.requests.now c.poll_recv.new.self c.in-Ready-Ok-Some.batch c.as_slice.result.now
    (came_batch c.args.requests.now c.poll_recv.new.self c.in-Ready-Ok-Some.field-0 c.in-Ready-Ok-Some.field-0-0 c.in-Ready-Ok-Some.batch c.in-Ready-Ok-Some.field-0-is c.in-Ready-Ok-Some.field-0-0-is c.in-Ready-Ok-Some.ensures.polled) c.as_slice.ensures.value c.perform.ensures.performed

pub returns-in_err-perform-in-Ready-Ok-Some-clause-taken : goal.returns-in_err-perform-in-Ready-Ok-Some-clause-taken
returns-in_err-perform-in-Ready-Ok-Some-clause-taken g c =
    takes_batch c.args.desk.now c.perform.new.desk c.args.requests.now c.poll_recv.new.self c.in-Ready-Ok-Some.batch c.as_slice.result.now
    (came_batch c.args.requests.now c.poll_recv.new.self c.in-Ready-Ok-Some.field-0 c.in-Ready-Ok-Some.field-0-0 c.in-Ready-Ok-Some.batch c.in-Ready-Ok-Some.field-0-is c.in-Ready-Ok-Some.field-0-0-is c.in-Ready-Ok-Some.ensures.polled) c.as_slice.ensures.value c.perform.ensures.performed

pub returns-in_ok-finish-in-Ready-Ok-None-clause-taken : goal.returns-in_ok-finish-in-Ready-Ok-None-clause-taken
returns-in_ok-finish-in-Ready-Ok-None-clause-taken g c =
    takes_end c.args.desk.now c.finish.new.self c.args.requests.now c.poll_recv.new.self (came_none c.args.requests.now c.poll_recv.new.self c.in-Ready-Ok-None.field-0 c.in-Ready-Ok-None.field-0-0 c.in-Ready-Ok-None.field-0-is c.in-Ready-Ok-None.field-0-0-is c.in-Ready-Ok-None.ensures.polled) c.finish.ensures.performed

pub returns-in_err-finish-in-Ready-Ok-None-clause-taken : goal.returns-in_err-finish-in-Ready-Ok-None-clause-taken
returns-in_err-finish-in-Ready-Ok-None-clause-taken g c =
    takes_end c.args.desk.now c.finish.new.self c.args.requests.now c.poll_recv.new.self (came_none c.args.requests.now c.poll_recv.new.self c.in-Ready-Ok-None.field-0 c.in-Ready-Ok-None.field-0-0 c.in-Ready-Ok-None.field-0-is c.in-Ready-Ok-None.field-0-0-is c.in-Ready-Ok-None.ensures.polled) c.finish.ensures.performed
