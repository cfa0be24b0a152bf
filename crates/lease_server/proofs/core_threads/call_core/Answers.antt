use Rattle.lease_server.proofs.core_threads.call_core.Goals as goal

pub returns-clause-called : goal.returns-clause-called
returns-clause-called g c = record {
  start = c.in_ok-runtime.runtime;
  limits = _;
  strategy = _;
  stands = c.in_ok-runtime.ensures.stands;
  is_new = c.in_ok-runtime.ensures.history;
  turns = _;
  answer = c.block_on.result;
  blocked = c.block_on.ensures.blocked;
  status_is = c.unwrap_or-status.ensures;
}
