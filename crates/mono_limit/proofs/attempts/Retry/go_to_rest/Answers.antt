use Rattle.std.proofs.Common.{refl, ap}
use Rattle.mono_time.specs.Instants.{nanos_of}
use Rattle.std.specs.Prelude.{Ok, Err}
use Rattle.mono_limit.proofs.attempts.Retry.go_to_rest.Goals as goal

pub returns-in-Ok-clause-rests : goal.returns-in-Ok-clause-rests
returns-in-Ok-clause-rests g c = record {
  result = Ok tt;
  sleep = c.reset.new.self;
  middle = c.reset.new.cx;
  resets = record {
    answer = c.in-Ok.ensures.answer;
    number = c.reset.ensures.number;
    deadline = ap nanos_of c.in-Ok.ensures.deadline;
    refused = tt;
    sleeps_after = c.reset.ensures.sleeps;
    work_after = c.reset.ensures.work;
    reached = c.reset.ensures.reached;
  };
  rest = (refl, refl, refl);
}

pub returns-in-Err-clause-rests : goal.returns-in-Err-clause-rests
returns-in-Err-clause-rests g c = record {
  result = Err c.in-Err.error;
  sleep = c.reset.new.self;
  middle = c.reset.new.cx;
  resets = record {
    answer = c.in-Err.ensures.answer;
    number = c.reset.ensures.number;
    deadline = tt;
    refused = c.in-Err.ensures.refused;
    sleeps_after = c.reset.ensures.sleeps;
    work_after = c.reset.ensures.work;
    reached = c.reset.ensures.reached;
  };
  rest = c.end.ensures.ends;
}
