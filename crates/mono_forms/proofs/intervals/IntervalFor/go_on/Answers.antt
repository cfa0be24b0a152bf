use Rattle.std.proofs.Common.{Ok, refl, sym, ap, ◌∙◌}
use Rattle.mono_forms.specs.Intervals.{tick_answer}
use Rattle.mono_forms.proofs.intervals.IntervalFor.go_on.Goals as goal

pub returns-in-Ready-clause-ticks : goal.returns-in-Ready-clause-ticks
returns-in-Ready-clause-ticks g c = record {
  answer = c.poll_tick-answer.result;
  after = c.poll_tick-answer.new.self;
  polled = c.poll_tick-answer.ensures.ticks;
  answers = sym (ap tick_answer (c.in-Ok.is ∙ ap Ok c.in-Ready.is));
  stays = refl;
}

pub returns-in-Pending-clause-ticks : goal.returns-in-Pending-clause-ticks
returns-in-Pending-clause-ticks g c = record {
  answer = c.poll_tick-answer.result;
  after = c.poll_tick-answer.new.self;
  polled = c.poll_tick-answer.ensures.ticks;
  answers = sym (ap tick_answer (c.in-Ok.is ∙ ap Ok c.in-Pending.is));
  stays = refl;
}
