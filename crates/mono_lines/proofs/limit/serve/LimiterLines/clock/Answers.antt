use Rattle.std.proofs.Common.{◌≡◌, ◌<◌, [], rules}
use Rattle.mono_model.specs.Ticks.{max_nanos}
use Rattle.mono_time.specs.Instants.{nanos_of}
use Rattle.mono_limit.specs.Limits.{limits_of}
use Rattle.mono_lines.proofs.LimiterClockLemmas.{past_the_last, listed}
use Rattle.mono_lines.proofs.limit.serve.LimiterLines.clock.Goals as goal

pub returns-in_default : goal.returns-in_default
returns-in_default c =
    let late : max_nanos < c.args.n = search rules in
    past_the_last c.refused.result (limits_of c.args.self.now.limiter) c.args.n _ _ late c.refused.ensures.text

pub returns : goal.returns
returns c =
    let none : c.clear.new.self.items ≡ [] = search rules in
    listed c.due.result (limits_of c.args.self.now.limiter) (limits_of c.advance.new.self) (nanos_of c.in-Some.now) c.args.n _ _ c.deref.result.now _ _ c.in-Some.ensures.some none c.in_ok-advance.ensures.due (search rules) c.due.ensures
