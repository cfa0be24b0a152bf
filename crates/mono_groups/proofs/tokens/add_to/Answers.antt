use Rattle.std.proofs.Common.{ap, ◌∙◌}
use Rattle.mono_groups.specs.Waiters.{tasks_of}
use Rattle.mono_groups.proofs.tokens.add_to.Goals as goal

pub returns-in-Ok : goal.returns-in-Ok
returns-in-Ok c = (c.len-key.ensures, (c.new.result, c.new.ensures.parent, c.new.ensures.cancelled ∙ c.follows-is_cancelled.ensures, ap tasks_of c.new.ensures.waiters, c.in-Ok.ensures.after))
