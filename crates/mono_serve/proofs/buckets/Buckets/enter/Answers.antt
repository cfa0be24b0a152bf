use Rattle.std.proofs.Common.{sym, ◌∙◌}
use Rattle.mono_serve.proofs.buckets.Buckets.enter.Goals as goal

pub returns-else-is_there : goal.returns-else-is_there
returns-else-is_there c = rw c.in-Some.is (rw (sym c.is_there.ensures ∙ c.if-is_there.false) (c.give_up.new.self, c.give_up.ensures, c.join-in-Some.ensures))
