use Rattle.std.proofs.Common.{refl, inr}
use Rattle.mono_main.proofs.help.page_after_help.Goals as goal

pub returns-then-is_general-clause-some : goal.returns-then-is_general-clause-some
returns-then-is_general-clause-some c = (c.args.word.now, inr (c.is_general.ensures.0 c.if-is_general.true, refl))
