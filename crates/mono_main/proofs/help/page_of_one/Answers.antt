use Rattle.std.proofs.Common.{refl, inl}
use Rattle.mono_main.proofs.help.page_of_one.Goals as goal

pub returns-then-is_help_word-clause-some : goal.returns-then-is_help_word-clause-some
returns-then-is_help_word-clause-some c = (c.args.word.now, inl (c.is_help_word.ensures.0 c.if-is_help_word.true, refl))
