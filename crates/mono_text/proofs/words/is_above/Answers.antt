use Rattle.std.proofs.Common.{sym, ap, ◌∙◌, is_lt}
use Rattle.mono_text.proofs.WordEndLemmas.{as_long}
use Rattle.mono_text.proofs.words.is_above.Goals as goal

pub returns-then-word-top : goal.returns-then-word-top
returns-then-word-top c = c.is_lt.ensures ∙ ap is_lt c.cmp.ensures ∙ sym (as_long c.args.top.now c.args.word.now (sym c.if-not-is_number.ensures) c.if-top-word.false c.if-word-top.true)
