use Rattle.std.proofs.Common.{sym, ap, ◌∙◌}
use Rattle.mono_text.specs.Gaps.{ends_in}
use Rattle.mono_text.proofs.WordEndLemmas.{last_byte}
use Rattle.mono_text.proofs.gaps.ends_in.Goals as goal

pub returns-in-Some : goal.returns-in-Some
returns-in-Some c = sym (last_byte c.args.byte c.in-Some.field-0-1.now c.in-Some.last.now) ∙ ap (ends_in c.args.byte) (sym c.in-Some.ensures.cases.0)
