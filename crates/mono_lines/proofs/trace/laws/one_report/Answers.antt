use Rattle.mono_lines.proofs.JournalLineLemmas.{one_report}
use Rattle.mono_lines.proofs.trace.laws.one_report.Goals as goal

pub returns : goal.returns
returns c = λ bytes r other rest behind f g b d. one_report bytes r other rest behind f g b d
