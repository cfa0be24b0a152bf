use Rattle.mono_lines.proofs.JournalLineLemmas.{one_line}
use Rattle.mono_lines.proofs.trace.laws.one_line.Goals as goal

pub returns : goal.returns
returns c = λ bytes x other rest behind b d. one_line bytes x other rest behind b d
