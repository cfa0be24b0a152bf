use Rattle.mono_limit.specs.Steps.{Step, Run}
use Rattle.mono_lines.specs.LimiterTexts.{call_of, answer_text}
use Rattle.mono_lines.proofs.ServiceLemmas.{one_run}
use Rattle.mono_lines.proofs.limit.laws.lines_are_one_run.Goals as goal

pub returns : goal.returns
returns c = one_run Step Run (λ old new same. same) (λ old mid new call calls answer answers step run. (mid, step, run)) call_of answer_text
