use Rattle.mono_text.specs.Lines.{lines}
use Rattle.mono_run.specs.ScriptText.{IsScript, task_lines}
use Rattle.mono_run.proofs.BeginningLemmas.{once}
use Rattle.mono_run.proofs.scripts.laws.one_line_is_the_first.Goals as goal

pub returns : goal.returns
returns c = λ input m n a b. once (IsScript (task_lines (lines input))) (lines input) m n a b
