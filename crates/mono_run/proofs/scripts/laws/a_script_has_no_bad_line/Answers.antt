use Rattle.mono_text.specs.Lines.{lines}
use Rattle.mono_run.specs.ScriptText.{IsScript, task_lines}
use Rattle.mono_run.proofs.BeginningLemmas.{not_out}
use Rattle.mono_run.proofs.scripts.laws.a_script_has_no_bad_line.Goals as goal

pub returns : goal.returns
returns c = λ input s n spells bad. not_out (IsScript (task_lines (lines input))) (lines input) n (s, spells.sound, spells.text) bad
