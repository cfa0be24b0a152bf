use Rattle.mono_script.proofs.LineFormLemmas.{same_forms}
use Rattle.mono_script.proofs.line_words.forms_of.Goals as goal

pub returns : goal.returns
returns c = same_forms _ _ _ _ _ _ _ _ _ _ c.forms_of_lines.ensures c.forms_of_parts.ensures c.words_of_ends.ensures c.forms_of_pairs.ensures c.words_of_reports.ensures
