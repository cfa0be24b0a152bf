use Rattle.mono_text.proofs.CallLemmas.{found_call, none_call}
use Rattle.mono_lines.specs.SessionTexts.{call_text, FitsCall}
use Rattle.mono_lines.specs.SessionParser.{call_at}
use Rattle.mono_lines.proofs.SessionSpellingLemmas.{spells}
use Rattle.mono_lines.proofs.session.serve.SessionLinesService.read.Goals as goal

pub returns-clause-found : goal.returns-clause-found
returns-clause-found c = found_call call_text FitsCall call_at spells c.call_line.result c.args.reader.now.rest.now c.call_line.new.reader.rest.now c.call_line.ensures

pub returns-clause-none : goal.returns-clause-none
returns-clause-none c = none_call call_text FitsCall call_at spells c.call_line.result c.args.reader.now.rest.now c.call_line.new.reader.rest.now c.call_line.ensures
