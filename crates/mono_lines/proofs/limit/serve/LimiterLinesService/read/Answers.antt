use Rattle.std.proofs.Common.{Option, Result, Ok}
use Rattle.mono_text.proofs.CallLemmas.{found_call, none_call}
use Rattle.mono_lines.specs.declared.limit.calls.LimiterCall.{LimiterCall}
use Rattle.mono_lines.specs.LimiterTexts.{call_text, FitsCall}
use Rattle.mono_lines.specs.LimiterParser.{call_at}
use Rattle.mono_lines.proofs.LimiterSpellingLemmas.{spells}
use Rattle.mono_lines.proofs.limit.serve.LimiterLinesService.read.Goals as goal

abbrev read : Option LimiterCall → Result (Option LimiterCall) (Unit {0})
read found = Ok found

pub returns-clause-found : goal.returns-clause-found
returns-clause-found c = found_call call_text FitsCall call_at spells (read c.line.result) c.args.reader.now.rest.now c.line.new.reader.rest.now c.line.ensures

pub returns-clause-none : goal.returns-clause-none
returns-clause-none c = none_call call_text FitsCall call_at spells (read c.line.result) c.args.reader.now.rest.now c.line.new.reader.rest.now c.line.ensures
