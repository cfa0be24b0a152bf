use Rattle.mono_text.proofs.CallLemmas.{found_call, none_call}
use Rattle.mono_lines.specs.ActorTexts.{line_text, FitsLine}
use Rattle.mono_lines.specs.ActorParser.{call_at}
use Rattle.mono_lines.proofs.ActorSpellingLemmas.{spells}
use Rattle.mono_lines.proofs.actor.read.next_line.Goals as goal

pub returns-clause-found : goal.returns-clause-found
returns-clause-found c = found_call line_text FitsLine call_at spells c.read_line.result c.args.reader.now.rest.now c.read_line.new.reader.rest.now c.read_line.ensures

pub returns-clause-none : goal.returns-clause-none
returns-clause-none c = none_call line_text FitsLine call_at spells c.read_line.result c.args.reader.now.rest.now c.read_line.new.reader.rest.now c.read_line.ensures
