use Rattle.mono_lines.proofs.JournalLineLemmas.{found_line, no_line}
use Rattle.mono_lines.proofs.trace.journal.read_line.Goals as goal

pub returns-clause-found : goal.returns-clause-found
returns-clause-found c = found_line c.line_read.result c.args.reader.now.rest.now c.line_read.new.reader.rest.now c.line_read.ensures

pub returns-clause-none : goal.returns-clause-none
returns-clause-none c = no_line c.line_read.result c.args.reader.now.rest.now c.line_read.new.reader.rest.now c.line_read.ensures
