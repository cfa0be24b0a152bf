use Rattle.std.proofs.Common.{◌≡◌, ◌-◌, [], length}
use Rattle.mono_lines.specs.ReportParser.{numbers_at}
use Rattle.mono_lines.proofs.trace.reports.numbers.Given as goal

abbrev pub invariant-numbers : goal.invariant-numbers
invariant-numbers l = numbers_at (length l.fn.reader.rest.now) [] l.fn.reader.rest.now ≡ numbers_at (l.end - l.counter) l.list l.reader.rest.now
