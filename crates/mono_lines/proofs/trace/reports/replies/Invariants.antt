use Rattle.std.proofs.Common.{◌≡◌, ◌-◌, [], length}
use Rattle.mono_lines.specs.ReportParser.{replies_at}
use Rattle.mono_lines.proofs.trace.reports.replies.Given as goal

abbrev pub invariant-parts : goal.invariant-parts
invariant-parts l = replies_at (length l.fn.reader.rest.now) l.task [] l.fn.reader.rest.now ≡ replies_at (l.end - l.counter) l.task l.list l.reader.rest.now
