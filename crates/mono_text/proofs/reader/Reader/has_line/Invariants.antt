use Rattle.std.proofs.Common.{length}
use Rattle.mono_text.specs.Services.{HasNoFeed}
use Rattle.mono_text.proofs.reader.Reader.has_line.Given as goal

abbrev pub invariant-bytes : goal.invariant-bytes
invariant-bytes l = HasNoFeed l.rest → HasNoFeed l.initial.rest

abbrev pub decreases-bytes : goal.decreases-bytes
decreases-bytes l = length l.rest
