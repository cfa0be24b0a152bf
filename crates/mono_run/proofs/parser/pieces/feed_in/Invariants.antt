use Rattle.std.proofs.Common.{take}
use Rattle.mono_text.specs.Services.{HasNoFeed}
use Rattle.mono_run.proofs.parser.pieces.feed_in.Given as goal

abbrev pub invariant-bytes : goal.invariant-bytes
invariant-bytes l = HasNoFeed (take l.i l.text)
