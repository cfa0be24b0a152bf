use Rattle.std.proofs.Common.{◌<◌, length}
use Rattle.mono_text.specs.Services.{HasNoFeed}
use Rattle.mono_text.proofs.FollowLemmas.{Standing}
use Rattle.mono_text.proofs.followers.follow_through.Given as goal

abbrev pub invariant-reads : goal.invariant-reads
invariant-reads g l = record {
  stands : Standing g.V.Service.text g.V.Service.fits g.V.Service.answers l.fn.start l.service l.pending.items (g.S.Source.left l.fn.source) (g.S.Source.left l.source) (g.K.Sink.written l.fn.sink) (g.K.Sink.written l.sink);
  whole : HasNoFeed l.pending.items;
  room : 0 < length l.block;
}

abbrev pub decreases-reads : goal.decreases-reads
decreases-reads g l = l.turns
