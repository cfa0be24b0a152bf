use Rattle.mono_text.proofs.FollowLemmas.{nothing_ready}
use Rattle.mono_text.proofs.followers.answer_pending.Goals as goal

pub returns-then-not-has_feed : goal.returns-then-not-has_feed
returns-then-not-has_feed g c =
    nothing_ready g.V.Service.text g.V.Service.fits g.V.Service.answers c.args.service.now c.args.pending.items (g.K.Sink.written c.args.sink.now) (c.requires c.if-not-has_feed.true)
