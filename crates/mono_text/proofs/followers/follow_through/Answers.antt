use Rattle.std.proofs.Common.{◌≡◌, ◌<◌, ◌++◌, None, Some, length, take, rules}
use Rattle.mono_text.specs.Follows.{Answered, end_of}
use Rattle.mono_text.specs.declared.followers.FollowEnd.TheVariants as end
use Rattle.mono_text.specs.Services.{HasNoFeed}
use Rattle.mono_text.proofs.CallLemmas.{one_line_both}
use Rattle.mono_text.proofs.FollowLemmas.{standing, unread, at_end, after_read, grown, failed, ended_in, goes_on}
use Rattle.mono_text.proofs.followers.follow_through.Goals as goal

pub reads-init : goal.reads-init
reads-init g c = record {
  stands = standing g.V.Service.text g.V.Service.fits g.V.Service.answers c.args.start c.new-pending.result.items (g.S.Source.left c.args.source.now) (g.K.Sink.written c.args.sink.now) c.new-pending.ensures.items;
  whole = rw c.new-pending.ensures.items tt;
  room = c.requires;
}

pub reads-preserved : goal.reads-preserved
reads-preserved g c =
    let more : c.extend_from_slice.new.self.items ≡ c.reads.pending.items ++ take c.in-Ok.n c.read.new.buffer = search rules in
    let stands = grown g.V.Service.text g.V.Service.fits g.V.Service.answers c.args.start c.reads.service c.reads.pending.items c.extend_from_slice.new.self.items (g.S.Source.left c.args.source.now) (g.S.Source.left c.reads.source) (g.K.Sink.written c.args.sink.now) (g.K.Sink.written c.reads.sink) (g.S.Source.left c.read.new.self) c.read.new.buffer c.in-Ok.n c.reads.invariant.stands c.in-Ok.ensures.bytes more in
    let a : Answered g.V.Service.text g.V.Service.fits g.V.Service.answers c.reads.service c.extend_from_slice.new.self.items None c.answer_pending-made.new.service c.answer_pending-made.result.rest.items (g.K.Sink.written c.reads.sink) (g.K.Sink.written c.answer_pending-made.new.sink) = rw c.in_default-end.is at c.answer_pending-made.ensures in
    let next = goes_on g.V.Service.text g.V.Service.fits g.V.Service.answers c.args.start c.reads.service c.answer_pending-made.new.service c.extend_from_slice.new.self.items c.answer_pending-made.result.rest.items (g.S.Source.left c.args.source.now) (g.S.Source.left c.read.new.self) (g.K.Sink.written c.args.sink.now) (g.K.Sink.written c.reads.sink) (g.K.Sink.written c.answer_pending-made.new.sink) stands a in
    let room : 0 < length c.read.new.buffer = search rules in
    record { stands = next.0; whole = next.1; room = room }

pub returns-in_default : goal.returns-in_default
returns-in_default g c =
    let same : g.S.Source.left c.read.new.self ≡ g.S.Source.left c.reads.source = search rules in
    unread g.V.Service.text g.V.Service.fits g.V.Service.answers c.args.start c.reads.service c.reads.pending.items (g.S.Source.left c.args.source.now) (g.S.Source.left c.reads.source) (g.S.Source.left c.read.new.self) (g.K.Sink.written c.args.sink.now) (g.K.Sink.written c.reads.sink) c.reads.invariant.stands same

pub returns-then-n-eq0 : goal.returns-then-n-eq0
returns-then-n-eq0 g c =
    let is : c.end_behind.result ≡ end_of c.reads.pending.items = search rules in
    let room : 0 < length c.read.new.buffer = search rules in
    rw is (at_end g.V.Service.text g.V.Service.fits g.V.Service.answers c.args.start c.reads.service c.reads.pending.items (g.S.Source.left c.args.source.now) (g.S.Source.left c.reads.source) (g.S.Source.left c.read.new.self) (g.K.Sink.written c.args.sink.now) (g.K.Sink.written c.reads.sink) c.read.new.buffer c.in-Ok.n c.reads.invariant.stands c.reads.invariant.whole c.in-Ok.ensures.bytes c.if-n-eq0.true room)

pub returns-then-is_err : goal.returns-then-is_err
returns-then-is_err g c =
    let stands = after_read g.V.Service.text g.V.Service.fits g.V.Service.answers c.args.start c.reads.service c.reads.pending.items (g.S.Source.left c.args.source.now) (g.S.Source.left c.reads.source) (g.K.Sink.written c.args.sink.now) (g.K.Sink.written c.reads.sink) (g.S.Source.left c.read.new.self) c.read.new.buffer c.in-Ok.n c.reads.invariant.stands c.in-Ok.ensures.bytes in
    failed g.V.Service.text g.V.Service.fits g.V.Service.answers end.OutOfMemory tt c.args.start c.reads.service (c.reads.pending.items ++ take c.in-Ok.n c.read.new.buffer) c.extend_from_slice.new.self.items (g.S.Source.left c.args.source.now) (g.S.Source.left c.read.new.self) (g.K.Sink.written c.args.sink.now) (g.K.Sink.written c.reads.sink) stands

pub returns-in-Some : goal.returns-in-Some
returns-in-Some g c =
    let more : c.extend_from_slice.new.self.items ≡ c.reads.pending.items ++ take c.in-Ok.n c.read.new.buffer = search rules in
    let stands = grown g.V.Service.text g.V.Service.fits g.V.Service.answers c.args.start c.reads.service c.reads.pending.items c.extend_from_slice.new.self.items (g.S.Source.left c.args.source.now) (g.S.Source.left c.reads.source) (g.K.Sink.written c.args.sink.now) (g.K.Sink.written c.reads.sink) (g.S.Source.left c.read.new.self) c.read.new.buffer c.in-Ok.n c.reads.invariant.stands c.in-Ok.ensures.bytes more in
    let a : Answered g.V.Service.text g.V.Service.fits g.V.Service.answers c.reads.service c.extend_from_slice.new.self.items (Some c.in-Some.end) c.answer_pending-made.new.service c.answer_pending-made.result.rest.items (g.K.Sink.written c.reads.sink) (g.K.Sink.written c.answer_pending-made.new.sink) = rw c.in-Some.is at c.answer_pending-made.ensures in
    ended_in g.V.Service.text g.V.Service.fits g.V.Service.answers c.in-Some.end c.args.start c.reads.service c.answer_pending-made.new.service c.extend_from_slice.new.self.items c.answer_pending-made.result.rest.items (g.S.Source.left c.args.source.now) (g.S.Source.left c.read.new.self) (g.K.Sink.written c.args.sink.now) (g.K.Sink.written c.reads.sink) (g.K.Sink.written c.answer_pending-made.new.sink) stands a

pub returns-then-len-gt-MAX_INPUT : goal.returns-then-len-gt-MAX_INPUT
returns-then-len-gt-MAX_INPUT g c =
    let more : c.extend_from_slice.new.self.items ≡ c.reads.pending.items ++ take c.in-Ok.n c.read.new.buffer = search rules in
    let stands = grown g.V.Service.text g.V.Service.fits g.V.Service.answers c.args.start c.reads.service c.reads.pending.items c.extend_from_slice.new.self.items (g.S.Source.left c.args.source.now) (g.S.Source.left c.reads.source) (g.K.Sink.written c.args.sink.now) (g.K.Sink.written c.reads.sink) (g.S.Source.left c.read.new.self) c.read.new.buffer c.in-Ok.n c.reads.invariant.stands c.in-Ok.ensures.bytes more in
    let a : Answered g.V.Service.text g.V.Service.fits g.V.Service.answers c.reads.service c.extend_from_slice.new.self.items None c.answer_pending-made.new.service c.answer_pending-made.result.rest.items (g.K.Sink.written c.reads.sink) (g.K.Sink.written c.answer_pending-made.new.sink) = rw c.in_default-end.is at c.answer_pending-made.ensures in
    let next = goes_on g.V.Service.text g.V.Service.fits g.V.Service.answers c.args.start c.reads.service c.answer_pending-made.new.service c.extend_from_slice.new.self.items c.answer_pending-made.result.rest.items (g.S.Source.left c.args.source.now) (g.S.Source.left c.read.new.self) (g.K.Sink.written c.args.sink.now) (g.K.Sink.written c.reads.sink) (g.K.Sink.written c.answer_pending-made.new.sink) stands a in
    failed g.V.Service.text g.V.Service.fits g.V.Service.answers end.TooLong tt c.args.start c.answer_pending-made.new.service c.answer_pending-made.result.rest.items c.answer_pending-made.result.rest.items (g.S.Source.left c.args.source.now) (g.S.Source.left c.read.new.self) (g.K.Sink.written c.args.sink.now) (g.K.Sink.written c.answer_pending-made.new.sink) next.0

pub returns : goal.returns
returns g c = failed g.V.Service.text g.V.Service.fits g.V.Service.answers end.TooLong tt c.args.start c.reads.service c.reads.pending.items c.reads.pending.items (g.S.Source.left c.args.source.now) (g.S.Source.left c.reads.source) (g.K.Sink.written c.args.sink.now) (g.K.Sink.written c.reads.sink) c.reads.invariant.stands

pub answer_pending-made-requires : goal.answer_pending-made-requires
answer_pending-made-requires g c none =
    let more : c.extend_from_slice.new.self.items ≡ c.reads.pending.items ++ take c.in-Ok.n c.read.new.buffer = search rules in
    let fresh : HasNoFeed (take c.in-Ok.n c.read.new.buffer) = rw c.front_of-fresh.ensures at rw c.new.ensures at c.has_line-has_feed.ensures none in
    rw more (one_line_both c.reads.pending.items (take c.in-Ok.n c.read.new.buffer) c.reads.invariant.whole fresh)
