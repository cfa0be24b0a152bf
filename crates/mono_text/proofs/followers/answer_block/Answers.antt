use Rattle.std.proofs.Common.{rules}
use Rattle.mono_text.specs.Environment.{HasWritten, HasWrittenPrefix}
use Rattle.mono_text.proofs.FollowLemmas.{from_empty}
use Rattle.mono_text.proofs.followers.answer_block.Goals as goal

pub returns-then-is_err : goal.returns-then-is_err
returns-then-is_err g c =
    let went = from_empty g.V.Service.text g.V.Service.fits g.V.Service.answers c.args.service.now c.args.pending.now c.new-out.result.items c.answer_ready.new.service c.in-Ok.ready.rest.now c.answer_ready.new.out.items c.new-out.ensures.items c.in-Ok.ensures.advances in
    let wrote : HasWrittenPrefix (g.K.Sink.written c.args.sink.now) (g.K.Sink.written c.write_all.new.sink) c.answer_ready.new.out.items = search rules in
    (c.answer_ready.new.out.items, c.in-Ok.ready.rest.now, went, wrote)

pub returns-then-ready : goal.returns-then-ready
returns-then-ready g c =
    let went = from_empty g.V.Service.text g.V.Service.fits g.V.Service.answers c.args.service.now c.args.pending.now c.new-out.result.items c.answer_ready.new.service c.in-Ok.ready.rest.now c.answer_ready.new.out.items c.new-out.ensures.items c.in-Ok.ensures.advances in
    let wrote : HasWritten (g.K.Sink.written c.args.sink.now) (g.K.Sink.written c.write_all.new.sink) c.answer_ready.new.out.items = search rules in
    rw c.in-Ok-from_slice.ensures.items ((c.answer_ready.new.out.items, went, wrote), c.in-Ok.ensures.bad c.if-ready.true)

pub returns : goal.returns
returns g c =
    let went = from_empty g.V.Service.text g.V.Service.fits g.V.Service.answers c.args.service.now c.args.pending.now c.new-out.result.items c.answer_ready.new.service c.in-Ok.ready.rest.now c.answer_ready.new.out.items c.new-out.ensures.items c.in-Ok.ensures.advances in
    let wrote : HasWritten (g.K.Sink.written c.args.sink.now) (g.K.Sink.written c.write_all.new.sink) c.answer_ready.new.out.items = search rules in
    rw c.in-Ok-from_slice.ensures.items ((c.answer_ready.new.out.items, went, wrote), c.in-Ok.ensures.whole c.if-ready.false)
