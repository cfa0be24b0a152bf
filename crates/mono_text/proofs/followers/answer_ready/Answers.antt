use Rattle.std.proofs.Common.{sym}
use Rattle.mono_text.specs.Services.{StartsWith}
use Rattle.mono_text.proofs.FollowLemmas.{not_advanced, advanced}
use Rattle.mono_text.proofs.followers.answer_ready.Goals as goal

pub lines-init : goal.lines-init
lines-init g c =
    let p = not_advanced g.S.Service.text g.S.Service.fits g.S.Service.answers c.args.service.now c.args.bytes.now c.args.out.now.items in
    (rw c.new-reader.ensures p, sym c.new-reader.ensures)

pub lines-preserved : goal.lines-preserved
lines-preserved g c =
    let b : StartsWith g.S.Service.text g.S.Service.fits c.lines.reader.rest.now c.in-Some.call c.read.new.reader.rest.now = rw c.in-Some.is at c.in_ok-call.ensures.found in (
      advanced g.S.Service.text g.S.Service.fits g.S.Service.answers c.args.service.now c.lines.service c.answer.new.self c.args.bytes.now c.args.out.now.items c.lines.reader.rest.now c.lines.out.items c.read.new.reader.rest.now c.answer.new.out.items c.in-Some.call
          c.lines.invariant.0 b c.in_ok-answer.ensures,
      c.rest-rest.ensures,
    )
