use Rattle.std.proofs.Common.{◌<◌, ◌≡◌, length, rules}
use Rattle.mono_text.specs.Services.{StartsWith, StartsWithNone}
use Rattle.mono_text.proofs.ServiceLemmas.{started, one_more, all_served, first_wrong}
use Rattle.mono_text.proofs.services.serve.Goals as goal

pub lines-init : goal.lines-init
lines-init g c =
    let p = started g.S.Service.text g.S.Service.fits g.S.Service.answers c.args.start c.args.input.now c.new-out.result.items c.new-out.ensures.items in
    rw c.new-reader.ensures p

pub lines-preserved : goal.lines-preserved
lines-preserved g c =
    let b : StartsWith g.S.Service.text g.S.Service.fits c.lines.reader.rest.now c.in-Some.call c.read.new.reader.rest.now = rw c.in-Some.is at c.in_ok-call.ensures.found in
    one_more g.S.Service.text g.S.Service.fits g.S.Service.answers c.args.start c.args.input.now c.lines.count c.lines.service c.answer.new.self c.lines.out.items c.answer.new.out.items c.lines.reader.rest.now c.read.new.reader.rest.now c.in-Some.call
    c.lines.invariant b c.in_ok-answer.ensures

pub returns-in_default : goal.returns-in_default
returns-in_default g c =
    let none : StartsWithNone g.S.Service.text g.S.Service.fits c.lines.reader.rest.now = search rules in
    let some : 0 < length c.lines.reader.rest.now = search rules in
    first_wrong g.S.Service.text g.S.Service.fits g.S.Service.answers c.args.start c.args.input.now c.lines.count c.lines.service c.lines.out.items c.lines.reader.rest.now c.lines.invariant some none

pub returns : goal.returns
returns g c =
    let none : length c.lines.reader.rest.now ≡ 0 = search rules in
    all_served g.S.Service.text g.S.Service.fits g.S.Service.answers c.args.start c.args.input.now c.lines.count c.lines.service c.lines.out.items c.lines.reader.rest.now c.lines.invariant none
