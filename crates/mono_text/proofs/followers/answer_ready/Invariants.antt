use Rattle.std.proofs.Common.{◌≡◌, length}
use Rattle.mono_text.specs.Follows.{Advances}
use Rattle.mono_text.proofs.followers.answer_ready.Given as goal

abbrev pub invariant-lines : goal.invariant-lines
invariant-lines g l =
    Advances g.S.Service.text g.S.Service.fits g.S.Service.answers l.fn.service l.bytes l.fn.out.items l.service l.reader.rest.now l.out.items × (l.rest ≡ l.reader.rest.now)

abbrev pub decreases-lines : goal.decreases-lines
decreases-lines g l = length l.reader.rest.now
