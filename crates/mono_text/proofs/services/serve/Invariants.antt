use Rattle.std.proofs.Common.{length}
use Rattle.mono_text.proofs.ServiceLemmas.{Progress}
use Rattle.mono_text.proofs.services.serve.Given as goal

abbrev pub invariant-lines : goal.invariant-lines
invariant-lines g l = Progress g.S.Service.text g.S.Service.fits g.S.Service.answers l.fn.start l.input l.count l.service l.out.items l.reader.rest.now

abbrev pub decreases-lines : goal.decreases-lines
decreases-lines g l = length l.reader.rest.now
