use Rattle.std.proofs.Common.{subst, sym, ◌∙◌, ◌<◌, ap, arith}
use Rattle.std.specs.Prelude.{Ok}
use Rattle.mono_limit.proofs.ValidityLemmas.{again_later}
use Rattle.mono_limit.proofs.limiter.Limiter.fail.Goals as goal

pub wait-requires-clause-later : goal.wait-requires-clause-later
wait-requires-clause-later c =
    let s = c.in-Some.schedule in
    let sound = c.args.self.now.retries.holds.sound c.args.retry s (sym c.in-Some.ensures) in
    let later = again_later s c.greatest.result c.in-Again.tick sound.has_base (omega (arith, sound.has_base, sound.has_cap)) (sym c.next.ensures ∙ c.in_ok-next-in-Some.was ∙ ap Ok c.in-Again.is) in
    subst (λ g. g < c.in-Again.tick) c.greatest.ensures later
