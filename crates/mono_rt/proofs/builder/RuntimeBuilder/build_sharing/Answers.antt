use Rattle.std.proofs.Common.{◌≡◌, [], refl}
use Rattle.mono_machine.specs.Machine.{start_machine}
use Rattle.mono_blocking.specs.JobSpawns.{strategy_of}
use Rattle.mono_rt.specs.Reaches.{IsAligned}
use Rattle.mono_rt.specs.Refinement.{hosting_of, MatchesValid}
use Rattle.mono_rt.proofs.PossibleAnswerLemmas.{aligned_new, ok_by}
use Rattle.mono_rt.proofs.builder.RuntimeBuilder.build_sharing.Goals as goal

pub returns-clause-aligned : goal.returns-clause-aligned
returns-clause-aligned g c =
    let number = g.O.Outcome.output_number in
    let m = start_machine c.args.self.limits (strategy_of c.args.self.pool) in
    ok_by (λ made. MatchesValid number hosting_of made.cx.parts m) (λ made. made.cx.futures.items ≡ []) (λ made. IsAligned made.cx) c.build.result (λ made st none. aligned_new number made.cx m st refl none) c.build.ensures.stands c.build.ensures.futures
