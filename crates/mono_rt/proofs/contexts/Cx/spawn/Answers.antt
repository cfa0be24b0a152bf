use Rattle.std.proofs.Common.{refl}
use Rattle.mono_rt.specs.Refinement.{hosting_of}
use Rattle.mono_rt.specs.Reaches.{by_parts}
use Rattle.mono_rt.proofs.CallLemmas.{by_refusal}
use Rattle.mono_rt.proofs.contexts.Cx.spawn.Goals as goal

pub returns-in-Err-clause-reached : goal.returns-in-Err-clause-reached
returns-in-Err-clause-reached g c =
    by_parts g.O.Outcome.output_number g.W.SharedState c.args.self.now _ (by_refusal g.O.Outcome.output_number hosting_of c.args.self.now.parts _ refl) refl c.reserve_value.ensures.same.items c.reserve_value.ensures.same.lent refl (λ h. h) (g.met.W.SharedState.leads_itself _) refl refl
