use Rattle.std.proofs.Common.{inl, ap, ◌∙◌}
use Rattle.mono_serve.specs.BucketCalls.{listed_in}
use Rattle.mono_serve.specs.declared.buckets.Buckets.{Buckets}
use Rattle.example_services.proofs.takes.takers.note.Goals as goal

pub returns : goal.returns
returns g c =
    g.met.C.SharedContext.reaches_with _ _ (rw c.shared_mut.ensures.value at c.push_note.ensures.leads) (λ p t is. inl (ap (λ (x : Buckets). listed_in x p t) (rw c.shared_mut.ensures.value at c.push_note.ensures.buckets) ∙ is))
