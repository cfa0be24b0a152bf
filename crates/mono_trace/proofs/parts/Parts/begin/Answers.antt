use Rattle.std.proofs.Common.{◌≡◌, ℕ, List, [], ◌∷◌, ap, sym, ◌∙◌}
use Rattle.mono_model.specs.Tasks.{begun}
use Rattle.mono_trace.specs.Versions.{changed}
use Rattle.mono_trace.specs.Trials.{machine_in}
use Rattle.mono_trace.proofs.AnswerLemmas.{passed_on, either_way}
use Rattle.mono_trace.proofs.parts.Parts.begin.Goals as goal

pub returns : goal.returns
returns c =
    let old = c.self.inside in
    let new = c.begin.new.self in
    passed_on c.begin.result _ _ c.begin.ensures (λ front found. either_way front _ _ _ _
    (λ (p : (old.tasks.now.queue ≡ []) × (new ≡ old.tasks)). (
      ap (λ m. m.now.tasks.queue) (sym c.self.view_is) ∙ p.0,
      ap (λ t. record { now = machine_in t.now old.jobs.now old.sleeps.now old.inbox.items old.blocking; before = machine_in t.before old.jobs.before old.sleeps.before old.inbox.items old.blocking }) p.1 ∙ c.self.view_is,
    ))
    (λ (t : ℕ) (q : (rest : List ℕ) × (old.tasks.now.queue ≡ t ∷ rest) × (new ≡ changed old.tasks (begun old.tasks.now t rest))). (
      q.0,
      ap (λ m. m.now.tasks.queue) (sym c.self.view_is) ∙ q.1,
      rw (← c.self.view_is) (ap (λ x. record { now = machine_in x.now old.jobs.now old.sleeps.now old.inbox.items old.blocking; before = machine_in x.before old.jobs.before old.sleeps.before old.inbox.items old.blocking }) q.2),
    ))
    found)
