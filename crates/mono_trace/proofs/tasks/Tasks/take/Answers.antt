use Rattle.std.proofs.Common.{◌≡◌, ℕ, [], ◌∷◌, ap, sym, ◌∙◌}
use Rattle.mono_trace.specs.Tables.{tasks_of}
use Rattle.mono_trace.proofs.AnswerLemmas.{passed_on, either_way}
use Rattle.mono_trace.proofs.tasks.Tasks.take.Goals as goal

pub returns : goal.returns
returns c =
    let old = c.self.inside in
    let new = c.take.new.self in
    passed_on c.take.result _ _ c.take.ensures (λ front found. either_way front _ _ _ _
    (λ (p : (old.queue.now ≡ []) × (new ≡ old.queue)). (ap (λ m. m.now.queue) (sym c.self.view_is) ∙ p.0, ap (λ q. record { now = tasks_of old.places.now q.now old.limit; before = tasks_of old.places.before q.before old.limit }) p.1 ∙ c.self.view_is))
    (λ (t : ℕ) (q : (old.queue.now ≡ t ∷ new.now) × (new.before ≡ old.queue.before)). (
      new.now,
      ap (λ m. m.now.queue) (sym c.self.view_is) ∙ q.0,
      rw (← c.self.view_is) (ap (λ b. record { now = tasks_of old.places.now new.now old.limit; before = tasks_of old.places.before b old.limit }) q.1),
    ))
    found)
