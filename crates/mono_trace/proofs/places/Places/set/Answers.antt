use Rattle.std.proofs.Common.{Some, ap, sym, ◌∙◌}
use Rattle.mono_model.specs.Table.{value_at}
use Rattle.mono_trace.proofs.TableCallLemmas.{given, written, set_counts}
use Rattle.mono_trace.proofs.places.Places.set.Goals as goal

pub index_mut-requires : goal.index_mut-requires
index_mut-requires g c = rw c.self.inside.items.ok.0 (given c.self.inside.items.items c.args.number c.in-Some.old (ap (λ m. value_at m.now c.args.number) c.self.view_is ∙ sym c.in-Some.ensures))

pub invariant_of-self-in-Some : goal.invariant_of-self-in-Some
invariant_of-self-in-Some g c =
    set_counts c.self.inside.items.items c.self.inside.changes.items _ c.args.number c.in-Some.old (ap (λ m. value_at m.now c.args.number) c.self.view_is ∙ sym c.in-Some.ensures) c.in_ok-push.ensures.items c.args.value _ _ c.self.invariant.0 c.self.invariant.1

pub returns-in_ok-push-clause-changed : goal.returns-in_ok-push-clause-changed
returns-in_ok-push-clause-changed g c =
    rw (← c.self.view_is) (written c.self.inside.items.items c.self.inside.changes.items _ c.args.number c.in-Some.old (ap (λ m. value_at m.now c.args.number) c.self.view_is ∙ sym c.in-Some.ensures) c.in_ok-push.ensures.items (Some c.args.value))
