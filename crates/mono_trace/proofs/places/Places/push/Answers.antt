use Rattle.std.proofs.Common.{◌∙◌}
use Rattle.mono_trace.proofs.TableCallLemmas.{pushed, pushed_counts, taken_back, taken_counts}
use Rattle.mono_trace.proofs.places.Places.push.Goals as goal

pub invariant_of-self-in-Ok : goal.invariant_of-self-in-Ok
invariant_of-self-in-Ok g c =
    pushed_counts c.self.inside.items.items c.self.inside.changes.items _ c.push.new.self.items c.args.value c.in_ok-push.ensures.items c.in-Ok.ensures.items _ _ c.self.invariant.0 c.self.invariant.1

pub returns-in-Ok-clause-changed : goal.returns-in-Ok-clause-changed
returns-in-Ok-clause-changed g c =
    rw (← c.self.view_is) (pushed c.self.inside.items.items c.self.inside.changes.items _ c.push.new.self.items c.args.value c.in_ok-push.ensures.items c.in-Ok.ensures.items)

pub invariant_of-self-in-Err : goal.invariant_of-self-in-Err
invariant_of-self-in-Err g c =
    taken_counts c.self.inside.items.items c.self.inside.changes.items _ c.push.new.self.items _ c.args.value _ c.in_ok-push.ensures.items c.push.new.self.ok.0 c.pop.ensures.rest c.in-Err.ensures.items _ _ c.self.invariant.0 c.self.invariant.1

pub returns-in-Err-clause-refused : goal.returns-in-Err-clause-refused
returns-in-Err-clause-refused g c =
    taken_back c.self.inside.items.items c.self.inside.changes.items _ c.push.new.self.items _ c.args.value _ c.in_ok-push.ensures.items c.push.new.self.ok.0 c.pop.ensures.rest c.in-Err.ensures.items ∙ c.self.view_is
