use Rattle.std.proofs.Common.{◌≡◌, ◌∙◌, sym, refl, rules, tests, eq-eqb}
use Rattle.std.proofs.lemmas.Fn.{filter_same}
use Rattle.mono_locks.specs.Queues.{without}
use Rattle.mono_locks.proofs.queues.Queue.leave.Goals as goal

pub returns-then-task-me : goal.returns-then-task-me
returns-then-task-me c =
    let left : c.retain.new.self.items ≡ without c.args.self.now.waiters.items c.in-Some.ticket c.args.me = filter_same _ _ _ (λ x b f' k. search (rules, tests)) _ _ c.retain.ensures.filtered in
    rw c.in-Some.is (rw (sym c.holder_of.ensures ∙ c.in-Some-holder_of.is) (rw c.if-task-me.true (rw (eq-eqb c.args.me c.args.me refl) (left, refl, refl))))
