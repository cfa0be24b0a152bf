use Rattle.std.proofs.Common.{sym, subst, inl}
use Rattle.std.specs.Fn.{FnOnceReturnsAtMut}
use Rattle.mono_sync.proofs.acts.owns.change_part.Goals as goal

pub returns-clause-answer : goal.returns-clause-answer
returns-clause-answer g c =
    subst (λ own. FnOnceReturnsAtMut g.F.FnOnce c.args.func (g.W.Holds.part c.args.whole.now).value c.change_own.result own.value) (sym (g.met.W.Holds.part_with c.args.whole.now c.change_own.new.own)) (
    subst (λ own. FnOnceReturnsAtMut g.F.FnOnce c.args.func own.value c.change_own.result c.change_own.new.own.value) c.part_mut.ensures.value c.change_own.ensures
    )

pub returns-clause-keeps : goal.returns-clause-keeps
returns-clause-keeps g c me = g.met.W.Holds.keeps_with me _ _ (λ p t is. inl is)
