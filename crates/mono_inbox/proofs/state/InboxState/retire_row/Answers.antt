use Rattle.std.proofs.Common.{refl, arith}
use Rattle.mono_inbox.proofs.RowRemovalLemmas.{count-without, without-sound, without-known}
use Rattle.mono_inbox.proofs.state.InboxState.retire_row.Goals as goal

pub overflow_sub-self : goal.overflow_sub-self
overflow_sub-self c = omega (arith, c.self.invariant.placed, count-without c.self.inside.standings c.args.from c.forget-row.result c.forget-row.ensures.known)

pub invariant_of-self : goal.invariant_of-self
invariant_of-self c = rw c.forget-row.ensures.after
    (without-sound c.self.inside.waiting.items c.self.inside.standings c.self.inside.places _ c.args.from c.forget-row.result c.self.invariant c.forget-row.ensures.known)

pub returns-clause-known : goal.returns-clause-known
returns-clause-known c = rw (← c.self.view_is, c.forget-row.ensures.after) (record {
  known = λ u. without-known c.self.inside.standings c.args.from c.forget-row.result u;
  waiting = refl;
})
