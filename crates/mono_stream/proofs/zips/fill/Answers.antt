use Rattle.std.proofs.Common.{Some, refl, sym, ◌∙◌}
use Rattle.mono_stream.proofs.SideComeLemmas.{no_item_held, held_first, held_waits}
use Rattle.mono_stream.proofs.zips.fill.Goals as goal

pub returns-then-is_some-clause-given : goal.returns-then-is_some-clause-given
returns-then-is_some-clause-given g c = λ xs h. h

pub returns-in-Ready-Some-clause-given : goal.returns-in-Ready-Some-clause-given
returns-in-Ready-Some-clause-given g c = held_first g.S.Stream.gives _ _ _ (Some c.in-Ready-Some.item) c.in-Ready-Some.item (no_item_held _ (sym c.is_some.ensures ∙ c.if-is_some.false)) refl (rw (c.in-Ready-Some.is, c.in-Ready-Some.field-0-is) at c.poll_next.ensures.given)

pub returns-in-Pending-clause-given : goal.returns-in-Pending-clause-given
returns-in-Pending-clause-given g c = held_waits g.S.Stream.gives _ _ _ (rw c.in-Pending.is at c.poll_next.ensures.given)
