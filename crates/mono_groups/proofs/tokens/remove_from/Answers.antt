use Rattle.std.proofs.Common.{sym, ap, refl}
use Rattle.mono_groups.specs.Waiters.{tasks_of}
use Rattle.mono_groups.proofs.WaiterLemmas.{some_task}
use Rattle.mono_groups.proofs.tokens.remove_from.Goals as goal

pub returns-then-not-is_empty : goal.returns-then-not-is_empty
returns-then-not-is_empty c = ((c.in-Some.node.now, sym c.in-Some.ensures, c.if-not-node.false, λ none. some_task c.in-Some.node.now.waiters.entries.items c.if-not-is_empty.ensures none), refl)

pub returns : goal.returns
returns c = ((c.in-Some.node.now, sym c.in-Some.ensures, c.if-not-node.false, ap tasks_of c.if-not-is_empty.ensures), c.remove.ensures)
