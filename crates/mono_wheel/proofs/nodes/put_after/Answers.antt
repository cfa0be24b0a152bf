use Rattle.std.proofs.Common.{None, get_or, subst}
use Rattle.std.specs.Prelude.{IsSome}
use Rattle.mono_wheel.specs.Rings.{next_of}
use Rattle.mono_wheel.proofs.InsertLemmas.{put, some-kept, count-put}
use Rattle.mono_wheel.proofs.nodes.put_after.Goals as goal

pub returns-clause-put : goal.returns-clause-put
returns-clause-put c = put c.args.nodes.now.slots c.args.before c.args.node c.args.entry _ _ _ c.requires.apart c.index_mut-first.ensures.value c.index_mut-found.ensures.value c.index_mut.ensures.value

pub index_mut-found-requires : goal.index_mut-found-requires
index_mut-found-requires c = some-kept c.args.nodes.now.slots c.args.before c.args.node _ c.requires.node

pub index_mut-requires : goal.index_mut-requires
index_mut-requires c =
    some-kept _ c.args.node _ _ (some-kept c.args.nodes.now.slots c.args.before _ _ (subst (λ o. IsSome (get_or c.args.nodes.now.slots (next_of o) None)) c.index_mut-first.ensures.value c.requires.after))

pub returns-clause-len : goal.returns-clause-len
returns-clause-len c = count-put c.args.nodes.now.slots c.args.before c.args.node c.args.entry _ _ _ c.index_mut-first.ensures.value c.index_mut-found.ensures.value c.index_mut.ensures.value
