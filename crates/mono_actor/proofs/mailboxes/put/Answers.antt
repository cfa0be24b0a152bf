use Rattle.std.proofs.Common.{arith}
use Rattle.mono_actor.proofs.LinkLemmas.{put-linked, known-apart}
use Rattle.mono_actor.proofs.mailboxes.put.Goals as goal

pub returns-clause-put : goal.returns-clause-put
returns-clause-put g c =
    let put = c.in-Ok.ensures in
    put-linked c.args.letter c.args.links.now.slots c.insert.new.self.slots c.args.mailbox c.in-Ok.key 0 c.index_mut.result.now put.was_vacant put.updates.changed put.updates.others c.index_mut.ensures.value
    (known-apart c.args.links.now.slots c.args.mailbox.last c.in-Ok.key (c.requires.last (omega (arith, c.if-mailbox-eq0.false))) put.was_vacant)
    c.if-mailbox-eq0.false
