use Rattle.lease_lines.proofs.ReplyLemmas.{more_lines, none_left}
use Rattle.lease_lines.proofs.replies.put_replies.Goals as goal

pub loop-reply-preserved : goal.loop-reply-preserved
loop-reply-preserved c = more_lines c.args.stamp.now.core c.loop-reply.reply-index _ _ _ _ _ c.loop-reply-test.true c.in_ok-put_stamped.ensures c.loop-reply.invariant

pub returns : goal.returns
returns c = none_left c.args.stamp.now.core c.loop-reply.reply-index _ _ _ c.loop-reply-test.false c.loop-reply.invariant
