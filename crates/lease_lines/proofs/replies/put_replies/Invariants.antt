use Rattle.std.proofs.Common.{◌≡◌, ◌++◌, drop}
use Rattle.lease_lines.specs.Replies.{reply_lines}
use Rattle.lease_lines.proofs.replies.put_replies.Given as goal

abbrev pub invariant-loop-reply : goal.invariant-loop-reply
invariant-loop-reply l = l.out.items ++ reply_lines l.stamp.core (drop l.reply-index l.replies) ≡ l.fn.out.items ++ reply_lines l.stamp.core l.replies
