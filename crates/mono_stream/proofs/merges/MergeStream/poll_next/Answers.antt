use Rattle.std.proofs.Common.{true, false}
use Rattle.mono_stream.proofs.SideComeLemmas.{merge_on, merge_turned}
use Rattle.mono_stream.proofs.merges.MergeStream.poll_next.Goals as goal

pub returns-then-self-clause-given : goal.returns-then-self-clause-given
returns-then-self-clause-given g c = merge_turned g.A.Stream.gives g.B.Stream.gives c.args.self.now (record { first = c.poll_both.new.far; second = c.poll_both.new.near; is_second_due = false }) c.poll_both.result c.poll_both.ensures.given

pub returns-else-self-clause-given : goal.returns-else-self-clause-given
returns-else-self-clause-given g c = merge_on g.A.Stream.gives g.B.Stream.gives c.args.self.now (record { first = c.poll_both-else-self.new.near; second = c.poll_both-else-self.new.far; is_second_due = true }) c.poll_both-else-self.result c.poll_both-else-self.ensures.given
