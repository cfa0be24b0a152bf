use Rattle.std.proofs.Common.{rules}
use Rattle.mono_stream.proofs.ComeLemmas.{iter_on}
use Rattle.mono_stream.proofs.iterate.IterStream.poll_next.Goals as goal

pub returns-clause-given : goal.returns-clause-given
returns-clause-given g c = iter_on g.I.Iterator.next_gives c.args.self.now (record { iterator = c.next.new.self }) c.next.result (search rules)
