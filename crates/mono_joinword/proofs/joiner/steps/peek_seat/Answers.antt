use Rattle.std.proofs.Common.{rules}
use Rattle.mono_joinword.proofs.JoinerSeatLemmas.{peek_at}
use Rattle.mono_joinword.proofs.joiner.steps.peek_seat.Goals as goal

pub load-found-requires : goal.load-found-requires
load-found-requires g c = let v = c.requires.view in (search rules, search rules, peek_at g.O.Outcome.output_number g.W.Wakes.waker_number c.args.word.now.shared.key _ _ _ v.0 v.1 v.2)
