use Rattle.std.proofs.Common.{rules}
use Rattle.mono_joinword.specs.Views.{joiner_of}
use Rattle.mono_joinword.proofs.JoinerSeatLemmas.{look_at}
use Rattle.mono_joinword.proofs.joiner.steps.poll_seat.Goals as goal

pub load-found-requires : goal.load-found-requires
load-found-requires g c =
    (search rules, search rules, look_at g.O.Outcome.output_number g.W.Wakes.waker_number c.args.word.now.shared.key _ _ _ c.args.placed (joiner_of c.args.seat.now.me.0) c.requires.rests)
