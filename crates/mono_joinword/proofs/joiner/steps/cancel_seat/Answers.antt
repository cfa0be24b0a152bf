use Rattle.std.proofs.Common.{rules}
use Rattle.mono_joinword.specs.Views.{joiner_of}
use Rattle.mono_joinword.proofs.JoinerSeatLemmas.{cancel_at}
use Rattle.mono_joinword.proofs.joiner.steps.cancel_seat.Goals as goal

pub compare_exchange-was-requires : goal.compare_exchange-was-requires
compare_exchange-was-requires g c =
    (search rules, search rules, cancel_at g.O.Outcome.output_number g.W.Wakes.waker_number c.args.word.now.shared.key _ _ _ c.args.placed (joiner_of c.args.seat.now.me.0) _ c.requires.rests c.word_with-old.ensures)
