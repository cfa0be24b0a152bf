use Rattle.std.proofs.Common.{rules}
use Rattle.mono_joinword.specs.Views.{has_waker}
use Rattle.mono_joinword.proofs.JoinerSeatLemmas.{try_at}
use Rattle.mono_joinword.proofs.joiner.steps.try_seat.Goals as goal

pub compare_exchange-requires : goal.compare_exchange-requires
compare_exchange-requires g c = let v = c.requires.view in
    (search rules, search rules, try_at g.O.Outcome.output_number g.W.Wakes.waker_number c.args.word.now.shared.key _ _ _ (has_waker c.args.placed) _ v.0 v.1 v.2 v.3 c.word_with-old.ensures)
