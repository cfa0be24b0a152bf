use Rattle.std.proofs.Common.{rules}
use Rattle.mono_joinword.specs.Views.{joiner_of}
use Rattle.mono_joinword.proofs.JoinerSeatLemmas.{clear_at}
use Rattle.mono_joinword.proofs.joiner.steps.replace.Goals as goal

pub compare_exchange-cleared-requires : goal.compare_exchange-cleared-requires
compare_exchange-cleared-requires g c =
    (search rules, search rules, clear_at g.O.Outcome.output_number g.W.Wakes.waker_number c.args.word.now.shared.key _ _ _ c.args.placed (joiner_of c.args.seat.now.me.0) c.requires.view.0 c.requires.view.1)
