use Rattle.mono_joinword.proofs.LawLemmas.{peeking, looking, clearing, placing, cancelling, trying}
use Rattle.mono_joinword.proofs.laws.joining_keeps.Goals as goal

pub returns-clause-peeking : goal.returns-clause-peeking
returns-clause-peeking g c = peeking g.O.Outcome.output_number g.W.Wakes.waker_number

pub returns-clause-looking : goal.returns-clause-looking
returns-clause-looking g c = looking g.O.Outcome.output_number g.W.Wakes.waker_number

pub returns-clause-clearing : goal.returns-clause-clearing
returns-clause-clearing g c = clearing g.O.Outcome.output_number g.W.Wakes.waker_number

pub returns-clause-placing : goal.returns-clause-placing
returns-clause-placing g c = placing g.O.Outcome.output_number g.W.Wakes.waker_number

pub returns-clause-cancelling : goal.returns-clause-cancelling
returns-clause-cancelling g c = cancelling g.O.Outcome.output_number g.W.Wakes.waker_number

pub returns-clause-trying : goal.returns-clause-trying
returns-clause-trying g c = trying g.O.Outcome.output_number g.W.Wakes.waker_number
