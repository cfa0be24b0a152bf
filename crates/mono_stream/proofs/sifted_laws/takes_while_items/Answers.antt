use Rattle.mono_stream.proofs.SiftedLemmas.{sifts_items}
use Rattle.mono_stream.proofs.SieveLemmas.{takes_while_items}
use Rattle.mono_stream.proofs.sifted_laws.takes_while_items.Goals as goal

pub returns : goal.returns
returns g c = λ test answers n old ys has_ended new fresh given. takes_while_items g.F.FnMut test answers g.S.Stream.polls old ys has_ended new fresh (sifts_items g.S.Stream.polls _ _ g.C.Context.number g.C.Context.wakes n old ys has_ended new given)
