use Rattle.mono_stream.proofs.SiftedLemmas.{sifts_items}
use Rattle.mono_stream.proofs.sifted_laws.sifts_each_item.Goals as goal

pub returns : goal.returns
returns g c = sifts_items g.S.Stream.polls g.V.Sieve.done g.V.Sieve.sifts g.C.Context.number g.C.Context.wakes
