use Rattle.mono_stream.proofs.SiftedLemmas.{sifts_items}
use Rattle.mono_stream.proofs.SieveLemmas.{skips_items}
use Rattle.mono_stream.proofs.sifted_laws.skips_items.Goals as goal

pub returns : goal.returns
returns g c = λ n old ys has_ended new given. skips_items g.S.Stream.polls old ys has_ended new (sifts_items g.S.Stream.polls _ _ g.C.Context.number g.C.Context.wakes n old ys has_ended new given)
