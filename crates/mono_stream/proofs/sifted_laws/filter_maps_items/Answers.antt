use Rattle.mono_stream.proofs.SiftedLemmas.{sifts_items}
use Rattle.mono_stream.proofs.SieveLemmas.{filter_maps_items}
use Rattle.mono_stream.proofs.sifted_laws.filter_maps_items.Goals as goal

pub returns : goal.returns
returns g c = λ value answers n old ys has_ended new given. filter_maps_items g.F.FnMut value answers g.S.Stream.polls old ys has_ended new (sifts_items g.S.Stream.polls _ _ g.C.Context.number g.C.Context.wakes n old ys has_ended new given)
