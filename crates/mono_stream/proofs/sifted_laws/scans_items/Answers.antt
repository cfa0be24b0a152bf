use Rattle.mono_stream.proofs.SiftedLemmas.{sifts_items}
use Rattle.mono_stream.proofs.SieveLemmas.{scans_items}
use Rattle.mono_stream.proofs.sifted_laws.scans_items.Goals as goal

pub returns : goal.returns
returns g c = λ step answers n old ys has_ended new given. scans_items g.F.FnMut step answers g.S.Stream.polls old ys has_ended new (sifts_items g.S.Stream.polls _ _ g.C.Context.number g.C.Context.wakes n old ys has_ended new given)
