use Rattle.mono_stream.proofs.ZipLemmas.{zips}
use Rattle.mono_stream.proofs.joined_laws.zips_items.Goals as goal

pub returns : goal.returns
returns g c = zips g.A.Stream.polls g.B.Stream.polls
