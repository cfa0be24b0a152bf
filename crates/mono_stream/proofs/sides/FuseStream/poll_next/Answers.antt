use Rattle.mono_stream.proofs.SideComeLemmas.{fuse_on}
use Rattle.mono_stream.proofs.sides.FuseStream.poll_next.Goals as goal

pub returns-clause-given : goal.returns-clause-given
returns-clause-given g c = fuse_on g.S.Stream.gives c.args.self.now _ _ c.poll_side.ensures.given
