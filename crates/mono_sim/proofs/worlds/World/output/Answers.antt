use Rattle.std.proofs.Common.{◌≡◌, get_or, rules}
use Rattle.mono_sim.proofs.WorldLemmas.{found_at}
use Rattle.mono_sim.proofs.worlds.World.output.Goals as goal

pub returns : goal.returns
returns g c =
    let is : c.index_mut.result.now ≡ get_or c.args.self.now.nodes.items c.args.number c.index_mut.result.now = search rules in
    (c.index_mut.result.now, (found_at c.args.self.now.nodes.items c.args.number c.index_mut.result.now c.requires is, c.output.ensures))
