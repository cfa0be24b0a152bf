use Rattle.std.proofs.Common.{◌≡◌, get_or, refl, rules}
use Rattle.mono_sim.proofs.WorldLemmas.{found_at}
use Rattle.mono_sim.proofs.worlds.World.run_at.Goals as goal

pub returns-clause-runs : goal.returns-clause-runs
returns-clause-runs g c =
    let is : c.index_mut.result.now ≡ get_or c.args.self.now.nodes.items c.args.number c.index_mut.result.now = search rules in
    record {
      before = c.index_mut.result.now;
      after = c.go_on.new.self;
      found = found_at c.args.self.now.nodes.items c.args.number c.index_mut.result.now c.requires.number is;
      main = c.go_on.ensures.main;
      ran = c.go_on.ensures.ran;
      turns = c.go_on.ensures.turned;
      nodes = search rules;
      plan = refl;
      time = refl;
    }
