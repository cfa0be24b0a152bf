use Rattle.mono_rt.proofs.EndedTaskLemmas.{retired_all}
use Rattle.mono_rt.proofs.wakers.Wakers.retire_list.Goals as goal

pub returns-clause-retired : goal.returns-clause-retired
returns-clause-retired g c =
    retired_all c.args.self.now.retired.entries c.told-self.result.entries c.args.self.now.ended.items c.told-self.ensures
