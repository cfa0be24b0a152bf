use Rattle.std.proofs.Common.{◌≡◌, ◌<◌, ◌∙◌, length, get_or, rules}
use Rattle.std.proofs.lemmas.List.{length-set}
use Rattle.mono_combine.specs.BranchLists.{GivesUp}
use Rattle.mono_combine.proofs.ListLemmas.{turn_more, all_turns}
use Rattle.mono_combine.proofs.TryListLemmas.{error_more}
use Rattle.mono_combine.proofs.try_list.give_up_failing.Goals as goal

pub loop-i-preserved : goal.loop-i-preserved
loop-i-preserved g c =
    let xs = c.loop-i.branches.items in
    let less : c.loop-i.i < length c.loop-i.branches.items = search rules in
    let is : c.index_mut.result.now ≡ get_or c.loop-i.branches.items c.loop-i.i c.index_mut.result.now = search rules in
    record {
      same_length = length-set xs _ _ ∙ c.loop-i.invariant.same_length;
      given_up = turn_more (GivesUp g.T.TaskFuture) xs _ _ _ less is _ _ _ _ c.loop-i.invariant.given_up (c.give_up_failing-later.ensures.gone, c.give_up_failing-later.ensures.cancelled);
      error = rw c.earlier_of-first.ensures (error_more xs _ _ _ _ _ less is c.give_up_failing-later.ensures.error) ∙ c.loop-i.invariant.error;
      reached = g.met.C.Context.reaches_on _ _ _ c.loop-i.invariant.reached c.give_up_failing-later.ensures.reached;
    }

pub returns-clause-given_up : goal.returns-clause-given_up
returns-clause-given_up g c = all_turns (GivesUp g.T.TaskFuture) _ _ _ _ c.loop-i.i (search rules) c.loop-i.invariant.given_up

pub returns-clause-reached : goal.returns-clause-reached
returns-clause-reached g c = c.loop-i.invariant.reached
