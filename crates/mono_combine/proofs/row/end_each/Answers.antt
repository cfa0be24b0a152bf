use Rattle.std.proofs.Common.{◌≡◌, ◌<◌, ◌∙◌, length, get_or, rules}
use Rattle.std.proofs.lemmas.List.{length-set}
use Rattle.mono_combine.specs.ListSelects.{BranchEnds}
use Rattle.mono_combine.proofs.ListLemmas.{turn_more, all_turns}
use Rattle.mono_combine.proofs.row.end_each.Goals as goal

pub loop-i-preserved : goal.loop-i-preserved
loop-i-preserved g c =
    let xs = c.loop-i.branches.items in
    let less : c.loop-i.i < length c.loop-i.branches.items = search rules in
    let is : c.index_mut.result.now ≡ get_or c.loop-i.branches.items c.loop-i.i c.index_mut.result.now = search rules in
    record {
      same_length = length-set xs _ _ ∙ c.loop-i.invariant.same_length;
      ended = turn_more (BranchEnds g.T.TaskFuture) xs _ _ _ less is _ _ _ _ c.loop-i.invariant.ended (c.give_up.ensures.gone, c.give_up.ensures.given_up);
      reached = g.met.C.Context.reaches_on _ _ _ c.loop-i.invariant.reached c.give_up.ensures.reached;
    }

pub returns-clause-ended : goal.returns-clause-ended
returns-clause-ended g c = all_turns (BranchEnds g.T.TaskFuture) _ _ _ _ c.loop-i.i (search rules) c.loop-i.invariant.ended

pub returns-clause-reached : goal.returns-clause-reached
returns-clause-reached g c = c.loop-i.invariant.reached
