use Rattle.std.proofs.Common.{◌≡◌, ◌<◌, ◌∙◌, refl, length, get_or, rules}
use Rattle.std.proofs.lemmas.List.{length-set}
use Rattle.std.proofs.lemmas.List.Elements.{All-set}
use Rattle.mono_combine.proofs.ListLemmas.{turn_more, all_turns}
use Rattle.mono_forms.specs.Parts.{MayPoll}
use Rattle.mono_forms.specs.RaceLists.{RacesOnce}
use Rattle.mono_forms.proofs.RaceListLemmas.{gives_at, gives_set, ends_here}
use Rattle.mono_forms.proofs.race_lists.poll_in_turn.Goals as goal

pub returns-in-Ready-clause-polled : goal.returns-in-Ready-clause-polled
returns-in-Ready-clause-polled g c =
    let xs = c.loop-i.futures.items in
    let less : c.loop-i.i < length c.loop-i.futures.items = search rules in
    let is : c.index_mut.result.now ≡ get_or c.loop-i.futures.items c.loop-i.i c.index_mut.result.now = search rules in
    ends_here g.T.TaskFuture xs _ _ _ less is _ _ _ _ c.in-Ready.x c.loop-i.invariant.polled (_, c.poll.ensures.polled, rw c.in-Ready.is refl)

pub returns-in-Ready-clause-given : goal.returns-in-Ready-clause-given
returns-in-Ready-clause-given g c =
    let xs = c.loop-i.futures.items in
    let less : c.loop-i.i < length c.loop-i.futures.items = search rules in
    let is : c.index_mut.result.now ≡ get_or c.loop-i.futures.items c.loop-i.i c.index_mut.result.now = search rules in
    c.loop-i.invariant.narrows c.in-Ready.x (gives_at g.T.TaskFuture.gives xs _ _ less is c.in-Ready.x c.in-Ready.ensures.given)

pub loop-i-preserved : goal.loop-i-preserved
loop-i-preserved g c =
    let xs = c.loop-i.futures.items in
    let less : c.loop-i.i < length c.loop-i.futures.items = search rules in
    let is : c.index_mut.result.now ≡ get_or c.loop-i.futures.items c.loop-i.i c.index_mut.result.now = search rules in
    record {
      same_length = length-set xs _ _ ∙ c.loop-i.invariant.same_length;
      may = All-set (MayPoll g.T.TaskFuture) xs _ _ (c.in_default.ensures.again, c.poll.ensures.callable) c.loop-i.invariant.may;
      polled = turn_more (RacesOnce g.T.TaskFuture) xs _ _ _ less is _ _ _ _ c.loop-i.invariant.polled (_, c.poll.ensures.polled, rw c.in_default.is refl);
      narrows = λ x h. c.loop-i.invariant.narrows x (gives_set g.T.TaskFuture.gives xs _ _ _ less is x (c.in_default.ensures.same x) h);
      reached = g.met.C.Context.reaches_on _ _ _ c.loop-i.invariant.reached c.poll.ensures.reached;
    }

pub returns-clause-polled : goal.returns-clause-polled
returns-clause-polled g c = all_turns (RacesOnce g.T.TaskFuture) _ _ _ _ c.loop-i.i (search rules) c.loop-i.invariant.polled

pub returns-clause-again : goal.returns-clause-again
returns-clause-again g c = c.loop-i.invariant.may

pub returns-clause-same : goal.returns-clause-same
returns-clause-same g c = c.loop-i.invariant.narrows

pub returns-in-Ready-clause-reached : goal.returns-in-Ready-clause-reached
returns-in-Ready-clause-reached g c = g.met.C.Context.reaches_on _ _ _ c.loop-i.invariant.reached c.poll.ensures.reached

pub returns-clause-reached : goal.returns-clause-reached
returns-clause-reached g c = c.loop-i.invariant.reached
