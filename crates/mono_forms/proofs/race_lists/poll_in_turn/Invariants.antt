use Rattle.std.proofs.Common.{◌≡◌, ◌++◌, None, List, length, take, drop}
use Rattle.std.specs.List.{All}
use Rattle.mono_combine.specs.BranchLists.{EachInTurn}
use Rattle.mono_forms.specs.Parts.{MayPoll}
use Rattle.mono_forms.specs.RaceLists.{RacesOnce, OneGives}
use Rattle.mono_forms.proofs.race_lists.poll_in_turn.Given as goal

-- The turns to come continue those that were taken, none of which has given an answer.
abbrev pub invariant-loop-i : goal.invariant-loop-i
invariant-loop-i g l = record {
  same_length : length l.futures.items ≡ length l.initial.futures.items;
  may : All (MayPoll g.T.TaskFuture) l.futures.items;
  polled : (rest : List _) (t : _) → EachInTurn (RacesOnce g.T.TaskFuture) (drop l.i l.futures.items) (record { won = None; cx = l.cx }) rest t
      → EachInTurn (RacesOnce g.T.TaskFuture) l.initial.futures.items (record { won = None; cx = l.initial.cx }) (take l.i l.futures.items ++ rest) t;
  narrows : (x : _) → OneGives g.T.TaskFuture.gives l.futures.items x → OneGives g.T.TaskFuture.gives l.initial.futures.items x;
  reached : g.C.Context.reaches l.initial.cx l.cx;
}
