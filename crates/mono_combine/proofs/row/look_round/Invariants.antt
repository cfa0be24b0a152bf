use Rattle.std.proofs.Common.{◌≡◌, length}
use Rattle.std.specs.List.{All, AllZip}
use Rattle.mono_combine.specs.Looks.{BranchNarrows}
use Rattle.mono_combine.specs.ListSelects.{MayLook}
use Rattle.mono_combine.proofs.RoundLemmas.{SoFar}
use Rattle.mono_combine.proofs.row.look_round.Given as goal

-- The turns so far are those of a poll, none of which has passed yet.
abbrev pub invariant-loop-turn : goal.invariant-loop-turn
invariant-loop-turn g l = record {
  same_length : length l.branches.items ≡ length l.initial.branches.items;
  so_far : SoFar g.T.TaskFuture g.G.Fn l.test l.start (record { branches = l.initial.branches.items; cx = l.initial.cx }) l.turn (record { branches = l.branches.items; cx = l.cx }) l.some_wait;
  may : All (MayLook g.T.TaskFuture) l.branches.items;
  narrows : AllZip (BranchNarrows g.T.TaskFuture.gives) l.branches.items l.initial.branches.items;
  reached : g.C.Context.reaches l.initial.cx l.cx;
}
