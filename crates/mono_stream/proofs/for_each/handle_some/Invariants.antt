use Rattle.std.proofs.Common.{◌+◌, ℕ}
use Rattle.mono_stream.specs.ForEaches.{Items}
use Rattle.mono_stream.proofs.for_each.handle_some.Given as goal

-- the items that are still to come go on from those that came
abbrev pub invariant-loop-i : goal.invariant-loop-i
invariant-loop-i g l = record {
  items : (n : ℕ) (t : _) (d : _) → Items g.S.Stream.polls n l.stream l.cx t d → Items g.S.Stream.polls (l._i + n) l.initial.stream l.initial.cx t d;
  callable : g.S.Stream.can_poll l.stream;
  reached : g.C.Context.reaches l.initial.cx l.cx;
}
