use Rattle.std.proofs.Common.{◌+◌, ℕ}
use Rattle.mono_stream.specs.Comes.{MayCome}
use Rattle.mono_stream.specs.SiftedComes.{AbleOver, Taken}
use Rattle.mono_stream.specs.Sifts.{Passes}
use Rattle.mono_stream.proofs.sifts.sift_some.Given as goal

-- the items that are still to be passed over go on from those that were
abbrev pub invariant-loop-i : goal.invariant-loop-i
invariant-loop-i g l = record {
  passed : (n : ℕ) (t : _) (w : _) (d : _) → Passes g.S.Stream.polls g.V.Sieve.done g.V.Sieve.sifts n l.stream l.sieve l.cx t w d
      → Passes g.S.Stream.polls g.V.Sieve.done g.V.Sieve.sifts (l._i + n) l.initial.stream l.initial.sieve l.initial.cx t w d;
  taken : Taken g.V.Sieve.done g.V.Sieve.sifts (MayCome g.S.Stream.gives l.initial.stream) (MayCome g.S.Stream.gives l.stream) l.initial.sieve l.sieve;
  callable : g.S.Stream.can_poll l.stream;
  able : AbleOver g.V.Sieve.done g.V.Sieve.sifts g.V.Sieve.can_sift g.S.Stream.gives l.stream l.sieve;
  reached : g.C.Context.reaches l.initial.cx l.cx;
}
