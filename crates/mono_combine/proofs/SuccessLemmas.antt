-- The answer of a try-join if both values have been given, and the form that may be polled after an error was taken.
use Rattle.std.proofs.Common.{◌≡◌, Result, Ok, Err, refl}
use Rattle.mono_task.specs.Members.{FutureOf}
use Rattle.mono_model.specs.declared.poll.Poll.TheVariants.{Ready}
use Rattle.mono_combine.specs.declared.maybe.MaybeDone.{MaybeDone}
use Rattle.mono_combine.specs.declared.maybe.MaybeDone.TheVariants.{Future, Done, Gone}
use Rattle.mono_combine.specs.declared.try_joins.TryJoin2.{TryJoin2}
use Rattle.mono_combine.specs.Branches.{Advances, MaybeCanPoll}
use Rattle.mono_combine.specs.TryJoins.{without_failure, TryJoinPolls}

pub both_there : {C A B X Y E : Type 0} (a : FutureOf A C (Result X E)) (b : FutureOf B C (Result Y E)) (f : TryJoin2 A B X Y E) (c between d : C)
    (first : MaybeDone A (Result X E)) (second : MaybeDone B (Result Y E)) (x : X) (y : Y) (left : MaybeDone A (Result X E)) (right : MaybeDone B (Result Y E))
    → Advances a f.a c first between → Advances b f.b between second d → first ≡ Done (Ok x) → second ≡ Done (Ok y) → left ≡ Gone → right ≡ Gone
    → TryJoinPolls a b f c (Ready (Ok (x, y))) (record { a = left; b = right }) d
both_there a b f c between d first second x y left right polled polled' first_is second_is no_left no_right = rw (no_left, no_right) (record {
  first = Done (Ok x);
  second = Done (Ok y);
  between = between;
  after = d;
  a_polled = rw first_is at polled;
  b_polled = rw second_is at polled';
  answer = refl;
  waits = tt;
  ends = (refl, (d, refl, refl));
})

pub can_without : {C A X E : Type 0} (a : FutureOf A C (Result X E)) (m n : MaybeDone A (Result X E)) → n ≡ without_failure m → MaybeCanPoll a m → MaybeCanPoll a n
can_without a (Future g) n is can = rw is can
can_without a (Done (Ok x)) n is can = rw is tt
can_without a (Done (Err e)) n is can = rw is tt
can_without a Gone n is can = rw is tt
