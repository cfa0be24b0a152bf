-- The answer of a try-join if a branch has failed.
use Rattle.std.proofs.Common.{◌≡◌, Some, None, Result, Ok, Err, refl}
use Rattle.mono_task.specs.Members.{FutureOf}
use Rattle.mono_model.specs.declared.poll.Poll.TheVariants.{Ready}
use Rattle.mono_combine.specs.declared.maybe.MaybeDone.{MaybeDone}
use Rattle.mono_combine.specs.declared.maybe.MaybeDone.TheVariants.{Future, Done, Gone}
use Rattle.mono_combine.specs.declared.try_joins.TryJoin2.{TryJoin2}
use Rattle.mono_combine.specs.Branches.{Advances, MaybeCancels}
use Rattle.mono_combine.specs.TryJoins.{failure_of, without_failure, TryJoinPolls}

module _ {C A B X Y E : Type 0} (a : FutureOf A C (Result X E)) (b : FutureOf B C (Result Y E)) (f : TryJoin2 A B X Y E) (c between d : C) (e : E) where
  pub first_failed : (first left : MaybeDone A (Result X E)) (emptied : MaybeDone B (Result Y E))
      → Advances a f.a c first between → Some e ≡ failure_of first → left ≡ without_failure first → emptied ≡ Gone → MaybeCancels b f.b between d
      → TryJoinPolls a b f c (Ready (Err e)) (record { a = left; b = emptied }) d
  first_failed (Future g) left emptied polled is after last given_up = absurd (cc)
  first_failed (Done (Ok x)) left emptied polled is after last given_up = absurd (cc)
  first_failed Gone left emptied polled is after last given_up = absurd (cc)
  first_failed (Done (Err x)) left emptied polled is after last given_up = rw (after, last) (record {
    first = Done (Err x);
    second = f.b;
    between = between;
    after = between;
    a_polled = polled;
    b_polled = (refl, refl);
    answer = cc;
    waits = tt;
    ends = (refl, (between, refl, given_up));
  })

  pub second_failed : (first : MaybeDone A (Result X E)) (second left : MaybeDone B (Result Y E)) (emptied : MaybeDone A (Result X E)) (after : C)
      → Advances a f.a c first between → failure_of first ≡ None → Advances b f.b between second after → Some e ≡ failure_of second
      → left ≡ without_failure second → emptied ≡ Gone → MaybeCancels a first after d
      → TryJoinPolls a b f c (Ready (Err e)) (record { a = emptied; b = left }) d
  second_failed first (Future g) left emptied after polled free polled' is taken last given_up = absurd (cc)
  second_failed first (Done (Ok x)) left emptied after polled free polled' is taken last given_up = absurd (cc)
  second_failed first Gone left emptied after polled free polled' is taken last given_up = absurd (cc)
  second_failed (Done (Err x)) (Done (Err y)) left emptied after polled free polled' is taken last given_up = absurd (cc)
  second_failed (Future g) (Done (Err y)) left emptied after polled free polled' is taken last given_up = rw (taken, last) (record {
    first = Future g;
    second = Done (Err y);
    between = between;
    after = after;
    a_polled = polled;
    b_polled = polled';
    answer = cc;
    waits = tt;
    ends = (refl, (d, given_up, refl));
  })
  second_failed (Done (Ok x)) (Done (Err y)) left emptied after polled free polled' is taken last given_up = rw (taken, last) (record {
    first = Done (Ok x);
    second = Done (Err y);
    between = between;
    after = after;
    a_polled = polled;
    b_polled = polled';
    answer = cc;
    waits = tt;
    ends = (refl, (d, given_up, refl));
  })
  second_failed Gone (Done (Err y)) left emptied after polled free polled' is taken last given_up = rw (taken, last) (record {
    first = Gone;
    second = Done (Err y);
    between = between;
    after = after;
    a_polled = polled;
    b_polled = polled';
    answer = cc;
    waits = tt;
    ends = (refl, (d, given_up, refl));
  })

module _ {A X E : Type 0} where
  pub kept : (m : MaybeDone A (Result X E)) → failure_of m ≡ None → without_failure m ≡ m
  kept (Future g) free = refl
  kept (Done (Ok x)) free = refl
  kept (Done (Err e)) free = absurd (cc)
  kept Gone free = refl
