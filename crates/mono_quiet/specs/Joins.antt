-- A join makes no task, if none of its futures does.
use Rattle.std.specs.Prelude.{⊤, Bool, true, false, Result, is_some}
use Rattle.mono_model.specs.Tasks.{Tasks}
use Rattle.mono_model.specs.declared.poll.Poll.{Poll}
use Rattle.mono_model.specs.declared.poll.Poll.TheVariants.{Ready, Pending}
use Rattle.mono_task.specs.Members.{FutureOf}
use Rattle.mono_combine.specs.Branches.{MaybeCancels, AfterBranch, Advances}
use Rattle.mono_combine.specs.Joins.{JoinPolls, JoinCancels}
use Rattle.mono_combine.specs.TryJoins.{failure_of, AdvancesUnless, BothCancel, TryJoinPolls}
use Rattle.mono_combine.specs.declared.maybe.MaybeDone.{MaybeDone}
use Rattle.mono_combine.specs.declared.maybe.MaybeDone.TheVariants.{Future, Done, Gone}
use Rattle.mono_combine.specs.declared.joins.Join2.{Join2}
use Rattle.mono_combine.specs.declared.try_joins.TryJoin2.{TryJoin2}
use Rattle.mono_quiet.specs.Numbers.{MakesNone, none_at_all, none_on, PollsMakeNone, CancelsMakeNone}

module _ {C T O : Type 0} (work : C → Tasks ⊤) (future : FutureOf T C O) (cancels : CancelsMakeNone work future) where
  pub maybe_left : (m : MaybeDone T O) (c d : C) → MaybeCancels future m c d → MakesNone work c d
  maybe_left (Future f) c d q = cancels f c d q
  maybe_left (Done x) c d q = none_at_all work c d q
  maybe_left Gone c d q = none_at_all work c d q

  after_branch : (answer : Poll O) (left : T) (c : C) (n : MaybeDone T O) (d : C) → AfterBranch future answer left c n d → MakesNone work c d
  after_branch (Ready x) left c n d q = cancels left c d q.0
  after_branch Pending left c n d q = none_at_all work c d q.1

  module _ (polls : PollsMakeNone work future) where
    pub advance_makes_none : (m : MaybeDone T O) (c : C) (n : MaybeDone T O) (d : C) → Advances future m c n d → MakesNone work c d
    advance_makes_none (Future f) c n d q = none_on work c q.middle d (polls f c q.answer q.left q.middle q.polled) (after_branch q.answer q.left q.middle n d q.rest)
    advance_makes_none (Done x) c n d q = none_at_all work c d q.1
    advance_makes_none Gone c n d q = absurd q

    -- a branch before it may have failed
    pub unless_makes_none : (one_failed : Bool) (m : MaybeDone T O) (c : C) (n : MaybeDone T O) (d : C) → AdvancesUnless future one_failed m c n d → MakesNone work c d
    unless_makes_none true m c n d q = none_at_all work c d q.1
    unless_makes_none false m c n d q = advance_makes_none m c n d q

module _ {C A B X Y : Type 0} (work : C → Tasks ⊤) (a : FutureOf A C X) (b : FutureOf B C Y) (a_cancels : CancelsMakeNone work a) (b_cancels : CancelsMakeNone work b) where
  pub join_left : (f : Join2 A B X Y) (c d : C) → JoinCancels a b f c d → MakesNone work c d
  join_left f c d q = none_on work c q.0 d (maybe_left work a a_cancels f.a c q.0 q.1) (maybe_left work b b_cancels f.b q.0 d q.2)

  pub join_makes_none : PollsMakeNone work a → PollsMakeNone work b → (f : Join2 A B X Y) (c : C) (r : Poll (X × Y)) (g : Join2 A B X Y) (d : C) → JoinPolls a b f c r g d → MakesNone work c d
  join_makes_none a_polls b_polls f c r g d q =
      none_on work c q.middle d (advance_makes_none work a a_cancels a_polls f.a c q.first q.middle q.a_polled) (advance_makes_none work b b_cancels b_polls f.b q.middle q.second d q.b_polled)

module _ {C A B X Y E : Type 0} (work : C → Tasks ⊤) (a : FutureOf A C (Result X E)) (b : FutureOf B C (Result Y E)) (a_cancels : CancelsMakeNone work a) (b_cancels : CancelsMakeNone work b) where
  pub both_left : (first : MaybeDone A (Result X E)) (second : MaybeDone B (Result Y E)) (c d : C) → BothCancel a b first second c d → MakesNone work c d
  both_left first second c d q = none_on work c q.0 d (maybe_left work a a_cancels first c q.0 q.1) (maybe_left work b b_cancels second q.0 d q.2)

  module _ (a_polls : PollsMakeNone work a) (b_polls : PollsMakeNone work b) where
    both_none : (f : TryJoin2 A B X Y E) (c between after : C) (first : MaybeDone A (Result X E)) (second : MaybeDone B (Result Y E))
        → Advances a f.a c first between → AdvancesUnless b (is_some (failure_of first)) f.b between second after → MakesNone work c after
    both_none f c between after first second p q =
        none_on work c between after (advance_makes_none work a a_cancels a_polls f.a c first between p) (unless_makes_none work b b_cancels b_polls (is_some (failure_of first)) f.b between second after q)

    pub try_join_makes_none : (f : TryJoin2 A B X Y E) (c : C) (r : Poll (Result (X × Y) E)) (g : TryJoin2 A B X Y E) (d : C) → TryJoinPolls a b f c r g d → MakesNone work c d
    try_join_makes_none f c (Ready x) g d q = none_on work c q.after d (both_none f c q.between q.after q.first q.second q.a_polled q.b_polled) (both_left q.first q.second q.after d q.ends.1)
    try_join_makes_none f c Pending g d q = none_on work c q.after d (both_none f c q.between q.after q.first q.second q.a_polled q.b_polled) (none_at_all work q.after d q.waits.1)
