use Rattle.std.proofs.Common.{◌≡◌, sym, ◌∙◌, ap, subst, ◌++◌, ◌∷◌, [], append_assoc, append-nil, arith}
use Rattle.mono_model.specs.Sleeps.{Sleeps}
use Rattle.mono_model.specs.SleepActs as sleep
use Rattle.mono_model.specs.FireOrder.{FireInTurn, IsFirstDue, IsNoneDue}
use Rattle.mono_time.specs.Instants.{nanos_of}
use Rattle.mono_time.specs.Sleeps.{IsNoneArmedUpTo}
use Rattle.mono_time.specs.Refinement.{StandsForSleeps}
use Rattle.mono_machine.specs.Steps.{all_fired, with_first, wakers_of}
use Rattle.mono_time.specs.Refinement.{Keeps}
use Rattle.mono_machine.proofs.FireLemmas.{fired-push, wakers-push}
use Rattle.mono_time.proofs.DueSleepLemmas.{same_clock, keeps_none, keeps_some}
use Rattle.mono_time.proofs.ClockMoveLemmas.{Passed, none-passed, passed-some, passed-none, all-passed}
use Rattle.mono_time.proofs.due_sleeps.take_due.Goals as goal

pub loop-s-init : goal.loop-s-init
loop-s-init g c = (
  c.requires.fired.1,
  c.requires.wakers.1,
  λ sleeps st.
      let x = sleep.at_clock sleeps (nanos_of c.args.now) in
      let none : c.args.room.fired.items ≡ [] = c.requires.fired.0 in (
        sleeps,
        st,
        sym (ap (all_fired x) none),
        c.requires.wakers.0 ∙ sym (ap (wakers_of x) none),
        λ more turn. subst (λ items. FireInTurn (all_fired x items).table (all_fired x items).greatest more → FireInTurn x.table x.greatest (items ++ more)) (sym none) (λ t. t) turn,
      ),
  none-passed c.args.timers.now,
)

pub loop-s-preserved : goal.loop-s-preserved
loop-s-preserved g c = (
  omega (arith, c.loop-s.invariant.0, c.in-Some.ensures.fewer, c.put.ensures.longer.0, c.put.ensures.capacities.0),
  omega (arith, c.loop-s.invariant.1, c.in-Some.ensures.fewer, c.put.ensures.longer.1, c.put.ensures.capacities.1),
  λ sleeps st.
      let n = nanos_of c.args.now in
      let old = sleep.at_clock sleeps n in
      let fired = c.loop-s.due.fired.items in
      let s = c.in-Some.s in
      let waker = c.in-Some.waker in
      let before = c.loop-s.invariant.2 sleeps st in
      let fires : (m : Sleeps) → StandsForSleeps c.loop-s.timers m → IsFirstDue (sleep.at_clock m n).table (sleep.at_clock m n).greatest s × (waker ≡ sleep.waker_at (sleep.at_clock m n) s) × StandsForSleeps c.clock.new.self (sleep.fired (sleep.at_clock m n) s) = c.in-Some.ensures.stands in
      let next = fires before.0 before.1.stands in
      let one : all_fired old c.put.new.self.fired.items ≡ sleep.fired (all_fired old fired) s = ap (all_fired old) c.put.ensures.fired ∙ fired-push old fired s in
      let here : sleep.fired (sleep.at_clock before.0 n) s ≡ all_fired old c.put.new.self.fired.items = ap (λ x. sleep.fired x s) before.2 ∙ sym one in (
        sleep.fired (sleep.at_clock before.0 n) s,
        keeps_some c.loop-s.timers c.clock.new.self before.0 n s before.1 c.in-Some.ensures.some.1 next.2,
        same_clock before.0 n s ∙ here,
        c.put.ensures.wakers ∙ ap (λ xs. xs ++ with_first waker []) before.3 ∙ ap (λ w. wakers_of old fired ++ with_first w []) (next.1 ∙ ap (λ x. sleep.waker_at x s) before.2) ∙ sym (ap (wakers_of old) c.put.ensures.fired ∙ wakers-push old fired s),
        λ more turn.
            let first : IsFirstDue (all_fired old fired).table (all_fired old fired).greatest s = subst (λ x. IsFirstDue x.table x.greatest s) before.2 next.0 in
            let behind : FireInTurn old.table old.greatest (fired ++ s ∷ more) = before.4 (s ∷ more) (first, subst (λ x. FireInTurn x.table x.greatest more) one turn) in
            subst (FireInTurn old.table old.greatest) (sym (ap (λ xs. xs ++ more) c.put.ensures.fired ∙ append_assoc fired (s ∷ []) more)) behind,
      ),
  passed-some c.args.timers.now c.loop-s.timers c.clock.new.self c.loop-s.invariant.3 c.clock.ensures.later c.in-Some.s c.in-Some.waker c.in-Some.ensures.reached
      (ap (λ t. t.table) c.in-Some.ensures.some.1) c.in-Some.ensures.gone c.clock.ensures.registered,
)

pub put-requires : goal.put-requires
put-requires g c = record { room = (omega (arith, c.loop-s.invariant.0, c.in-Some.ensures.fewer), omega (arith, c.loop-s.invariant.1, c.in-Some.ensures.fewer)) }

pub returns-clause-wakers : goal.returns-clause-wakers
returns-clause-wakers g c = λ sleeps st. (c.loop-s.invariant.2 sleeps st).3

pub returns-clause-fires : goal.returns-clause-fires
returns-clause-fires g c = λ sleeps st.
    let n = nanos_of c.args.now in
    let old = sleep.at_clock sleeps n in
    let fired = c.loop-s.due.fired.items in
    let before = c.loop-s.invariant.2 sleeps st in
    let fires : (m : Sleeps) → StandsForSleeps c.loop-s.timers m → IsNoneDue (sleep.at_clock m n).table (sleep.at_clock m n).greatest × StandsForSleeps c.clock.new.self (sleep.at_clock m n) = c.in_default.ensures.stands in
    let last = fires before.0 before.1.stands in (
      subst (Keeps c.clock.new.self) before.2 (keeps_none c.loop-s.timers c.clock.new.self before.0 n before.1 c.in_default.ensures.none.1 last.1),
      subst (FireInTurn old.table old.greatest) (append-nil fired) (before.4 [] (subst (λ x. IsNoneDue x.table x.greatest) before.2 last.0)),
    )

pub returns-clause-rests : goal.returns-clause-rests
returns-clause-rests g c = subst IsNoneArmedUpTo (sym c.in_default.ensures.none.1) c.in_default.ensures.none.0

pub returns-clause-registered : goal.returns-clause-registered
returns-clause-registered g c =
    let passed : Passed c.args.timers.now c.clock.new.self = passed-none c.args.timers.now c.loop-s.timers c.clock.new.self c.loop-s.invariant.3 c.clock.ensures.later (ap (λ t. t.table) c.in_default.ensures.none.1) c.clock.ensures.registered in
    all-passed c.args.timers.now c.clock.new.self passed (subst IsNoneArmedUpTo (sym c.in_default.ensures.none.1) c.in_default.ensures.none.0) c.in_default.ensures.elapsed
