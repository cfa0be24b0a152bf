use Rattle.std.proofs.Common.{arith, subst, sym, refl, inr, ◌∙◌}
use Rattle.mono_wheel.specs.Model.{IsPending}
use Rattle.mono_wheel.proofs.PollLemmas.{Since, since-advanced, since-twice, came-out, came-later, nothing-due}
use Rattle.mono_wheel.proofs.wheel.Wheel.poll.Goals as goal

pub returns-in-Some-clause-polled : goal.returns-in-Some-clause-polled
returns-in-Some-clause-polled g c =
    came-out c.args.self.now c.loop-key.self c.take_due.new.self c.args.now c.in-Some.key
    (since-advanced c.args.self.now c.loop-key.self c.in-Some.ensures.fits c.loop-key.invariant.since) c.in-Some.ensures.fits c.in-Some.ensures.due c.loop-key.invariant.ahead

pub take_soon-requires-clause-none : goal.take_soon-requires-clause-none
take_soon-requires-clause-none g c = subst (λ w. (key : _) → IsPending w key → ⊥) (sym c.in-None.ensures.due.0) c.in-None.ensures.due.1

pub returns-in-Some-take_soon-clause-polled : goal.returns-in-Some-take_soon-clause-polled
returns-in-Some-take_soon-clause-polled g c =
    came-later c.args.self.now c.take_due.new.self c.take_soon.new.self c.args.now c.in-Some-take_soon.key
    (since-advanced c.args.self.now c.take_due.new.self c.in-Some-take_soon.ensures.fits (subst (Since c.args.self.now) (sym c.in-None.ensures.due.0) c.loop-key.invariant.since))
    c.in-Some-take_soon.ensures.fits c.in-Some-take_soon.ensures.taken

pub go_on-requires-clause-none : goal.go_on-requires-clause-none
go_on-requires-clause-none g c = subst (λ w. (key : _) → IsPending w key → ⊥) (sym (c.in-None-take_soon.ensures.taken ∙ c.in-None.ensures.due.0)) c.in-None.ensures.due.1

pub returns-then-not-go_on-clause-polled : goal.returns-then-not-go_on-clause-polled
returns-then-not-go_on-clause-polled g c =
    nothing-due c.args.self.now c.take_soon.new.self c.go_on.new.self c.args.now
    (subst (Since c.args.self.now) (sym (c.in-None-take_soon.ensures.taken ∙ c.in-None.ensures.due.0)) c.loop-key.invariant.since) c.if-not-go_on.ensures.advanced (c.if-not-go_on.ensures.passed refl).0 (c.if-not-go_on.ensures.passed refl).1

pub loop-key-preserved : goal.loop-key-preserved
loop-key-preserved g c = record {
  since = inr (since-twice c.args.self.now c.take_soon.new.self c.go_on.new.self (subst (Since c.args.self.now) (sym (c.in-None-take_soon.ensures.taken ∙ c.in-None.ensures.due.0)) c.loop-key.invariant.since) c.if-not-go_on.ensures.advanced);
  ahead = (c.if-not-go_on.ensures.reached refl).1;
  moved =
      let due = c.in-None.ensures.moves in
      let alone = c.in-None-take_soon.ensures.counted in
      let step = c.if-not-go_on.ensures.counted in
      let before = c.loop-key.invariant.moved in
      omega (arith, due, alone, step, before);
  all_moved =
      let due = c.in-None.ensures.all_moves in
      let alone = c.in-None-take_soon.ensures.all_counted in
      let step = c.if-not-go_on.ensures.all_counted in
      let before = c.loop-key.invariant.all_moved in
      omega (arith, due, alone, step, before);
  counted =
      let due = c.in-None.ensures.credit in
      let alone = c.in-None-take_soon.ensures.steps in
      let step = c.if-not-go_on.ensures.steps in
      let before = c.loop-key.invariant.counted in
      omega (arith, due, alone, step, before);
}

pub returns-in-Some-clause-steps : goal.returns-in-Some-clause-steps
returns-in-Some-clause-steps g c =
    let due = c.in-Some.ensures.credit in
    let before = c.loop-key.invariant.counted in
    omega (arith, due, before)

pub returns-in-Some-take_soon-clause-steps : goal.returns-in-Some-take_soon-clause-steps
returns-in-Some-take_soon-clause-steps g c =
    let due = c.in-None.ensures.credit in
    let alone = c.in-Some-take_soon.ensures.steps in
    let before = c.loop-key.invariant.counted in
    omega (arith, due, alone, before)

pub returns-then-not-go_on-clause-steps : goal.returns-then-not-go_on-clause-steps
returns-then-not-go_on-clause-steps g c =
    let due = c.in-None.ensures.credit in
    let alone = c.in-None-take_soon.ensures.steps in
    let step = c.if-not-go_on.ensures.steps in
    let before = c.loop-key.invariant.counted in
    omega (arith, due, alone, step, before)

pub returns-in-Some-clause-counted : goal.returns-in-Some-clause-counted
returns-in-Some-clause-counted g c =
    let due = c.in-Some.ensures.moves in
    let before = c.loop-key.invariant.moved in
    omega (arith, due, before)

pub returns-in-Some-take_soon-clause-counted : goal.returns-in-Some-take_soon-clause-counted
returns-in-Some-take_soon-clause-counted g c =
    let due = c.in-None.ensures.moves in
    let alone = c.in-Some-take_soon.ensures.counted in
    let before = c.loop-key.invariant.moved in
    omega (arith, due, alone, before)

pub returns-then-not-go_on-clause-counted : goal.returns-then-not-go_on-clause-counted
returns-then-not-go_on-clause-counted g c =
    let due = c.in-None.ensures.moves in
    let alone = c.in-None-take_soon.ensures.counted in
    let step = c.if-not-go_on.ensures.counted in
    let before = c.loop-key.invariant.moved in
    omega (arith, due, alone, step, before)

pub returns-in-Some-clause-moves : goal.returns-in-Some-clause-moves
returns-in-Some-clause-moves g c =
    let steps = returns-in-Some-clause-steps g c in
    let counted = returns-in-Some-clause-counted g c in
    omega (arith, steps, counted)

pub returns-in-Some-take_soon-clause-moves : goal.returns-in-Some-take_soon-clause-moves
returns-in-Some-take_soon-clause-moves g c =
    let steps = returns-in-Some-take_soon-clause-steps g c in
    let counted = returns-in-Some-take_soon-clause-counted g c in
    omega (arith, steps, counted)

pub returns-then-not-go_on-clause-moves : goal.returns-then-not-go_on-clause-moves
returns-then-not-go_on-clause-moves g c =
    let steps = returns-then-not-go_on-clause-steps g c in
    let counted = returns-then-not-go_on-clause-counted g c in
    omega (arith, steps, counted)

pub returns-in-Some-clause-all_counted : goal.returns-in-Some-clause-all_counted
returns-in-Some-clause-all_counted g c =
    let due = c.in-Some.ensures.all_moves in
    let before = c.loop-key.invariant.all_moved in
    omega (arith, due, before)

pub returns-in-Some-take_soon-clause-all_counted : goal.returns-in-Some-take_soon-clause-all_counted
returns-in-Some-take_soon-clause-all_counted g c =
    let due = c.in-None.ensures.all_moves in
    let alone = c.in-Some-take_soon.ensures.all_counted in
    let before = c.loop-key.invariant.all_moved in
    omega (arith, due, alone, before)

pub returns-then-not-go_on-clause-all_counted : goal.returns-then-not-go_on-clause-all_counted
returns-then-not-go_on-clause-all_counted g c =
    let due = c.in-None.ensures.all_moves in
    let alone = c.in-None-take_soon.ensures.all_counted in
    let step = c.if-not-go_on.ensures.all_counted in
    let before = c.loop-key.invariant.all_moved in
    omega (arith, due, alone, step, before)

pub returns-in-Some-clause-all_moves : goal.returns-in-Some-clause-all_moves
returns-in-Some-clause-all_moves g c =
    let steps = returns-in-Some-clause-steps g c in
    let counted = returns-in-Some-clause-all_counted g c in
    omega (arith, steps, counted)

pub returns-in-Some-take_soon-clause-all_moves : goal.returns-in-Some-take_soon-clause-all_moves
returns-in-Some-take_soon-clause-all_moves g c =
    let steps = returns-in-Some-take_soon-clause-steps g c in
    let counted = returns-in-Some-take_soon-clause-all_counted g c in
    omega (arith, steps, counted)

pub returns-then-not-go_on-clause-all_moves : goal.returns-then-not-go_on-clause-all_moves
returns-then-not-go_on-clause-all_moves g c =
    let steps = returns-then-not-go_on-clause-steps g c in
    let counted = returns-then-not-go_on-clause-all_counted g c in
    omega (arith, steps, counted)
