use Rattle.std.proofs.Common.{◌+◌, refl, sym, subst, ◌∙◌, arith}
use Rattle.mono_limit.specs.RetryPolls.{Makes, Tries, Rests, at_stage}
use Rattle.mono_limit.specs.declared.attempts.Stage.TheVariants as stage
use Rattle.mono_limit.specs.RetryGives.{RetryGives}
use Rattle.mono_limit.proofs.RetryStepLemmas.{stays, due_stays, some_left}
use Rattle.mono_limit.proofs.RetryGivesLemmas.{narrows_own, due_narrows, rests_narrow}
use Rattle.mono_limit.proofs.attempts.Retry.step.Goals as goal

pub begin-requires-clause-callable : goal.begin-requires-clause-callable
begin-requires-clause-callable g c =
    let old = c.args.self.now in
    let some = some_left g.G.FnMut g.F.TaskFuture g.C.Context.number g.C.Context.nanos g.C.TimeContext.sleeps g.C.Context.work g.C.Context.reaches old old.stage (sym c.replace.ensures.value ∙ c.in-Due.is) c.requires.may.has_left in
    c.requires.may.makes_live.can_call old.make (old.tried + 1) (omega arith) (omega (arith, some))

-- the next attempt was made
pub returns-in-Due-clause-step : goal.returns-in-Due-clause-step
returns-in-Due-clause-step g c =
    let makes = subst (λ st. Makes g.G.FnMut (at_stage c.args.self.now st) c.begin.new.self) c.replace.ensures.after c.begin.ensures in
    rw (sym c.replace.ensures.value ∙ c.in-Due.is) (refl, makes, refl {a = c.args.cx.now})

pub returns-in-Due-clause-may : goal.returns-in-Due-clause-may
returns-in-Due-clause-may g c =
    let old = c.args.self.now in
    let makes = subst (λ st. Makes g.G.FnMut (at_stage old st) c.begin.new.self) c.replace.ensures.after c.begin.ensures in
    (due_stays g.G.FnMut g.F.TaskFuture g.C.Context.number g.C.Context.nanos g.C.TimeContext.sleeps g.C.Context.work g.C.Context.reaches old (sym c.replace.ensures.value ∙ c.in-Due.is) c.requires.may c.args.cx.now c.begin.new.self makes).0

pub returns-in-Due-clause-leaves : goal.returns-in-Due-clause-leaves
returns-in-Due-clause-leaves g c =
    let old = c.args.self.now in
    let makes = subst (λ st. Makes g.G.FnMut (at_stage old st) c.begin.new.self) c.replace.ensures.after c.begin.ensures in
    (due_stays g.G.FnMut g.F.TaskFuture g.C.Context.number g.C.Context.nanos g.C.TimeContext.sleeps g.C.Context.work g.C.Context.reaches old (sym c.replace.ensures.value ∙ c.in-Due.is) c.requires.may c.args.cx.now c.begin.new.self makes).1

-- the attempt was polled
pub returns-in-Trying-clause-step : goal.returns-in-Trying-clause-step
returns-in-Trying-clause-step g c =
    let tries = subst (λ st. Tries g.F.TaskFuture g.C.Context.nanos g.C.TimeContext.sleeps g.C.Context.work g.C.Context.reaches c.in-Trying.attempt (at_stage c.args.self.now st) c.args.cx.now c.go_on.result c.go_on.new.self c.go_on.new.cx) c.replace.ensures.after c.go_on.ensures.tries in
    rw (sym c.replace.ensures.value ∙ c.in-Trying.is) tries

pub returns-in-Trying-clause-may : goal.returns-in-Trying-clause-may
returns-in-Trying-clause-may g c =
    let attempt = c.in-Trying.attempt in
    let old = c.args.self.now in
    let tries = subst (λ st. Tries g.F.TaskFuture g.C.Context.nanos g.C.TimeContext.sleeps g.C.Context.work g.C.Context.reaches attempt (at_stage old st) c.args.cx.now c.go_on.result c.go_on.new.self c.go_on.new.cx) c.replace.ensures.after c.go_on.ensures.tries in
    (stays g.G.FnMut g.F.TaskFuture g.C.Context.number g.C.Context.nanos g.C.TimeContext.sleeps g.C.Context.work g.C.Context.reaches old (stage.Trying attempt) (sym c.replace.ensures.value ∙ c.in-Trying.is) c.requires.may c.args.cx.now c.go_on.new.cx c.go_on.result c.go_on.new.self tries c.go_on.ensures.live).0

pub returns-in-Trying-clause-leaves : goal.returns-in-Trying-clause-leaves
returns-in-Trying-clause-leaves g c =
    let attempt = c.in-Trying.attempt in
    let old = c.args.self.now in
    let tries = subst (λ st. Tries g.F.TaskFuture g.C.Context.nanos g.C.TimeContext.sleeps g.C.Context.work g.C.Context.reaches attempt (at_stage old st) c.args.cx.now c.go_on.result c.go_on.new.self c.go_on.new.cx) c.replace.ensures.after c.go_on.ensures.tries in
    (stays g.G.FnMut g.F.TaskFuture g.C.Context.number g.C.Context.nanos g.C.TimeContext.sleeps g.C.Context.work g.C.Context.reaches old (stage.Trying attempt) (sym c.replace.ensures.value ∙ c.in-Trying.is) c.requires.may c.args.cx.now c.go_on.new.cx c.go_on.result c.go_on.new.self tries c.go_on.ensures.live).1

pub returns-in-Due-clause-gives : goal.returns-in-Due-clause-gives
returns-in-Due-clause-gives g c =
    let old = c.args.self.now in
    let makes = subst (λ st. Makes g.G.FnMut (at_stage old st) c.begin.new.self) c.replace.ensures.after c.begin.ensures in
    let some = some_left g.G.FnMut g.F.TaskFuture g.C.Context.number g.C.Context.nanos g.C.TimeContext.sleeps g.C.Context.work g.C.Context.reaches old old.stage (sym c.replace.ensures.value ∙ c.in-Due.is) c.requires.may.has_left in
    due_narrows g.F.TaskFuture.gives g.G.FnMut old c.begin.new.self (sym c.replace.ensures.value ∙ c.in-Due.is) some makes

pub returns-in-Trying-clause-gives : goal.returns-in-Trying-clause-gives
returns-in-Trying-clause-gives g c =
    narrows_own g.F.TaskFuture.gives g.G.FnMut c.args.self.now (stage.Trying c.in-Trying.attempt) (sym c.replace.ensures.value ∙ c.in-Trying.is) c.go_on.result (RetryGives g.F.TaskFuture.gives g.G.FnMut c.go_on.new.self) c.go_on.ensures.gives

pub returns-in-Resting-clause-gives : goal.returns-in-Resting-clause-gives
returns-in-Resting-clause-gives g c =
    let old = c.args.self.now in
    let rests = subst (λ st. Rests g.C.Context.number g.C.TimeContext.sleeps g.C.Context.work g.C.Context.reaches (at_stage old st) c.args.cx.now c.rest.result c.rest.new.self c.rest.new.cx) c.replace.ensures.after c.rest.ensures.rests in
    rests_narrow g.F.TaskFuture.gives g.G.FnMut g.C.TimeContext.sleeps g.C.Context.work g.C.Context.reaches g.C.Context.number old (sym c.replace.ensures.value ∙ c.in-Resting.is) c.args.cx.now c.rest.new.cx c.rest.result c.rest.new.self rests
