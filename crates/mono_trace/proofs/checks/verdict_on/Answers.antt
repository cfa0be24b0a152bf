use Rattle.std.proofs.Common.{◌<◌, ◌≤◌, ℕ, length, subst, arith, Ok}
use Rattle.mono_machine.proofs.RunLemmas.{item_and_rest, nothing_left}
use Rattle.mono_trace.specs.Refinement.{machine_of}
use Rattle.mono_trace.specs.Traces.{Checks}
use Rattle.mono_trace.proofs.VerdictLemmas.{passed_on, fails_here, passed_all}
use Rattle.mono_trace.proofs.checks.verdict_on.Goals as goal

pub returns-then-not-branch : goal.returns-then-not-branch
returns-then-not-branch c =
    let events = c.args.events.now.items in
    let reports = c.args.reports.now.items in
    let i = c.loop-i.i in
    let inside : i < length events = omega (arith, c.loop-i-test.true, c.len-i-end.ensures) in
    let told : i < length reports = omega (arith, inside, c.requires.same_length) in
    fails_here (machine_of c.args.trace.now) (machine_of c.loop-i.trace) events reports i _ _ _ _ _ _
    (item_and_rest events i c.index.result.now inside c.index.ensures) (item_and_rest reports i c.index-in-loop-i.result.now told c.index-in-loop-i.ensures)
    (subst (λ b. Checks {A = ℕ} machine_of c.loop-i.trace c.index.result.now c.index-in-loop-i.result.now (Ok b) c.step.new.self) c.if-not-branch.true c.in_ok-step.ensures.checks).0 c.loop-i.invariant.1

pub loop-i-preserved : goal.loop-i-preserved
loop-i-preserved c =
    let events = c.args.events.now.items in
    let reports = c.args.reports.now.items in
    let i = c.loop-i.i in
    let inside : i < length events = omega (arith, c.loop-i-test.true, c.len-i-end.ensures) in
    let told : i < length reports = omega (arith, inside, c.requires.same_length) in (
      omega (arith, c.in_ok-step.ensures.arms, c.loop-i.invariant.0),
      passed_on (machine_of c.args.trace.now) (machine_of c.loop-i.trace) (machine_of c.step.new.self) events reports i _ _ _ _ _ _
          (item_and_rest events i c.index.result.now inside c.index.ensures) (item_and_rest reports i c.index-in-loop-i.result.now told c.index-in-loop-i.ensures)
          (subst (λ b. Checks {A = ℕ} machine_of c.loop-i.trace c.index.result.now c.index-in-loop-i.result.now (Ok b) c.step.new.self) c.if-not-branch.false c.in_ok-step.ensures.checks) c.loop-i.invariant.1,
    )

pub returns : goal.returns
returns c =
    let events = c.args.events.now.items in
    let reports = c.args.reports.now.items in
    let i = c.loop-i.i in
    let past : length events ≤ i = omega (arith, c.loop-i-test.false, c.len-i-end.ensures) in
    passed_all (machine_of c.args.trace.now) (machine_of c.loop-i.trace) events reports i _ _
    (nothing_left events i past) (nothing_left reports i (omega (arith, past, c.requires.same_length))) c.loop-i.invariant.1
