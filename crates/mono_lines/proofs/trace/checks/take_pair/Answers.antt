use Rattle.std.proofs.Common.{◌≡◌, ℕ, Ok, None, subst, sym, rules, arith}
use Rattle.mono_trace.specs.Refinement.{machine_of}
use Rattle.mono_trace.specs.Traces.{Checks}
use Rattle.mono_lines.specs.CheckProgress.{LeadsOn}
use Rattle.mono_lines.specs.declared.trace.journal.JournalLine.TheVariants.{Ran}
use Rattle.mono_lines.proofs.CheckLemmas.{steps_on, stays_failed}
use Rattle.mono_lines.proofs.trace.checks.take_pair.Goals as goal

pub returns-then-is_some-clause-leads : goal.returns-then-is_some-clause-leads
returns-then-is_some-clause-leads c = stays_failed c.args.line c.args.event.now c.args.report.now c.args.checking.now.failed (machine_of c.args.checking.now.trace) (search rules)

pub returns-else-not-branch-clause-leads : goal.returns-else-not-branch-clause-leads
returns-else-not-branch-clause-leads c =
    let none : c.args.checking.now.failed ≡ None = search rules in
    let steps = steps_on c.args.line c.args.event.now c.args.report.now (machine_of c.args.checking.now.trace) (machine_of c.step.new.self) (subst (λ b. Checks {A = ℕ} machine_of c.args.checking.now.trace c.args.event.now c.args.report.now (Ok b) c.step.new.self) c.if-not-branch.false c.in_ok-step.ensures.checks) in
    subst (λ f. LeadsOn c.args.line (Ran c.args.event.now c.args.report.now) f (machine_of c.args.checking.now.trace) f (machine_of c.step.new.self)) (sym none) steps

pub returns-else-not-branch-clause-few : goal.returns-else-not-branch-clause-few
returns-else-not-branch-clause-few c = omega (arith, c.requires.few, c.requires.counted, c.in_ok-step.ensures.arms)
