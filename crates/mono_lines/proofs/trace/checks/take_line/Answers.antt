use Rattle.std.proofs.Common.{sym, subst}
use Rattle.mono_trace.specs.Refinement.{machine_of}
use Rattle.mono_lines.specs.CheckProgress.{LeadsOn}
use Rattle.mono_lines.proofs.CheckLemmas.{passes_now, passes_park, passes_main}
use Rattle.mono_lines.proofs.trace.checks.take_line.Goals as goal

pub returns-in-Now-clause-leads : goal.returns-in-Now-clause-leads
returns-in-Now-clause-leads c =
    let m = machine_of c.args.checking.now.trace in
    let failed = c.args.checking.now.failed in
    subst (λ x. LeadsOn c.args.line x failed m failed m) (sym c.in-Now.is) (passes_now c.args.line c.in-Now.field-0 failed m)

pub returns-in-Park-clause-leads : goal.returns-in-Park-clause-leads
returns-in-Park-clause-leads c =
    let m = machine_of c.args.checking.now.trace in
    let failed = c.args.checking.now.failed in
    subst (λ x. LeadsOn c.args.line x failed m failed m) (sym c.in-Park.is) (passes_park c.args.line c.in-Park.field-0 failed m)

pub returns-in-Main-clause-leads : goal.returns-in-Main-clause-leads
returns-in-Main-clause-leads c =
    let m = machine_of c.args.checking.now.trace in
    let failed = c.args.checking.now.failed in
    subst (λ x. LeadsOn c.args.line x failed m failed m) (sym c.in-Main.is) (passes_main c.args.line c.in-Main.field-0 failed m)
