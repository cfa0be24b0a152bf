use Rattle.std.proofs.Common.{subst}
use Rattle.mono_machine.specs.Machine.{start_machine}
use Rattle.mono_lines.specs.CheckProgress.{StandsAt}
use Rattle.mono_lines.proofs.CheckLemmas.{pair_failed}
use Rattle.mono_lines.proofs.trace.checks.answer_of.Goals as goal

pub returns-in-Some : goal.returns-in-Some
returns-in-Some c = λ limits blocking input said m are stands. record {
  said = said;
  are_lines = are;
  fails = pair_failed limits blocking said c.in-Some.failed.line c.in-Some.failed.answer (subst (λ f. StandsAt (start_machine limits blocking) said f m) c.in-Some.is stands);
}
