use Rattle.example_checks.proofs.WholeCallLemmas as law
use Rattle.example_checks.proofs.checks.laws.whole_calls_pass.Goals as goal

pub returns : goal.returns
returns c = law.whole_calls_pass
