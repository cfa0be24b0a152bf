use Rattle.example_checks.proofs.ReadingRangeLemmas as law
use Rattle.example_checks.proofs.checks.laws.shown_readings_are_in_range.Goals as goal

pub returns : goal.returns
returns c = law.shown_readings_are_in_range
