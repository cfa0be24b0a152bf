use Rattle.example_checks.proofs.WholeExampleLemmas as law
use Rattle.example_checks.proofs.checks.laws.example_journals.Goals as goal

pub returns-clause-whole : goal.returns-clause-whole
returns-clause-whole c = law.turn_is_whole

pub returns-clause-half : goal.returns-clause-half
returns-clause-half c = law.half_is_none

pub returns-clause-late : goal.returns-clause-late
returns-clause-late c = law.late_is_none

pub returns-clause-unread : goal.returns-clause-unread
returns-clause-unread c = law.unread_is_none
