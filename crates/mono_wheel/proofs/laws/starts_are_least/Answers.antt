use Rattle.mono_wheel.proofs.StartLemmas.{start_at-whole, start_at-digit, start_at-least}
use Rattle.mono_wheel.proofs.laws.starts_are_least.Goals as goal

pub returns-clause-whole : goal.returns-clause-whole
returns-clause-whole c = start_at-whole

pub returns-clause-digit : goal.returns-clause-digit
returns-clause-digit c = start_at-digit

pub returns-clause-least : goal.returns-clause-least
returns-clause-least c = start_at-least
