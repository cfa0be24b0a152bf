use Rattle.std.proofs.Common.{refl}
use Rattle.lease_lines.proofs.SpellingLemmas.{found_line, none_line}
use Rattle.lease_lines.proofs.requests.request_of.Goals as goal

pub returns-in-None-clause-none : goal.returns-in-None-clause-none
returns-in-None-clause-none c = none_line c.args.line.now c.in-None.ensures

pub returns-in-Some-clause-found : goal.returns-in-Some-clause-found
returns-in-Some-clause-found c = (refl, found_line c.args.line.now _ c.in-Some.ensures)
