use Rattle.std.proofs.Common.{sym, subst}
use Rattle.lease_server.specs.Dispatch.{KeepsWays}
use Rattle.lease_server.proofs.WayLemmas.{keeps_itself, keeps_on}
use Rattle.lease_server.proofs.intakes.Intake.read.Goals as goal

pub returns-then-not-can_read-clause-ways : goal.returns-then-not-can_read-clause-ways
returns-then-not-can_read-clause-ways g c = keeps_itself c.args.self.now.splitter.dispatcher

pub returns-in-Err-clause-ways : goal.returns-in-Err-clause-ways
returns-in-Err-clause-ways g c = subst (λ d. KeepsWays c.args.self.now.splitter.dispatcher d) (sym c.read.ensures.same) (keeps_itself c.args.self.now.splitter.dispatcher)

pub returns-in_err-take_lines-in-Ok-clause-ways : goal.returns-in_err-take_lines-in-Ok-clause-ways
returns-in_err-take_lines-in-Ok-clause-ways g c = subst (λ d. KeepsWays d c.take_lines.new.self.dispatcher) c.read.ensures.same c.take_lines.ensures.ways

pub returns-in_ok-take_lines-in-Ok-clause-ways : goal.returns-in_ok-take_lines-in-Ok-clause-ways
returns-in_ok-take_lines-in-Ok-clause-ways g c =
    keeps_on c.args.self.now.splitter.dispatcher c.take_lines.new.self.dispatcher c.end_if.new.self.splitter.dispatcher
    (subst (λ d. KeepsWays d c.take_lines.new.self.dispatcher) c.read.ensures.same c.take_lines.ensures.ways) c.end_if.ensures.ways
