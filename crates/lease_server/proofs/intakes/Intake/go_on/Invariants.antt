use Rattle.lease_server.specs.Dispatch.{KeepsWays}
use Rattle.lease_server.specs.Intakes.{Leads, LeadsFaults}
use Rattle.lease_server.proofs.intakes.Intake.go_on.Given as goal

abbrev pub invariant-loop : goal.invariant-loop
invariant-loop g l = record {
  ways : KeepsWays l.fn.self.splitter.dispatcher l.self.splitter.dispatcher;
  led : Leads g.S.Source.left l.fn.self l.self;
  faults : LeadsFaults g.S.Source.faults l.fn.self l.self;
}
