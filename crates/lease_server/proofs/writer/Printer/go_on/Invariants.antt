use Rattle.lease_server.specs.Printers.{Leads}
use Rattle.lease_server.proofs.writer.Printer.go_on.Given as goal

abbrev pub invariant-loop : goal.invariant-loop
invariant-loop g l = Leads g.K.Sink.written g.K.Sink.faults l.fn.self l.self
