use Rattle.lease_server.proofs.PrinterLemmas.{came, printed}
use Rattle.lease_server.proofs.writer.Printer.take.Goals as goal

pub returns-in-Ready-Ok-Some : goal.returns-in-Ready-Ok-Some
returns-in-Ready-Ok-Some g c =
    let s = c.in-Ready-Ok-Some in
    printed g.K.Sink.written g.K.Sink.faults c.args.self.now c.print.new.self c.poll_recv.new.self s.text c.if-self.false (came c.args.self.now.texts c.poll_recv.new.self s.field-0 s.field-0-0 s.text s.field-0-is s.field-0-0-is s.ensures.polled) c.print.ensures.texts c.print.ensures.written c.print.ensures.faults
