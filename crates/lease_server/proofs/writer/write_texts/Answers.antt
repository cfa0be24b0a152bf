use Rattle.std.proofs.Common.{refl}
use Rattle.lease_server.proofs.PrinterLemmas.{has_written}
use Rattle.lease_server.proofs.writer.write_texts.Goals as goal

pub returns : goal.returns
returns g c = has_written g.K.Sink.written g.K.Sink.faults c.args.texts c.args.sink _ c.run_writer-ended.result.1 _ refl c.run_writer-ended.ensures c.close.ensures refl c.status-status.ensures.failed c.status-status.ensures.going
