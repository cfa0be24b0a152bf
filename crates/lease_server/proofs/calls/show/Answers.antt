use Rattle.lease_server.specs.Pages.{page_text}
use Rattle.lease_server.proofs.CallLemmas.{shows_code}
use Rattle.lease_server.proofs.calls.show.Goals as goal

pub returns-clause-shows : goal.returns-clause-shows
returns-clause-shows g c =
    shows_code (page_text c.args.page) (g.K.Sink.written c.args.sink) (g.K.Sink.written c.write_page-status.new.sink) (g.K.Sink.faults c.args.sink) (g.K.Sink.faults c.write_page-status.new.sink) c.write_page-status.result c.code.result c.write_page-status.ensures c.code.ensures.same
