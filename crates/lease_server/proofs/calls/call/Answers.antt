use Rattle.std.proofs.Common.{inl, inr, ap}
use Rattle.lease_server.proofs.calls.call.Goals as goal

pub returns-in-Some : goal.returns-in-Some
returns-in-Some g c = inl (record {
  page = c.in-Some.page;
  asks = c.in-Some.ensures.some;
  shows = c.show.ensures.shows;
  unread = (ap g.S.Source.left c.show.ensures.source, ap g.S.Source.faults c.show.ensures.source);
})

pub returns-in-None : goal.returns-in-None
returns-in-None g c = inr c.serve_words.ensures
