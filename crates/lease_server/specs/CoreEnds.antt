-- What a core leaves when it ends.
use Rattle.std.specs.Prelude.{◌≡◌, ℕ, List, []}
use Rattle.std.specs.Global.{Vec}
use Rattle.mono_channel.specs.Ends.{Ends, sent_by, received_by}
use Rattle.lease_core.specs.declared.requests.Request.{Request}
use Rattle.lease_core.specs.declared.requests.Reply.{Reply}
use Rattle.lease_core.specs.declared.sizes.Sizes.{Sizes}
use Rattle.lease_server.specs.Answers.{by_core}
use Rattle.lease_server.specs.Texts.{said_by_all}
use Rattle.lease_server.specs.Outlets.{Keeps, Stays}
use Rattle.lease_server.specs.Lanes.{joined}
use Rattle.lease_server.specs.EndToEnd.{RunsThrough, RunsPart}
use Rattle.lease_server.specs.declared.texts.Text.{Text}
use Rattle.lease_server.specs.declared.core_threads.CoreEnd.{CoreEnd}

-- The ends of a core come back. If its status is 0, one run answered all requests that were received, and what was sent says
-- the replies. Whatever the status, one run performed a beginning of them, and what was sent says a beginning of the replies.
pub record HasEnded (number : ℕ) (sizes : Sizes) (requests : Ends (Vec Request)) (texts : Ends Text) (end : CoreEnd) : Type 0 where
  pub received : Keeps requests end.requests
  pub sent : Stays texts end.texts
  pub done : received_by requests ≡ [] → sent_by texts ≡ [] → end.status ≡ 0 → (replies : List Reply) × RunsThrough sizes (joined (received_by end.requests)) replies × (said_by_all (sent_by end.texts) ≡ by_core number replies)
  pub begun : received_by requests ≡ [] → sent_by texts ≡ [] → RunsPart number sizes (joined (received_by end.requests)) (said_by_all (sent_by end.texts))
