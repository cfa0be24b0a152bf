-- The requests of a lane, and the answers of the refusals.
use Rattle.std.specs.Prelude.{◌≡◌, ℕ, List, [], ◌++◌}
use Rattle.std.specs.List.{flat_map}
use Rattle.std.specs.Global.{Vec}
use Rattle.mono_channel.specs.Ends.{sent_by}
use Rattle.lease_core.specs.declared.requests.Request.{Request}
use Rattle.lease_server.specs.Outlets.{passed}
use Rattle.lease_server.specs.declared.answers.Answer.{Answer}
use Rattle.lease_server.specs.Answers.{refusals_of}
use Rattle.lease_server.specs.Texts.{said_by_all}
use Rattle.lease_server.specs.declared.lanes.Lane.{Lane}
use Rattle.lease_server.specs.declared.refusals.Refusals.{Refusals}

-- The elements of these messages, in order.
abbrev pub joined : {A : Type 0} → List (Vec A) → List A
joined messages = flat_map (λ message. message.items) messages

-- The requests that the lane sent, in order.
abbrev pub sent_over : Lane → List Request
sent_over lane = joined (sent_by lane.outlet.sender)

-- The requests that the lane sent, those that it did not send yet, and those that it collected.
abbrev pub given : Lane → List Request
given lane = joined (passed lane.outlet) ++ lane.requests.items

-- The refusals whose text was sent.
abbrev pub answers_sent : Refusals → List Answer
answers_sent refusals = said_by_all (sent_by refusals.outlet.sender)

-- The refusals whose text was sent, those of the text that was not sent yet, and those of the numbers that were collected.
abbrev pub answers_given : Refusals → List Answer
answers_given refusals = said_by_all (passed refusals.outlet) ++ refusals_of refusals.numbers.items
