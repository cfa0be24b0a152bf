-- What a core does at its station.
use Rattle.std.specs.Prelude.{◌≡◌, ◌⊎◌, ℕ, List, ◌∷◌, [], ◌++◌, None, refl}
use Rattle.std.proofs.Common.{◌∙◌}
use Rattle.mono_channel.specs.Ends.{closed, received_by}
use Rattle.lease_core.specs.declared.requests.Request.{Request}
use Rattle.lease_core.specs.declared.sizes.Sizes.{Sizes}
use Rattle.lease_core.specs.Cores.{new_core}
use Rattle.lease_core.specs.Refinement.{Refines}
use Rattle.lease_core.specs.Steps.{Event, Finish}
use Rattle.lease_server.specs.declared.answers.Answer.{Answer}
use Rattle.lease_server.specs.declared.texts.Text.{Text}
use Rattle.lease_server.specs.declared.batches.Came.{Came}
use Rattle.lease_server.specs.declared.batches.Came.TheVariants as came
use Rattle.lease_server.specs.declared.stations.Stage.{Stage}
use Rattle.lease_server.specs.declared.stations.Stage.TheVariants as stage
use Rattle.lease_server.specs.declared.stations.Station.{Station}
use Rattle.lease_server.specs.declared.core_threads.CoreEnd.{CoreEnd}
use Rattle.lease_server.specs.Answers.{by_core}
use Rattle.lease_server.specs.Texts.{said_by, said_by_all}
use Rattle.lease_server.specs.Outlets.{Keeps, Stays, passed}
use Rattle.lease_server.specs.Lanes.{joined}
use Rattle.lease_server.specs.Pasts.{events_of, replies_of}
use Rattle.lease_server.specs.Served.{Begins, ServesAt}
use Rattle.lease_server.specs.EndToEnd.{requests_in}
use Rattle.lease_server.specs.Desks as desks

-- What a core is to do after this came.
abbrev pub stage_of : Came → Stage
stage_of came.Nothing = stage.Open
stage_of came.Requests = stage.Open
stage_of came.End = stage.Ended

-- The core performed the requests that it received, and the texts say its replies. Once it has ended, the end of the input was
-- its last event. If memory ran out, the core
-- performed a beginning of them, and the texts say a beginning of its replies.
abbrev pub FitsIn : Stage → List Request → List Event → List Answer → List Answer → Type 0
FitsIn stage.Open received events said answers = (requests_in events ≡ received) × (said ≡ answers)
FitsIn stage.Ended received events said answers = ((before : List Event) × (events ≡ before ++ Finish ∷ []) × (requests_in before ≡ received)) × (said ≡ answers)
FitsIn stage.Lost received events said answers = Begins (requests_in events) received × Begins said answers

abbrev pub Fits : Station → Type 0
Fits s = FitsIn s.stage (joined (received_by s.requests)) (events_of s.desk.past) (said_by_all (passed s.texts)) (by_core s.desk.number (replies_of s.desk.past))

-- The core did a run of its model. The ends are those of the same channels. What fitted fits.
pub record Leads (old new : Station) : Type 0 where
  pub desk : desks.Leads old.desk new.desk
  pub received : Keeps old.requests new.requests
  pub sent : Stays old.texts.sender new.texts.sender
  pub fits : Fits old → Fits new

pub leads_itself : (a : Station) → Leads a a
leads_itself a = record { desk = desks.leads_itself a.desk; received = (refl, refl, refl); sent = (refl, refl); fits = λ f. f }

pub leads_on : (a b c : Station) → Leads a b → Leads b c → Leads a c
leads_on a b c p q = record {
  desk = desks.leads_on a.desk b.desk c.desk p.desk q.desk;
  received = (q.received.0 ∙ p.received.0, q.received.1 ∙ p.received.1, q.received.2 ∙ p.received.2);
  sent = (q.sent.0 ∙ p.sent.0, q.sent.1 ∙ p.sent.1);
  fits = λ f. q.fits (p.fits f);
}

-- The core is one of these sizes that did nothing yet.
abbrev pub IsNew : Sizes → Station → Type 0
IsNew sizes s = Refines s.desk.core (new_core sizes) × (events_of s.desk.past ≡ []) × (replies_of s.desk.past ≡ [])

-- The core performed the end of its input, and sent all of its texts.
abbrev pub IsDone : Station → Type 0
IsDone s = (s.stage ≡ stage.Ended) × (s.texts.message ≡ None)

-- The ends are those of the station. If the status is 0, the core was done.
abbrev pub EndsStation : Station → CoreEnd → Type 0
EndsStation s end = (end.requests ≡ closed s.requests) × (end.texts ≡ s.texts.sender) × (end.status ≡ 0 → IsDone s)

-- The core's clock showed n nanoseconds, and then the core performed what came.
abbrev pub Works : ℕ → Station → Station → Type 0
Works n old new = (what : Came) × (said : List Answer) × ServesAt what old.desk n old.requests new.desk new.requests said

-- It did so, or nothing.
abbrev pub Turns : ℕ → Station → Station → Type 0
Turns n old new = (new.desk ≡ old.desk) ⊎ Works n old new
