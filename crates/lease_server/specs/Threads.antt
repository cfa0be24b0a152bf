-- The threads of the cores, and the lanes to them.
use Rattle.std.specs.Prelude.{⊤, ◌≡◌, ◌≤◌, ◌+◌, ◌⊎◌, ℕ, List, [], ◌∷◌, ◌++◌, Option, length}
use Rattle.std.specs.Global.{Vec}
use Rattle.mono_text.specs.Environment.{HasRead, HasReadAll, HasRisen}
use Rattle.mono_text.specs.Lines.{lines}
use Rattle.mono_channel.specs.Delivery.{Interleaves, all_shares}
use Rattle.mono_channel.specs.Ends.{Ends, sent_by, received_by, settled_by, shares_of, IsPair}
use Rattle.lease_core.specs.declared.requests.Request.{Request}
use Rattle.lease_core.specs.declared.requests.Reply.{Reply}
use Rattle.lease_core.specs.declared.sizes.Sizes.{Sizes}
use Rattle.lease_server.specs.Answers.{by_core, refusals_of}
use Rattle.lease_server.specs.Texts.{said_by_all}
use Rattle.lease_server.specs.Lanes.{answers_given, sent_over}
use Rattle.lease_server.specs.Routing.{Ask, EndsLines, HasNoFeed, refused}
use Rattle.lease_server.specs.Dispatch.{AreRouted, Sends}
use Rattle.lease_server.specs.EndToEnd.{HasTakenLines, RunsThrough, RunsPart}
use Rattle.lease_server.specs.Places.{IsPromised}
use Rattle.lease_server.specs.declared.texts.Text.{Text}
use Rattle.lease_server.specs.declared.lanes.Lane.{Lane}
use Rattle.lease_server.specs.declared.dispatchers.Dispatcher.{Dispatcher}
use Rattle.lease_server.specs.declared.writer.Wrote.{Wrote}
use Rattle.lease_server.specs.declared.threads.CoreThread.{CoreThread}
use Rattle.lease_server.specs.declared.servers.Routed.{Routed}
use Rattle.lease_server.specs.declared.servers.Served.{Served}

-- Nothing was received, and no sender was settled.
abbrev pub IsFresh : {M : Type 0} → Ends M → Type 0
IsFresh end = (received_by end ≡ []) × (settled_by end ≡ []) × (shares_of end ≡ 0)

-- The core has this number, these sizes and these ends.
pub record Promises (number : ℕ) (sizes : Sizes) (requests : Ends (Vec Request)) (texts : Ends Text) (thread : CoreThread) : Type 0 where
  pub number_is : thread.promise.value.number ≡ number
  pub sizes_are : thread.promise.value.sizes ≡ sizes
  pub from : thread.promise.value.requests.value ≡ requests
  pub to : thread.promise.value.texts.value ≡ texts
  pub kept : IsPromised thread.promise.value thread.place

-- The thread began with the other end of the lane's channel, and with a further sender of the channel of the texts.
pub record IsStarted (channel : Ends Text) (thread : CoreThread) (lane : Lane) : Type 0 where
  pub way : IsPair lane.outlet.sender thread.promise.value.requests.value
  pub whole : shares_of lane.outlet.sender ≡ all_shares
  pub fresh : IsFresh thread.promise.value.requests.value
  pub texts : IsPair thread.promise.value.texts.value channel
  pub none : sent_by thread.promise.value.texts.value ≡ []
  pub share : shares_of thread.promise.value.texts.value ≡ 1
  pub kept : IsPromised thread.promise.value thread.place

-- Each thread has its lane.
abbrev pub ArePaired : Ends Text → List CoreThread → List Lane → Type 0
ArePaired channel [] [] = ⊤
ArePaired channel (thread ∷ threads) (lane ∷ lanes) = IsStarted channel thread lane × ArePaired channel threads lanes
ArePaired channel [] (lane ∷ lanes) = ⊥
ArePaired channel (thread ∷ threads) [] = ⊥

-- The threads are those of the cores of these sizes, from core k on.
abbrev pub AreNumbered : ℕ → Sizes → List CoreThread → Type 0
AreNumbered k sizes [] = ⊤
AreNumbered k sizes (thread ∷ threads) = (thread.promise.value.number ≡ k) × (thread.promise.value.sizes ≡ sizes) × AreNumbered (k + 1) sizes threads

-- One more thread has its lane, and has one share of the texts.
pub record Adds (number : ℕ) (sizes : Sizes) (before : List CoreThread) (old : Dispatcher) (after : List CoreThread) (new : Dispatcher) : Type 0 where
  pub thread : CoreThread
  pub lane : Lane
  pub threads : after ≡ before ++ thread ∷ []
  pub lanes : new.lanes.items ≡ old.lanes.items ++ lane ∷ []
  pub started : IsStarted old.refusals.outlet.sender thread lane
  pub number_is : thread.promise.value.number ≡ number
  pub sizes_are : thread.promise.value.sizes ≡ sizes
  pub shares : shares_of new.refusals.outlet.sender + 1 ≡ shares_of old.refusals.outlet.sender

-- No thread was made, and no lane.
pub record Same (before : List CoreThread) (old : Dispatcher) (after : List CoreThread) (new : Dispatcher) : Type 0 where
  pub threads : after ≡ before
  pub lanes : new.lanes.items ≡ old.lanes.items
  pub shares : shares_of new.refusals.outlet.sender ≡ shares_of old.refusals.outlet.sender

-- With status 0 a core was started. With 7 it has ended, since it got no thread. With 6 none was started.
abbrev pub Starts : ℕ → ℕ → Sizes → List CoreThread → Dispatcher → List CoreThread → Dispatcher → Type 0
Starts status number sizes before old after new = (((status ≡ 0) ⊎ (status ≡ 7)) × Adds number sizes before old after new) ⊎ ((status ≡ 6) × Same before old after new)

-- The thread's core answered the requests that the lane sent, by one run, and these texts say its replies.
abbrev pub HasAnswered : CoreThread → Lane → List Text → Type 0
HasAnswered thread lane sent = (replies : List Reply) × RunsThrough thread.promise.value.sizes (sent_over lane) replies × (said_by_all sent ≡ by_core thread.promise.value.number replies)

-- So did each of these threads.
abbrev pub HaveAnswered : List CoreThread → List Lane → List (List Text) → Type 0
HaveAnswered [] [] [] = ⊤
HaveAnswered (thread ∷ threads) (lane ∷ lanes) (sent ∷ others) = HasAnswered thread lane sent × HaveAnswered threads lanes others
HaveAnswered [] [] (sent ∷ others) = ⊥
HaveAnswered [] (lane ∷ lanes) others = ⊥
HaveAnswered (thread ∷ threads) [] others = ⊥
HaveAnswered (thread ∷ threads) (lane ∷ lanes) [] = ⊥

-- A beginning of what the lane sent was answered by one run, and these texts say a beginning of the replies.
abbrev pub HasBegun : CoreThread → Lane → List Text → Type 0
HasBegun thread lane sent = RunsPart thread.promise.value.number thread.promise.value.sizes (sent_over lane) (said_by_all sent)

-- So did each of these threads.
abbrev pub HaveBegun : List CoreThread → List Lane → List (List Text) → Type 0
HaveBegun [] [] [] = ⊤
HaveBegun (thread ∷ threads) (lane ∷ lanes) (sent ∷ others) = HasBegun thread lane sent × HaveBegun threads lanes others
HaveBegun [] [] (sent ∷ others) = ⊥
HaveBegun [] (lane ∷ lanes) others = ⊥
HaveBegun (thread ∷ threads) [] others = ⊥
HaveBegun (thread ∷ threads) (lane ∷ lanes) [] = ⊥

-- The lines were read: all of the input, or after a failed read all whole lines that were read.
abbrev pub ReadsLines : ℕ → Option (List ℕ) → List ℕ → Option (List ℕ) → Type 0
ReadsLines status left input rest = ((status ≡ 0) × HasReadAll left input rest) ⊎ ((status ≡ 4) × (begun : List ℕ) × HasRead left (input ++ begun) rest × EndsLines input × HasNoFeed begun)

-- All cores of these sizes were started, and what was read was sent to them.
pub record HasRouted {S : Type 0} (left : S → Option (List ℕ)) (cores : ℕ) (sizes : Sizes) (source : S) (routed : Routed S) : Type 0 where
  pub count : length routed.threads.items ≡ cores
  pub input : List ℕ
  pub read : ReadsLines routed.status (left source) input (left routed.source)
  pub sends : Sends input routed.dispatcher

-- Some cores of these sizes were started. If all were, what the lines that were taken ask was given to them, and nothing else.
pub record HasGiven {S : Type 0} (left : S → Option (List ℕ)) (cores : ℕ) (sizes : Sizes) (source : S) (routed : Routed S) : Type 0 where
  pub numbered : AreNumbered 0 sizes routed.threads.items
  pub most : length routed.threads.items ≤ cores
  pub shares : shares_of routed.dispatcher.refusals.outlet.sender + length routed.threads.items ≡ all_shares
  pub input : List ℕ
  pub read : HasTakenLines (left source) input (left routed.source)
  pub asked : List (Option Request)
  pub asks : Ask 1 (lines input) asked
  pub lanes : AreRouted asked routed.dispatcher.lanes.items
  pub refusals : answers_given routed.dispatcher.refusals ≡ refusals_of (refused 1 asked)
  pub all : (asked ≡ []) ⊎ (length routed.threads.items ≡ cores)

-- What the status of a router says: 0 that no read failed, 4 that one did, 7 that none was tried.
abbrev pub SaysRouted : ℕ → ℕ → ℕ → Type 0
SaysRouted status before now = ((status ≡ 0) × (now ≡ before)) ⊎ ((status ≡ 4) × HasRisen before now) ⊎ (status ≡ 6) ⊎ ((status ≡ 7) × (now ≡ before))

-- All that was routed, whatever the status.
pub record Routes {S : Type 0} (left : S → Option (List ℕ)) (faults : S → ℕ) (cores : ℕ) (sizes : Sizes) (source : S) (routed : Routed S) : Type 0 where
  pub given : HasGiven left cores sizes source routed
  pub whole : (routed.status ≡ 0) ⊎ (routed.status ≡ 4) → HasRouted left cores sizes source routed
  pub says : SaysRouted routed.status (faults source) (faults routed.source)

-- All threads have ended well. The texts that were received interleave those of the router and of the cores.
pub record HasSettled {S K : Type 0} (routed : Routed S) (wrote : Wrote K) : Type 0 where
  pub sent : List (List Text)
  pub answered : HaveAnswered routed.threads.items routed.dispatcher.lanes.items sent
  pub interleave : settled_by wrote.texts ≡ [] → shares_of wrote.texts + (shares_of routed.dispatcher.refusals.outlet.sender + length routed.threads.items) ≡ all_shares
      → Interleaves (sent_by routed.dispatcher.refusals.outlet.sender ∷ sent) (received_by wrote.texts)

-- The texts that were received, and then some more, interleave those of the router and of the cores.
pub record HasCollected {S K : Type 0} (routed : Routed S) (wrote : Wrote K) : Type 0 where
  pub sent : List (List Text)
  pub answered : HaveBegun routed.threads.items routed.dispatcher.lanes.items sent
  pub begun : settled_by wrote.texts ≡ [] → shares_of wrote.texts + (shares_of routed.dispatcher.refusals.outlet.sender + length routed.threads.items) ≡ all_shares
      → (queued : List Text) × Interleaves (sent_by routed.dispatcher.refusals.outlet.sender ∷ sent) (received_by wrote.texts ++ queued)

-- The server ends with the status of the writer, or else with that of the router. If all else went well and a core did not, it
-- ends with 6.
abbrev pub EndsAs : ℕ → ℕ → ℕ → Type 0
EndsAs wrote routed status = ((wrote ≡ 0 → ⊥) × (status ≡ wrote)) ⊎ ((wrote ≡ 0) × ((status ≡ routed) ⊎ ((status ≡ 6) × ((routed ≡ 0) ⊎ (routed ≡ 4)))))

-- The threads have ended, and all their texts were settled.
pub record Settles {S K : Type 0} (routed : Routed S) (wrote : Wrote K) (served : Served S K) : Type 0 where
  pub source : served.source ≡ routed.source
  pub sink : served.sink ≡ wrote.sink
  pub ends : EndsAs wrote.status routed.status served.status
  pub collected : HasCollected routed wrote
  pub settled : wrote.status ≡ 0 → (served.status ≡ 0) ⊎ (served.status ≡ 4) → HasSettled routed wrote
