-- What the router left, after its channels were closed.
use Rattle.std.proofs.Common.{◌≡◌, ◌+◌, ◌≤◌, ◌⊎◌, inl, inr, ℕ, List, [], ◌++◌, map, length, Option, Some, None, refl, sym, ap, subst, ◌∙◌, arith}
use Rattle.mono_text.specs.Environment.{HasRead, HasReadAll}
use Rattle.mono_text.specs.Lines.{lines}
use Rattle.mono_channel.specs.Delivery.{all_shares}
use Rattle.std.proofs.lemmas.List.{append-nil}
use Rattle.mono_channel.specs.Ends.{Ends, shares_of, IsPair}
use Rattle.lease_core.specs.declared.requests.Request.{Request}
use Rattle.lease_core.specs.declared.sizes.Sizes.{Sizes}
use Rattle.lease_server.specs.Lanes.{given, sent_over, answers_given, answers_sent}
use Rattle.lease_server.specs.Routing.{Ask, HasNoFeed, all_routed}
use Rattle.lease_server.specs.Dispatch.{AreRouted, Holds, HasSentAll, Answers, Sends, KeepsWays}
use Rattle.lease_server.specs.Blocks.{rest_of, IsAtEnd}
use Rattle.lease_server.specs.Splits.{Stands}
use Rattle.lease_server.specs.Intakes.{Fits, FitsIn, FaultsIn, IsOverIn, Leads, status_of}
use Rattle.lease_server.specs.Intakes as intakes
use Rattle.lease_server.specs.EndToEnd.{HasTakenLines}
use Rattle.lease_server.specs.Routers.{LeadsOn}
use Rattle.lease_server.specs.Threads.{ArePaired, AreNumbered, ReadsLines, HasGiven, HasRouted, Routes, SaysRouted}
use Rattle.lease_server.specs.declared.threads.CoreThread.{CoreThread}
use Rattle.lease_server.specs.declared.lanes.Lane.{Lane}
use Rattle.lease_server.specs.declared.refusals.Refusals.{Refusals}
use Rattle.lease_server.specs.declared.dispatchers.Dispatcher.{Dispatcher}
use Rattle.lease_server.specs.declared.splitters.Splitter.{Splitter}
use Rattle.lease_server.specs.declared.intakes.Phase.{Phase}
use Rattle.lease_server.specs.declared.intakes.Phase.TheVariants as phase
use Rattle.lease_server.specs.declared.intakes.Intake.{Intake}
use Rattle.lease_server.specs.declared.servers.Routed.{Routed}
use Rattle.lease_server.specs.declared.texts.Text.{Text}
use Rattle.lease_server.proofs.RoutingLemmas.{both_feedless}
use Rattle.lease_server.proofs.SplitLemmas.{read_none}
use Rattle.lease_server.proofs.DispatchLemmas.{sends}
use Rattle.lease_server.proofs.ThreadLemmas.{pairs_ways}

sends_same : (input : List ℕ) (a b : Dispatcher) → b.lanes.items ≡ a.lanes.items → b.refusals ≡ a.refusals → Sends input a → Sends input b
sends_same input a b lanes refusals s = record {
  asked = s.asked;
  asks = s.asks;
  lanes = subst (λ (l : List Lane). map sent_over l ≡ all_routed (length l) s.asked) (sym lanes) s.lanes;
  refusals = ap (λ (r : Refusals). answers_sent r) refusals ∙ s.refusals;
}

sent_same : (a b : Dispatcher) → b.lanes.items ≡ a.lanes.items → b.refusals ≡ a.refusals → HasSentAll b → HasSentAll a
sent_same a b lanes refusals s = record {
  lanes = subst (λ (l : List Lane). map sent_over l ≡ map given l) lanes s.lanes;
  refusals = subst (λ (r : Refusals). answers_sent r ≡ answers_given r) refusals s.refusals;
}

read_all : (before after : Option (List ℕ)) (bytes : List ℕ) → HasRead before bytes after → IsAtEnd after → HasReadAll before bytes after
read_all None after bytes read end = read
read_all (Some l) None bytes read end = absurd read
read_all (Some l) (Some rest) bytes read end = (read ∙ ap (λ r. bytes ++ r) end ∙ append-nil bytes, ap Some end)

-- ---- what was read and sent

-- the lines that were sent, by the phase
sent_lines : (is : Phase) (status : ℕ) (bytes : List ℕ) (before after : Option (List ℕ)) (s : Splitter) → HasRead before bytes after → FitsIn is bytes after s → IsOverIn is s → status ≡ status_of is → HasSentAll s.dispatcher
    → (input : List ℕ) × ReadsLines status before input after × Sends input s.dispatcher
sent_lines phase.Reading status bytes before after s read f over ended sent = absurd over
sent_lines phase.Ended status bytes before after s read f over ended sent = (bytes, inl (ended, read_all before after bytes read f.0), sends bytes s.dispatcher f.1 sent)
sent_lines phase.Failed status bytes before after s read f over ended sent =
    let begun : List ℕ = f.dropped ++ rest_of s.block in (
      f.taken,
      inr (ended, begun, subst (λ l. HasRead before l after) f.bytes read, f.ends, both_feedless f.dropped (rest_of s.block) f.begun over),
      sends f.taken s.dispatcher (record { asked = f.asked; asks = f.asks; holds = f.holds }) sent,
    )

-- The lines that were taken, and what they ask.
pub record Taken (before after : Option (List ℕ)) (d : Dispatcher) : Type 0 where
  pub taken : List ℕ
  pub read : HasTakenLines before taken after
  pub asked : List (Option Request)
  pub asks : Ask 1 (lines taken) asked
  pub holds : Holds asked d

taken_by : (bytes : List ℕ) (before after : Option (List ℕ)) (s : Splitter) → HasRead before bytes after → Stands bytes s → Taken before after s.dispatcher
taken_by bytes before after s read f = record { taken = f.taken; read = inr (f.dropped ++ rest_of s.block, subst (λ l. HasRead before l after) f.bytes read, f.ends); asked = f.asked; asks = f.asks; holds = f.holds }

taken_lines : (is : Phase) (bytes : List ℕ) (before after : Option (List ℕ)) (s : Splitter) → HasRead before bytes after → FitsIn is bytes after s → Taken before after s.dispatcher
taken_lines phase.Reading bytes before after s read f = taken_by bytes before after s read f
taken_lines phase.Failed bytes before after s read f = taken_by bytes before after s read f
taken_lines phase.Ended bytes before after s read f = record { taken = bytes; read = inl (read_all before after bytes read f.0); asked = f.1.asked; asks = f.1.asks; holds = f.1.holds }

says_phase : (is : Phase) (status before now : ℕ) (s : Splitter) → FaultsIn is before now → IsOverIn is s → status ≡ status_of is → SaysRouted status before now
says_phase phase.Reading status before now s f over ended = absurd over
says_phase phase.Failed status before now s f over ended = inr (inl (ended, f))
says_phase phase.Ended status before now s f over ended = inl (ended, f)

-- a start that failed
pub failed_start : (status : ℕ) → (status ≡ 0 → ⊥) → (status ≡ 0) ⊎ (status ≡ 6) ⊎ (status ≡ 7) → (status ≡ 6) ⊎ (status ≡ 7)
failed_start status failed (inl done) = absurd (failed done)
failed_start status failed (inr which) = which

over_same : (is : Phase) (a b : Splitter) → b.block ≡ a.block → IsOverIn is a → IsOverIn is b
over_same phase.Reading a b block over = over
over_same phase.Failed a b block over = subst (λ x. HasNoFeed (rest_of x)) (sym block) over
over_same phase.Ended a b block over = over

not_whole : (status other : ℕ) → other ≡ status → (status ≡ 6) ⊎ (status ≡ 7) → (other ≡ 0) ⊎ (other ≡ 4) → ⊥
not_whole status other is (inl memory) (inl done) = omega (arith, is, memory, done)
not_whole status other is (inl memory) (inr read) = omega (arith, is, memory, read)
not_whole status other is (inr thread) (inl done) = omega (arith, is, thread, done)
not_whole status other is (inr thread) (inr read) = omega (arith, is, thread, read)

is_memory : (status last : ℕ) → last ≡ 6 → (status ≡ last) ⊎ (status ≡ 6) → status ≡ 6
is_memory status last memory (inl is) = is ∙ memory
is_memory status last memory (inr is) = is

-- The router's channels were closed, and the intake was given back.
pub record Closes {S : Type 0} (b c : Intake S) (routed : Routed S) : Type 0 where
  pub source : c.source ≡ b.source
  pub stage : c.phase ≡ b.phase
  pub lanes : c.splitter.dispatcher.lanes.items ≡ b.splitter.dispatcher.lanes.items
  pub refusals : c.splitter.dispatcher.refusals ≡ b.splitter.dispatcher.refusals
  pub block : c.splitter.block ≡ b.splitter.block
  pub from : routed.source ≡ c.source
  pub to : routed.dispatcher ≡ c.splitter.dispatcher

module _ {S : Type 0} (left : S → Option (List ℕ)) (faults : S → ℕ) (cores : ℕ) (sizes : Sizes) where
  -- nothing was read
  pub given_none : (routed : Routed S) (a : Dispatcher) (source : S) → Holds [] a → routed.source ≡ source → routed.dispatcher.lanes.items ≡ a.lanes.items → routed.dispatcher.refusals ≡ a.refusals
      → AreNumbered 0 sizes routed.threads.items → length routed.threads.items ≤ cores → shares_of routed.dispatcher.refusals.outlet.sender + length routed.threads.items ≡ all_shares → HasGiven left cores sizes source routed
  given_none routed a source holds same lanes refusals numbered most shares = record {
    numbered = numbered;
    most = most;
    shares = shares;
    input = [];
    read = inr ([], subst (λ s. HasRead (left source) [] (left s)) (sym same) (read_none (left source)), λ rest. refl);
    asked = [];
    asks = tt;
    lanes = subst (λ (l : List Lane). AreRouted [] l) (sym lanes) holds.lanes;
    refusals = ap (λ (r : Refusals). answers_given r) refusals ∙ holds.refusals;
    all = inl refl;
  }

  -- all cores were started
  pub given_all : (routed : Routed S) (a b c : Intake S) (source : S) → a.source ≡ source → Fits left [] a → Leads left a b → Closes b c routed
      → AreNumbered 0 sizes routed.threads.items → length routed.threads.items ≡ cores → shares_of routed.dispatcher.refusals.outlet.sender + length routed.threads.items ≡ all_shares → HasGiven left cores sizes source routed
  given_all routed a b c source same fits led closes numbered count shares =
      let t = taken_lines b.phase led.0 (left a.source) (left b.source) b.splitter led.1 (led.2 [] fits) in
      let lanes : routed.dispatcher.lanes.items ≡ b.splitter.dispatcher.lanes.items = ap (λ (d : Dispatcher). d.lanes.items) closes.to ∙ closes.lanes in
      let refusals : routed.dispatcher.refusals ≡ b.splitter.dispatcher.refusals = ap (λ (d : Dispatcher). d.refusals) closes.to ∙ closes.refusals in
      record {
        numbered = numbered;
        most = omega (arith, count);
        shares = shares;
        input = t.taken;
        read = subst (λ s. HasTakenLines (left source) t.taken (left s)) (sym (closes.from ∙ closes.source)) (subst (λ s. HasTakenLines (left s) t.taken (left b.source)) same t.read);
        asked = t.asked;
        asks = t.asks;
        lanes = subst (λ (l : List Lane). AreRouted t.asked l) (sym lanes) t.holds.lanes;
        refusals = ap (λ (r : Refusals). answers_given r) refusals ∙ t.holds.refusals;
        all = inr count;
      }

  -- all that was read was sent
  pub routed_lines : (status : ℕ) (routed : Routed S) (a b c : Intake S) (source : S) → a.source ≡ source → Fits left [] a → Leads left a b → Closes b c routed → length routed.threads.items ≡ cores → routed.status ≡ status
      → status ≡ status_of c.phase → IsOverIn c.phase c.splitter → HasSentAll c.splitter.dispatcher → HasRouted left cores sizes source routed
  routed_lines status routed a b c source same fits led closes count is ended over sent =
      let bytes = led.0 in
      let f : FitsIn c.phase bytes (left b.source) b.splitter = subst (λ p. FitsIn p bytes (left b.source) b.splitter) (sym closes.stage) (led.2 [] fits) in
      let quiet : IsOverIn c.phase b.splitter = over_same c.phase c.splitter b.splitter (sym closes.block) over in
      let all = sent_lines c.phase status bytes (left a.source) (left b.source) b.splitter led.1 f quiet ended (sent_same b.splitter.dispatcher c.splitter.dispatcher closes.lanes closes.refusals sent) in
      record {
        count = count;
        input = all.0;
        read = subst (λ n. ReadsLines n (left source) all.0 (left routed.source)) (sym is)
            (subst (λ s. ReadsLines status (left source) all.0 (left s)) (sym (closes.from ∙ closes.source)) (subst (λ s. ReadsLines status (left s) all.0 (left b.source)) same all.1));
        sends = subst (λ d. Sends all.0 d) (sym closes.to) (sends_same all.0 b.splitter.dispatcher c.splitter.dispatcher closes.lanes closes.refusals all.2);
      }

  says_none : (status : ℕ) (routed : Routed S) (source : S) → routed.status ≡ status → routed.source ≡ source → (status ≡ 6) ⊎ (status ≡ 7) → SaysRouted routed.status (faults source) (faults routed.source)
  says_none status routed source is same (inl memory) = inr (inr (inl (is ∙ memory)))
  says_none status routed source is same (inr thread) = inr (inr (inr (is ∙ thread, ap faults same)))

  -- no core was started, or not all
  pub routes_none : (status : ℕ) (routed : Routed S) (a : Dispatcher) (source : S) → Holds [] a → routed.source ≡ source → routed.dispatcher.lanes.items ≡ a.lanes.items → routed.dispatcher.refusals ≡ a.refusals
      → AreNumbered 0 sizes routed.threads.items → length routed.threads.items ≤ cores → shares_of routed.dispatcher.refusals.outlet.sender + length routed.threads.items ≡ all_shares
      → routed.status ≡ status → (status ≡ 6) ⊎ (status ≡ 7) → Routes left faults cores sizes source routed
  routes_none status routed a source holds same lanes refusals numbered most shares is which = record {
    given = given_none routed a source holds same lanes refusals numbered most shares;
    whole = λ w. absurd (not_whole status routed.status is which w);
    says = says_none status routed source is same which;
  }

  -- all cores were started, and the router ended
  pub routes_all : (routed : Routed S) (a b c : Intake S) (source : S) (last : ℕ) → a.source ≡ source → Fits left [] a → FaultsIn a.phase (faults source) (faults a.source) → LeadsOn left faults a b → Closes b c routed
      → AreNumbered 0 sizes routed.threads.items → length routed.threads.items ≡ cores → shares_of routed.dispatcher.refusals.outlet.sender + length routed.threads.items ≡ all_shares
      → intakes.Ends c last → (routed.status ≡ last) ⊎ (routed.status ≡ 6) → Routes left faults cores sizes source routed
  routes_all routed a b c source last same fits counted led closes numbered count shares (inl memory) which =
      let is : routed.status ≡ 6 = is_memory routed.status last memory which in
      record { given = given_all routed a b c source same fits led.0 closes numbered count shares; whole = λ w. absurd (not_whole 6 routed.status is (inl refl) w); says = inr (inr (inl is)) }
  routes_all routed a b c source last same fits counted led closes numbered count shares (inr (ended, over, sent)) (inr is) =
      record { given = given_all routed a b c source same fits led.0 closes numbered count shares; whole = λ w. absurd (not_whole 6 routed.status is (inl refl) w); says = inr (inr (inl is)) }
  routes_all routed a b c source last same fits counted led closes numbered count shares (inr (ended, over, sent)) (inl is) =
      let rose : FaultsIn c.phase (faults source) (faults routed.source) = subst (λ s. FaultsIn c.phase (faults source) (faults s)) (sym (closes.from ∙ closes.source)) (subst (λ p. FaultsIn p (faults source) (faults b.source)) (sym closes.stage) (led.2 (faults source) counted)) in
      record {
        given = given_all routed a b c source same fits led.0 closes numbered count shares;
        whole = λ w. routed_lines last routed a b c source same fits led.0 closes count is ended over sent;
        says = subst (λ n. SaysRouted n (faults source) (faults routed.source)) (sym is) (says_phase c.phase last (faults source) (faults routed.source) c.splitter rose over ended);
      }

-- each thread has its lane
pub paired : (texts : Ends Text) (ts : List CoreThread) (a b c : Dispatcher) → KeepsWays a b → c.lanes.items ≡ b.lanes.items → ArePaired texts ts a.lanes.items → ArePaired texts ts c.lanes.items
paired texts ts a b c ways lanes p = subst (λ l. ArePaired texts ts l) (sym lanes) (pairs_ways texts ts a.lanes.items b.lanes.items ways.lanes p)

-- the channel of the texts, and its shares
pub pair_after : (texts : Ends Text) (a b c : Dispatcher) → IsPair a.refusals.outlet.sender texts → KeepsWays a b → c.refusals ≡ b.refusals → IsPair c.refusals.outlet.sender texts
pair_after texts a b c pair ways same = ap (λ (r : Refusals). r.outlet.sender.channel) same ∙ (ways.refusals.0 ∙ pair)

pub shares_after : (n : ℕ) (a b c : Dispatcher) → shares_of a.refusals.outlet.sender + n ≡ all_shares → KeepsWays a b → c.refusals ≡ b.refusals → shares_of c.refusals.outlet.sender + n ≡ all_shares
shares_after n a b c sum ways same = ap (λ (r : Refusals). shares_of r.outlet.sender + n) same ∙ ap (λ m. m + n) ways.refusals.1 ∙ sum
