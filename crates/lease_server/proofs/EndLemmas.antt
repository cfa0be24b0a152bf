-- From the threads that have ended to the lines of the input and of the output.
use Rattle.std.proofs.Common.{◌≡◌, ◌+◌, ◌≤◌, ◌⊎◌, inl, inr, ℕ, List, [], ◌∷◌, ◌++◌, map, length, Option, Some, refl, sym, ap, subst, ◌∙◌, append_assoc, arith}
use Rattle.std.specs.Global.{Vec}
use Rattle.std.specs.List.{range_with_len}
use Rattle.std.proofs.lemmas.List.Concat.{flat_map-append}
use Rattle.mono_text.specs.Environment.{HasRead, HasReadAll, HasWritten, HasWrittenPrefix}
use Rattle.mono_channel.specs.Beginnings.{AreBeginnings}
use Rattle.mono_channel.specs.Delivery.{Interleaves, all_shares}
use Rattle.mono_channel.specs.Ends.{Ends, sent_by, received_by, shares_of}
use Rattle.mono_channel.proofs.Beginnings.{beginnings}
use Rattle.mono_channel.proofs.Interleaving.{head_is, tail_is, parts_interleaved}
use Rattle.lease_core.specs.declared.requests.Request.{Request}
use Rattle.lease_core.specs.declared.sizes.Sizes.{Sizes}
use Rattle.lease_server.specs.Answers.{answer_lines, by_core, refusals_of}
use Rattle.lease_server.specs.Texts.{said_by, said_by_all}
use Rattle.lease_server.specs.Lanes.{answers_given, given, joined, sent_over}
use Rattle.lease_server.specs.Outlets.{kept}
use Rattle.lease_server.specs.Routing.{EndsLines, HasNoFeed, routed, all_routed, refused}
use Rattle.lease_server.specs.Dispatch.{Sends}
use Rattle.lease_server.specs.EndToEnd.{RunsThrough, RunsPart, EachRuns, EachRunsPart, HasTakenLines, ServesAll, ServesPart, HasServed, HasServedLines, HasServedPart, SaysWhich}
use Rattle.lease_server.specs.Printers.{bytes_of, HasWrittenTexts, SaysWritten}
use Rattle.lease_server.specs.Threads.{IsFresh, AreNumbered, EndsAs, HasGiven, HaveAnswered, HaveBegun, HasRouted, ReadsLines, Routes, SaysRouted, Settles}
use Rattle.lease_server.specs.declared.threads.CoreThread.{CoreThread}
use Rattle.lease_server.proofs.PrinterLemmas.{written_none}
use Rattle.lease_server.proofs.SplitLemmas.{read_none}
use Rattle.lease_server.proofs.ThreadLemmas.{part_more}
use Rattle.lease_server.specs.declared.answers.Answer.{Answer}
use Rattle.lease_server.specs.declared.texts.Text.{Text}
use Rattle.lease_server.specs.declared.lanes.Lane.{Lane}
use Rattle.lease_server.specs.declared.dispatchers.Dispatcher.{Dispatcher}
use Rattle.lease_server.specs.declared.writer.Wrote.{Wrote}
use Rattle.lease_server.specs.declared.writer.Writes.{Writes}
use Rattle.lease_server.specs.declared.servers.Routed.{Routed}
use Rattle.lease_server.specs.declared.servers.Served.{Served}

as_many : (ts : List CoreThread) (ls : List Lane) (ss : List (List Text)) → HaveAnswered ts ls ss → length ls ≡ length ts
as_many [] [] [] h = refl
as_many [] [] (s ∷ ss) h = absurd h
as_many [] (l ∷ ls) ss h = absurd h
as_many (t ∷ ts) [] ss h = absurd h
as_many (t ∷ ts) (l ∷ ls) [] h = absurd h
as_many (t ∷ ts) (l ∷ ls) (s ∷ ss) h = let c = as_many ts ls ss h.1 in omega arith

-- the cores from core k on
each_runs : (n : ℕ) (sizes : Sizes) (asked : List (Option Request)) (k : ℕ) (ts : List CoreThread) (ls : List Lane) (ss : List (List Text)) → AreNumbered k sizes ts → HaveAnswered ts ls ss → k + length ts ≡ n
    → map sent_over ls ≡ map (λ j. routed j n asked) (range_with_len k (length ls)) → EachRuns k n sizes asked (map said_by_all ss)
each_runs n sizes asked k [] [] [] numbered h count way = omega arith
each_runs n sizes asked k [] [] (s ∷ ss) numbered h count way = absurd h
each_runs n sizes asked k [] (l ∷ ls) ss numbered h count way = absurd h
each_runs n sizes asked k (t ∷ ts) [] ss numbered h count way = absurd h
each_runs n sizes asked k (t ∷ ts) (l ∷ ls) [] numbered h count way = absurd h
each_runs n sizes asked k (t ∷ ts) (l ∷ ls) (s ∷ ss) numbered h count way =
    let a = h.0 in
    let first : sent_over l ≡ routed k n asked = head_is _ _ _ _ way in (
      (a.0, subst (λ z. RunsThrough z (routed k n asked) a.0) numbered.1 (subst (λ r. RunsThrough t.promise.value.sizes r a.0) first a.1), a.2 ∙ ap (λ i. by_core i a.0) numbered.0),
      each_runs n sizes asked (k + 1) ts ls ss numbered.2 h.1 (omega arith) (tail_is _ _ _ _ way),
    )

-- all threads have ended well, and all input was sent
pub serves_all : (cores : ℕ) (sizes : Sizes) (input : List ℕ) (d : Dispatcher) (ts : List CoreThread) (sent : List (List Text)) (received : List Text) → Sends input d → AreNumbered 0 sizes ts → length ts ≡ cores
    → HaveAnswered ts d.lanes.items sent → Interleaves (sent_by d.refusals.outlet.sender ∷ sent) received → ServesAll cores sizes input (answer_lines (said_by_all received))
serves_all cores sizes input d ts sent received s numbered count answered interleave =
    let n : length d.lanes.items ≡ cores = as_many ts d.lanes.items sent answered ∙ count in
    let way : map sent_over d.lanes.items ≡ map (λ j. routed j cores s.asked) (range_with_len 0 (length d.lanes.items)) =
    s.lanes ∙ ap (λ m. map (λ j. routed j m s.asked) (range_with_len 0 (length d.lanes.items))) n in
    record {
      asked = s.asked;
      asks = s.asks;
      each = map said_by_all sent;
      runs = each_runs cores sizes s.asked 0 ts d.lanes.items sent numbered answered (omega (arith, count)) way;
      answers = said_by_all received;
      interleave = subst (λ a. Interleaves (a ∷ map said_by_all sent) (said_by_all received)) s.refusals (parts_interleaved said_by (sent_by d.refusals.outlet.sender ∷ sent) received interleave);
      written = refl;
    }

-- ---- what was written, by the status

-- a beginning of what was read is answered
sent_begins : (n : ℕ) (sizes : Sizes) (requests : List Request) (sent : List Text) (p rest : List Text) → p ++ rest ≡ sent → RunsPart n sizes requests (said_by_all sent) → RunsPart n sizes requests (said_by_all p)
sent_begins n sizes requests sent p rest is r =
    let all : said_by_all sent ≡ said_by_all p ++ said_by_all rest = ap said_by_all (sym is) ∙ flat_map-append said_by p rest in
    record {
      events = r.events;
      replies = r.replies;
      last = r.last;
      run = r.run;
      unasked = r.unasked;
      asked = r.asked;
      unsaid = said_by_all rest ++ r.unsaid;
      answered = r.answered ∙ ap (λ l. l ++ r.unsaid) all ∙ append_assoc (said_by_all p) (said_by_all rest) r.unsaid;
    }

-- what a lane was given, and not sent
abbrev unsent : Lane → List Request
unsent lane = joined (kept lane.outlet.message) ++ lane.requests.items

gave : (lane : Lane) → given lane ≡ sent_over lane ++ unsent lane
gave lane =
    ap (λ l. l ++ lane.requests.items) (flat_map-append (λ (m : Vec Request). m.items) (sent_by lane.outlet.sender) (kept lane.outlet.message)) ∙ append_assoc (sent_over lane) (joined (kept lane.outlet.message)) lane.requests.items

-- the cores from core k on
each_part : (n : ℕ) (sizes : Sizes) (asked : List (Option Request)) (k : ℕ) (ts : List CoreThread) (ls : List Lane) (ss ps : List (List Text)) → AreNumbered k sizes ts → HaveBegun ts ls ss → AreBeginnings ps ss → k + length ts ≤ n
    → map given ls ≡ map (λ j. routed j n asked) (range_with_len k (length ls)) → EachRunsPart k n sizes asked (map said_by_all ps)
each_part n sizes asked k [] [] [] [] numbered h b most way = omega arith
each_part n sizes asked k [] [] [] (p ∷ ps) numbered h b most way = absurd b
each_part n sizes asked k [] [] (s ∷ ss) ps numbered h b most way = absurd h
each_part n sizes asked k [] (l ∷ ls) ss ps numbered h b most way = absurd h
each_part n sizes asked k (t ∷ ts) [] ss ps numbered h b most way = absurd h
each_part n sizes asked k (t ∷ ts) (l ∷ ls) [] ps numbered h b most way = absurd h
each_part n sizes asked k (t ∷ ts) (l ∷ ls) (s ∷ ss) [] numbered h b most way = absurd b
each_part n sizes asked k (t ∷ ts) (l ∷ ls) (s ∷ ss) (p ∷ ps) numbered h b most way =
    let all : sent_over l ++ unsent l ≡ routed k n asked = sym (gave l) ∙ head_is _ _ _ _ way in
    let one = sent_begins t.promise.value.number t.promise.value.sizes (sent_over l) s p b.0.0 b.0.1 h.0 in
    let more = part_more t.promise.value.number t.promise.value.sizes (sent_over l) (unsent l) (said_by_all p) one in (
      subst (λ m. RunsPart m sizes (routed k n asked) (said_by_all p)) numbered.0 (subst (λ z. RunsPart t.promise.value.number z (routed k n asked) (said_by_all p)) numbered.1 (subst (λ r. RunsPart t.promise.value.number t.promise.value.sizes r (said_by_all p)) all more)),
      each_part n sizes asked (k + 1) ts ls ss ps numbered.2 h.1 b.1 (omega arith) (tail_is _ _ _ _ way),
    )

-- the lanes of fewer cores were given nothing
lanes_for : (m n : ℕ) (asked : List (Option Request)) (ks : List ℕ) → (asked ≡ []) ⊎ (m ≡ n) → map (λ j. routed j m asked) ks ≡ map (λ j. routed j n asked) ks
lanes_for m n asked ks (inl none) = subst (λ a. map (λ j. routed j m a) ks ≡ map (λ j. routed j n a) ks) (sym none) refl
lanes_for m n asked ks (inr same) = ap (λ c. map (λ j. routed j c asked) ks) same

count_begun : (ts : List CoreThread) (ls : List Lane) (ss : List (List Text)) → HaveBegun ts ls ss → length ls ≡ length ts
count_begun [] [] [] h = refl
count_begun [] [] (s ∷ ss) h = absurd h
count_begun [] (l ∷ ls) ss h = absurd h
count_begun (t ∷ ts) [] ss h = absurd h
count_begun (t ∷ ts) (l ∷ ls) [] h = absurd h
count_begun (t ∷ ts) (l ∷ ls) (s ∷ ss) h = let c = count_begun ts ls ss h.1 in omega arith

count_for : (l m n : ℕ) (asked : List (Option Request)) → l ≡ m → (asked ≡ []) ⊎ (m ≡ n) → (asked ≡ []) ⊎ (l ≡ n)
count_for l m n asked is (inl none) = inl none
count_for l m n asked is (inr same) = inr (is ∙ same)

refused_part : (d : Dispatcher) (p rest : List Text) (all : List Answer) → p ++ rest ≡ sent_by d.refusals.outlet.sender → answers_given d.refusals ≡ all
    → all ≡ said_by_all p ++ (said_by_all rest ++ (said_by_all (kept d.refusals.outlet.message) ++ refusals_of d.refusals.numbers.items))
refused_part d p rest all is gave =
    let sent = sent_by d.refusals.outlet.sender in
    let others = said_by_all (kept d.refusals.outlet.message) in
    let numbers = refusals_of d.refusals.numbers.items in
    sym gave ∙ ap (λ l. l ++ numbers) (flat_map-append said_by sent (kept d.refusals.outlet.message)) ∙ append_assoc (said_by_all sent) others numbers ∙ ap (λ l. said_by_all l ++ (others ++ numbers)) (sym is)
    ∙ ap (λ l. l ++ (others ++ numbers)) (flat_map-append said_by p rest) ∙ append_assoc (said_by_all p) (said_by_all rest) (others ++ numbers)

module _ {S : Type 0} (left : S → Option (List ℕ)) (cores : ℕ) (sizes : Sizes) (source : S) (way : Routed S) (received : List Text) where
  part_by : (g : HasGiven left cores sizes source way) (sent ps : List (List Text)) → HaveBegun way.threads.items way.dispatcher.lanes.items sent → Interleaves ps received
      → AreBeginnings ps (sent_by way.dispatcher.refusals.outlet.sender ∷ sent) → ServesPart cores sizes g.input (said_by_all received)
  part_by g sent [] answered i b = absurd b
  part_by g sent (p ∷ ps) answered i b =
      let ts = way.threads.items in
      let ls = way.dispatcher.lanes.items in
      let count : (g.asked ≡ []) ⊎ (length ls ≡ cores) = count_for (length ls) (length ts) cores g.asked (count_begun ts ls sent answered) g.all in
      let lanes : map given ls ≡ map (λ j. routed j cores g.asked) (range_with_len 0 (length ls)) = g.lanes ∙ lanes_for (length ls) cores g.asked (range_with_len 0 (length ls)) count in
      record {
        asked = g.asked;
        asks = g.asks;
        refusals = said_by_all p;
        unsaid = said_by_all b.0.0 ++ (said_by_all (kept way.dispatcher.refusals.outlet.message) ++ refusals_of way.dispatcher.refusals.numbers.items);
        refuses = refused_part way.dispatcher p b.0.0 (refusals_of (refused 1 g.asked)) b.0.1 g.refusals;
        each = map said_by_all ps;
        runs = each_part cores sizes g.asked 0 ts ls sent ps g.numbered answered b.1 (omega (arith, g.most)) lanes;
        interleave = parts_interleaved said_by (p ∷ ps) received i;
      }

-- which threads ended well
ended_by : (wrote routed status before now : ℕ) → SaysWritten wrote before now → EndsAs wrote routed status → (status ≡ 0) ⊎ (status ≡ 4) → (wrote ≡ 0) × (routed ≡ status)
ended_by wrote routed status before now says (inr (done, inl is)) which = (done, sym is)
ended_by wrote routed status before now says (inr (done, inr (memory, others))) (inl is) = absurd (omega (arith, memory, is))
ended_by wrote routed status before now says (inr (done, inr (memory, others))) (inr is) = absurd (omega (arith, memory, is))
ended_by wrote routed status before now (inl (done, same)) (inl (failed, is)) which = absurd (failed done)
ended_by wrote routed status before now (inr (inl (write, rose))) (inl (failed, is)) (inl zero) = absurd (omega (arith, write, is, zero))
ended_by wrote routed status before now (inr (inl (write, rose))) (inl (failed, is)) (inr four) = absurd (omega (arith, write, is, four))
ended_by wrote routed status before now (inr (inr (memory, same))) (inl (failed, is)) (inl zero) = absurd (omega (arith, memory, is, zero))
ended_by wrote routed status before now (inr (inr (memory, same))) (inl (failed, is)) (inr four) = absurd (omega (arith, memory, is, four))

none_written : (wrote before now : ℕ) → SaysWritten wrote before now → wrote ≡ 0 → now ≡ before
none_written wrote before now (inl (done, same)) is = same
none_written wrote before now (inr (inl (write, rose))) is = absurd (omega (arith, write, is))
none_written wrote before now (inr (inr (memory, same))) is = same

says_routed : (routed status reads reads_now writes writes_now : ℕ) → SaysRouted routed reads reads_now → status ≡ routed → writes_now ≡ writes → SaysWhich status reads reads_now writes writes_now
says_routed routed status reads reads_now writes writes_now (inl (done, same)) is none = inl (is ∙ done, same, none)
says_routed routed status reads reads_now writes writes_now (inr (inl (read, rose))) is none = inr (inl (is ∙ read, rose, none))
says_routed routed status reads reads_now writes writes_now (inr (inr (inl memory))) is none = inr (inr (inr (inl (is ∙ memory, none))))
says_routed routed status reads reads_now writes writes_now (inr (inr (inr (thread, same)))) is none = inr (inr (inr (inr (is ∙ thread, same, none))))

says_which : (wrote routed status reads reads_now writes writes_now : ℕ) → SaysWritten wrote writes writes_now → SaysRouted routed reads reads_now → EndsAs wrote routed status → SaysWhich status reads reads_now writes writes_now
says_which wrote routed status reads reads_now writes writes_now w r (inr (done, inl is)) = says_routed routed status reads reads_now writes writes_now r is (none_written wrote writes writes_now w done)
says_which wrote routed status reads reads_now writes writes_now w r (inr (done, inr (memory, others))) = inr (inr (inr (inl (memory, none_written wrote writes writes_now w done))))
says_which wrote routed status reads reads_now writes writes_now (inl (done, same)) r (inl (failed, is)) = absurd (failed done)
says_which wrote routed status reads reads_now writes writes_now (inr (inl (write, rose))) r (inl (failed, is)) = inr (inr (inl (is ∙ write, rose)))
says_which wrote routed status reads reads_now writes writes_now (inr (inr (memory, same))) r (inl (failed, is)) = inr (inr (inr (inl (is ∙ memory, same))))

all_read : (status : ℕ) (before after : Option (List ℕ)) (input : List ℕ) → ReadsLines status before input after → status ≡ 0 → HasReadAll before input after
all_read status before after input (inl (is, read)) done = read
all_read status before after input (inr (is, begun, read, ends, none)) done = absurd (omega (arith, is, done))

lines_read : (status : ℕ) (before after : Option (List ℕ)) (input : List ℕ) → ReadsLines status before input after → status ≡ 4 → (begun : List ℕ) × HasRead before (input ++ begun) after × EndsLines input × HasNoFeed begun
lines_read status before after input (inl (is, read)) failed = absurd (omega (arith, is, failed))
lines_read status before after input (inr (is, begun, read, ends, none)) failed = (begun, read, ends, none)

-- The threads of a server have ended, whose writer had these ends, and whose router this source.
module _ {S K : Type 0} (left : S → Option (List ℕ)) (reads : S → ℕ) (written : K → Option (List ℕ)) (writes : K → ℕ) (cores : ℕ) (sizes : Sizes) (source : S) (sink : K) (texts : Ends Text) (routed : Routed S) (wrote : Wrote K) (served : Served S K) where
  whole_shares : IsFresh texts → HasGiven left cores sizes source routed → HasWrittenTexts written writes texts sink wrote → shares_of wrote.texts + (shares_of routed.dispatcher.refusals.outlet.sender + length routed.threads.items) ≡ all_shares
  whole_shares fresh g w = let a = w.same.2 in let b = fresh.2 in let c = g.shares in omega arith

  -- the clauses of the server
  pub says : Routes left reads cores sizes source routed → HasWrittenTexts written writes texts sink wrote → Settles routed wrote served → SaysWhich served.status (reads source) (reads served.source) (writes sink) (writes served.sink)
  says r w s =
      subst (λ x. SaysWhich served.status (reads source) (reads served.source) (writes sink) (writes x)) (sym s.sink) (subst (λ x. SaysWhich served.status (reads source) (reads x) (writes sink) (writes wrote.sink)) (sym s.source)
      (says_which wrote.status routed.status served.status (reads source) (reads routed.source) (writes sink) (writes wrote.sink) w.says r.says s.ends))

  pub begun : IsFresh texts → Routes left reads cores sizes source routed → HasWrittenTexts written writes texts sink wrote → Settles routed wrote served → HasServedPart cores sizes (left source) (left served.source) (written sink) (written served.sink)
  begun fresh r w s =
      let c = s.collected in
      let got = received_by wrote.texts in
      let all = c.begun (w.same.1 ∙ fresh.1) (whole_shares fresh r.given w) in
      let b = beginnings (sent_by routed.dispatcher.refusals.outlet.sender ∷ c.sent) got all.0 all.1 in (
        r.given.input,
        said_by_all got,
        subst (λ x. HasTakenLines (left source) r.given.input (left x)) (sym s.source) r.given.read,
        subst (λ x. HasWrittenPrefix (written sink) (written x) (answer_lines (said_by_all got))) (sym s.sink) (w.begun fresh.0),
        part_by left cores sizes source routed got r.given c.sent b.0 c.answered b.1 b.2,
      )

  ended : (status : ℕ) → served.status ≡ status → (status ≡ 0) ⊎ (status ≡ 4) → IsFresh texts → Routes left reads cores sizes source routed → HasWrittenTexts written writes texts sink wrote → Settles routed wrote served
      → (r : HasRouted left cores sizes source routed) × (routed.status ≡ status) × HasWritten (written sink) (written served.sink) (bytes_of (received_by wrote.texts)) × ServesAll cores sizes r.input (bytes_of (received_by wrote.texts))
  ended status is which fresh r w s =
      let such : (served.status ≡ 0) ⊎ (served.status ≡ 4) = subst (λ n. (n ≡ 0) ⊎ (n ≡ 4)) (sym is) which in
      let both = ended_by wrote.status routed.status served.status (writes sink) (writes wrote.sink) w.says s.ends such in
      let settled = s.settled both.0 such in
      let h = r.whole (subst (λ n. (n ≡ 0) ⊎ (n ≡ 4)) (sym both.1) such) in
      let interleave = settled.interleave (w.same.1 ∙ fresh.1) (whole_shares fresh r.given w) in (
        h,
        both.1 ∙ is,
        subst (λ x. HasWritten (written sink) (written x) (bytes_of (received_by wrote.texts))) (sym s.sink) (w.whole fresh.0 both.0),
        serves_all cores sizes h.input routed.dispatcher routed.threads.items settled.sent (received_by wrote.texts) h.sends r.given.numbered h.count settled.answered interleave,
      )

  pub served_all : IsFresh texts → Routes left reads cores sizes source routed → HasWrittenTexts written writes texts sink wrote → Settles routed wrote served → served.status ≡ 0 → HasServed cores sizes (left source) (left served.source) (written sink) (written served.sink)
  served_all fresh r w s done =
      let e = ended 0 done (inl refl) fresh r w s in (
        e.0.input,
        bytes_of (received_by wrote.texts),
        subst (λ x. HasReadAll (left source) e.0.input (left x)) (sym s.source) (all_read routed.status (left source) (left routed.source) e.0.input e.0.read e.1),
        e.2,
        e.3,
      )

  pub cut : IsFresh texts → Routes left reads cores sizes source routed → HasWrittenTexts written writes texts sink wrote → Settles routed wrote served → served.status ≡ 4 → HasServedLines cores sizes (left source) (left served.source) (written sink) (written served.sink)
  cut fresh r w s failed =
      let e = ended 4 failed (inr refl) fresh r w s in
      let l = lines_read routed.status (left source) (left routed.source) e.0.input e.0.read e.1 in (
        e.0.input,
        l.0,
        bytes_of (received_by wrote.texts),
        subst (λ x. HasRead (left source) (e.0.input ++ l.0) (left x)) (sym s.source) l.1,
        l.2,
        l.3,
        e.2,
        e.3,
      )

-- ---- without threads

-- nothing was read, and nothing was written
pub serves_none : (cores : ℕ) (sizes : Sizes) (left written : Option (List ℕ)) → HasServedPart cores sizes left left written written
serves_none cores sizes left written = (
  [],
  [],
  inr ([], read_none left, λ rest. refl),
  (0, omega arith, written_none written),
  record { asked = []; asks = tt; refusals = []; unsaid = []; refuses = refl; each = []; runs = omega arith; interleave = ([], (0, []) ∷ [], refl, refl, (refl, tt, tt), λ n new. refl) },
)

-- what the writer's promise says of its ends
pub wrote_by : {K : Type 0} (written : K → Option (List ℕ)) (writes : K → ℕ) (p q : Writes K) (texts : Ends Text) (sink : K) (wrote : Wrote K) → p ≡ q → q.texts.value ≡ texts → q.sink.value ≡ sink
    → HasWrittenTexts written writes p.texts.value p.sink.value wrote → HasWrittenTexts written writes texts sink wrote
wrote_by {K} written writes p q texts sink wrote same from to w =
    subst (λ e. HasWrittenTexts written writes e sink wrote) (ap (λ (x : Writes K). x.texts.value) same ∙ from)
    (subst (λ s. HasWrittenTexts written writes p.texts.value s wrote) (ap (λ (x : Writes K). x.sink.value) same ∙ to) w)
