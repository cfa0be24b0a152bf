-- What a core performs and sends at its station, over its steps.
use Rattle.std.proofs.Common.{arith, ◌≡◌, ℕ, List, [], ◌∷◌, ◌++◌, None, refl, ap, sym, subst, ◌∙◌, append_assoc}
use Rattle.std.specs.Global.{Vec}
use Rattle.std.proofs.lemmas.List.{append-nil}
use Rattle.std.proofs.lemmas.List.Concat.{flat_map-append}
use Rattle.mono_channel.specs.Ends.{Ends, sent_by, closed, received_by}
use Rattle.lease_core.specs.declared.sizes.Sizes.{Sizes}
use Rattle.lease_core.specs.declared.requests.Request.{Request}
use Rattle.lease_core.specs.declared.requests.Reply.{Reply}
use Rattle.lease_core.specs.Cores.{CoreState, new_core}
use Rattle.lease_core.specs.Steps.{Event, Advance, Finish, Run}
use Rattle.lease_core.specs.Refinement.{Refines}
use Rattle.lease_server.specs.declared.answers.Answer.{Answer}
use Rattle.lease_server.specs.declared.texts.Text.{Text}
use Rattle.lease_server.specs.declared.batches.Came.{Came}
use Rattle.lease_server.specs.declared.batches.Came.TheVariants as came
use Rattle.lease_server.specs.declared.desks.Desk.{Desk}
use Rattle.lease_server.specs.OutletViews.{Outlet}
use Rattle.lease_server.specs.declared.stations.Stage.{Stage}
use Rattle.lease_server.specs.declared.stations.Stage.TheVariants as stage
use Rattle.lease_server.specs.declared.stations.Station.{Station}
use Rattle.lease_server.specs.declared.core_threads.CoreEnd.{CoreEnd}
use Rattle.lease_server.specs.Answers.{by_core}
use Rattle.lease_server.specs.Texts.{said_by, said_by_all}
use Rattle.lease_server.specs.Outlets.{Keeps, Stays, KeepsAll, kept, passed}
use Rattle.lease_server.specs.Lanes.{joined}
use Rattle.lease_server.specs.Pasts.{events_of, replies_of}
use Rattle.lease_server.specs.Served.{Begins, PerformsSome, Takes, ServesAt, Comes}
use Rattle.lease_server.specs.EndToEnd.{requests_in, RunsThrough}
use Rattle.lease_server.specs.CoreEnds.{HasEnded}
use Rattle.lease_server.specs.Desks.{HasRun}
use Rattle.lease_server.specs.Desks as desks
use Rattle.lease_server.specs.Stations.{FitsIn, Fits, Leads, Works, stage_of, IsNew, EndsStation}
use Rattle.lease_server.proofs.LaneLemmas.{one_more}
use Rattle.lease_server.proofs.ServedLemmas.{answers_on, requests_on, requests_handled, takes_leads}

-- ---- one step

-- The requests of these events, after a clock step.
asked_on : (before events : List Event) (n : ℕ) (had more now : List Request) → requests_in before ≡ had → requests_in events ≡ more → now ≡ had ++ more → requests_in (before ++ Advance n ∷ events) ≡ now
asked_on before events n had more now is new all = requests_on before (Advance n ∷ events) ∙ ap (λ l. l ++ requests_in events) is ∙ ap (λ l. had ++ l) new ∙ sym all

-- What came was performed, and the core fits its stage.
fits_next : (what : Came) (from to : Ends (Vec Request)) (before events : List Event) (n : ℕ) (said answers : List Answer) → Comes what from events to → requests_in before ≡ joined (received_by from) → said ≡ answers
    → FitsIn (stage_of what) (joined (received_by to)) (before ++ Advance n ∷ events) said answers
fits_next came.Nothing from to before events n said answers (none, found) is same =
    let had = joined (received_by from) in
    (asked_on before events n had [] (joined (received_by to)) is (ap requests_in none) (ap joined found.1 ∙ sym (append-nil had)), same)
fits_next came.Requests from to before events n said answers (batch, are, received) is same =
    let had = joined (received_by from) in
    (asked_on before events n had batch.items (joined (received_by to)) is (ap requests_in are ∙ requests_handled batch.items) (ap joined received.1 ∙ one_more (received_by from) batch), same)
fits_next came.End from to before events n said answers (last, found) is same =
    let had = joined (received_by from) in (
      (
        before ++ Advance n ∷ [],
        ap (λ (e : List Event). before ++ Advance n ∷ e) last ∙ sym (append_assoc before (Advance n ∷ []) (Finish ∷ [])),
        asked_on before [] n had [] (joined (received_by to)) is refl (ap joined found.1 ∙ sym (append-nil had)),
      ),
      same,
    )

open_fits : (s : Station) → s.stage ≡ stage.Open → Fits s → (requests_in (events_of s.desk.past) ≡ joined (received_by s.requests)) × (said_by_all (passed s.texts) ≡ by_core s.desk.number (replies_of s.desk.past))
open_fits s is fits = subst (λ x. FitsIn x (joined (received_by s.requests)) (events_of s.desk.past) (said_by_all (passed s.texts)) (by_core s.desk.number (replies_of s.desk.past))) is fits

-- So what fitted fits.
pub stepped : (old new : Station) (desk : Desk) (to : Ends (Vec Request)) (what : Came) (n : ℕ) (said : List Answer) → Takes old.desk old.requests desk to → Keeps old.requests to → ServesAt what old.desk n old.requests desk to said
    → new.desk ≡ desk → new.requests ≡ to → Stays old.texts.sender new.texts.sender → old.stage ≡ stage.Open → new.stage ≡ stage_of what → said_by_all (passed new.texts) ≡ said_by_all (passed old.texts) ++ said → Leads old new
stepped old new desk to what n said takes keeps (events, comes, (replies, did, are)) same_desk same_end sent is_open is_now all = record {
  desk = subst (λ d. desks.Leads old.desk d) (sym same_desk) (takes_leads old.desk desk old.requests to takes);
  received = subst (λ e. Keeps old.requests e) (sym same_end) keeps;
  sent = sent;
  fits = λ fits.
      let had = open_fits old is_open fits in
      let number = old.desk.number in
      let past : events_of new.desk.past ≡ events_of old.desk.past ++ Advance n ∷ events = ap (λ (d : Desk). events_of d.past) same_desk ∙ did.asked in
      let answers : by_core new.desk.number (replies_of new.desk.past) ≡ by_core number (replies_of old.desk.past) ++ by_core number replies =
      ap (λ (d : Desk). by_core d.number (replies_of d.past)) same_desk ∙ ap (λ k. by_core k (replies_of desk.past)) did.number ∙ ap (λ l. by_core number l) did.replied ∙ answers_on number (replies_of old.desk.past) replies in
      let whole : said_by_all (passed new.texts) ≡ by_core new.desk.number (replies_of new.desk.past) =
      all ∙ ap (λ l. l ++ said) had.1 ∙ ap (λ l. by_core number (replies_of old.desk.past) ++ l) are ∙ sym answers in
      let next = fits_next what old.requests to (events_of old.desk.past) events n (said_by_all (passed new.texts)) (by_core new.desk.number (replies_of new.desk.past)) comes had.0 whole in
      let here = subst (λ e. FitsIn (stage_of what) (joined (received_by e)) (events_of old.desk.past ++ Advance n ∷ events) (said_by_all (passed new.texts)) (by_core new.desk.number (replies_of new.desk.past))) (sym same_end) next in
      let there = subst (λ es. FitsIn (stage_of what) (joined (received_by new.requests)) es (said_by_all (passed new.texts)) (by_core new.desk.number (replies_of new.desk.past))) (sym past) here in
      subst (λ x. FitsIn x (joined (received_by new.requests)) (events_of new.desk.past) (said_by_all (passed new.texts)) (by_core new.desk.number (replies_of new.desk.past))) (sym is_now) there;
}

-- The core served what came, and its text was kept.
pub works : (old new : Station) (desk : Desk) (to : Ends (Vec Request)) (what : Came) (n : ℕ) (said : List Answer) → ServesAt what old.desk n old.requests desk to said → new.desk ≡ desk → new.requests ≡ to → Works n old new
works old new desk to what n said served same_desk same_end =
    (what, said, subst (λ d. ServesAt what old.desk n old.requests d new.requests said) (sym same_desk) (subst (λ e. ServesAt what old.desk n old.requests desk e said) (sym same_end) served))

-- A beginning of what came was performed, and its replies are in no text.
lost_fits : (old new : Station) (more : List Request) → joined (received_by new.requests) ≡ joined (received_by old.requests) ++ more → PerformsSome old.desk more new.desk → new.texts ≡ old.texts
    → (requests_in (events_of old.desk.past) ≡ joined (received_by old.requests)) × (said_by_all (passed old.texts) ≡ by_core old.desk.number (replies_of old.desk.past))
    → Begins (requests_in (events_of new.desk.past)) (joined (received_by new.requests)) × Begins (said_by_all (passed new.texts)) (by_core new.desk.number (replies_of new.desk.past))
lost_fits old new more are (done, (rest, begins), (events, replies, did, asked)) same had =
    let number = old.desk.number in
    let was = joined (received_by old.requests) in
    let performed : requests_in (events_of new.desk.past) ≡ was ++ done = ap requests_in did.asked ∙ requests_on (events_of old.desk.past) events ∙ ap (λ l. l ++ requests_in events) had.0 ∙ ap (λ l. was ++ l) asked in
    let received : joined (received_by new.requests) ≡ requests_in (events_of new.desk.past) ++ rest =
    are ∙ ap (λ l. was ++ l) begins ∙ sym (append_assoc was done rest) ∙ ap (λ l. l ++ rest) (sym performed) in
    let replied : by_core new.desk.number (replies_of new.desk.past) ≡ said_by_all (passed new.texts) ++ by_core number replies =
    ap (λ k. by_core k (replies_of new.desk.past)) did.number ∙ ap (λ l. by_core number l) did.replied ∙ answers_on number (replies_of old.desk.past) replies ∙ ap (λ l. l ++ by_core number replies) (sym had.1)
    ∙ ap (λ (o : Outlet Text). said_by_all (passed o) ++ by_core number replies) (sym same) in
    ((rest, received), (by_core number replies, replied))

-- Memory ran out.
pub lost : (old new : Station) → Takes old.desk old.requests new.desk new.requests → Keeps old.requests new.requests → new.texts ≡ old.texts → old.stage ≡ stage.Open → new.stage ≡ stage.Lost → Leads old new
lost old new takes keeps same is_open is =
    let led = takes_leads old.desk new.desk old.requests new.requests takes in
    record {
      desk = led;
      received = keeps;
      sent = subst (λ (o : Outlet Text). Stays old.texts.sender o.sender) (sym same) (refl, refl);
      fits = λ fits.
          let had = open_fits old is_open fits in
          let begun = lost_fits old new takes.more takes.received takes.performed same had in
          subst (λ x. FitsIn x (joined (received_by new.requests)) (events_of new.desk.past) (said_by_all (passed new.texts)) (by_core new.desk.number (replies_of new.desk.past))) (sym is) begun;
    }

-- A text was sent, or was not yet.
pub flushed : (old new : Station) → new.desk ≡ old.desk → new.requests ≡ old.requests → new.stage ≡ old.stage → KeepsAll old.texts new.texts → Leads old new
flushed old new desk requests at keeps = record {
  desk = subst (λ d. desks.Leads old.desk d) (sym desk) (desks.leads_itself old.desk);
  received = subst (λ e. Keeps old.requests e) (sym requests) (refl, refl, refl);
  sent = keeps.0;
  fits = λ fits.
      let one = subst (λ (d : Desk). FitsIn old.stage (joined (received_by old.requests)) (events_of d.past) (said_by_all (passed old.texts)) (by_core d.number (replies_of d.past))) (sym desk) fits in
      let two = subst (λ e. FitsIn old.stage (joined (received_by e)) (events_of new.desk.past) (said_by_all (passed old.texts)) (by_core new.desk.number (replies_of new.desk.past))) (sym requests) one in
      let three = subst (λ l. FitsIn old.stage (joined (received_by new.requests)) (events_of new.desk.past) (said_by_all l) (by_core new.desk.number (replies_of new.desk.past))) (sym keeps.1) two in
      subst (λ x. FitsIn x (joined (received_by new.requests)) (events_of new.desk.past) (said_by_all (passed new.texts)) (by_core new.desk.number (replies_of new.desk.past))) (sym at) three;
}

-- ---- a whole run

-- Whatever the stage, a beginning of what was received was performed, and a beginning of the replies was sent.
fits_begins : (at : Stage) (received : List Request) (events : List Event) (said answers : List Answer) → FitsIn at received events said answers → Begins (requests_in events) received × Begins said answers
fits_begins stage.Open received events said answers (asked, is) = (([], sym asked ∙ sym (append-nil (requests_in events))), ([], sym is ∙ sym (append-nil said)))
fits_begins stage.Ended received events said answers ((before, last, asked), is) =
    let all : requests_in events ≡ received = ap requests_in last ∙ requests_on before (Finish ∷ []) ∙ append-nil (requests_in before) ∙ asked in
    (([], sym all ∙ sym (append-nil (requests_in events))), ([], sym is ∙ sym (append-nil said)))
fits_begins stage.Lost received events said answers fits = fits

-- A core that did nothing fits its stage.
first_fits : (requests : Ends (Vec Request)) (texts : Ends Text) (first : Station) → events_of first.desk.past ≡ [] → replies_of first.desk.past ≡ []
    → first.requests ≡ requests → first.texts.sender ≡ closed texts → passed first.texts ≡ sent_by texts → first.stage ≡ stage.Open → received_by requests ≡ [] → sent_by texts ≡ [] → Fits first
first_fits requests texts first events replies from to none is_open none_received none_sent =
    let asked : requests_in (events_of first.desk.past) ≡ joined (received_by first.requests) = ap requests_in events ∙ sym (ap (λ e. joined (received_by e)) from ∙ ap joined none_received) in
    let silent : passed first.texts ≡ [] = none ∙ none_sent in
    let said : said_by_all (passed first.texts) ≡ by_core first.desk.number (replies_of first.desk.past) = ap said_by_all silent ∙ sym (ap (λ l. by_core first.desk.number l) replies) in
    subst (λ x. FitsIn x (joined (received_by first.requests)) (events_of first.desk.past) (said_by_all (passed first.texts)) (by_core first.desk.number (replies_of first.desk.past))) (sym is_open) (asked, said)

-- All that a core did since nothing had been done, if its thread has ended.
pub has_ended : (number : ℕ) (sizes : Sizes) (requests : Ends (Vec Request)) (texts : Ends Text) (desk : Desk) (first last : Station) (end : CoreEnd)
    → Refines desk.core (new_core sizes) → desk.number ≡ number → events_of desk.past ≡ [] → replies_of desk.past ≡ []
    → first.desk ≡ desk → first.requests ≡ requests → first.texts.sender ≡ closed texts → passed first.texts ≡ sent_by texts → first.stage ≡ stage.Open
    → Leads first last → (IsNew sizes first → HasRun first.desk.number (new_core sizes) last.desk) → EndsStation last end → HasEnded number sizes requests texts end
has_ended number sizes requests texts desk first last end refines numbered no_event no_reply at_desk from to none is_open leads run ends =
    let events : events_of first.desk.past ≡ [] = ap (λ (d : Desk). events_of d.past) at_desk ∙ no_event in
    let replies : replies_of first.desk.past ≡ [] = ap (λ (d : Desk). replies_of d.past) at_desk ∙ no_reply in
    let first_number : first.desk.number ≡ number = ap (λ (d : Desk). d.number) at_desk ∙ numbered in
    let ran = run (subst (λ (d : Desk). Refines d.core (new_core sizes)) (sym at_desk) refines, events, replies) in
    let last_number : last.desk.number ≡ number = ran.number_is ∙ first_number in
    record {
      received = subst (λ e. Keeps e end.requests) from (subst (λ e. Keeps first.requests e) (sym ends.0) leads.received);
      sent = subst (λ e. Stays e end.texts) to (subst (λ e. Stays first.texts.sender e) (sym ends.1) leads.sent);
      done = λ none_received none_sent is_0.
          let done = ends.2 is_0 in
          let began = first_fits requests texts first events replies from to none is_open none_received none_sent in
          let fits = subst (λ x. FitsIn x (joined (received_by last.requests)) (events_of last.desk.past) (said_by_all (passed last.texts)) (by_core last.desk.number (replies_of last.desk.past))) done.0 (leads.fits began) in
          let sent : said_by_all (sent_by end.texts) ≡ by_core number (replies_of last.desk.past) =
          ap (λ e. said_by_all (sent_by e)) ends.1 ∙ ap said_by_all (sym (ap (λ m. sent_by last.texts.sender ++ kept m) done.1 ∙ append-nil (sent_by last.texts.sender))) ∙ fits.1 ∙ ap (λ k. by_core k (replies_of last.desk.past)) last_number in (
            replies_of last.desk.past,
            record {
              before = fits.0.0;
              last = ran.last;
              run = subst (λ es. Run (new_core sizes) es (replies_of last.desk.past) ran.last) fits.0.1 ran.run;
              asked = fits.0.2 ∙ sym (ap (λ e. joined (received_by e)) ends.0);
            },
            sent,
          );
      begun = λ none_received none_sent.
          let began = first_fits requests texts first events replies from to none is_open none_received none_sent in
          let b = fits_begins last.stage (joined (received_by last.requests)) (events_of last.desk.past) (said_by_all (passed last.texts)) (by_core last.desk.number (replies_of last.desk.past)) (leads.fits began) in
          let sent = said_by_all (sent_by last.texts.sender) in
          let unsent = said_by_all (kept last.texts.message) in
          record {
            events = events_of last.desk.past;
            replies = replies_of last.desk.past;
            last = ran.last;
            run = ran.run;
            unasked = b.0.0;
            asked = ap (λ e. joined (received_by e)) ends.0 ∙ b.0.1;
            unsaid = unsent ++ b.1.0;
            answered = ap (λ k. by_core k (replies_of last.desk.past)) (sym last_number) ∙ b.1.1 ∙ ap (λ l. l ++ b.1.0) (flat_map-append said_by (sent_by last.texts.sender) (kept last.texts.message)) ∙ append_assoc sent unsent b.1.0
                ∙ ap (λ e. said_by_all (sent_by e) ++ (unsent ++ b.1.0)) (sym ends.1);
          };
    }

-- Out of memory before there was a core.
pub unstarted : (number : ℕ) (sizes : Sizes) (requests : Ends (Vec Request)) (texts : Ends Text) (end : CoreEnd) → end.status ≡ 6 → end.requests ≡ closed requests → end.texts ≡ closed texts → HasEnded number sizes requests texts end
unstarted number sizes requests texts end failed from to = record {
  received = subst (λ e. Keeps requests e) (sym from) (refl, refl, refl);
  sent = subst (λ e. Stays texts e) (sym to) (refl, refl);
  done = λ none_received none_sent is_0. absurd (omega (arith, failed, is_0));
  begun = λ none_received none_sent. record {
    events = [];
    replies = [];
    last = new_core sizes;
    run = (refl, refl);
    unasked = [];
    asked = ap (λ e. joined (received_by e)) from ∙ ap joined none_received;
    unsaid = [];
    answered = sym (ap (λ e. said_by_all (sent_by e) ++ []) to ∙ ap (λ l. said_by_all l ++ []) none_sent);
  };
}
