-- The lines of a journal are read as they are spelled, and spelled as they are read. And the lines of an input.
use Rattle.std.proofs.Common.{◌≡◌, ℕ, ◌^◌, ◌++◌, List, [], ◌∷◌, Some, None, Option, refl, sym, ap, subst, ◌∙◌, arith, inl, inr, append_assoc, codes, lit<, IfOk, IfSome, IfNone, Result, Ok, Err, flat_map}
use Rattle.std.specs.Fmt.{decimal}
use Rattle.mono_model.specs.declared.Woke.TheVariants as woke
use Rattle.mono_model.specs.declared.Ended.{Ended}
use Rattle.mono_model.specs.declared.Ended.TheVariants as ended
use Rattle.mono_machine.specs.declared.events.Act.TheVariants as act
use Rattle.mono_machine.specs.declared.events.Event.{Event}
use Rattle.mono_machine.specs.declared.events.Event.TheVariants as event
use Rattle.mono_machine.specs.declared.events.Refusal.{Refusal}
use Rattle.mono_machine.specs.declared.events.Refusal.TheVariants as refusal
use Rattle.mono_machine.specs.declared.events.Reply.{Reply}
use Rattle.mono_machine.specs.declared.events.Reply.TheVariants as reply
use Rattle.mono_machine.specs.declared.events.Report.{Report}
use Rattle.mono_machine.specs.declared.events.Report.TheVariants as report
use Rattle.mono_text.specs.LineText.{event_text, refusal_text, number_text, reply_text, ended_text, reply_part, number_part, report_text}
use Rattle.mono_text.specs.Lines.{Line, lines}
use Rattle.mono_text.specs.Parser.{GivesIf, Read, when, mapped, word_at, event_at}
use Rattle.mono_text.proofs.PrefixLemmas.{word_is}
use Rattle.mono_text.proofs.DigitLemmas.{digits_again}
use Rattle.mono_text.proofs.SpellingLemmas.{when_cases, mapped_some, then_some, numbered_found, small, large, event_found, event_again}
use Rattle.mono_text.proofs.InputLineLemmas.{NoFeed, no_feed_both, no_feed_number, no_feed_event, line_in}
use Rattle.mono_lines.specs.PrintableReports.{FitsAny, FitsReply, FitReplies, FitNumbers, FitsReport}
use Rattle.mono_lines.specs.ReportParser.{report_at, pair_at, journal_at, line_at}
use Rattle.mono_lines.specs.Journal.{journal_text, FitsJournal, IsJournalLine, BeginsWith, BeginsWithNone, OneLine, OneReport}
use Rattle.mono_lines.specs.declared.trace.journal.JournalLine.{JournalLine}
use Rattle.mono_lines.specs.declared.trace.journal.JournalLine.TheVariants.{Ran, Now, Park, Main}
use Rattle.mono_lines.proofs.ReportSpellingLemmas.{with_any_found, report_found}
use Rattle.mono_lines.proofs.ReportReadingLemmas.{Stops, stops_at_feed, any_number_again, report_again}

abbrev JournalIs : List ℕ → List ℕ → JournalLine → Type 0
JournalIs bytes rest x = (bytes ≡ journal_text x ++ rest) × FitsJournal x

regroup : (a b c rest : List ℕ) → a ++ (b ++ (c ++ rest)) ≡ a ++ b ++ c ++ rest
regroup a b c rest = grind (arith, append_assoc)

pair_found : (bytes : List ℕ) (x : JournalLine) (rest : List ℕ) → pair_at bytes ≡ Some (x, rest) → JournalIs bytes rest x
pair_found bytes x rest h =
    let s = then_some (event_at bytes) (λ e q. when (word_at (codes " -> ") q) (λ p. mapped (Ran e) (report_at p)) None) (x, rest) h in
    let d = event_found bytes s.0 s.1 s.2 in
    elim (when_cases (word_at (codes " -> ") s.1) _ _ _ s.3) [
      | inl w ↦
          let m = mapped_some (Ran s.0) (report_at w.0) x rest w.2 in
          let r = report_found w.0 m.0 rest m.1 in
          let all = d.0 ∙ ap (λ q. event_text s.0 ++ q) (word_is (codes " -> ") s.1 w.0 w.1 ∙ ap (λ q. codes " -> " ++ q) r.0) ∙ regroup (event_text s.0) (codes " -> ") (report_text m.0) rest in
          subst (JournalIs bytes rest) m.2 (all, (d.1, r.1))
      | inr w ↦ cc w.1
    ]

journal_found : (bytes : List ℕ) (x : JournalLine) (rest : List ℕ) → journal_at bytes ≡ Some (x, rest) → JournalIs bytes rest x
unfolding journal_at
journal_found bytes x rest h = elim (when_cases (word_at (codes "now ") bytes) _ _ _ h) [
  | inl w ↦ let k = numbered_found (2 ^ 128) (codes "now ") Now bytes w.0 x rest (lit< tt) large w.1 w.2 in subst (JournalIs bytes rest) k.1 (k.2, k.3)
  | inr o ↦ elim (when_cases (word_at (codes "park") bytes) _ _ _ o.1) [
    | inl w ↦ let k = with_any_found (codes "park") Park bytes w.0 x rest w.1 w.2 in subst (JournalIs bytes rest) k.1 (k.2, k.3)
    | inr o ↦ elim (when_cases (word_at (codes "main ") bytes) _ _ _ o.1) [
      | inl w ↦ let k = numbered_found (2 ^ 64) (codes "main ") Main bytes w.0 x rest (lit< tt) small w.1 w.2 in subst (JournalIs bytes rest) k.1 (k.2, k.3)
      | inr o ↦ pair_found bytes x rest o.1
    ]
  ]
]

line_found : (bytes : List ℕ) (x : JournalLine) (rest : List ℕ) → line_at bytes ≡ Some (x, rest) → BeginsWith bytes x rest
unfolding line_at
line_found bytes x rest h =
    let s = then_some (journal_at bytes) (λ y q. when (word_at (10 ∷ []) q) (λ r. Some (y, r)) None) (x, rest) h in
    elim (when_cases (word_at (10 ∷ []) s.1) _ _ _ s.3) [
      | inl w ↦
          let k : (s.0 ≡ x) × (w.0 ≡ rest) = grind (arith, w.2) in
          let f = journal_found bytes s.0 s.1 s.2 in
          let b : s.1 ≡ 10 ∷ rest = word_is (10 ∷ []) s.1 w.0 w.1 ∙ ap (λ r. 10 ∷ r) k.1 in
          subst (λ y. BeginsWith bytes y rest) k.0 (f.0 ∙ ap (λ r. journal_text s.0 ++ r) b, f.1)
      | inr w ↦ cc w.1
    ]

-- ---- what is spelled so is read

event_is_no_other : (e : Event) (rest : List ℕ) → journal_at (event_text e ++ rest) ≡ pair_at (event_text e ++ rest)
unfolding journal_at
event_is_no_other (event.Act act.Spawn) rest = refl
event_is_no_other (event.Act (act.Wake t)) rest = refl
event_is_no_other (event.Act (act.NewSleep n)) rest = refl
event_is_no_other (event.Act (act.Reset s n)) rest = refl
event_is_no_other (event.Act (act.DropSleep s)) rest = refl
event_is_no_other (event.Act (act.DropJoin t)) rest = refl
event_is_no_other (event.Act (act.Block o)) rest = refl
event_is_no_other (event.Act (act.DropJob j)) rest = refl
event_is_no_other (event.Act (act.Finished t)) rest = refl
event_is_no_other (event.Act (act.JobFinished j)) rest = refl
event_is_no_other (event.Act (act.SleepElapsed s)) rest = refl
event_is_no_other (event.Act (act.JobEnd j h)) rest = refl
event_is_no_other (event.Turn steps e) rest = refl
event_is_no_other (event.Clock n) rest = refl
event_is_no_other (event.Remote t) rest = refl
event_is_no_other event.Drain rest = refl

journal_again : (x : JournalLine) (rest : List ℕ) → FitsJournal x → Stops rest → journal_at (journal_text x ++ rest) ≡ Some (x, rest)
journal_again (Ran e r) rest f s =
    let behind = codes " -> " ++ (report_text r ++ rest) in
    ap journal_at (sym (regroup (event_text e) (codes " -> ") (report_text r) rest))
    ∙ event_is_no_other e behind
    ∙ rw (event_again e behind f.0 refl, report_again r rest f.1 s) refl
journal_again (Now n) rest f s = unfold journal_at in rw (digits_again (2 ^ 128) n rest large f (s.digit)) refl
journal_again (Park millis) rest f s = unfold journal_at in rw (any_number_again millis rest f s) refl
journal_again (Main o) rest f s = unfold journal_at in rw (digits_again (2 ^ 64) o rest small f (s.digit)) refl

line_again : (x : JournalLine) (rest : List ℕ) → FitsJournal x → line_at (journal_text x ++ 10 ∷ rest) ≡ Some (x, rest)
unfolding line_at
line_again x rest f = rw (journal_again x (10 ∷ rest) f (stops_at_feed rest)) refl

-- ---- for what a line of code gave

pub found_line : {E : Type 0} (r : Result (Option JournalLine) E) (bytes rest : List ℕ) → GivesIf r rest (line_at bytes) → IfOk r (λ found. IfSome found (λ x. BeginsWith bytes x rest))
found_line (Ok None) bytes rest g = tt
found_line (Ok (Some x)) bytes rest g = line_found bytes x rest g
found_line (Err e) bytes rest g = tt

pub no_line : {E : Type 0} (r : Result (Option JournalLine) E) (bytes rest : List ℕ) → GivesIf r rest (line_at bytes) → IfOk r (λ found. IfNone found (BeginsWithNone bytes))
no_line (Ok None) bytes rest g = λ x behind b.
    let same : line_at bytes ≡ Some (x, behind) = ap line_at b.0 ∙ line_again x behind b.1 in
    let bad : ◌≡◌ {A = Read JournalLine} None (Some (x, behind)) = sym g ∙ same in
    cc bad
no_line (Ok (Some x)) bytes rest g = tt
no_line (Err e) bytes rest g = tt

-- ---- the laws

pub one_line : OneLine
one_line bytes x other rest behind b c =
    let same : ◌≡◌ {A = Read JournalLine} (Some (x, rest)) (Some (other, behind)) = sym (ap line_at b.0 ∙ line_again x rest b.1) ∙ (ap line_at c.0 ∙ line_again other behind c.1) in
    grind (arith, same)

pub one_report : OneReport
one_report bytes r other rest behind f g b c =
    let same : ◌≡◌ {A = Read Report} (Some (r, 10 ∷ rest)) (Some (other, 10 ∷ behind)) =
    sym (ap report_at b ∙ report_again r (10 ∷ rest) f (stops_at_feed rest)) ∙ (ap report_at c ∙ report_again other (10 ∷ behind) g (stops_at_feed behind)) in
    grind (arith, same)

-- ---- the text of a line has no line feed

no_feed_any : (word : List ℕ) (o : Option ℕ) → NoFeed word → FitsAny o → NoFeed (word ++ number_text o)
no_feed_any word None p f = no_feed_both word [] p tt
no_feed_any word (Some n) p f = no_feed_both word (codes " " ++ decimal n) p (no_feed_number (codes " ") n (refl, tt) (omega arith))

no_feed_refusal : (r : Refusal) → NoFeed (refusal_text r)
no_feed_refusal refusal.Idle = (refl, (refl, (refl, (refl, tt))))
no_feed_refusal refusal.NoTask = (refl, (refl, (refl, (refl, (refl, (refl, (refl, tt)))))))
no_feed_refusal refusal.NoTimer = (refl, (refl, (refl, (refl, (refl, (refl, (refl, (refl, tt))))))))
no_feed_refusal refusal.NoHandle = (refl, (refl, (refl, (refl, (refl, (refl, (refl, (refl, (refl, tt)))))))))
no_feed_refusal refusal.Taken = (refl, (refl, (refl, (refl, (refl, tt)))))
no_feed_refusal refusal.AtCapacity = (refl, (refl, (refl, (refl, (refl, (refl, (refl, (refl, (refl, (refl, (refl, tt)))))))))))
no_feed_refusal refusal.Invalid = (refl, (refl, (refl, (refl, (refl, (refl, (refl, tt)))))))
no_feed_refusal refusal.NoPool = (refl, (refl, (refl, (refl, (refl, (refl, (refl, tt)))))))
no_feed_refusal refusal.Ended = (refl, (refl, (refl, (refl, (refl, tt)))))

no_feed_reply : (x : Reply) → FitsReply x → NoFeed (reply_text x)
no_feed_reply (reply.Task t) f = no_feed_number (codes "task ") t (refl, (refl, (refl, (refl, (refl, tt))))) (omega arith)
no_feed_reply (reply.Woke woke.Queued) f = (refl, (refl, (refl, (refl, (refl, (refl, tt))))))
no_feed_reply (reply.Woke woke.Noted) f = (refl, (refl, (refl, (refl, (refl, tt)))))
no_feed_reply (reply.Woke woke.Nothing) f = (refl, (refl, (refl, (refl, (refl, (refl, (refl, tt)))))))
no_feed_reply (reply.Sleep n) f = no_feed_number (codes "sleep ") n (refl, (refl, (refl, (refl, (refl, (refl, tt)))))) (omega arith)
no_feed_reply reply.Armed f = (refl, (refl, (refl, (refl, (refl, tt)))))
no_feed_reply reply.Elapsed f = (refl, (refl, (refl, (refl, (refl, (refl, (refl, tt)))))))
no_feed_reply (reply.Dropped o) f = no_feed_any (codes "dropped") o (refl, (refl, (refl, (refl, (refl, (refl, (refl, tt))))))) f
no_feed_reply (reply.Job j) f = no_feed_number (codes "job ") j (refl, (refl, (refl, (refl, tt)))) (omega arith)
no_feed_reply reply.Yes f = (refl, (refl, (refl, tt)))
no_feed_reply reply.No f = (refl, (refl, tt))
no_feed_reply (reply.Ended t) f = no_feed_any (codes "ended") t (refl, (refl, (refl, (refl, (refl, tt))))) f
no_feed_reply reply.Pending f = (refl, (refl, (refl, (refl, (refl, (refl, (refl, tt)))))))
no_feed_reply reply.Ready f = (refl, (refl, (refl, (refl, (refl, tt)))))
no_feed_reply (reply.Output o) f = no_feed_number (codes "ready ") o (refl, (refl, (refl, (refl, (refl, (refl, tt)))))) (omega arith)
no_feed_reply reply.Canceled f = (refl, (refl, (refl, (refl, (refl, (refl, (refl, (refl, tt))))))))
no_feed_reply (reply.Refused r) f = (refl, (refl, (refl, (refl, (refl, (refl, (refl, (refl, no_feed_refusal r))))))))

no_feed_ended : (e : Ended) → NoFeed (ended_text e)
no_feed_ended ended.Idle = (refl, (refl, (refl, (refl, tt))))
no_feed_ended ended.Again = (refl, (refl, (refl, (refl, (refl, tt)))))
no_feed_ended ended.Done = (refl, (refl, (refl, (refl, tt))))
no_feed_ended ended.Gone = (refl, (refl, (refl, (refl, tt))))

no_feed_replies : (replies : List Reply) → FitReplies replies → NoFeed (flat_map reply_part replies)
no_feed_replies [] f = tt
no_feed_replies (x ∷ replies) f = no_feed_both (reply_part x) (flat_map reply_part replies) (refl, (refl, no_feed_reply x f.0)) (no_feed_replies replies f.1)

no_feed_numbers : (numbers : List ℕ) → FitNumbers numbers → NoFeed (flat_map number_part numbers)
no_feed_numbers [] f = tt
no_feed_numbers (n ∷ numbers) f =
    no_feed_both (number_part n) (flat_map number_part numbers) (no_feed_number (codes " ") n (refl, tt) (omega (arith, f.0))) (no_feed_numbers numbers f.1)

no_feed_report : (r : Report) → FitsReport r → NoFeed (report_text r)
no_feed_report (report.Reply x) f = no_feed_reply x f
no_feed_report (report.Turn t replies e) f =
    no_feed_both (codes "turn " ++ decimal t ++ flat_map reply_part replies ++ codes "; ") (ended_text e)
    (no_feed_both (codes "turn " ++ decimal t ++ flat_map reply_part replies) (codes "; ")
    (no_feed_both (codes "turn " ++ decimal t) (flat_map reply_part replies) (no_feed_number (codes "turn ") t (refl, (refl, (refl, (refl, (refl, tt))))) (omega (arith, f.0))) (no_feed_replies replies f.1))
    (refl, (refl, tt)))
    (no_feed_ended e)
no_feed_report (report.Fired numbers) f = no_feed_both (codes "fired") (flat_map number_part numbers) (refl, (refl, (refl, (refl, (refl, tt))))) (no_feed_numbers numbers f)
no_feed_report report.Listed f = (refl, (refl, (refl, (refl, (refl, (refl, tt))))))
no_feed_report report.Unlisted f = (refl, (refl, (refl, (refl, (refl, (refl, (refl, (refl, tt))))))))
no_feed_report (report.Drained numbers) f = no_feed_both (codes "drained") (flat_map number_part numbers) (refl, (refl, (refl, (refl, (refl, (refl, (refl, tt))))))) (no_feed_numbers numbers f)

pub no_feed_journal : (x : JournalLine) → FitsJournal x → NoFeed (journal_text x)
no_feed_journal (Ran e r) f =
    no_feed_both (event_text e ++ codes " -> ") (report_text r) (no_feed_both (event_text e) (codes " -> ") (no_feed_event e f.0) (refl, (refl, (refl, (refl, tt))))) (no_feed_report r f.1)
no_feed_journal (Now n) f = no_feed_number (codes "now ") n (refl, (refl, (refl, (refl, tt)))) (omega arith)
no_feed_journal (Park millis) f = no_feed_any (codes "park") millis (refl, (refl, (refl, (refl, tt)))) f
no_feed_journal (Main o) f = no_feed_number (codes "main ") o (refl, (refl, (refl, (refl, (refl, tt))))) (omega arith)

-- The first line has no content if the bytes begin with no line of a journal.
pub no_journal : (bytes : List ℕ) (l : Line) (ls : List Line) → lines bytes ≡ l ∷ ls → BeginsWithNone bytes → (x : JournalLine) → IsJournalLine x l → ⊥
no_journal bytes l ls is none x line =
    let k = line_in bytes l ls is line.is_ended in
    none x k.0 (k.1 ∙ ap (λ q. q ++ 10 ∷ k.0) line.text, line.fits)
