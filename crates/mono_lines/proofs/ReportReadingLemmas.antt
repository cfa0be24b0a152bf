-- Reports are read as they are spelled.
use Rattle.std.proofs.Common.{◌≡◌, ℕ, zero, suc, ◌^◌, ◌<◌, ◌≤◌, ◌++◌, List, [], ◌∷◌, length, Some, None, Option, false, refl, sym, ap, ◌∙◌, arith, append_assoc, length-append, codes, flat_map}
use Rattle.std.proofs.lemmas.List.{append-nil}
use Rattle.std.specs.Fmt.{decimal}
use Rattle.mono_model.specs.declared.Woke.TheVariants as woke
use Rattle.mono_model.specs.declared.Ended.{Ended}
use Rattle.mono_model.specs.declared.Ended.TheVariants as ended
use Rattle.mono_machine.specs.declared.events.Refusal.{Refusal}
use Rattle.mono_machine.specs.declared.events.Refusal.TheVariants as refusal
use Rattle.mono_machine.specs.declared.events.Reply.{Reply}
use Rattle.mono_machine.specs.declared.events.Reply.TheVariants as reply
use Rattle.mono_machine.specs.declared.events.Report.{Report}
use Rattle.mono_machine.specs.declared.events.Report.TheVariants as report
use Rattle.mono_text.specs.LineText.{refusal_text, number_text, reply_text, ended_text, reply_part, number_part, report_text}
use Rattle.mono_text.specs.Parser.{mapped, word_at}
use Rattle.mono_text.proofs.DigitLemmas.{digits_again, starts_digit}
use Rattle.mono_text.proofs.SpellingLemmas.{small}
use Rattle.mono_lines.specs.PrintableReports.{FitsAny, FitsReply, FitReplies, FitNumbers, FitsReport}
use Rattle.mono_lines.specs.ReportParser.{any_number_at, refusal_at, n_reply_at, e_reply_at, r_reply_at, other_reply_at, reply_at, ended_at, replies_at, numbers_at, report_at}
use Rattle.mono_lines.proofs.ReportSpellingLemmas.{turn_parts, regroup, regroup_all}

-- No word and no number continues into these bytes.
pub record Stops (rest : List ℕ) : Type 0 where
  pub digit : starts_digit rest ≡ false
  pub space : word_at (codes " ") rest ≡ None
  pub noted : word_at (codes "ted") rest ≡ None
  pub nothing : word_at (codes "thing") rest ≡ None

pub stops_at_feed : (rest : List ℕ) → Stops (10 ∷ rest)
stops_at_feed rest = record { digit = refl; space = refl; noted = refl; nothing = refl }

stops_at_part : (rest : List ℕ) → Stops (59 ∷ rest)
stops_at_part rest = record { digit = refl; space = refl; noted = refl; nothing = refl }

pub any_number_again : (o : Option ℕ) (rest : List ℕ) → FitsAny o → Stops rest → any_number_at (number_text o ++ rest) ≡ Some (o, rest)
any_number_again None rest f s = rw (s.space) refl
any_number_again (Some n) rest f s = rw (digits_again (2 ^ 64) n rest small f (s.digit)) refl

refusal_again : (x : Refusal) (rest : List ℕ) → refusal_at (refusal_text x ++ rest) ≡ Some (x, rest)
unfolding refusal_at
refusal_again refusal.Idle rest = refl
refusal_again refusal.NoTask rest = refl
refusal_again refusal.NoTimer rest = refl
refusal_again refusal.NoHandle rest = refl
refusal_again refusal.Taken rest = refl
refusal_again refusal.AtCapacity rest = refl
refusal_again refusal.Invalid rest = refl
refusal_again refusal.NoPool rest = refl
refusal_again refusal.Ended rest = refl

reply_again : (x : Reply) (rest : List ℕ) → FitsReply x → Stops rest → reply_at (reply_text x ++ rest) ≡ Some (x, rest)
unfolding reply_at n_reply_at e_reply_at r_reply_at other_reply_at
reply_again (reply.Task t) rest f s = rw (digits_again (2 ^ 64) t rest small f (s.digit)) refl
reply_again (reply.Woke woke.Queued) rest f s = refl
reply_again (reply.Woke woke.Noted) rest f s = refl
reply_again (reply.Woke woke.Nothing) rest f s = refl
reply_again (reply.Sleep n) rest f s = rw (digits_again (2 ^ 64) n rest small f (s.digit)) refl
reply_again reply.Armed rest f s = refl
reply_again reply.Elapsed rest f s = refl
reply_again (reply.Dropped None) rest f s = rw (s.space) refl
reply_again (reply.Dropped (Some o)) rest f s = rw (digits_again (2 ^ 64) o rest small f (s.digit)) refl
reply_again (reply.Job j) rest f s = rw (digits_again (2 ^ 64) j rest small f (s.digit)) refl
reply_again reply.Yes rest f s = refl
reply_again reply.No rest f s = rw (s.noted, s.nothing) refl
reply_again (reply.Ended None) rest f s = rw (s.space) refl
reply_again (reply.Ended (Some t)) rest f s = rw (digits_again (2 ^ 64) t rest small f (s.digit)) refl
reply_again reply.Pending rest f s = refl
reply_again reply.Ready rest f s = rw (s.space) refl
reply_again (reply.Output o) rest f s = rw (digits_again (2 ^ 64) o rest small f (s.digit)) refl
reply_again reply.Canceled rest f s = refl
reply_again (reply.Refused r) rest f s = rw (refusal_again r rest) refl

ended_again : (x : Ended) (rest : List ℕ) → ended_at (ended_text x ++ rest) ≡ Some (x, rest)
unfolding ended_at
ended_again ended.Idle rest = refl
ended_again ended.Again rest = refl
ended_again ended.Done rest = refl
ended_again ended.Gone rest = refl

-- A reply is no end of a turn.
reply_is_no_end : (x : Reply) (rest : List ℕ) → ended_at (reply_text x ++ rest) ≡ None
unfolding ended_at
reply_is_no_end (reply.Task t) rest = refl
reply_is_no_end (reply.Woke woke.Queued) rest = refl
reply_is_no_end (reply.Woke woke.Noted) rest = refl
reply_is_no_end (reply.Woke woke.Nothing) rest = refl
reply_is_no_end (reply.Sleep n) rest = refl
reply_is_no_end reply.Armed rest = refl
reply_is_no_end reply.Elapsed rest = refl
reply_is_no_end (reply.Dropped o) rest = refl
reply_is_no_end (reply.Job j) rest = refl
reply_is_no_end reply.Yes rest = refl
reply_is_no_end reply.No rest = refl
reply_is_no_end (reply.Ended t) rest = refl
reply_is_no_end reply.Pending rest = refl
reply_is_no_end reply.Ready rest = refl
reply_is_no_end (reply.Output o) rest = refl
reply_is_no_end reply.Canceled rest = refl
reply_is_no_end (reply.Refused r) rest = refl

parts_stop : (replies : List Reply) (e : Ended) (rest : List ℕ) → Stops (turn_parts replies e rest)
parts_stop [] e rest = stops_at_part _
parts_stop (x ∷ replies) e rest = stops_at_part _

replies_again : (replies : List Reply) (e : Ended) (most t : ℕ) (front : List Reply) (rest : List ℕ) → length replies < most → FitReplies replies
    → replies_at most t front (turn_parts replies e rest) ≡ Some (report.Turn t (front ++ replies) e, rest)
unfolding replies_at
replies_again replies e zero t front rest l f = absurd (omega arith)
replies_again [] e (suc most) t front rest l f = rw (ended_again e rest, append-nil front) refl
replies_again (x ∷ replies) e (suc most) t front rest l f =
    let tail = turn_parts replies e rest in
    ap (replies_at (suc most) t front) (sym (regroup (reply_part x) (flat_map reply_part replies) (codes "; ") (ended_text e) rest))
    ∙ rw (reply_is_no_end x tail, reply_again x tail f.0 (parts_stop replies e rest))
    (replies_again replies e most t (front ++ x ∷ []) rest (omega arith) f.1 ∙ ap (λ l. Some (report.Turn t l e, rest)) (append_assoc front (x ∷ []) replies))

replies_short : (replies : List Reply) → length replies ≤ length (flat_map reply_part replies)
replies_short [] = omega arith
replies_short (x ∷ replies) = omega (arith, length-append (reply_part x) (flat_map reply_part replies), replies_short replies)

parts_long : (replies : List Reply) (e : Ended) (rest : List ℕ) → length replies < length (turn_parts replies e rest)
parts_long replies e rest =
    omega (arith, replies_short replies, length-append (flat_map reply_part replies) (codes "; "), length-append (flat_map reply_part replies ++ codes "; ") (ended_text e), length-append (flat_map reply_part replies ++ codes "; " ++ ended_text e) rest)

numbers_no_digit : (numbers rest : List ℕ) → starts_digit rest ≡ false → starts_digit (flat_map number_part numbers ++ rest) ≡ false
numbers_no_digit [] rest d = d
numbers_no_digit (n ∷ numbers) rest d = refl

numbers_again : (numbers : List ℕ) (most : ℕ) (front rest : List ℕ) → length numbers ≤ most → FitNumbers numbers → Stops rest
    → numbers_at most front (flat_map number_part numbers ++ rest) ≡ Some (front ++ numbers, rest)
unfolding numbers_at
numbers_again [] zero front rest l f s = rw (append-nil front) refl
numbers_again [] (suc most) front rest l f s = rw (s.space, append-nil front) refl
numbers_again (n ∷ numbers) zero front rest l f s = absurd (omega arith)
numbers_again (n ∷ numbers) (suc most) front rest l f s =
    let tail = flat_map number_part numbers ++ rest in
    ap (λ q. numbers_at (suc most) front (q ++ rest)) (append_assoc (codes " ") (decimal n) (flat_map number_part numbers))
    ∙ ap (λ q. numbers_at (suc most) front (codes " " ++ q)) (append_assoc (decimal n) (flat_map number_part numbers) rest)
    ∙ rw (digits_again (2 ^ 64) n tail small f.0 (numbers_no_digit numbers rest (s.digit)))
    (numbers_again numbers most (front ++ n ∷ []) rest (omega arith) f.1 s ∙ ap (λ l. Some (l, rest)) (append_assoc front (n ∷ []) numbers))

numbers_short : (numbers : List ℕ) (rest : List ℕ) → length numbers ≤ length (flat_map number_part numbers ++ rest)
numbers_short [] rest = omega arith
numbers_short (n ∷ numbers) rest =
    omega (arith, length-append (number_part n ++ flat_map number_part numbers) rest, length-append (number_part n) (flat_map number_part numbers), length-append (flat_map number_part numbers) rest, numbers_short numbers rest)

-- A reply is no other report.
reply_is_no_report : (x : Reply) (rest : List ℕ) → report_at (reply_text x ++ rest) ≡ mapped report.Reply (reply_at (reply_text x ++ rest))
unfolding report_at
reply_is_no_report (reply.Task t) rest = refl
reply_is_no_report (reply.Woke woke.Queued) rest = refl
reply_is_no_report (reply.Woke woke.Noted) rest = refl
reply_is_no_report (reply.Woke woke.Nothing) rest = refl
reply_is_no_report (reply.Sleep n) rest = refl
reply_is_no_report reply.Armed rest = refl
reply_is_no_report reply.Elapsed rest = refl
reply_is_no_report (reply.Dropped o) rest = refl
reply_is_no_report (reply.Job j) rest = refl
reply_is_no_report reply.Yes rest = refl
reply_is_no_report reply.No rest = refl
reply_is_no_report (reply.Ended t) rest = refl
reply_is_no_report reply.Pending rest = refl
reply_is_no_report reply.Ready rest = refl
reply_is_no_report (reply.Output o) rest = refl
reply_is_no_report reply.Canceled rest = refl
reply_is_no_report (reply.Refused r) rest = refl

pub report_again : (r : Report) (rest : List ℕ) → FitsReport r → Stops rest → report_at (report_text r ++ rest) ≡ Some (r, rest)
unfolding report_at
report_again (report.Reply x) rest f s = reply_is_no_report x rest ∙ ap (mapped report.Reply) (reply_again x rest f s)
report_again (report.Turn t replies e) rest f s =
    let parts = turn_parts replies e rest in
    ap report_at (sym (regroup_all (codes "turn ") (decimal t) (flat_map reply_part replies) (codes "; ") (ended_text e) rest))
    ∙ rw (digits_again (2 ^ 64) t parts small f.0 (parts_stop replies e rest).digit) (replies_again replies e (length parts) t [] rest (parts_long replies e rest) f.1)
report_again (report.Fired numbers) rest f s =
    ap (mapped report.Fired) (numbers_again numbers (length (flat_map number_part numbers ++ rest)) [] rest (numbers_short numbers rest) f s)
report_again report.Listed rest f s = refl
report_again report.Unlisted rest f s = refl
report_again (report.Drained numbers) rest f s =
    ap (mapped report.Drained) (numbers_again numbers (length (flat_map number_part numbers ++ rest)) [] rest (numbers_short numbers rest) f s)
