-- The parser on lists of bytes: the result of each function of the reader.
use Rattle.std.specs.Prelude.{ℕ, zero, suc, ◌==◌, if◌then◌else◌, List, [], ◌∷◌, ◌++◌, length, Option, Some, None, codes, slice_index}
use Rattle.mono_model.specs.declared.Woke.TheVariants as woke
use Rattle.mono_model.specs.declared.Ended.{Ended}
use Rattle.mono_model.specs.declared.Ended.TheVariants as ended
use Rattle.mono_machine.specs.declared.events.Refusal.{Refusal}
use Rattle.mono_machine.specs.declared.events.Refusal.TheVariants as refusal
use Rattle.mono_machine.specs.declared.events.Reply.{Reply}
use Rattle.mono_machine.specs.declared.events.Reply.TheVariants as reply
use Rattle.mono_machine.specs.declared.events.Report.{Report}
use Rattle.mono_machine.specs.declared.events.Report.TheVariants as report
use Rattle.mono_text.specs.Parser.{Read, when, mapped, then_read, word_at, number_at, nanos_at, event_at}
use Rattle.mono_lines.specs.declared.trace.journal.JournalLine.{JournalLine}
use Rattle.mono_lines.specs.declared.trace.journal.JournalLine.TheVariants as line

-- A number after a space, if there is one.
abbrev pub any_number_at : List ℕ → Read (Option ℕ)
any_number_at bytes = when (word_at (codes " ") bytes) (λ r. mapped Some (number_at r)) (Some (None, bytes))

unfoldable pub refusal_at : List ℕ → Read Refusal
refusal_at bytes =
    when (word_at (codes "idle") bytes) (λ r. Some (refusal.Idle, r))
    (when (word_at (codes "no-task") bytes) (λ r. Some (refusal.NoTask, r))
    (when (word_at (codes "no-timer") bytes) (λ r. Some (refusal.NoTimer, r))
    (when (word_at (codes "no-handle") bytes) (λ r. Some (refusal.NoHandle, r))
    (when (word_at (codes "taken") bytes) (λ r. Some (refusal.Taken, r))
    (when (word_at (codes "at-capacity") bytes) (λ r. Some (refusal.AtCapacity, r))
    (when (word_at (codes "invalid") bytes) (λ r. Some (refusal.Invalid, r))
    (when (word_at (codes "no-pool") bytes) (λ r. Some (refusal.NoPool, r))
    (when (word_at (codes "ended") bytes) (λ r. Some (refusal.Ended, r)) None))))))))

-- A reply whose word begins with an n.
unfoldable pub n_reply_at : List ℕ → Read Reply
n_reply_at bytes =
    when (word_at (codes "noted") bytes) (λ r. Some (reply.Woke woke.Noted, r))
    (when (word_at (codes "nothing") bytes) (λ r. Some (reply.Woke woke.Nothing, r))
    (when (word_at (codes "no") bytes) (λ r. Some (reply.No, r)) None))

-- A reply whose word begins with an e.
unfoldable pub e_reply_at : List ℕ → Read Reply
e_reply_at bytes =
    when (word_at (codes "elapsed") bytes) (λ r. Some (reply.Elapsed, r))
    (when (word_at (codes "ended") bytes) (λ r. mapped reply.Ended (any_number_at r)) None)

abbrev pub ready_with : Option ℕ → Reply
ready_with None = reply.Ready
ready_with (Some o) = reply.Output o

-- A reply whose word begins with an r.
unfoldable pub r_reply_at : List ℕ → Read Reply
r_reply_at bytes =
    when (word_at (codes "ready") bytes) (λ r. mapped ready_with (any_number_at r))
    (when (word_at (codes "refused ") bytes) (λ r. mapped reply.Refused (refusal_at r)) None)

-- A reply whose first letter no other reply has.
unfoldable pub other_reply_at : List ℕ → Read Reply
other_reply_at bytes =
    when (word_at (codes "sleep ") bytes) (λ r. mapped reply.Sleep (number_at r))
    (when (word_at (codes "pending") bytes) (λ r. Some (reply.Pending, r))
    (when (word_at (codes "task ") bytes) (λ r. mapped reply.Task (number_at r))
    (when (word_at (codes "queued") bytes) (λ r. Some (reply.Woke woke.Queued, r))
    (when (word_at (codes "armed") bytes) (λ r. Some (reply.Armed, r))
    (when (word_at (codes "dropped") bytes) (λ r. mapped reply.Dropped (any_number_at r))
    (when (word_at (codes "job ") bytes) (λ r. mapped reply.Job (number_at r))
    (when (word_at (codes "yes") bytes) (λ r. Some (reply.Yes, r))
    (when (word_at (codes "canceled") bytes) (λ r. Some (reply.Canceled, r)) None))))))))

unfoldable pub reply_at : List ℕ → Read Reply
reply_at bytes =
    if slice_index bytes 0 == 110 then n_reply_at bytes
    else if slice_index bytes 0 == 101 then e_reply_at bytes
    else if slice_index bytes 0 == 114 then r_reply_at bytes
    else other_reply_at bytes

-- How a turn ended, if that is here; None if a reply has to come here.
unfoldable pub ended_at : List ℕ → Read Ended
ended_at bytes =
    when (word_at (codes "idle") bytes) (λ r. Some (ended.Idle, r))
    (when (word_at (codes "again") bytes) (λ r. Some (ended.Again, r))
    (when (word_at (codes "done") bytes) (λ r. Some (ended.Done, r))
    (when (word_at (codes "gone") bytes) (λ r. Some (ended.Gone, r)) None)))

abbrev pub mapped_or : {A : Type 0} → (Ended → A) → Read Ended → Read A → Read A
mapped_or f None other = other
mapped_or f (Some x) other = Some (f x.0, x.1)

-- The parts of a turn's report: those read so far, and at most `most` further ones.
unfoldable pub replies_at : ℕ → ℕ → List Reply → List ℕ → Read Report
replies_at zero t front bytes = None
replies_at (suc most) t front bytes =
    when (word_at (codes "; ") bytes)
    (λ r. mapped_or (report.Turn t front) (ended_at r) (then_read (reply_at r) (λ x rest. replies_at most t (front ++ x ∷ []) rest)))
    None

-- Numbers, each after a space: those read so far, and at most `most` further ones.
unfoldable pub numbers_at : ℕ → List ℕ → List ℕ → Read (List ℕ)
numbers_at zero front bytes = Some (front, bytes)
numbers_at (suc most) front bytes =
    when (word_at (codes " ") bytes) (λ r. then_read (number_at r) (λ n rest. numbers_at most (front ++ n ∷ []) rest)) (Some (front, bytes))

unfoldable pub report_at : List ℕ → Read Report
report_at bytes =
    when (word_at (codes "turn ") bytes) (λ r. then_read (number_at r) (λ t rest. replies_at (length rest) t [] rest))
    (when (word_at (codes "fired") bytes) (λ r. mapped report.Fired (numbers_at (length r) [] r))
    (when (word_at (codes "drained") bytes) (λ r. mapped report.Drained (numbers_at (length r) [] r))
    (when (word_at (codes "listed") bytes) (λ r. Some (report.Listed, r))
    (when (word_at (codes "unlisted") bytes) (λ r. Some (report.Unlisted, r))
    (mapped report.Reply (reply_at bytes))))))

-- An event with its report.
abbrev pub pair_at : List ℕ → Read JournalLine
pair_at bytes = then_read (event_at bytes) (λ e rest. when (word_at (codes " -> ") rest) (λ q. mapped (line.Ran e) (report_at q)) None)

unfoldable pub journal_at : List ℕ → Read JournalLine
journal_at bytes =
    when (word_at (codes "now ") bytes) (λ r. mapped line.Now (nanos_at r))
    (when (word_at (codes "park") bytes) (λ r. mapped line.Park (any_number_at r))
    (when (word_at (codes "main ") bytes) (λ r. mapped line.Main (number_at r))
    (pair_at bytes)))

-- A line of a journal and the line feed after it.
unfoldable pub line_at : List ℕ → Read JournalLine
line_at bytes = then_read (journal_at bytes) (λ x rest. when (word_at (10 ∷ []) rest) (λ r. Some (x, r)) None)
