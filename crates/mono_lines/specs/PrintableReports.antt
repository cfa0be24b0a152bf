-- The reports that have a line: their numbers are below 2 ^ 64.
use Rattle.std.specs.Prelude.{◌^◌, ◌<◌, ℕ, List, [], ◌∷◌, Option, Some, None}
use Rattle.mono_machine.specs.declared.events.Reply.{Reply}
use Rattle.mono_machine.specs.declared.events.Reply.TheVariants as reply
use Rattle.mono_machine.specs.declared.events.Report.{Report}
use Rattle.mono_machine.specs.declared.events.Report.TheVariants as report

abbrev pub FitsAny : Option ℕ → Type 0
FitsAny None = Unit {0}
FitsAny (Some n) = n < 2 ^ 64

abbrev pub FitsReply : Reply → Type 0
FitsReply (reply.Task t) = t < 2 ^ 64
FitsReply (reply.Woke w) = Unit {0}
FitsReply (reply.Sleep s) = s < 2 ^ 64
FitsReply reply.Armed = Unit {0}
FitsReply reply.Elapsed = Unit {0}
FitsReply (reply.Dropped o) = FitsAny o
FitsReply (reply.Job j) = j < 2 ^ 64
FitsReply reply.Yes = Unit {0}
FitsReply reply.No = Unit {0}
FitsReply (reply.Ended t) = FitsAny t
FitsReply reply.Pending = Unit {0}
FitsReply reply.Ready = Unit {0}
FitsReply (reply.Output o) = o < 2 ^ 64
FitsReply reply.Canceled = Unit {0}
FitsReply (reply.Refused r) = Unit {0}

abbrev pub FitReplies : List Reply → Type 0
FitReplies [] = Unit {0}
FitReplies (r ∷ replies) = FitsReply r × FitReplies replies

abbrev pub FitNumbers : List ℕ → Type 0
FitNumbers [] = Unit {0}
FitNumbers (n ∷ numbers) = (n < 2 ^ 64) × FitNumbers numbers

abbrev pub FitsReport : Report → Type 0
FitsReport (report.Reply r) = FitsReply r
FitsReport (report.Turn t replies e) = (t < 2 ^ 64) × FitReplies replies
FitsReport (report.Fired sleeps) = FitNumbers sleeps
FitsReport report.Listed = Unit {0}
FitsReport report.Unlisted = Unit {0}
FitsReport (report.Drained tasks) = FitNumbers tasks
