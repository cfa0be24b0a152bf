-- Reading on lists of bytes: the result of each method of the reader.
use Rattle.std.specs.Prelude.{◌≡◌, ℕ, zero, suc, ◌+◌, ◌-◌, ◌*◌, ◌^◌, ◌==◌, ◌&&◌, nat_lt, Bool, if◌then◌else◌, List, [], ◌∷◌, ◌++◌, length, Option, Some, None, Result, Ok, Err, codes, slice_index}
use Rattle.std.specs.Char.{is_ascii_digit}
use Rattle.mono_machine.specs.declared.events.Act.{Act}
use Rattle.mono_machine.specs.declared.events.Act.TheVariants as act
use Rattle.mono_machine.specs.declared.events.How.{How}
use Rattle.mono_machine.specs.declared.events.How.TheVariants as how
use Rattle.mono_machine.specs.declared.events.Query.TheVariants as query
use Rattle.mono_machine.specs.declared.events.TurnStep.{TurnStep}
use Rattle.mono_machine.specs.declared.events.TurnStep.TheVariants as step
use Rattle.mono_machine.specs.declared.events.End.{End}
use Rattle.mono_machine.specs.declared.events.End.TheVariants as end
use Rattle.mono_machine.specs.declared.events.Event.{Event}
use Rattle.mono_machine.specs.declared.events.Event.TheVariants as event
use Rattle.mono_text.specs.declared.reader.TurnEnd.{TurnEnd}
use Rattle.mono_text.specs.declared.reader.TurnEnd.TheVariants as found

-- a value, and the bytes after it
abbrev pub Read : Type 0 → Type 0
Read A = Option (A × List ℕ)

-- The value that was returned, and the rest, are those of the reading.
abbrev pub Gives : {A : Type 0} → Option A → List ℕ → Read A → Type 0
Gives None rest read = read ≡ None
Gives (Some x) rest read = read ≡ Some (x, rest)

-- The same if memory may run out.
abbrev pub GivesIf : {A E : Type 0} → Result (Option A) E → List ℕ → Read A → Type 0
GivesIf (Ok o) rest read = Gives o rest read
GivesIf (Err e) rest read = Unit {0}

-- the bytes after the word, if they begin with it
abbrev pub word_at : List ℕ → List ℕ → Option (List ℕ)
word_at [] bytes = Some bytes
word_at (w ∷ ws) [] = None
word_at (w ∷ ws) (b ∷ bs) = if b == w then word_at ws bs else None

abbrev pub when : {A : Type 0} → Option (List ℕ) → (List ℕ → A) → A → A
when None f other = other
when (Some rest) f other = f rest

abbrev pub mapped : {A B : Type 0} → (A → B) → Read A → Read B
mapped f None = None
mapped f (Some x) = Some (f x.0, x.1)

abbrev pub is_leading_zero : ℕ → ℕ → Bool
is_leading_zero value len = nat_lt 0 len && value == 0

abbrev pub digits_end : ℕ → ℕ → List ℕ → Read ℕ
digits_end value len rest = if nat_lt 0 len then Some (value, rest) else None

-- a number below top, after len digits of it with the value `value`
unfoldable pub digits_from : ℕ → ℕ → ℕ → List ℕ → Read ℕ
digits_from top value len [] = digits_end value len []
digits_from top value len (b ∷ r) =
    if is_ascii_digit b
    then (if is_leading_zero value len then None else if nat_lt (value * 10 + (b - 48)) top then digits_from top (value * 10 + (b - 48)) (len + 1) r else None)
    else digits_end value len (b ∷ r)

abbrev pub number_at : List ℕ → Read ℕ
number_at bytes = digits_from (2 ^ 64) 0 0 bytes

abbrev pub nanos_at : List ℕ → Read ℕ
nanos_at bytes = digits_from (2 ^ 128) 0 0 bytes

-- a number after a blank
abbrev pub behind_at : List ℕ → Read ℕ
behind_at bytes = when (word_at (codes " ") bytes) number_at None

-- an act whose word begins with an s
unfoldable pub s_act_at : List ℕ → Read Act
s_act_at bytes =
    when (word_at (codes "spawn") bytes) (λ r. Some (act.Spawn, r))
    (when (word_at (codes "sleep ") bytes) (λ r. mapped act.NewSleep (nanos_at r)) None)

abbrev pub then_read : {A B : Type 0} → Read A → (A → List ℕ → Read B) → Read B
then_read None f = None
then_read (Some x) f = f x.0 x.1

-- an act that drops a handle or a sleep
unfoldable pub drop_at : List ℕ → Read Act
drop_at bytes =
    when (word_at (codes "drop-join ") bytes) (λ r. mapped act.DropJoin (number_at r))
    (when (word_at (codes "drop-job ") bytes) (λ r. mapped act.DropJob (number_at r))
    (when (word_at (codes "drop-sleep ") bytes) (λ r. mapped act.DropSleep (number_at r)) None))

abbrev pub how_at : List ℕ → Read How
how_at bytes = when (word_at (codes "ran") bytes) (λ r. Some (how.Ran, r)) (when (word_at (codes "canceled") bytes) (λ r. Some (how.Canceled, r)) None)

-- an act on a job whose word begins with that of a job
unfoldable pub job_act_at : List ℕ → Read Act
job_act_at bytes =
    when (word_at (codes "job-end ") bytes)
    (λ r. then_read (number_at r) (λ j rest. when (word_at (codes " ") rest) (λ q. mapped (act.JobEnd j) (how_at q)) None))
    (when (word_at (codes "job-finished ") bytes) (λ r. mapped act.JobFinished (number_at r)) None)

-- a reset, after its word
abbrev pub reset_at : List ℕ → Read Act
reset_at bytes = then_read (number_at bytes) (λ s rest. when (word_at (codes " ") rest) (λ q. mapped (act.Reset s) (nanos_at q)) None)

-- an act whose first letter no other act has
unfoldable pub other_act_at : List ℕ → Read Act
other_act_at bytes =
    when (word_at (codes "wake ") bytes) (λ r. mapped act.Wake (number_at r))
    (when (word_at (codes "block ") bytes) (λ r. mapped act.Block (number_at r))
    (when (word_at (codes "finished ") bytes) (λ r. mapped act.Finished (number_at r))
    (when (word_at (codes "elapsed ") bytes) (λ r. mapped act.SleepElapsed (number_at r))
    (when (word_at (codes "reset ") bytes) reset_at None))))

unfoldable pub act_at : List ℕ → Read Act
act_at bytes =
    if slice_index bytes 0 == 115 then s_act_at bytes
    else if slice_index bytes 0 == 100 then drop_at bytes
    else if slice_index bytes 0 == 106 then job_act_at bytes
    else other_act_at bytes

-- a poll of a task or a job, or an act on a job
unfoldable pub job_step_at : List ℕ → Read TurnStep
job_step_at bytes =
    when (word_at (codes "join ") bytes) (λ r. mapped (λ t. step.Query (query.Join t)) (number_at r))
    (when (word_at (codes "job ") bytes) (λ r. mapped (λ j. step.Query (query.Job j)) (number_at r))
    (mapped step.Act (job_act_at bytes)))

unfoldable pub step_at : List ℕ → Read TurnStep
step_at bytes =
    if slice_index bytes 0 == 112
    then when (word_at (codes "poll ") bytes) (λ r. mapped (λ s. step.Query (query.Sleep s)) (number_at r)) None
    else if slice_index bytes 0 == 106 then job_step_at bytes
    else mapped step.Act (act_at bytes)

-- the end of a turn if it comes next; None if a step has to come
unfoldable pub end_at : List ℕ → Option (Read End)
end_at bytes =
    when (word_at (codes "pending") bytes) (λ r. Some (Some (end.Pending, r)))
    (when (word_at (codes "ready ") bytes) (λ r. Some (mapped end.Ready (number_at r))) None)

abbrev pub GivesEnd : TurnEnd → List ℕ → List ℕ → Option (Read End) → Type 0
GivesEnd found.IsStep old new read = (read ≡ None) × (new ≡ old)
GivesEnd found.IsBad old new read = read ≡ Some None
GivesEnd (found.Ends e) old new read = read ≡ Some (Some (e, new))

abbrev pub ends_or : {A : Type 0} → (End → A) → Option (Read End) → Read A → Read A
ends_or f None other = other
ends_or f (Some e) other = mapped f e

-- the parts of a turn, after some parts, with at most `most` parts to come
unfoldable pub parts_at : ℕ → List TurnStep → List ℕ → Read Event
parts_at zero front bytes = None
parts_at (suc most) front bytes =
    when (word_at (codes "; ") bytes)
    (λ r. ends_or (event.Turn front) (end_at r) (then_read (step_at r) (λ s rest. parts_at most (front ++ s ∷ []) rest)))
    None

unfoldable pub event_at : List ℕ → Read Event
event_at bytes =
    when (word_at (codes "turn") bytes) (λ r. parts_at (length r) [] r)
    (when (word_at (codes "clock ") bytes) (λ r. mapped event.Clock (nanos_at r))
    (when (word_at (codes "remote ") bytes) (λ r. mapped event.Remote (number_at r))
    (when (word_at (codes "drain") bytes) (λ r. Some (event.Drain, r))
    (mapped event.Act (act_at bytes)))))

-- an event and the line feed after it
unfoldable pub line_at : List ℕ → Read Event
line_at bytes = then_read (event_at bytes) (λ e rest. when (word_at (10 ∷ []) rest) (λ r. Some (e, r)) None)

-- a call as `call_at` reads it, and the line feed after it
abbrev pub call_line_at : {A : Type 0} → (List ℕ → Read A) → List ℕ → Read A
call_line_at call_at bytes = then_read (call_at bytes) (λ c rest. when (word_at (10 ∷ []) rest) (λ r. Some (c, r)) None)
