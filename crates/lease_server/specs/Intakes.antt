-- What an intake did with its source.
use Rattle.std.specs.Prelude.{⊤, ◌≡◌, ◌⊎◌, ℕ, List, [], ◌++◌, Option, Some}
use Rattle.mono_model.specs.declared.poll.Poll.{Poll}
use Rattle.mono_model.specs.declared.poll.Poll.TheVariants.{Ready, Pending}
use Rattle.mono_text.specs.Environment.{HasRead, HasRisen}
use Rattle.lease_server.specs.Blocks.{rest_of, IsAtEnd}
use Rattle.lease_server.specs.Routing.{HasNoFeed, EndsLines}
use Rattle.lease_server.specs.Dispatch.{Answers, HasSentAll, Sends}
use Rattle.lease_server.specs.Splits.{Stands}
use Rattle.lease_server.specs.declared.dispatchers.Dispatcher.{Dispatcher}
use Rattle.lease_server.specs.declared.splitters.Splitter.{Splitter}
use Rattle.lease_server.specs.declared.intakes.Phase.{Phase}
use Rattle.lease_server.specs.declared.intakes.Phase.TheVariants as phase
use Rattle.lease_server.specs.declared.intakes.Intake.{Intake}

-- In this phase the text was read, and the source has this left. At the end of the input nothing is left, and each line of the
-- text was answered. Before, and after a failed read, each line was answered or is in the block.
abbrev pub FitsIn : Phase → List ℕ → Option (List ℕ) → Splitter → Type 0
FitsIn phase.Reading text left splitter = Stands text splitter
FitsIn phase.Failed text left splitter = Stands text splitter
FitsIn phase.Ended text left splitter = IsAtEnd left × Answers text splitter.dispatcher

-- Nothing more is read or taken. After a failed read the block has no whole line.
abbrev pub IsOverIn : Phase → Splitter → Type 0
IsOverIn phase.Reading splitter = ⊥
IsOverIn phase.Failed splitter = HasNoFeed (rest_of splitter.block)
IsOverIn phase.Ended splitter = ⊤

-- The source's count of faults, before and now. It rose if and only if the phase says that a read failed.
abbrev pub FaultsIn : Phase → ℕ → ℕ → Type 0
FaultsIn phase.Reading before now = now ≡ before
FaultsIn phase.Failed before now = HasRisen before now
FaultsIn phase.Ended before now = now ≡ before

-- Of all input each line was sent: its request to its core, or its refusal. After a failed read, that is so of all lines
-- that were read with their line feed; the bytes of one line after them were read, and the source has the others left.
abbrev pub SendsIn : Phase → List ℕ → Option (List ℕ) → Dispatcher → Type 0
SendsIn phase.Reading input left dispatcher = ⊥
SendsIn phase.Failed input left dispatcher =
    (whole : List ℕ) × (begun : List ℕ) × (others : List ℕ) × (input ≡ whole ++ (begun ++ others)) × (left ≡ Some others) × EndsLines whole × HasNoFeed begun × Sends whole dispatcher
SendsIn phase.Ended input left dispatcher = Sends input dispatcher

-- The status of an intake that is done in this phase.
abbrev pub status_of : Phase → ℕ
status_of phase.Reading = 0
status_of phase.Failed = 4
status_of phase.Ended = 0

-- The intake ends with this status: 6, or that of its phase. Then nothing more is taken, and all that was given was sent.
abbrev pub Ends : {S : Type 0} → Intake S → ℕ → Type 0
Ends intake status = (status ≡ 6) ⊎ ((status ≡ status_of intake.phase) × IsOverIn intake.phase intake.splitter × HasSentAll intake.splitter.dispatcher)

-- Reads that failed show in the phase.
abbrev pub LeadsFaults : {S : Type 0} → (S → ℕ) → Intake S → Intake S → Type 0
LeadsFaults faults old new = (before : ℕ) → FaultsIn old.phase before (faults old.source) → FaultsIn new.phase before (faults new.source)

module _ {S : Type 0} (left : S → Option (List ℕ)) where
  -- The text was read from the source.
  abbrev pub Fits : List ℕ → Intake S → Type 0
  Fits text intake = FitsIn intake.phase text (left intake.source) intake.splitter

  -- Bytes were read off the front of what the source had left. The text that was read is longer by them.
  abbrev pub Leads : Intake S → Intake S → Type 0
  Leads old new = (bytes : List ℕ) × HasRead (left old.source) bytes (left new.source) × ((text : List ℕ) → Fits text old → Fits (text ++ bytes) new)

  -- One poll of the router led from the first intake to the second. Unless its status is 6, out of memory, all input was sent
  -- as the phase says, whose status it is.
  abbrev pub Polls : Intake S → Poll ℕ → Intake S → Type 0
  Polls old Pending new = Leads old new
  Polls old (Ready status) new =
      Leads old new × ((status ≡ 6 → ⊥) → (status ≡ status_of new.phase) × ((text : List ℕ) (rest : List ℕ) → Fits text old → left old.source ≡ Some rest → SendsIn new.phase (text ++ rest) (left new.source) new.splitter.dispatcher))
