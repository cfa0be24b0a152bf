-- What a splitter did with the bytes that were read.
use Rattle.std.specs.Prelude.{◌≡◌, ◌<◌, ℕ, Bool, true, false, List, [], ◌∷◌, ◌++◌, length, Option}
use Rattle.mono_text.specs.Lines.{lines}
use Rattle.mono_text.specs.Environment.{HasRead}
use Rattle.lease_core.specs.declared.requests.Request.{Request}
use Rattle.lease_server.specs.Blocks.{rest_of}
use Rattle.lease_server.specs.Routing.{Ask, HasNoFeed, EndsLines}
use Rattle.lease_server.specs.Dispatch.{Holds}
use Rattle.lease_server.specs.declared.splitters.TheConstants.{LONGEST}
use Rattle.lease_server.specs.declared.splitters.Splitter.{Splitter}

-- The bytes of a long line that were dropped: more than a request has. Those of another line: none.
abbrev pub IsDropped : Bool → List ℕ → Type 0
IsDropped true dropped = LONGEST < length dropped
IsDropped false dropped = dropped ≡ []

-- The bytes begin with a line of this length, and its line feed.
abbrev pub BeginsLine : ℕ → List ℕ → Type 0
BeginsLine count bytes = (line : List ℕ) × (more : List ℕ) × (bytes ≡ line ++ 10 ∷ more) × (length line ≡ count) × HasNoFeed line

-- The text that was read is that of the lines that were taken, and then the beginning of one line: the bytes that were
-- dropped of it, and those in the block. The dispatcher was given what the lines ask that were taken.
pub record Stands (text : List ℕ) (splitter : Splitter) : Type 0 where
  pub taken : List ℕ
  pub dropped : List ℕ
  pub asked : List (Option Request)
  pub bytes : text ≡ taken ++ (dropped ++ rest_of splitter.block)
  pub ends : EndsLines taken
  pub begun : HasNoFeed dropped
  pub long : IsDropped splitter.is_long dropped
  pub asks : Ask 1 (lines taken) asked
  pub holds : Holds asked splitter.dispatcher

-- Bytes were read off the front of what the source had left. The text that was read is longer by them.
abbrev pub HasSplit : Option (List ℕ) → Splitter → Option (List ℕ) → Splitter → Type 0
HasSplit before old after new = (bytes : List ℕ) × HasRead before bytes after × ((text : List ℕ) → Stands text old → Stands (text ++ bytes) new)
