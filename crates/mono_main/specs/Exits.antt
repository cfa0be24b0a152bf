-- Which call the program makes for its words, and the number with which it exits.
use Rattle.std.specs.Prelude.{◌≡◌, ◌⊎◌, ℕ, List, Option, Some, codes, slice_get}
use Rattle.mono_script.specs.declared.command.Command.{Command}
use Rattle.mono_script.specs.declared.ends.Status.{Status}
use Rattle.mono_text.specs.declared.followers.FollowEnd.{FollowEnd}
use Rattle.mono_script.specs.Command.{IsCommand}
use Rattle.mono_script.specs.Endings.{status_code}
use Rattle.mono_script.specs.Follows.{FollowsAs, status_of_end}
use Rattle.mono_script.specs.TopCall.{View, CarriesOut}
use Rattle.mono_main.specs.Pages.{AsksNothing, IsAnsweredBy}

-- The second word is `--follow`.
abbrev pub AsksToFollow : List (List ℕ) → Type 0
AsksToFollow words = slice_get words 1 ≡ Some (codes "--follow")

-- The words ask for a page, which was written; nothing was read or started.
pub record ShowsPage (words : List (List ℕ)) (a b : View) (code : ℕ) : Type 0 where
  pub status : Status
  pub is_code : code ≡ status_code status
  pub answered : IsAnsweredBy words a.written b.written a.write_faults b.write_faults status
  pub unread : b.left ≡ a.left
  pub unfailed : b.read_faults ≡ a.read_faults
  pub unstarted : b.starts ≡ a.starts

-- The words are a command whose lines were answered one by one; nothing was started.
pub record FollowsLines (words : List (List ℕ)) (a b : View) (code : ℕ) : Type 0 where
  pub command : Command
  pub end : FollowEnd
  pub rest : List ℕ
  pub is_command : IsCommand words command
  pub followed : FollowsAs command end rest a.left b.left a.written b.written
  pub is_code : code ≡ status_code (status_of_end end)
  pub unstarted : b.starts ≡ a.starts

-- The words are no command whose lines are answered one by one; nothing was read, written or started.
pub record FollowsNone (a b : View) (code : ℕ) : Type 0 where
  pub is_code : code ≡ 2
  pub unread : b.left ≡ a.left
  pub unwritten : b.written ≡ a.written
  pub unstarted : b.starts ≡ a.starts

-- The program was called with these words after its name, over a clock that exposes these readings. It led from view a
-- to view b and exited with this number. `others` are the words but the second.
abbrev pub Exits : List (List ℕ) → List (List ℕ) → Option (List ℕ) → View → View → ℕ → Type 0
Exits words others readings a b code =
    ShowsPage words a b code
    ⊎ (AsksNothing words × AsksToFollow words × (FollowsLines others a b code ⊎ FollowsNone a b code))
    ⊎ (AsksNothing words × (AsksToFollow words → ⊥) × CarriesOut words readings a b code)
